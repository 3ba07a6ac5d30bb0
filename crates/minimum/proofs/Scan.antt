-- The scan for the latest turn: every frame passed stands behind the best one.
-- Assumes nothing.
use mathlib.Core.Path.{◌≡◌, refl}
use mathlib.Core.Logic.{◌⊎◌, inl, inr}
use mathlib.Core.Bool.{Bool, true, false}
use mathlib.Core.List.{List}
use Prim.Native.Nat.{ℕ, ◌+◌, ◌≤◌, ◌<◌}
use native.Mathlib.Omega.{arith}
use native.Mathlib.Decide.{ℕ_discrete}
use lib.Dec.{ltb}
use lib.ListN.{get_or}
use borrow.Author.Tests.{ltb-true, ltb-false}
use Rattle.paging.specs.Lists.{pick}
use Rattle.paging.proofs.Lists.{false≢true, true≢false}
use Rattle.minimum.specs.Devices.Turns.{goes_before, Behind}

-- of the first i frames the best is this one
pub record Best (held : ℕ) (pages turns : List ℕ) (best i : ℕ) : Type 0 where
  pub passed : best < i
  pub inside : i ≤ held
  pub behind : (j : ℕ) → j < i → Behind pages turns j best

module _ (held : ℕ) (pages turns : List ℕ) where
  pub best_first : 0 < held → Best held pages turns 0 1
  best_first h = record { passed = omega arith; inside = h; behind = λ j k. let e : j ≡ 0 = omega arith in rw e (inr (refl, omega arith)) }

  -- what the test says of two frames
  goes_true : (i b : ℕ) → goes_before (get_or turns i 0) (get_or pages i 0) (get_or turns b 0) (get_or pages b 0) ≡ true
      → (get_or turns b 0 < get_or turns i 0) ⊎ ((get_or turns b 0 ≡ get_or turns i 0) × (get_or pages i 0 < get_or pages b 0))
  goes_true i b = go (ltb (get_or turns b 0) (get_or turns i 0)) (ltb (get_or turns i 0) (get_or turns b 0)) refl refl
    where
      go : (x y : Bool) → ltb (get_or turns b 0) (get_or turns i 0) ≡ x → ltb (get_or turns i 0) (get_or turns b 0) ≡ y
          → pick x true (pick y false (ltb (get_or pages i 0) (get_or pages b 0))) ≡ true
          → (get_or turns b 0 < get_or turns i 0) ⊎ ((get_or turns b 0 ≡ get_or turns i 0) × (get_or pages i 0 < get_or pages b 0))
      go true y p q e = inl (ltb-true _ _ p)
      go false true p q e = absurd (false≢true e)
      go false false p q e = inr (omega (arith, ltb-false (get_or turns b 0) (get_or turns i 0) p, ltb-false (get_or turns i 0) (get_or turns b 0) q), ltb-true _ _ e)

  goes_false : (i b : ℕ) → goes_before (get_or turns i 0) (get_or pages i 0) (get_or turns b 0) (get_or pages b 0) ≡ false → Behind pages turns i b
  goes_false i b = go (ltb (get_or turns b 0) (get_or turns i 0)) (ltb (get_or turns i 0) (get_or turns b 0)) refl refl
    where
      go : (x y : Bool) → ltb (get_or turns b 0) (get_or turns i 0) ≡ x → ltb (get_or turns i 0) (get_or turns b 0) ≡ y
          → pick x true (pick y false (ltb (get_or pages i 0) (get_or pages b 0))) ≡ false → Behind pages turns i b
      go true y p q e = absurd (true≢false e)
      go false true p q e = inl (ltb-true _ _ q)
      go false false p q e = inr (omega (arith, ltb-false (get_or turns b 0) (get_or turns i 0) p, ltb-false (get_or turns i 0) (get_or turns b 0) q), ltb-false _ _ e)

  -- one frame more: it becomes the best, or the best stays
  module _ (b i : ℕ) (x : Best held pages turns b i) (more : i < held) where
    pub best_new : goes_before (get_or turns i 0) (get_or pages i 0) (get_or turns b 0) (get_or pages b 0) ≡ true → (best : ℕ) → best ≡ i → Best held pages turns best (i + 1)
    best_new e best is = rw is record { passed = omega arith; inside = omega arith; behind = behind }
      where
        go : (j : ℕ) → Behind pages turns j b → (get_or turns b 0 < get_or turns i 0) ⊎ ((get_or turns b 0 ≡ get_or turns i 0) × (get_or pages i 0 < get_or pages b 0)) → Behind pages turns j i
        go j (inl u) (inl v) = inl (omega arith)
        go j (inl u) (inr v) = inl (omega arith)
        go j (inr u) (inl v) = inl (omega arith)
        go j (inr u) (inr v) = inr (omega arith, omega arith)

        behind : (j : ℕ) → j < i + 1 → Behind pages turns j i
        behind j h = elim (ℕ_discrete j i) [ yes y ↦ rw y (inr (refl, omega arith)) | no y ↦ go j (x.behind j (omega arith)) (goes_true i b e) ]

    pub best_old : goes_before (get_or turns i 0) (get_or pages i 0) (get_or turns b 0) (get_or pages b 0) ≡ false → (best : ℕ) → best ≡ b → Best held pages turns best (i + 1)
    best_old e best is = rw is record { passed = omega (arith, x.passed); inside = omega arith; behind = behind }
      where
        behind : (j : ℕ) → j < i + 1 → Behind pages turns j b
        behind j h = elim (ℕ_discrete j i) [ yes y ↦ rw y (goes_false i b e) | no y ↦ x.behind j (omega arith) ]
