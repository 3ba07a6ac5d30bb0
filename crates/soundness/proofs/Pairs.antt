-- A test of every two members of a list, by index.
-- Assumes nothing.
use mathlib.Core.Path.{◌≡◌, refl}
use mathlib.Core.Bool.{Bool, true}
use mathlib.Core.List.{List, [], ◌∷◌}
use Prim.Native.Nat.{ℕ, zero, suc, ◌<◌}
use native.Mathlib.Omega.{arith}
use lib.ListN.{length, get_or}
use Rattle.paging.specs.Lists.{all}
use Rattle.paging.proofs.Lists.{both_first, both_second, both_true, all_at, at_all}
use Rattle.soundness.specs.Sound.{pairwise}

module _ {A : Type 0} (test : A → A → Bool) (d : A) where
  pub pairs_at : (xs : List A) → pairwise test xs ≡ true → (i j : ℕ) → i < j → j < length xs → test (get_or xs i d) (get_or xs j d) ≡ true
  unfolding pairwise
  pairs_at [] e i j h k = absurd (omega arith)
  pairs_at (x ∷ xs) e zero zero h k = absurd (omega arith)
  pairs_at (x ∷ xs) e zero (suc j) h k = all_at (test x) d xs (both_first (all (test x) xs) (pairwise test xs) e) j (omega arith)
  pairs_at (x ∷ xs) e (suc i) zero h k = absurd (omega arith)
  pairs_at (x ∷ xs) e (suc i) (suc j) h k = pairs_at xs (both_second (all (test x) xs) (pairwise test xs) e) i j (omega arith) (omega arith)

  pub at_pairs : (xs : List A) → ((i j : ℕ) → i < j → j < length xs → test (get_or xs i d) (get_or xs j d) ≡ true) → pairwise test xs ≡ true
  unfolding pairwise
  at_pairs [] h = refl
  at_pairs (x ∷ xs) h =
      both_true (all (test x) xs) (pairwise test xs) (at_all (test x) d xs (λ j k. h 0 (suc j) (omega arith) (omega arith)))
      (at_pairs xs (λ i j k l. h (suc i) (suc j) (omega arith) (omega arith)))
