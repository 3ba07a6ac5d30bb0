-- The digits of a number are those of its tenth and the last one.
-- Assumes nothing.
use mathlib.Core.Path.{◌≡◌, refl, sym, ◌∙◌}
use mathlib.Core.List.{[], ◌∷◌, ◌++◌, append_assoc}
use mathlib.Core.Logic.{◌⊎◌, inl, inr}
use Prim.Native.Nat.{ℕ, ◌+◌, ◌*◌, ◌/◌, ◌%◌, ◌^◌, ◌≤◌, ◌<◌}
use native.Mathlib.Omega.{arith}
use borrow.Author.Tests.{lt-ltb, le-ltb}
use Rattle.std.specs.Prelude.{ltb}
use Rattle.std.proofs.lemmas.Bool.{cases_order}
use Rattle.std.proofs.Math.Nat.{div-mul-le_self, lt-div-mul-add, div-div-eq-div-mul}
use Rattle.text.specs.Decimal.{digit_at, decimal}

-- no digit for a power above the number
pub none_at : (x power : ℕ) → x < power → digit_at x power ≡ []
unfolding digit_at
none_at x power h = rw (lt-ltb _ _ h) refl

-- a digit for a power that is not above the number
pub one_at : (x power : ℕ) → power ≤ x → digit_at x power ≡ (48 + x / power % 10) ∷ []
unfolding digit_at
one_at x power h = rw (le-ltb _ _ h) refl

-- the digits of a tenth are those of the number, a place further
same_test : (n p : ℕ) → ltb (n / 10) p ≡ ltb n (10 * p)
same_test n p = by_order (cases_order (n / 10) p)
  where
    above : p ≤ n / 10 → ltb (n / 10) p ≡ ltb n (10 * p)
    above h =
        let k : 10 * p ≤ n = omega (arith, div-mul-le_self n 10) in
        le-ltb _ _ h ∙ sym (le-ltb _ _ k)

    by_order : (n / 10 ≡ p) ⊎ ((n / 10 < p) ⊎ (p < n / 10)) → ltb (n / 10) p ≡ ltb n (10 * p)
    by_order (inl e) = above (omega arith)
    by_order (inr (inl h)) =
        let k : n < 10 * p = omega (arith, lt-div-mul-add {a = n} {b = 10} (omega arith)) in
        lt-ltb _ _ h ∙ sym (lt-ltb _ _ k)
    by_order (inr (inr h)) = above (omega arith)

tenth : (n p : ℕ) → digit_at (n / 10) p ≡ digit_at n (10 * p)
unfolding digit_at
tenth n p = rw (same_test n p, div-div-eq-div-mul n 10 p) refl

-- a number below ten is its last digit
pub last_digit : (n : ℕ) → n < 10 → (48 + n % 10) ∷ [] ≡ decimal n
unfolding decimal
last_digit n h =
    rw (
      none_at n 1000000000 (omega arith),
      none_at n 100000000 (omega arith),
      none_at n 10000000 (omega arith),
      none_at n 1000000 (omega arith),
      none_at n 100000 (omega arith),
      none_at n 10000 (omega arith),
      none_at n 1000 (omega arith),
      none_at n 100 (omega arith),
      none_at n 10 (omega arith),
    )
    refl

-- behind the digits of a tenth comes the last one
pub more_digits : (n : ℕ) → 10 ≤ n → n < 10 ^ 10 → decimal (n / 10) ++ ((48 + n % 10) ∷ []) ≡ decimal n
unfolding decimal
more_digits n low high =
    let h : n / 10 < 1000000000 = omega arith in
    rw (
      none_at (n / 10) 1000000000 h,
      tenth n 100000000,
      tenth n 10000000,
      tenth n 1000000,
      tenth n 100000,
      tenth n 10000,
      tenth n 1000,
      tenth n 100,
      tenth n 10,
      one_at n 10 low,
    )
    (simp append_assoc refl)
