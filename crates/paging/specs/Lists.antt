-- The few words on lists and truth values that the definitions of this project are written in.
--
-- In order: choosing by a test; "not", "both" and "if .. then"; whether some or all of a list pass a test; the place of the first that does;
-- of a list of numbers, whether a number stands in it, and where.
-- A list is read from 0; `length` is `lib.ListN`'s.
-- Assumes nothing.
use Rattle.std.specs.Prelude.{Bool, true, false, List, [], ◌∷◌, ℕ, suc, eqb}

-- the first if the test is true, else the second
abbrev pub pick {ℓ} : {A : Type ℓ} → Bool → A → A → A
pick true a b = a
pick false a b = b

abbrev pub not : Bool → Bool
not b = pick b false true

abbrev pub both : Bool → Bool → Bool
both a b = pick a b false

abbrev pub implies : Bool → Bool → Bool
implies a b = pick a b true

module _ {A : Type 0} where
  -- some member passes the test
  unfoldable pub any : (A → Bool) → List A → Bool
  any test [] = false
  any test (x ∷ xs) = pick (test x) true (any test xs)

  -- every member passes the test
  unfoldable pub all : (A → Bool) → List A → Bool
  all test [] = true
  all test (x ∷ xs) = pick (test x) (all test xs) false

  -- where the first member that passes the test stands; the length, if none does
  unfoldable pub index_of : (A → Bool) → List A → ℕ
  index_of test [] = 0
  index_of test (x ∷ xs) = let r = suc (index_of test xs) in pick (test x) 0 r

-- ---- a number in a list of numbers: the one test and the one search behind document 01's words for them

-- p stands in the list
unfoldable pub mem : ℕ → List ℕ → Bool
unfolding any
mem p list = any (λ (q : ℕ). eqb q p) list

-- where p first stands in the list; the length, if nowhere
unfoldable pub place_of : ℕ → List ℕ → ℕ
unfolding index_of
place_of p list = index_of (λ (q : ℕ). eqb q p) list
