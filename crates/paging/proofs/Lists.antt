-- Laws of `any`, `all` and `index_of`, by index, and of a list that is stored to or lengthened by one.
--
-- In order: truth values; the place that a test finds; some and all; the least of those that pass a test; one element more; one element stored.
-- Assumes nothing.
use mathlib.Core.Path.{◌≡◌, refl, sym, ap, ap₂, ◌∙◌}
use mathlib.Core.Logic.{◌⊎◌, inl, inr, ⊎_elim}
use mathlib.Core.Bool.{Bool, true, false}
use mathlib.Core.List.{List, [], ◌∷◌, ◌++◌, map}
use Prim.Native.Nat.{ℕ, zero, suc, ◌≤◌, ◌<◌}
use native.Mathlib.Omega.{arith}
use native.Mathlib.Decide.{dec_le, dec_lt, ℕ_discrete}
use native.Mathlib.Nat.{le_of_suc-le-suc}
use lib.ListN.{length, get_or, set, get_or-append, length-append, length-set}
use lib.Seq.{get_or-set_same, get_or-set_other, get_or-append_seam}
pub use Rattle.std.proofs.lemmas.Bool.{false≢true, true≢false, cases_Bool as bool_cases}
use Rattle.paging.specs.Lists.{pick, both, implies, any, all, index_of}

-- ---- truth values

pub both_first : (a b : Bool) → both a b ≡ true → a ≡ true
both_first true b e = refl
both_first false b e = absurd (false≢true e)

pub both_second : (a b : Bool) → both a b ≡ true → b ≡ true
both_second true b e = e
both_second false b e = absurd (false≢true e)

pub both_true : (a b : Bool) → a ≡ true → b ≡ true → both a b ≡ true
both_true a b p q = rw (p, q)

pub implied : (a b : Bool) → implies a b ≡ true → a ≡ true → b ≡ true
implied true b e p = e
implied false b e p = absurd (false≢true p)

pub implies_true : (a b : Bool) → (a ≡ true → b ≡ true) → implies a b ≡ true
implies_true true b h = h refl
implies_true false b h = refl

module _ {A : Type 0} (test : A → Bool) (d : A) where
  -- ---- the place that a test finds

  pub index_le : (xs : List A) → index_of test xs ≤ length xs
  unfolding index_of
  index_le [] = omega arith
  index_le (x ∷ xs) = go (test x) (index_le xs)
    where
      go : (b : Bool) → index_of test xs ≤ length xs → pick b 0 (suc (index_of test xs)) ≤ suc (length xs)
      go true h = omega arith
      go false h = omega arith

  -- what stands at the place found passes the test
  pub index_passes : (xs : List A) → index_of test xs < length xs → test (get_or xs (index_of test xs) d) ≡ true
  unfolding index_of
  index_passes [] h = absurd (omega arith)
  index_passes (x ∷ xs) h = go (test x) refl (index_passes xs) h
    where
      go : (b : Bool) → test x ≡ b
          → (index_of test xs < length xs → test (get_or xs (index_of test xs) d) ≡ true)
          → pick b 0 (suc (index_of test xs)) < suc (length xs)
          → test (get_or (x ∷ xs) (pick b 0 (suc (index_of test xs))) d) ≡ true
      go true q ih h = q
      go false q ih h = ih (omega arith)

  -- nothing before it does
  pub index_first : (xs : List A) (i : ℕ) → i < index_of test xs → test (get_or xs i d) ≡ true → ⊥
  unfolding index_of
  index_first [] i h = absurd (omega arith)
  index_first (x ∷ xs) zero h = go (test x) refl h
    where
      go : (b : Bool) → test x ≡ b → zero < pick b 0 (suc (index_of test xs)) → test x ≡ true → ⊥
      go true q h e = omega arith
      go false q h e = false≢true (sym q ∙ e)
  index_first (x ∷ xs) (suc i) h = go (test x) (index_first xs i) h
    where
      go : (b : Bool) → (i < index_of test xs → test (get_or xs i d) ≡ true → ⊥)
          → suc i < pick b 0 (suc (index_of test xs)) → test (get_or xs i d) ≡ true → ⊥
      go true ih h e = omega arith
      go false ih h e = ih (omega arith) e

  -- the only place whose member passes the test is the one found
  pub index_is : (xs : List A) (i : ℕ) → i < length xs → test (get_or xs i d) ≡ true
      → ((j : ℕ) → j < length xs → test (get_or xs j d) ≡ true → j ≡ i) → index_of test xs ≡ i
  index_is xs i h e one =
      elim (dec_lt i (index_of test xs)) [ yes k ↦ absurd (index_first xs i k e) | no k ↦ one (index_of test xs) (omega arith) (index_passes xs (omega arith)) ]

  -- so is a place whose member passes it, if none before does
  pub index_at : (xs : List A) (i : ℕ) → i < length xs → test (get_or xs i d) ≡ true
      → ((j : ℕ) → j < i → test (get_or xs j d) ≡ true → ⊥) → index_of test xs ≡ i
  index_at xs i h e none =
      elim (dec_lt i (index_of test xs)) [
        | yes k ↦ absurd (index_first xs i k e)
        | no k ↦ elim (dec_lt (index_of test xs) i) [ yes l ↦ absurd (none (index_of test xs) l (index_passes xs (omega arith))) | no l ↦ omega arith ]
      ]

  -- ---- some and all

  pub any_index : (xs : List A) → any test xs ≡ true → index_of test xs < length xs
  unfolding any index_of
  any_index [] e = absurd (false≢true e)
  any_index (x ∷ xs) e = go (test x) (any_index xs) e
    where
      go : (b : Bool) → (any test xs ≡ true → index_of test xs < length xs)
          → pick b true (any test xs) ≡ true → pick b 0 (suc (index_of test xs)) < suc (length xs)
      go true ih e = omega arith
      go false ih e = omega (arith, ih e)

  -- one that passes is enough
  pub at_any : (xs : List A) (i : ℕ) → i < length xs → test (get_or xs i d) ≡ true → any test xs ≡ true
  unfolding any
  at_any [] i h = absurd (omega arith)
  at_any (x ∷ xs) zero h = λ e. rw e
  at_any (x ∷ xs) (suc i) h = go (test x) (at_any xs i (le_of_suc-le-suc h))
    where
      go : (b : Bool) → (test (get_or xs i d) ≡ true → any test xs ≡ true) → test (get_or xs i d) ≡ true → pick b true (any test xs) ≡ true
      go true ih e = refl
      go false ih e = ih e

  pub at_none : (xs : List A) → ((i : ℕ) → i < length xs → test (get_or xs i d) ≡ true → ⊥) → any test xs ≡ false
  at_none xs none =
      ⊎_elim (λ e. absurd (none (index_of test xs) (any_index xs e) (index_passes xs (any_index xs e)))) (λ e. e) (bool_cases (any test xs))

  pub none_at : (xs : List A) → any test xs ≡ false → (i : ℕ) → i < length xs → test (get_or xs i d) ≡ true → ⊥
  none_at xs e i h t = false≢true (sym e ∙ at_any xs i h t)

  pub all_at : (xs : List A) → all test xs ≡ true → (i : ℕ) → i < length xs → test (get_or xs i d) ≡ true
  unfolding all
  all_at [] e i h = absurd (omega arith)
  all_at (x ∷ xs) e zero h = go (test x) refl e
    where
      go : (b : Bool) → test x ≡ b → pick b (all test xs) false ≡ true → test x ≡ true
      go true q e = q
      go false q e = absurd (false≢true e)
  all_at (x ∷ xs) e (suc i) h = all_at xs (both_second (test x) (all test xs) e) i (le_of_suc-le-suc h)

  pub at_all : (xs : List A) → ((i : ℕ) → i < length xs → test (get_or xs i d) ≡ true) → all test xs ≡ true
  unfolding all
  at_all [] h = refl
  at_all (x ∷ xs) h = both_true (test x) (all test xs) (h 0 (omega arith)) (at_all xs (λ i k. h (suc i) (omega arith)))

-- ---- the least of those that pass a test

abbrev Least : {A : Type 0} → A → (A → Bool) → (A → ℕ) → List A → ℕ → Type 0
Least d good key xs i =
    (i < length xs)
    × (good (get_or xs i d) ≡ true)
    × ((j : ℕ) → j < length xs → good (get_or xs j d) ≡ true → key (get_or xs i d) ≤ key (get_or xs j d))

module _ {A : Type 0} (d : A) (good : A → Bool) (key : A → ℕ) where
  -- a bound on the head and on the rest is one on all
  least_cons : (a : ℕ) (x : A) (xs : List A) → (good x ≡ true → a ≤ key x)
      → ((j : ℕ) → j < length xs → good (get_or xs j d) ≡ true → a ≤ key (get_or xs j d))
      → (j : ℕ) → j < length (x ∷ xs) → good (get_or (x ∷ xs) j d) ≡ true → a ≤ key (get_or (x ∷ xs) j d)
  least_cons a x xs h t zero k g = h g
  least_cons a x xs h t (suc j) k g = t j (omega arith) g

  -- where some member passes the test, one of those has the least key
  pub least_among : (xs : List A) → any good xs ≡ true → (i : ℕ) × Least d good key xs i
  unfolding any
  least_among [] e = absurd (false≢true e)
  least_among (x ∷ xs) e = go (good x) (any good xs) refl refl e (least_among xs)
    where
      -- the head, or the least of the rest
      duel : good x ≡ true → (i : ℕ) × Least d good key xs i → (i : ℕ) × Least d good key (x ∷ xs) i
      duel q (i, l) = elim (dec_le (key x) (key (get_or xs i d))) [
        | yes h ↦ (0, (omega arith, q, least_cons (key x) x xs (λ g. omega arith) (λ j k g. omega (arith, l.2 j k g))))
        | no h ↦ (suc i, (omega arith, l.1, least_cons (key (get_or xs i d)) x xs (λ g. omega arith) l.2))
      ]

      go : (b c : Bool) → good x ≡ b → any good xs ≡ c → pick b true c ≡ true
          → (any good xs ≡ true → (i : ℕ) × Least d good key xs i) → (i : ℕ) × Least d good key (x ∷ xs) i
      go true true q r e ih = duel q (ih r)
      go true false q r e ih = (0, (omega arith, q, least_cons (key x) x xs (λ g. omega arith) (λ j k g. absurd (none_at good d xs r j k g))))
      go false true q r e ih =
          let (i, l) = ih r in (suc i, (omega arith, l.1, least_cons (key (get_or xs i d)) x xs (λ g. absurd (false≢true (sym q ∙ g))) l.2))
      go false false q r e ih = absurd (false≢true e)

-- ---- one element more, and one element stored

module _ {A : Type 0} (d : A) where
  pub get_or_snoc_old : (xs : List A) (y : A) (i : ℕ) → i < length xs → get_or (xs ++ (y ∷ [])) i d ≡ get_or xs i d
  get_or_snoc_old xs y i h = get_or-append xs (y ∷ []) d i h

  pub length_snoc : (xs : List A) (y : A) → length (xs ++ (y ∷ [])) ≡ suc (length xs)
  length_snoc xs y = omega (arith, length-append xs (y ∷ []))

  -- each member of a lengthened list is an old one or the new one
  pub snoc_cases : (xs : List A) (y : A) (i : ℕ) → i < length (xs ++ (y ∷ []))
      → ((i < length xs) × (get_or (xs ++ (y ∷ [])) i d ≡ get_or xs i d)) ⊎ ((i ≡ length xs) × (get_or (xs ++ (y ∷ [])) i d ≡ y))
  snoc_cases xs y i h =
      elim (dec_lt i (length xs)) [
        | yes k ↦ inl (k, get_or_snoc_old xs y i k)
        | no k ↦ let e : i ≡ length xs = omega (arith, length_snoc xs y) in inr (e, rw e (get_or-append_seam xs y [] d))
      ]

  -- each member after a store is what was stored or an old one
  pub set_cases : (xs : List A) (k : ℕ) (y : A) (i : ℕ) → i < length (set xs k y)
      → ((i ≡ k) × (get_or (set xs k y) i d ≡ y)) ⊎ (((i ≡ k) → ⊥) × (i < length xs) × (get_or (set xs k y) i d ≡ get_or xs i d))
  set_cases xs k y i h =
      let l : i < length xs = omega (arith, length-set xs k y) in
      elim (ℕ_discrete i k)
      [ yes e ↦ inl (e, rw e (get_or-set_same xs k y d (omega arith))) | no e ↦ inr (e, l, get_or-set_other xs k i y d e) ]

-- ---- a map

module _ {A B : Type 0} (f : A → B) where
  module _ (test : B → Bool) where
    pub any_map : (xs : List A) → any test (map f xs) ≡ any (λ (x : A). test (f x)) xs
    unfolding any
    any_map [] = refl
    any_map (x ∷ xs) = ap (λ (r : Bool). pick (test (f x)) true r) (any_map xs)

    pub all_map : (xs : List A) → all test (map f xs) ≡ all (λ (x : A). test (f x)) xs
    unfolding all
    all_map [] = refl
    all_map (x ∷ xs) = ap (λ (r : Bool). pick (test (f x)) r false) (all_map xs)

    pub index_map : (xs : List A) → index_of test (map f xs) ≡ index_of (λ (x : A). test (f x)) xs
    unfolding index_of
    index_map [] = refl
    index_map (x ∷ xs) = ap (λ (r : ℕ). pick (test (f x)) 0 (suc r)) (index_map xs)

-- two tests that agree find the same place
pub index_same : {A : Type 0} (f g : A → Bool) → ((x : A) → f x ≡ g x) → (xs : List A) → index_of f xs ≡ index_of g xs
unfolding index_of
index_same f g e [] = refl
index_same f g e (x ∷ xs) = ap₂ (λ (b : Bool) (k : ℕ). pick b 0 (suc k)) (e x) (index_same f g e xs)
