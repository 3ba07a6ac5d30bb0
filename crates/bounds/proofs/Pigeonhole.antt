-- How often a page stands in a list, and the pigeonhole principle.
--
-- A page is among those of a list if it stands there at least once. In order: counting; one page more; the principle; lists of held pages, which are
-- lengthened by one or stored to, and in which no page stands twice.
-- Assumes nothing.
use mathlib.Core.Path.{◌≡◌, refl, sym, subst}
use mathlib.Core.Logic.{◌⊎◌, inl, inr, ⊎_elim}
use mathlib.Core.Bool.{Bool, true, false}
use mathlib.Core.List.{List, [], ◌∷◌, ◌++◌}
use Prim.Native.Nat.{ℕ, zero, suc, ◌+◌, ◌*◌, ◌≤◌, ◌<◌}
use native.Mathlib.Omega.{arith}
use lib.Dec.{eqb}
use lib.ListN.{length, get_or, set}
use borrow.Author.Tests.{eqb-true, eq-eqb}
use Rattle.paging.specs.Lists.{pick}
use Rattle.paging.specs.Meanings.{In, Apart}

-- ---- counting

-- 1 if the two are the same page, else 0
abbrev pub same : ℕ → ℕ → ℕ
same z x = pick (eqb z x) 1 0

-- how often page z stands in the list
unfoldable pub times : ℕ → List ℕ → ℕ
times z [] = 0
times z (x ∷ xs) = same z x + times z xs

abbrev pub Among : ℕ → List ℕ → Type 0
Among z xs = 0 < times z xs

-- each page of the first list is among those of the second
abbrev pub Within : List ℕ → List ℕ → Type 0
Within xs ys = (z : ℕ) → Among z xs → Among z ys

pub same_self : (z : ℕ) → same z z ≡ 1
same_self z = rw (eq-eqb z z refl)

-- ---- one page more

pub among_cons : (z p : ℕ) (xs : List ℕ) → Among z (p ∷ xs) → (z ≡ p) ⊎ Among z xs
unfolding times
among_cons z p xs h = go (eqb z p) refl h
  where
    go : (b : Bool) → eqb z p ≡ b → 0 < pick b 1 0 + times z xs → (z ≡ p) ⊎ Among z xs
    go true q h = inl (eqb-true z p q)
    go false q h = inr (omega arith)

pub within_cons : (p : ℕ) (xs ys : List ℕ) → Among p ys → Within xs ys → Within (p ∷ xs) ys
within_cons p xs ys a w z h = ⊎_elim (λ q. rw q a) (w z) (among_cons z p xs h)

-- a new page leaves each page at most once
pub once_cons : (p : ℕ) (xs : List ℕ) → (Among p xs → ⊥) → ((z : ℕ) → times z xs ≤ 1) → (z : ℕ) → times z (p ∷ xs) ≤ 1
unfolding times
once_cons p xs out once z = go (eqb z p) refl
  where
    go : (b : Bool) → eqb z p ≡ b → pick b 1 0 + times z xs ≤ 1
    go true q = rw (eqb-true z p q) (omega (arith, out))
    go false q = omega (arith, once z)

-- ---- the principle

-- the list with every z taken out
unfoldable without : ℕ → List ℕ → List ℕ
without z [] = []
without z (x ∷ xs) = pick (eqb z x) (without z xs) (x ∷ without z xs)

length_without : (z : ℕ) (xs : List ℕ) → length xs ≡ times z xs + length (without z xs)
unfolding times without
length_without z [] = refl
length_without z (x ∷ xs) = go (eqb z x) (length_without z xs)
  where
    go : (b : Bool) → length xs ≡ times z xs + length (without z xs)
        → suc (length xs) ≡ pick b 1 0 + times z xs + length (pick b (without z xs) (x ∷ without z xs))
    go true ih = omega arith
    go false ih = omega arith

times_without : (y z : ℕ) (xs : List ℕ) → times y (without z xs) ≤ times y xs
unfolding times without
times_without y z [] = omega arith
times_without y z (x ∷ xs) = go (eqb z x) (times_without y z xs)
  where
    go : (b : Bool) → times y (without z xs) ≤ times y xs → times y (pick b (without z xs) (x ∷ without z xs)) ≤ same y x + times y xs
    go true ih = omega arith
    go false ih = omega arith

none_without : (z : ℕ) (xs : List ℕ) → times z (without z xs) ≡ 0
unfolding times without
none_without z [] = refl
none_without z (x ∷ xs) = go (eqb z x) refl (none_without z xs)
  where
    go : (b : Bool) → eqb z x ≡ b → times z (without z xs) ≡ 0 → times z (pick b (without z xs) (x ∷ without z xs)) ≡ 0
    go true q ih = ih
    go false q ih = rw q (omega arith)

within_without : (y : ℕ) (xs ys : List ℕ) → Within xs (y ∷ ys) → Within (without y xs) ys
within_without y xs ys w z h = ⊎_elim (λ q. absurd (gone q)) (λ k. k) (among_cons z y ys (w z (omega (arith, times_without z y xs))))
  where
    gone : z ≡ y → ⊥
    gone q = omega (arith, none_without y xs, rw q at h)

within_nil : (xs : List ℕ) → Within xs [] → length xs ≡ 0
unfolding times
within_nil [] w = refl
within_nil (x ∷ xs) w = absurd (omega (arith, w x (omega (arith, same_self x))))

-- a list with each page at most c times, all of them among ys, is at most c times as long as ys
pub pigeonhole : (c : ℕ) (xs ys : List ℕ) → ((z : ℕ) → times z xs ≤ c) → Within xs ys → length xs ≤ c * length ys
pigeonhole c xs [] few w = omega (arith, within_nil xs w)
pigeonhole c xs (y ∷ ys) few w =
    let rest : length (without y xs) ≤ c * length ys =
    pigeonhole c (without y xs) ys (λ z. omega (arith, few z, times_without z y xs)) (within_without y xs ys w) in
    omega (arith, few y, length_without y xs)

-- ---- lists of held pages

pub times_snoc : (z : ℕ) (xs : List ℕ) (p : ℕ) → times z (xs ++ (p ∷ [])) ≡ times z xs + same z p
unfolding times
times_snoc z [] p = omega arith
times_snoc z (x ∷ xs) p = omega (arith, times_snoc z xs p)

pub times_set : (z : ℕ) (xs : List ℕ) (i p : ℕ) → times z (set xs i p) ≤ times z xs + same z p
unfolding times
times_set z [] i p = omega arith
times_set z (x ∷ xs) zero p = omega arith
times_set z (x ∷ xs) (suc i) p = omega (arith, times_set z xs i p)

-- a page is among those held where it stands in a frame

at_among : (xs : List ℕ) (i : ℕ) → i < length xs → Among (get_or xs i 0) xs
unfolding times
at_among [] i h = absurd (omega arith)
at_among (x ∷ xs) zero h = omega (arith, same_self x)
at_among (x ∷ xs) (suc i) h = omega (arith, at_among xs i (omega arith))

pub in_among : (z : ℕ) (xs : List ℕ) → In z xs → Among z xs
in_among z xs (i, h, e) = subst (λ (x : ℕ). Among x xs) e (at_among xs i h)

pub among_in : (z : ℕ) (xs : List ℕ) → Among z xs → In z xs
unfolding times
among_in z [] h = absurd (omega arith)
among_in z (x ∷ xs) h = go (among_cons z x xs h) (among_in z xs)
  where
    go : (z ≡ x) ⊎ Among z xs → (Among z xs → In z xs) → In z (x ∷ xs)
    go (inl q) ih = (0, omega arith, sym q)
    go (inr k) ih = let (i, l, e) = ih k in (suc i, omega arith, e)

-- where pages stand apart, each stands once
pub apart_once : (xs : List ℕ) → Apart xs → (z : ℕ) → times z xs ≤ 1
unfolding times
apart_once [] a z = omega arith
apart_once (x ∷ xs) a z =
    once_cons x xs again (apart_once xs (λ i j h k e. omega (arith, a (suc i) (suc j) (omega arith) (omega arith) e))) z
  where
    again : Among x xs → ⊥
    again h = let (i, k, e) = among_in x xs h in omega (arith, a 0 (suc i) (omega arith) (omega arith) (sym e))
