-- Laws of the count of a hash in a list of pages: how it changes with the list, and what it says of a page.
-- Assumes nothing.
use Rattle.std.specs.Prelude.{None}
use mathlib.Core.Path.{◌≡◌, ap, ◌∙◌}
use mathlib.Core.Bool.{Bool, true, false}
use mathlib.Core.List.{List, [], ◌∷◌, ◌++◌}
use Prim.Native.Nat.{ℕ, zero, suc, ◌+◌, ◌≤◌, ◌<◌}
use native.Mathlib.Omega.{arith}
use native.Mathlib.Decide.{dec_lt}
use lib.Dec.{eqb}
use lib.ListN.{length, get_or, set}
use borrow.Author.Tests.{eq-eqb, ne_eqb}
use Rattle.paging.specs.Lists.{pick}
use Rattle.paging.specs.Meanings.{In}
use Rattle.paging.specs.Held.{found}
use Rattle.paging.proofs.Held.{absent_exactly}
use Rattle.held.specs.Index.{hashes, hash_of, hits, hashed}

pub hash_below : (p : ℕ) → hash_of p < hashes
unfolding hash_of
hash_below p = omega arith

pub hits_own : (h p : ℕ) → hash_of p ≡ h → hits h p ≡ 1
unfolding hits
hits_own h p e = rw (eq-eqb _ _ e)

pub hits_other : (h p : ℕ) → (hash_of p ≡ h → ⊥) → hits h p ≡ 0
unfolding hits
hits_other h p e = rw (ne_eqb _ _ e)

hits_most : (h p : ℕ) → hits h p ≤ 1
unfolding hits
hits_most h p = go (eqb (hash_of p) h)
  where
    go : (b : Bool) → pick b 1 0 ≤ 1
    go true = omega arith
    go false = omega arith

pub hashed_most : (h : ℕ) (xs : List ℕ) → hashed h xs ≤ length xs
unfolding hashed
hashed_most h [] = omega arith
hashed_most h (x ∷ xs) = omega (arith, hits_most h x, hashed_most h xs)

-- a page that has the hash is counted
pub hashed_at : (h : ℕ) (xs : List ℕ) (i : ℕ) → i < length xs → hits h (get_or xs i 0) ≤ hashed h xs
unfolding hashed
hashed_at h [] i k = absurd (omega arith)
hashed_at h (x ∷ xs) zero k = omega arith
hashed_at h (x ∷ xs) (suc i) k = omega (arith, hashed_at h xs i (omega arith))

-- and so are two
hashed_two : (h : ℕ) (xs : List ℕ) (i j : ℕ) → i < j → j < length xs → hits h (get_or xs i 0) + hits h (get_or xs j 0) ≤ hashed h xs
unfolding hashed
hashed_two h [] i j k l = absurd (omega arith)
hashed_two h (x ∷ xs) i zero k l = absurd (omega arith)
hashed_two h (x ∷ xs) zero (suc j) k l = omega (arith, hashed_at h xs j (omega arith))
hashed_two h (x ∷ xs) (suc i) (suc j) k l = omega (arith, hashed_two h xs i j (omega arith) (omega arith))

-- ---- one page more, one page in place of another

pub hashed_snoc : (h : ℕ) (xs : List ℕ) (p : ℕ) → hashed h (xs ++ (p ∷ [])) ≡ hashed h xs + hits h p
unfolding hashed
hashed_snoc h [] p = omega arith
hashed_snoc h (x ∷ xs) p = omega (arith, hashed_snoc h xs p)

pub hashed_set : (h : ℕ) (xs : List ℕ) (f p : ℕ) → f < length xs → hashed h (set xs f p) + hits h (get_or xs f 0) ≡ hashed h xs + hits h p
unfolding hashed
hashed_set h [] f p k = absurd (omega arith)
hashed_set h (x ∷ xs) zero p k = omega arith
hashed_set h (x ∷ xs) (suc f) p k = omega (arith, hashed_set h xs f p (omega arith))

-- ---- what a count says of a page

-- a page that stands in the list is counted among those of its hash
counted_in : (p : ℕ) (xs : List ℕ) (i : ℕ) → i < length xs → get_or xs i 0 ≡ p → hits (hash_of p) (get_or xs i 0) ≡ 1
counted_in p xs i l e = hits_own (hash_of p) (get_or xs i 0) (ap hash_of e)

-- nothing has the page's hash: the page is absent
pub none_hashed : (p : ℕ) (xs : List ℕ) → hashed (hash_of p) xs ≡ 0 → found p xs ≡ None
none_hashed p xs e =
    (absent_exactly p xs).1 (λ (s : In p xs). let (i, l, q) = s in omega (arith, e, hashed_at (hash_of p) xs i l, counted_in p xs i l q))

-- one has it, and that is another page: the page is absent
pub one_other : (p : ℕ) (xs : List ℕ) (f : ℕ) → hashed (hash_of p) xs ≡ 1 → f < length xs → hash_of (get_or xs f 0) ≡ hash_of p
    → (get_or xs f 0 ≡ p → ⊥) → found p xs ≡ None
one_other p xs f e l same other = (absent_exactly p xs).1 two
  where
    two : In p xs → ⊥
    two (i, k, q) =
        let a : hits (hash_of p) (get_or xs i 0) ≡ 1 = counted_in p xs i k q in
        let b : hits (hash_of p) (get_or xs f 0) ≡ 1 = hits_own (hash_of p) (get_or xs f 0) same in
        elim (dec_lt i f) [
          | yes m ↦ omega (arith, a, b, e, hashed_two (hash_of p) xs i f m l)
          | no m ↦ elim (dec_lt f i) [
            | yes r ↦ omega (arith, a, b, e, hashed_two (hash_of p) xs f i r k)
            | no r ↦ (let s : f ≡ i = omega arith in other (ap (λ (j : ℕ). get_or xs j 0) s ∙ q))
          ]
        ]
