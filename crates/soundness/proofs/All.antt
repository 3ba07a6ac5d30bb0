-- Laws of `all`, `pairwise` and `mem`, as equations of truth values.
-- Assumes nothing.
use mathlib.Core.Path.{◌≡◌, refl, sym, ap, ◌∙◌}
use Rattle.std.specs.List.{list_all}
use mathlib.Core.Bool.{Bool, true, false, ◌&&◌}
use mathlib.Core.List.{List, [], ◌∷◌, ◌++◌, map}
use Prim.Native.Nat.{ℕ, zero, suc}
use native.Mathlib.Decide.{ℕ_discrete}
use lib.Dec.{eqb}
use lib.ListN.{take}
use borrow.Author.Tests.{ne_eqb}
use Rattle.paging.specs.Lists.{pick, not, both, all, mem}
use Rattle.paging.proofs.Lists.{all_map}
use Rattle.soundness.specs.Sound.{pairwise}

-- ---- truth values

-- four truth values in two orders
both_across : (a b c d : Bool) → both (both a b) (both c d) ≡ both (both a c) (both b d)
both_across false b c d = refl
both_across true true c d = refl
both_across true false true d = refl
both_across true false false d = refl

pub both_truth : (b : Bool) → both b true ≡ b
both_truth true = refl
both_truth false = refl

pub not_either : (a b : Bool) → not (pick a true b) ≡ both (not a) (not b)
not_either true b = refl
not_either false b = refl

eqb_swap : (a b : ℕ) → eqb a b ≡ eqb b a
eqb_swap a b = elim (ℕ_discrete a b) [ yes e ↦ rw e | no e ↦ ne_eqb a b e ∙ sym (ne_eqb b a (λ x. e (sym x))) ]

-- ---- lists

module _ {A : Type 0} where
  pub all_same : (f g : A → Bool) → ((x : A) → f x ≡ g x) → (xs : List A) → all f xs ≡ all g xs
  unfolding all
  all_same f g h [] = refl
  all_same f g h (x ∷ xs) = rw (h x, all_same f g h xs)

  pub all_true : (xs : List A) → all (λ (x : A). true) xs ≡ true
  unfolding all
  all_true [] = refl
  all_true (x ∷ xs) = all_true xs

  pub all_both : (f g : A → Bool) (xs : List A) → all (λ (x : A). both (f x) (g x)) xs ≡ both (all f xs) (all g xs)
  unfolding all
  all_both f g [] = refl
  all_both f g (x ∷ xs) = rw (all_both f g xs) (both_across (f x) (g x) (all f xs) (all g xs))

  -- the library's word
  pub list_all_is : (f : A → Bool) (xs : List A) → list_all f xs ≡ all f xs
  unfolding all
  list_all_is f [] = refl
  list_all_is f (x ∷ xs) = rw (list_all_is f xs) (go (f x))
    where
      go : (b : Bool) → b && all f xs ≡ pick b (all f xs) false
      go true = refl
      go false = refl

  pub all_append : (f : A → Bool) (xs ys : List A) → all f (xs ++ ys) ≡ both (all f xs) (all f ys)
  unfolding all
  all_append f [] ys = refl
  all_append f (x ∷ xs) ys = rw (all_append f xs ys) (go (f x))
    where
      go : (b : Bool) → pick b (both (all f xs) (all f ys)) false ≡ both (pick b (all f xs) false) (all f ys)
      go true = refl
      go false = refl

module _ {A B : Type 0} (f : A → B) where
  pub pairwise_map : (test : B → B → Bool) (xs : List A) → pairwise test (map f xs) ≡ pairwise (λ (x y : A). test (f x) (f y)) xs
  unfolding pairwise
  pairwise_map test [] = refl
  pairwise_map test (x ∷ xs) = rw (all_map f (test (f x)) xs, pairwise_map test xs)

  pub take_map : (n : ℕ) (xs : List A) → take n (map f xs) ≡ map f (take n xs)
  take_map zero xs = refl
  take_map (suc n) [] = refl
  take_map (suc n) (x ∷ xs) = ap (λ (r : List B). f x ∷ r) (take_map n xs)

-- p differs from each: it is not among them
pub none_is : (p : ℕ) (xs : List ℕ) → all (λ (q : ℕ). not (eqb p q)) xs ≡ not (mem p xs)
unfolding all mem
none_is p [] = refl
none_is p (x ∷ xs) = rw (none_is p xs, eqb_swap p x) (sym (not_either (eqb x p) (mem p xs)))

-- no member of the one is in the other, either way round
pub apart_swap : (xs ys : List ℕ) → all (λ (x : ℕ). not (mem x ys)) xs ≡ all (λ (y : ℕ). not (mem y xs)) ys
unfolding all mem
apart_swap [] ys = sym (all_true ys)
apart_swap (x ∷ xs) ys =
    rw (apart_swap xs ys, ← none_is x ys)
    (sym (all_both (λ (y : ℕ). not (eqb x y)) (λ (y : ℕ). not (mem y xs)) ys) ∙ all_same _ _ (λ y. sym (not_either (eqb x y) (mem y xs))) ys)
