-- What the library's `min_by_key` chooses, by a key that is a number: the first item that has the least key.
-- Assumes nothing.
use Rattle.std.proofs.Common.{Option, Some, None, Ordering, Less, Equal, Greater}
use Rattle.std.specs.Fn.{CalledAt}
use Rattle.std.specs.Iterator.{Drains, DrainsIf, KeyTurn, PicksByKey}
use Rattle.std.specs.List.{FoldsTo, best_of, IsFirstBest}
use Rattle.std.specs.Option.{MatchOption}
use Rattle.std.specs.Ordering.{MatchOrdering, nat_cmp, min_by_ordering}
use Rattle.std.proofs.lemmas.Cmp.{ranked}
use Rattle.std.proofs.lemmas.Iterator.{YieldsList, items_from_drains}
use Rattle.std.proofs.lemmas.List.MinMax.{IsFirstBest-from_best_of, IsStrictWeakOrder-by_number}
use denote.Param.Members.{Mut}
use denote.Ref.{Bor}
use mathlib.Core.Path.{◌≡◌, refl, sym, ap, ap₂, ◌∙◌}
use mathlib.Core.Bool.{Bool, true, false, cond}
use mathlib.Core.List.{List, [], ◌∷◌, map}
use Prim.Native.Nat.{ℕ, ◌<◌}
use native.Mathlib.Omega.{arith}
use lib.Dec.{ltb}
use lib.ListN.{length, get_or}
use borrow.Author.Tests.{lt-ltb, le-ltb}

-- the items that came before `None`, as the laws of chains ask for them
ran_out : {S A : Type 0} (steps : S → Option A → S → Type 0) (s : S) (xs : List A) → Drains steps s xs → DrainsIf steps (Unit {0}) s xs
ran_out steps s xs (u, (t, yields, none)) = (t, yields, λ o. (u, none))

module _ {F A B : Type 0} (g : Mut F (Bor A × Unit {0}) ℕ) (v : A → B) (key : B → ℕ) (f : F)
    (calls : (x : A) (k : ℕ) (q : F) → CalledAt g f x k q → (q ≡ f) × (k ≡ key (v x))) where
  abbrev Turn : (F × ℕ) × A → A → (F × ℕ) × A → Type 0
  Turn p x q = KeyTurn min_by_ordering min_by_ordering g nat_cmp p x q

  abbrev beats : B → B → Bool
  beats x y = ltb (key x) (key y)

  -- of two the lesser, and of equals the first
  lesser : {X : Type 0} (o : Ordering) (j k : ℕ) → MatchOrdering o (j < k) (j ≡ k) (k < j) → (a b : X) → min_by_ordering o a b ≡ cond (ltb k j) b a
  lesser Less j k h a b = rw (le-ltb k j (omega arith)) refl
  lesser Equal j k h a b = rw (le-ltb k j (omega arith)) refl
  lesser Greater j k h a b = rw (lt-ltb k j h) refl

  at_least : {X Y : Type 0} (h : X → Y) (b : Bool) (x z : X) → h (cond b x z) ≡ cond b (h x) (h z)
  at_least h true x z = refl
  at_least h false x z = refl

  kept : (xs : List A) (p : (F × ℕ) × A) (q : F × ℕ) (y : A) → p.0.0 ≡ f → p.0.1 ≡ key (v p.1) → FoldsTo Turn p xs (q, y)
      → v y ≡ best_of beats (v p.1) (map v xs)
  kept [] p q y e h folds = sym (ap (λ (r : (F × ℕ) × A). v r.1) folds)
  kept (z ∷ zs) p q y e h (j, (k, o, called, compared, key_is, item_is), folds) =
      let (same, k_is) = calls z k j.0.0 (rw e at called) in
      let r = ranked p.0.1 k o (sym compared) in
      let item : v j.1 ≡ cond (ltb k p.0.1) (v z) (v p.1) = ap v (item_is ∙ lesser o p.0.1 k r p.1 z) ∙ at_least v (ltb k p.0.1) z p.1 in
      let number : j.0.1 ≡ key (v j.1) =
      key_is ∙ lesser o p.0.1 k r p.0.1 k ∙ ap₂ (cond (ltb k p.0.1)) k_is h
      ∙ sym (ap key item ∙ at_least key (ltb k p.0.1) (v z) (v p.1)) in
      kept zs j q y same number folds
      ∙ ap (λ (a : B). best_of beats a (map v zs)) (item ∙ ap₂ (λ (m n : ℕ). cond (ltb m n) (v z) (v p.1)) k_is h)

  -- no item came, or the one chosen is the first that has the least key
  pub first_of_least : {S : Type 0} {steps : S → Option A → S → Type 0} {s : S} {all : List B} → YieldsList steps v s all
      → (r : Option A) → PicksByKey steps min_by_ordering min_by_ordering g nat_cmp s f r
      → MatchOption r (all ≡ []) (λ y. (b : ℕ) × (d : B) × IsFirstBest beats all (length all) b × (get_or all b d ≡ v y))
  first_of_least {steps = steps} {s = s} chain None drains = sym (items_from_drains {steps = steps} {s = s} [] (ran_out steps s [] drains) chain)
  first_of_least {steps = steps} {s = s} chain (Some y) (x, xs, k, h, q, drains, called, folds) =
      let (same, k_is) = calls x k h called in
      let (b, first, at) = IsFirstBest-from_best_of (IsStrictWeakOrder-by_number key) (v x) (map v xs) in
      rw (← items_from_drains {steps = steps} {s = s} (x ∷ xs) (ran_out steps s (x ∷ xs) drains) chain) (b, v x, first, at ∙ sym (kept xs ((h, k), x) q y same k_is folds))
