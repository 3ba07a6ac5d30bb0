-- Lists of held pages: who is held and where, no page in two frames, and what keeps it so.
-- Both the walk of a rule and the check of a plan are walks over such a list.
-- Assumes nothing.
use Rattle.std.specs.Prelude.{Some, None}
use mathlib.Core.Path.{◌≡◌, refl, sym, ap, ◌∙◌}
use mathlib.Core.Logic.{◌⊎◌, inl, inr, ⊎_elim, ◌↔◌}
use mathlib.Core.Bool.{Bool, true, false}
use mathlib.Core.List.{List, [], ◌∷◌, ◌++◌}
use Prim.Native.Nat.{ℕ, ◌≤◌, ◌<◌}
use native.Mathlib.Omega.{arith}
use native.Mathlib.Decide.{dec_lt}
use lib.Dec.{eqb}
use lib.ListN.{length, get_or, set, length-set}
use lib.Seq.{get_or-set_same, get_or-set_other, get_or-append_seam}
use borrow.Author.Tests.{eqb-true, eq-eqb}
use Rattle.paging.specs.Lists.{pick, index_of, mem, place_of}
use Rattle.paging.specs.Held.{Found, found}
use Rattle.paging.specs.declared.Frame.{Frame}
use Rattle.paging.specs.Meanings.{In, Apart}
use Rattle.paging.proofs.Lists.{false≢true, bool_cases, any_index, index_first, index_passes, index_is, at_any, snoc_cases, set_cases, length_snoc, get_or_snoc_old}

-- ---- the test and the frame

pub in_mem : (p : ℕ) (held : List ℕ) → In p held → mem p held ≡ true
unfolding mem
in_mem p held (i, h, e) = at_any (λ (q : ℕ). eqb q p) 0 held i h (eq-eqb _ _ e)

pub mem_place : (p : ℕ) (held : List ℕ) → mem p held ≡ true → (place_of p held < length held) × (get_or held (place_of p held) 0 ≡ p)
unfolding mem place_of
mem_place p held e =
    let h : index_of (λ (q : ℕ). eqb q p) held < length held = any_index (λ (q : ℕ). eqb q p) 0 held e in
    (h, eqb-true _ _ (index_passes (λ (q : ℕ). eqb q p) 0 held h))

-- a place inside the list is the page's
pub place_holds : (p : ℕ) (held : List ℕ) → place_of p held < length held → get_or held (place_of p held) 0 ≡ p
unfolding place_of
place_holds p held h = eqb-true _ _ (index_passes (λ (q : ℕ). eqb q p) 0 held h)

-- and no lower one is
pub place_first : (p : ℕ) (held : List ℕ) (i : ℕ) → i < place_of p held → get_or held i 0 ≡ p → ⊥
unfolding place_of
place_first p held i h e = index_first (λ (q : ℕ). eqb q p) 0 held i h (eq-eqb _ _ e)

-- a place past its end is nobody's
pub place_out : (p : ℕ) (held : List ℕ) → length held ≤ place_of p held → mem p held ≡ false
place_out p held h = ⊎_elim (λ e. absurd (let (k, g) = mem_place p held e in omega arith)) (λ e. e) (bool_cases (mem p held))

pub mem_in : (p : ℕ) (held : List ℕ) → mem p held ≡ true → In p held
mem_in p held e = let (h, g) = mem_place p held e in (place_of p held, h, g)

-- where a page isn't held, its place is past the end
pub absent_place : (p : ℕ) (held : List ℕ) → mem p held ≡ false → length held ≤ place_of p held
absent_place p held e =
    elim (dec_lt (place_of p held) (length held)) [
      | yes h ↦ absurd (false≢true (sym e ∙ in_mem p held (place_of p held, h, place_holds p held h)))
      | no h ↦ omega arith
    ]

pub absent_in : (p : ℕ) (held : List ℕ) → mem p held ≡ false → In p held → ⊥
absent_in p held e i = false≢true (sym e ∙ in_mem p held i)

pub not_in : (p : ℕ) (held : List ℕ) → (In p held → ⊥) → mem p held ≡ false
not_in p held out = ⊎_elim (λ e. absurd (out (mem_in p held e))) (λ e. e) (bool_cases (mem p held))

-- where pages stand apart, the frame of a held page is the one that it stands in
pub place_is : (held : List ℕ) → Apart held → (i : ℕ) → i < length held → place_of (get_or held i 0) held ≡ i
unfolding place_of
place_is held a i h = index_is _ 0 held i h (eq-eqb (get_or held i 0) (get_or held i 0) refl) (λ j k e. a j i k h (eqb-true _ _ e))

-- ---- which frame

-- what the answer tells of the test and the place
module _ (p : ℕ) (held : List ℕ) where
  pub found_there : mem p held ≡ true → found p held ≡ Some (record { 0 = place_of p held })
  unfolding found
  found_there e = rw e

  pub found_nowhere : mem p held ≡ false → found p held ≡ None
  unfolding found
  found_nowhere e = rw e

  pub there_found : (f : Frame) → found p held ≡ Some f → (mem p held ≡ true) × (place_of p held ≡ f.0)
  unfolding found
  there_found f = go (mem p held)
    where
      go : (b : Bool) → pick b (Some (record { 0 = place_of p held })) None ≡ Some f → (b ≡ true) × (place_of p held ≡ f.0)
      go true e = (refl, (cc))
      go false e = absurd (let z : ◌≡◌ {A = ℕ} 0 1 = cc in omega arith)

  pub nowhere_found : found p held ≡ None → mem p held ≡ false
  unfolding found
  nowhere_found = go (mem p held)
    where
      go : (b : Bool) → pick {A = Found} b (Some (record { 0 = place_of p held })) None ≡ None → b ≡ false
      go true e = absurd (let z : ◌≡◌ {A = ℕ} 0 1 = cc in omega arith)
      go false e = refl

  -- THE FRAME TOLD is in use and has the page, and no lower one has it
  pub found_has : (f : Frame) → found p held ≡ Some f
      → (f.0 < length held) × (get_or held f.0 0 ≡ p) × ((i : ℕ) → i < f.0 → get_or held i 0 ≡ p → ⊥)
  found_has f e =
      let (m, q) = there_found f e in
      let (h, g) = mem_place p held m in
      rw (← q) (h, g, place_first p held)

  -- ABSENT is told exactly where no frame has it
  pub absent_exactly : (found p held ≡ None) ↔ (In p held → ⊥)
  absent_exactly = ((λ e. absent_in p held (nowhere_found e)), λ out. found_nowhere (not_in p held out))

  -- in pages that differ the frame told is the only one that has the page
  pub found_only : Apart held → (i : ℕ) → i < length held → get_or held i 0 ≡ p → found p held ≡ Some (record { 0 = i })
  found_only a i h e =
      found_there (in_mem p held (i, h, e)) ∙ ap (λ (f : ℕ). Some (record { 0 = f })) (ap (λ (q : ℕ). place_of q held) (sym e) ∙ place_is held a i h)

-- ---- one page more, and one page in place of another

pub apart_nil : Apart []
apart_nil i j h k e = absurd (omega arith)

pub apart_snoc : (held : List ℕ) (p : ℕ) → Apart held → (In p held → ⊥) → Apart (held ++ (p ∷ []))
apart_snoc held p a out i j h k e = go (snoc_cases 0 held p i h) (snoc_cases 0 held p j k)
  where
    go : ((i < length held) × (get_or (held ++ (p ∷ [])) i 0 ≡ get_or held i 0)) ⊎ ((i ≡ length held) × (get_or (held ++ (p ∷ [])) i 0 ≡ p))
        → ((j < length held) × (get_or (held ++ (p ∷ [])) j 0 ≡ get_or held j 0)) ⊎ ((j ≡ length held) × (get_or (held ++ (p ∷ [])) j 0 ≡ p)) → i ≡ j
    go (inl (x, u)) (inl (y, v)) = a i j x y (sym u ∙ e ∙ v)
    go (inl (x, u)) (inr (y, v)) = absurd (out (i, x, sym u ∙ e ∙ v))
    go (inr (x, u)) (inl (y, v)) = absurd (out (j, y, sym v ∙ sym e ∙ u))
    go (inr (x, u)) (inr (y, v)) = omega arith

pub apart_set : (held : List ℕ) (f p : ℕ) → Apart held → (In p held → ⊥) → Apart (set held f p)
apart_set held f p a out i j h k e = go (set_cases 0 held f p i h) (set_cases 0 held f p j k)
  where
    go : ((i ≡ f) × (get_or (set held f p) i 0 ≡ p)) ⊎ (((i ≡ f) → ⊥) × (i < length held) × (get_or (set held f p) i 0 ≡ get_or held i 0))
        → ((j ≡ f) × (get_or (set held f p) j 0 ≡ p)) ⊎ (((j ≡ f) → ⊥) × (j < length held) × (get_or (set held f p) j 0 ≡ get_or held j 0)) → i ≡ j
    go (inl (x, u)) (inl (y, v)) = omega arith
    go (inl (x, u)) (inr (y, l, v)) = absurd (out (j, l, sym v ∙ sym e ∙ u))
    go (inr (x, l, u)) (inl (y, v)) = absurd (out (i, l, sym u ∙ e ∙ v))
    go (inr (x, l, u)) (inr (y, m, v)) = a i j l m (sym u ∙ e ∙ v)

-- ---- who is held after one page more, and after one page in place of another

pub snoc_in : (held : List ℕ) (p x : ℕ) → In x (held ++ (p ∷ [])) ↔ ((x ≡ p) ⊎ In x held)
snoc_in held p x = (there, back)
  where
    there : In x (held ++ (p ∷ [])) → (x ≡ p) ⊎ In x held
    there (i, h, e) = ⊎_elim (λ w. inr (i, w.0, sym w.1 ∙ e)) (λ w. inl (sym e ∙ w.1)) (snoc_cases 0 held p i h)

    back : (x ≡ p) ⊎ In x held → In x (held ++ (p ∷ []))
    back (inl e) = (length held, omega (arith, length_snoc 0 held p), get_or-append_seam held p [] 0 ∙ sym e)
    back (inr (i, h, e)) = (i, omega (arith, length_snoc 0 held p), get_or_snoc_old 0 held p i h ∙ e)

pub set_in : (held : List ℕ) (f p x : ℕ) → Apart held → f < length held
    → In x (set held f p) ↔ ((x ≡ p) ⊎ (In x held × (x ≡ get_or held f 0 → ⊥)))
set_in held f p x a k = (there, back)
  where
    there : In x (set held f p) → (x ≡ p) ⊎ (In x held × (x ≡ get_or held f 0 → ⊥))
    there (i, h, e) =
        ⊎_elim (λ w. inl (sym e ∙ w.1)) (λ w. inr ((i, w.1, sym w.2 ∙ e), λ y. w.0 (a i f w.1 k (sym w.2 ∙ e ∙ y))))
        (set_cases 0 held f p i h)

    back : (x ≡ p) ⊎ (In x held × (x ≡ get_or held f 0 → ⊥)) → In x (set held f p)
    back (inl e) = (f, omega (arith, length-set held f p), get_or-set_same held f p 0 k ∙ sym e)
    back (inr ((i, h, e), out)) =
        (i, omega (arith, length-set held f p), get_or-set_other held f i p 0 (λ y. out (sym e ∙ ap (λ (j : ℕ). get_or held j 0) y)) ∙ e)
