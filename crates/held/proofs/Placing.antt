-- A page put into a frame: the code's three ways, and what comes of it where the frame is the one for the page after its request.
-- Assumes nothing.
use Rattle.std.specs.Prelude.{Some, None}
use mathlib.Core.Path.{◌≡◌, refl, sym, ap, ◌∙◌}
use mathlib.Core.Logic.{◌⊎◌, inl, inr, ⊎_elim}
use mathlib.Core.Bool.{Bool, true, false}
use mathlib.Core.List.{List, [], ◌∷◌, ◌++◌}
use Prim.Native.Nat.{ℕ, ◌≤◌, ◌<◌}
use native.Mathlib.Omega.{arith}
use native.Mathlib.Decide.{dec_lt}
use lib.Dec.{ltb}
use lib.ListN.{length, get_or, set}
use lib.Seq.{set-get_or}
use borrow.Author.Tests.{lt-ltb, le-ltb, eq-eqb, ne_eqb}
use Rattle.paging.specs.Lists.{pick}
use Rattle.paging.specs.Calls.{frame_limit}
use Rattle.paging.specs.Held.{found, if_held, held_after, frame_after, Found}
use Rattle.paging.specs.Plans.{absent}
use Rattle.paging.specs.Walk.{fault_of}
use Rattle.paging.specs.declared.Frame.{Frame}
use Rattle.paging.specs.declared.Outcome.{Outcome}
use Rattle.paging.specs.declared.Outcome.TheVariants.{Hit, Loaded, Dropped}
use Rattle.paging.proofs.Held.{found_has, nowhere_found, absent_in}
use Rattle.held.specs.Placing.{put_outcome, put_pages}

-- in a full cache of n frames without page p one of the pages held goes
abbrev pub Going : ℕ → ℕ → Found → List ℕ → Type 0
Going n p goes held = found p held ≡ None → n ≤ length held → (g : ℕ) × (goes ≡ Some (record { 0 = g })) × (g < length held)

module _ (p : ℕ) (frame : Frame) (before : List ℕ) where
  abbrev pub f : ℕ
  f = frame.0

  -- what `put` ensures
  abbrev pub Put : Outcome → List ℕ → Type 0
  Put o after = (o ≡ put_outcome p f before) × (after ≡ put_pages p f before)

  pub put_free : length before ≤ f → Put Loaded (before ++ (p ∷ []))
  unfolding put_outcome put_pages
  put_free h = rw (le-ltb f (length before) h) (refl, refl)

  pub put_hit : f < length before → get_or before f 0 ≡ p → Put Hit before
  unfolding put_outcome put_pages
  put_hit h e =
      rw (lt-ltb f (length before) h, eq-eqb (get_or before f 0) p e) (refl, sym (ap (set before f) (sym e) ∙ set-get_or before f 0))

  pub put_other : f < length before → (get_or before f 0 ≡ p → ⊥) → Put (Dropped (record { 0 = get_or before f 0 })) (set before f p)
  unfolding put_outcome put_pages
  put_other h other = rw (lt-ltb f (length before) h, ne_eqb (get_or before f 0) p other) (refl, refl)

  -- a page that may stand in this frame alone, and doesn't, stands nowhere
  module _ (fits : (found p before ≡ Some frame) ⊎ (found p before ≡ None)) where
    pub absent_free : length before ≤ f → found p before ≡ None
    absent_free h = ⊎_elim (λ e. absurd (omega (arith, (found_has p before frame e).0))) (λ e. e) fits

    pub absent_other : (get_or before f 0 ≡ p → ⊥) → found p before ≡ None
    absent_other other = ⊎_elim (λ e. absurd (other (found_has p before frame e).1)) (λ e. e) fits

  -- ---- the frame for the page after its request in n frames

  module _ (n : ℕ) (goes : Found) (going : Going n p goes before) (is : f ≡ frame_after n p goes before) where
    -- a hit; a load with room; a load in place of the page that goes
    abbrev Ways : Type 0
    Ways =
        (found p before ≡ Some frame)
        ⊎ ((found p before ≡ None) × (length before < n) × (f ≡ length before))
        ⊎ ((found p before ≡ None) × (n ≤ length before) × (f < length before) × (goes ≡ Some frame))

    ways : Ways
    unfolding frame_after
    ways = go (found p before) refl
      where
        go : (x : Found) → found p before ≡ x → Ways
        go (Some g) e = inl (e ∙ ap (λ (k : ℕ). Some (record { 0 = k })) (sym (is ∙ rw e refl)))
        go None e =
            elim (dec_lt (length before) n) [
              | yes h ↦ inr (inl (e, h, is ∙ rw (e, lt-ltb (length before) n h) refl))
              | no h ↦
                  let a : n ≤ length before = omega arith in
                  let (g, there, k) = going e a in
                  let q : f ≡ g = is ∙ rw (e, le-ltb (length before) n a, there) refl in
                  inr (inr (e, a, omega arith, there ∙ ap (λ (k : ℕ). Some (record { 0 = k })) (sym q)))
            ]

    -- what `put` requires: the page stands in the frame already, or nowhere
    pub put_fits : (f ≤ length before) × ((found p before ≡ Some frame) ⊎ (found p before ≡ None))
    put_fits = go ways
      where
        go : Ways → (f ≤ length before) × ((found p before ≡ Some frame) ⊎ (found p before ≡ None))
        go (inl e) = (omega (arith, (found_has p before frame e).0), inl e)
        go (inr (inl (e, h, q))) = (omega arith, inr e)
        go (inr (inr (e, h, k, q))) = (omega arith, inr e)

    pub put_small : n ≤ frame_limit → length before ≤ frame_limit → f < frame_limit
    put_small small few = go ways
      where
        go : Ways → f < frame_limit
        go (inl e) = omega (arith, (found_has p before frame e).0)
        go (inr (inl (e, h, q))) = omega arith
        go (inr (inr (e, h, k, q))) = omega arith

    -- the pages held then
    pub put_after : put_pages p f before ≡ held_after n p goes before
    unfolding put_pages held_after
    put_after = go ways
      where
        go : Ways → put_pages p f before ≡ held_after n p goes before
        go (inl e) =
            let (h, q, _) = found_has p before frame e in
            rw (e, lt-ltb f (length before) h) (ap (set before f) (sym q) ∙ set-get_or before f 0)
        go (inr (inl (e, h, q))) =
            let a : length before ≤ f = omega arith in
            let b : length before < n = omega arith in
            rw (e, le-ltb f (length before) a, lt-ltb (length before) n b)
        go (inr (inr (e, h, k, q))) =
            let a : f < length before = omega arith in
            let b : n ≤ length before = omega arith in
            rw (e, lt-ltb f (length before) a, le-ltb (length before) n b, q)

    -- a hit where the page was held; a load with room; else the page that goes is dropped
    abbrev pub outcome_after : Outcome
    outcome_after =
        if_held (found p before) (λ (g : ℕ). Hit)
        (pick (ltb (length before) n) Loaded (if_held goes (λ (g : ℕ). Dropped (record { 0 = get_or before g 0 })) Loaded))

    pub put_told : put_outcome p f before ≡ outcome_after
    unfolding put_outcome
    put_told = go ways
      where
        go : Ways → put_outcome p f before ≡ outcome_after
        go (inl e) =
            let (h, q, _) = found_has p before frame e in
            rw (e, lt-ltb f (length before) h, eq-eqb (get_or before f 0) p q)
        go (inr (inl (e, h, q))) =
            let a : length before ≤ f = omega arith in
            let b : length before < n = omega arith in
            rw (e, le-ltb f (length before) a, lt-ltb (length before) n b)
        go (inr (inr (e, h, k, q))) =
            let a : f < length before = omega arith in
            let b : n ≤ length before = omega arith in
            let out : get_or before f 0 ≡ p → ⊥ = λ y. absent_in p before (nowhere_found p before e) (f, a, y) in
            rw (e, lt-ltb f (length before) a, le-ltb (length before) n b, ne_eqb (get_or before f 0) p out, q)

    -- a fault exactly where the page was absent
    pub put_fault : fault_of (put_outcome p f before) ≡ absent p before
    put_fault = ap fault_of put_told ∙ go (found p before) (ltb (length before) n) goes
      where
        go : (a : Found) (b : Bool) (c : Found)
            → fault_of (if_held a (λ (g : ℕ). Hit) (pick b Loaded (if_held c (λ (g : ℕ). Dropped (record { 0 = get_or before g 0 })) Loaded)))
            ≡ if_held a (λ (g : ℕ). 0) 1
        go (Some g) b c = refl
        go None true c = refl
        go None false (Some g) = refl
        go None false None = refl
