-- One request of the check of a plan: an entry that keeps the plan rule gives the frame for its page, and the check goes on behind it; else the check stops.
-- Assumes nothing.
use Rattle.std.specs.Prelude.{Some, None, Ok, Err}
use mathlib.Core.Path.{◌≡◌, refl, sym, ap, ◌∙◌}
use mathlib.Core.Logic.{◌⊎◌}
use mathlib.Core.List.{List, [], ◌∷◌}
use Prim.Native.Nat.{ℕ, ◌+◌, ◌≤◌, ◌<◌}
use native.Mathlib.Numerals.{add-one}
use native.Mathlib.Omega.{arith}
use native.Mathlib.Decide.{dec_lt}
use lib.ListN.{length, get_or, drop, length-set, length-append, length-drop}
use lib.Seq.{drop-cons}
use borrow.Author.Tests.{lt-ltb, le-ltb}
use Rattle.paging.specs.Calls.{frame_limit}
use Rattle.paging.specs.Held.{found, frame_after, Found}
use Rattle.paging.specs.Plans.{judged, after, absent, through, check_from}
use Rattle.paging.specs.Walk.{fault_of}
use Rattle.paging.specs.declared.Frame.{Frame}
use Rattle.paging.specs.Refusals.{Gate}
use Rattle.paging.specs.declared.Outcome.{Outcome}
use Rattle.paging.specs.declared.Refusal.{Refusal}
use Rattle.paging.proofs.Held.{found_has}
use Rattle.held.specs.Placing.{put_outcome, put_pages}
use Rattle.held.proofs.Placing.{Going, put_fits, put_small, put_after, put_fault}
use Rattle.plans.specs.Devices.{Judged, settled}

-- ---- what an entry comes to

keeps_settled : (gate : Gate) (f frame : Frame) → settled gate f ≡ Ok frame → (gate ≡ Ok tt) × (frame.0 ≡ f.0)
keeps_settled (Ok tt) f frame e = (refl, (cc))
keeps_settled (Err r) f frame e = absurd (let z : ◌≡◌ {A = ℕ} 0 1 = cc in omega arith)

breaks_settled : (gate : Gate) (f : Frame) (r : Refusal) → settled gate f ≡ Err r → gate ≡ Err r
breaks_settled (Ok tt) f r e = absurd (let z : ◌≡◌ {A = ℕ} 0 1 = cc in omega arith)
breaks_settled (Err q) f r e = (cc)

-- a page put into a frame that there is leaves no more pages than frames
put_few : (p f : ℕ) (before : List ℕ) → f < frame_limit → length before ≤ frame_limit → length (put_pages p f before) ≤ frame_limit
unfolding put_pages
put_few p f before h l = elim (dec_lt f (length before)) [
  | yes k ↦ rw (lt-ltb f (length before) k, length-set before f p) l
  | no k ↦ rw (le-ltb f (length before) (omega arith), length-append before (p ∷ [])) (omega arith)
]

-- what is left of the check at moment t: its request with its entry, then the others
pub check_from_on : (m t f : ℕ) (held trace words : List ℕ) → t < length trace → length trace ≤ length words
    → check_from m t f held (drop t trace) (drop t words)
    ≡ check_from m t f held (get_or trace t 0 ∷ drop (t + 1) trace) (get_or words t 0 ∷ drop (t + 1) words)
check_from_on m t f held trace words h l = rw (drop-cons trace t 0 h, drop-cons words t 0 (omega arith), add-one) refl

-- nothing is left of the check
pub check_end : (m t f : ℕ) (held ps ws : List ℕ) → length ps ≡ 0 → check_from m t f held ps ws ≡ Ok f
unfolding check_from
check_end m t f held [] ws e = refl
check_end m t f held (p ∷ ps) ws e = absurd (omega (arith, e))

-- ---- a request of page p at moment t, with the entry w

module _ (m t p w : ℕ) (before : List ℕ) where
  step : (f : ℕ) (ps ws : List ℕ) → check_from m t f before (p ∷ ps) (w ∷ ws)
      ≡ through (judged m t before p w) (check_from m (t + 1) (f + absent p before) (after m before p w) ps ws)
  unfolding check_from
  step f ps ws = rw add-one

  -- in a full cache an entry that keeps the rule names a page that is held
  named : judged m t before p w ≡ Ok tt → Going m p (found w before) before
  unfolding judged
  named passed out full = go (found w before) refl
    where
      go : (a : Found) → found w before ≡ a → (g : ℕ) × (found w before ≡ Some (record { 0 = g })) × (g < length before)
      go (Some frame) e = (frame.0, e, (found_has w before frame e).0)
      go None e =
          let no = rw (out, le-ltb (length before) m full, e) at passed in
          absurd (let z : ◌≡◌ {A = ℕ} 0 1 = cc in omega arith)

  module _ (j : Judged) (e : j ≡ settled (judged m t before p w) (record { 0 = frame_after m p (found w before) before })) where
    -- the entry is refused: that is the answer
    pub check_stop : (f : ℕ) (ps ws : List ℕ) (r : Refusal) → j ≡ Err r → check_from m t f before (p ∷ ps) (w ∷ ws) ≡ Err r
    check_stop f ps ws r b = let no : judged m t before p w ≡ Err r = breaks_settled _ _ r (sym e ∙ b) in step f ps ws ∙ rw no

    -- it keeps the rule: its page can be put into the frame, and the check goes on behind it
    module _ (frame : Frame) (k : j ≡ Ok frame) (small : m ≤ frame_limit) (few : length before ≤ frame_limit) where
      kept : (judged m t before p w ≡ Ok tt) × (frame.0 ≡ frame_after m p (found w before) before)
      kept = keeps_settled _ _ frame (sym e ∙ k)

      below : frame.0 < frame_limit
      below = put_small p frame before m (found w before) (named kept.0) kept.1 small few

      pub entry_fits : (frame.0 ≤ length before) × (frame.0 < frame_limit) × ((found p before ≡ Some frame) ⊎ (found p before ≡ None))
      entry_fits = let (there, fits) = put_fits p frame before m (found w before) (named kept.0) kept.1 in (there, below, fits)

      -- the pages held then
      module _ (o : Outcome) (told : o ≡ put_outcome p frame.0 before) (later : List ℕ) (is : later ≡ put_pages p frame.0 before) where
        pub few_after : length later ≤ frame_limit
        few_after = rw is (put_few p frame.0 before below few)

        pub check_on : (f : ℕ) (ps ws : List ℕ) → check_from m t f before (p ∷ ps) (w ∷ ws) ≡ check_from m (t + 1) (f + fault_of o) later ps ws
        unfolding after
        check_on f ps ws =
            let faults : fault_of o ≡ absent p before = ap fault_of told ∙ put_fault p frame before m (found w before) (named kept.0) kept.1 in
            let pages' : later ≡ after m before p w = is ∙ put_after p frame before m (found w before) (named kept.0) kept.1 in
            step f ps ws ∙ rw (kept.0, faults, pages')
