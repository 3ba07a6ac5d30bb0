-- One request of MIN: in a full cache the page whose turn is latest is the one that goes, so the frame that the code finds is the definition's;
-- with the new turn written beside the page requested every page stands beside its turn again.
-- Assumes nothing.
use Rattle.std.specs.Prelude.{None}
use mathlib.Core.Path.{◌≡◌, sym, ap, ◌∙◌}
use mathlib.Core.List.{List}
use Prim.Native.Nat.{ℕ, suc, ◌+◌, ◌<◌}
use native.Mathlib.Numerals.{add-one}
use native.Mathlib.Omega.{arith}
use native.Mathlib.Decide.{ℕ_discrete}
use lib.ListN.{length, get_or, drop, set, replicate, length-set, length-replicate}
use lib.Seq.{drop-cons, get_or-set_same, get_or-set_other}
use Rattle.paging.specs.Rules.{next_of, chosen}
use Rattle.paging.specs.Walk.{entry_at, pages, sees_at, entries_at}
use Rattle.paging.specs.Held.{found}
use Rattle.paging.specs.Calls.{frame_limit}
use Rattle.paging.specs.declared.Entry.{Entry}
use Rattle.paging.specs.declared.Frame.{Frame}
use Rattle.paging.specs.declared.Rule.TheVariants.{Min}
use Rattle.paging.proofs.Held.{nowhere_found}
use Rattle.paging.proofs.Frames.{pages_length, pages_at, mem_pages, absent_at, held_differ}
use Rattle.walks.specs.Tied.{held_before, choice_at, seat_at, told_at, Within}
use Rattle.walks.proofs.Walking.{Served, size, seat_low, seat_serves}
use Rattle.minimum.specs.Devices.Turns.{turn_of, Behind}
use Rattle.minimum.specs.Fair.{Fair}
use Rattle.minimum.proofs.Farthest.{next_nearer, chosen_same, farthest_is}

-- with nothing held
pub fair_starts : (n : ℕ) (trace : List ℕ) → Fair n trace 0 (replicate frame_limit 0)
unfolding entries_at
fair_starts n trace = record { deep = length-replicate {A = ℕ} frame_limit 0; in_turn = λ i h. absurd (omega arith) }

module _
    (n : ℕ) (trace : List ℕ) (t : ℕ) (turns : List ℕ)
    (fair : Fair n trace t turns) (x : Within n trace t)
  where
    abbrev p : ℕ
    p = get_or trace t 0

    abbrev es : List Entry
    es = entries_at Min n trace t

    abbrev choice : ℕ
    choice = chosen Min (sees_at trace t) (entries_at Min n trace t)

    -- a page that is not requested keeps its turn
    turn_stays : (q : ℕ) → (p ≡ q → ⊥) → turn_of trace t q ≡ turn_of trace (suc t) q
    turn_stays q e = omega (arith, ap (λ (xs : List ℕ). next_of xs q) (drop-cons trace t 0 x.inside), next_nearer q p (drop (suc t) trace) e)

    -- ---- the page that goes

    -- asked for where the page requested is absent
    module _ (held : List ℕ) (same : held ≡ held_before Min n trace t) (out : found p held ≡ None) where
      many : length held ≡ length es
      many = ap length same ∙ size Min n trace t

      pub latest_goes : (far : ℕ) → far < length held → ((j : ℕ) → j < length held → Behind held turns j far) → far ≡ choice_at Min n trace t
      unfolding choice_at held_before
      latest_goes far g behind =
          sym
          (chosen_same (sees_at trace t) es
          ∙ farthest_is (drop (suc t) trace) (pages es) (held_differ Min n trace t) (suc t) turns in_turn far (omega (arith, many, pages_length es)) behind_too)
        where
          absent : (j : ℕ) → j < length es → (entry_at es j).page.0 ≡ p → ⊥
          absent = absent_at p es (sym (mem_pages p es) ∙ nowhere_found p (pages es) (ap (found p) (sym same) ∙ out))

          in_turn : (j : ℕ) → j < length (pages es) → get_or turns j 0 ≡ suc t + next_of (drop (suc t) trace) (get_or (pages es) j 0)
          in_turn j a =
              let b : j < length es = omega (arith, pages_length es) in
              rw (pages_at es j) (fair.in_turn j b ∙ turn_stays (entry_at es j).page.0 (λ y. absent j b (sym y)))

          behind_too : (j : ℕ) → j < length (pages es) → Behind (pages es) turns j far
          behind_too j a = let b : j < length held = omega (arith, many, pages_length es) in rw (← same) (behind j b)

    -- ---- its page put there, and its turn

    module _ (frame : Frame) (is : frame.0 ≡ seat_at Min n trace t) where
      abbrev f : ℕ
      f = frame.0

      abbrev es' : List Entry
      es' = entries_at Min n trace (t + 1)

      s : Served t p (told_at Min n trace t) f es es'
      s = seat_serves Min n trace t x.some frame is

      pub fair_low : frame.0 < frame_limit
      fair_low = omega (arith, seat_low Min n trace t x.some frame is, x.frames)

      -- the other frames hold other pages
      others : (j : ℕ) → j < length es' → (j ≡ f → ⊥) → p ≡ (entry_at es j).page.0 → ⊥
      others j h d e =
          d
          (held_differ Min n trace (t + 1) j f (omega (arith, pages_length es')) (omega (arith, s.inside, pages_length es'))
          (pages_at es' j ∙ ap (λ (d : Entry). d.page.0) (s.others j h d).1 ∙ sym e ∙ sym s.page ∙ sym (pages_at es' f)))

      room : f < length turns
      room = omega (arith, fair.deep, fair_low)

      pub fair_after : (turn : ℕ) → turn ≡ turn_of trace (t + 1) p → Fair n trace (t + 1) (set turns f turn)
      fair_after turn c = record { deep = length-set turns f turn ∙ fair.deep; in_turn = in_turn }
        where
          in_turn : (j : ℕ) → j < length es' → get_or (set turns f turn) j 0 ≡ turn_of trace (t + 1) (entry_at es' j).page.0
          in_turn j h =
              elim (ℕ_discrete j f) [
                | yes e ↦ rw e (get_or-set_same turns f turn 0 room ∙ c ∙ ap (turn_of trace (t + 1)) (sym s.page))
                | no e ↦
                    let q : ℕ = (entry_at es j).page.0 in
                    get_or-set_other turns f j turn 0 e
                    ∙ fair.in_turn j (s.others j h e).0
                    ∙ turn_stays q (others j h e)
                    ∙ ap (λ (k : ℕ). turn_of trace k q) (sym (add-one t))
                    ∙ ap (λ (d : Entry). turn_of trace (t + 1) d.page.0) (sym (s.others j h e).1)
              ]
