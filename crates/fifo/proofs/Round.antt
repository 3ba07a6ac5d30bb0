-- FIFO by a frame that goes round: in a full cache it is that of the page loaded earliest, and one request keeps it so.
-- Assumes nothing.
use mathlib.Core.Path.{◌≡◌, refl, sym, ap, ◌∙◌, subst}
use mathlib.Core.Logic.{◌⊎◌, inl, inr, ⊎_elim}
use mathlib.Core.Bool.{true}
use mathlib.Core.List.{List, []}
use Prim.Native.Nat.{ℕ, suc, ◌+◌, ◌≤◌, ◌<◌}
use native.Mathlib.Omega.{arith}
use native.Mathlib.Decide.{ℕ_discrete, dec_lt}
use lib.ListN.{length, set, length-set}
use borrow.Author.Tests.{lt-ltb, le-ltb}
use Rattle.paging.specs.Rules.{Sees, fifo_drops, drops, chosen}
use Rattle.paging.specs.Walk.{zero_entry, entry_at, loaded_at, renewed, fault_of, sees_at, entries_at}
use Rattle.paging.specs.declared.Entry.{Entry}
use Rattle.paging.specs.declared.Rule.TheVariants.{Fifo}
use Rattle.paging.specs.declared.Outcome.{Outcome}
use Rattle.paging.proofs.Lists.{length_snoc, set_cases}
use Rattle.paging.proofs.Choice.{least_index}
use Rattle.paging.specs.declared.Frame.{Frame}
use Rattle.paging.proofs.Frames.{held_at_most}
use Rattle.walks.specs.Tied.{held_before, choice_at, seat_at, told_at, Within}
use Rattle.walks.proofs.Walking.{Way, Served, way_serves, size, seat_way}
use Rattle.fifo.specs.Round.{Before, Round}
use Rattle.fifo.specs.Devices.{next_after}

pub round_starts : (n : ℕ) → 1 ≤ n → Round n 0 0 []
round_starts n some =
    record { within = some; filling = λ h. refl; young = λ j h. absurd (omega arith); ordered = λ i j h k b. absurd (omega arith) }

-- the next frame after a fault: the one behind it, or from the last the first
abbrev Onward : ℕ → ℕ → ℕ → Type 0
Onward n next later = ((next + 1 < n) × (later ≡ next + 1)) ⊎ ((next + 1 ≡ n) × (later ≡ 0))

onward : (n next fault : ℕ) → next < n → fault ≡ 1 → Onward n next (next_after fault next n)
onward n next fault within e =
    elim (dec_lt (next + 1) n) [
      | yes h ↦ inl (h, rw (e, lt-ltb (next + 1) n h))
      | no h ↦ inr (omega arith, rw (e, le-ltb (next + 1) n (let k : n ≤ next + 1 = omega arith in k)))
    ]

module _ (n t next : ℕ) (es : List Entry) (r : Round n t next es) where
  -- in a full cache it is the frame chosen
  pub next_chosen : (sees : Sees) → n ≤ length es → next ≡ chosen Fifo sees es
  unfolding chosen drops fifo_drops
  next_chosen sees full =
      let h : next < length es = omega (arith, r.within) in
      sym
      (least_index (λ (e : Entry). true) (λ (e : Entry). e.loaded.0) es next h refl
      (λ j k g e. r.ordered next j h k (elim (dec_lt next j) [ yes l ↦ inl (omega arith, l) | no l ↦ inr (inl (omega arith, omega arith)) ])))

  -- a hit leaves what was loaded when
  round_hit : (f : ℕ) → Round n (t + 1) next (set es f (renewed t (entry_at es f)))
  round_hit f =
      record {
        within = r.within;
        filling = λ l. r.filling (omega (arith, size)) ∙ sym size;
        young = λ j k. rw (loaded j k) (omega (arith, r.young j (omega (arith, size))));
        ordered = λ i j k l b. rw (loaded i k, loaded j l) (r.ordered i j (omega (arith, size)) (omega (arith, size)) b);
      }
    where
      size : length (set es f (renewed t (entry_at es f))) ≡ length es
      size = length-set es f (renewed t (entry_at es f))

      loaded : (j : ℕ) → j < length (set es f (renewed t (entry_at es f))) → (entry_at (set es f (renewed t (entry_at es f))) j).loaded.0 ≡ (entry_at es j).loaded.0
      loaded j k =
          ⊎_elim (λ c. ap (λ (e : Entry). e.loaded.0) c.1 ∙ ap (λ (i : ℕ). (entry_at es i).loaded.0) (sym c.0)) (λ c. ap (λ (e : Entry). e.loaded.0) c.2)
          (set_cases zero_entry es f (renewed t (entry_at es f)) j k)

  -- a fault in frame `next`: its page is the youngest, and the frame behind it is next
  module _
      (p : ℕ) (o : Outcome) (es' : List Entry) (s : Served t p o next es es') (new : entry_at es' next ≡ loaded_at t p) (most : length es' ≤ n)
      (grown : length es' < n → length es' ≡ suc next) (later : ℕ) (on : Onward n next later)
    where
      new_last : (j : ℕ) → j < length es' → Before later next j → Onward n next later → ⊥
      new_last j l (inl b) (inl s) = omega arith
      new_last j l (inl b) (inr s) = omega arith
      new_last j l (inr (inl b)) (inl s) = omega arith
      new_last j l (inr (inl b)) (inr s) = omega arith
      new_last j l (inr (inr b)) (inl s) = omega arith
      new_last j l (inr (inr b)) (inr s) = omega arith

      was_before : (i j : ℕ) → i < length es' → j < length es' → (i ≡ next → ⊥) → (j ≡ next → ⊥) → Before later i j → Onward n next later → Before next i j
      was_before i j k l c d (inl b) (inl s) = inl (omega arith, omega arith)
      was_before i j k l c d (inl b) (inr s) = inr (inr (omega arith, omega arith))
      was_before i j k l c d (inr (inl b)) (inl s) = inr (inl (omega arith, omega arith))
      was_before i j k l c d (inr (inl b)) (inr s) = absurd (omega arith)
      was_before i j k l c d (inr (inr b)) (inl s) = inr (inr (omega arith, omega arith))
      was_before i j k l c d (inr (inr b)) (inr s) = absurd (omega arith)

      old : (j : ℕ) → j < length es' → (j ≡ next → ⊥) → (j < length es) × ((entry_at es' j).loaded.0 ≡ (entry_at es j).loaded.0)
      old j k d = ((s.others j k d).0, ap (λ (e : Entry). e.loaded.0) (s.others j k d).1)

      now : (entry_at es' next).loaded.0 ≡ t
      now = ap (λ (e : Entry). e.loaded.0) new

      ordered : (i j : ℕ) → i < length es' → j < length es' → Before later i j → (entry_at es' i).loaded.0 < (entry_at es' j).loaded.0
      ordered i j k l b =
          elim (ℕ_discrete i next) [
            | yes c ↦ absurd (new_last j l (rw (← c) b) on)
            | no c ↦
                elim (ℕ_discrete j next) [
                  | yes d ↦ rw (d, now, (old i k c).1) (r.young i (old i k c).0)
                  | no d ↦ rw ((old i k c).1, (old j l d).1) (r.ordered i j (old i k c).0 (old j l d).0 (was_before i j k l c d b on))
                ]
          ]

      round_fault : Round n (t + 1) later es'
      round_fault =
          record {
            within = ⊎_elim (λ a. omega arith) (λ a. omega (arith, r.within)) on;
            filling = λ h. ⊎_elim (λ a. omega (arith, grown h)) (λ a. absurd (omega (arith, grown h))) on;
            young = λ j k. elim (ℕ_discrete j next) [ yes c ↦ rw (c, now) (omega arith) | no c ↦ rw (old j k c).1 (omega (arith, r.young j (old j k c).0)) ];
            ordered = ordered;
          }

  -- one request
  pub round_steps : (p : ℕ) (sees : Sees) (o : Outcome) (f : ℕ) (es' : List Entry) → Way n t p (chosen Fifo sees es) o f es es' → length es' ≤ n
      → (fault : ℕ) → fault ≡ fault_of o → (later : ℕ) → later ≡ next_after fault next n → Round n (t + 1) later es'
  round_steps p sees o f es' way most fault a later b = rw (b, a) (go way)
    where
      after_fault : fault_of o ≡ 1 → Onward n next (next_after (fault_of o) next n)
      after_fault e = onward n next (fault_of o) r.within e

      serves : Served t p o f es es'
      serves = way_serves n t p (chosen Fifo sees es) o f es es' way

      loaded : fault_of o ≡ 1 → entry_at es' f ≡ loaded_at t p
      loaded e = ⊎_elim (λ w. absurd (omega (arith, ap fault_of w.0))) (λ w. w.1) serves.own

      fault_in : f ≡ next → fault_of o ≡ 1 → (length es' < n → length es' ≡ suc next) → Round n (t + 1) (next_after (fault_of o) next n) es'
      fault_in q e grown =
          round_fault p o es' (subst (λ (k : ℕ). Served t p o k es es') q serves) (ap (entry_at es') (sym q) ∙ loaded e) most grown
          (next_after (fault_of o) next n) (after_fault e)

      go : Way n t p (chosen Fifo sees es) o f es es' → Round n (t + 1) (next_after (fault_of o) next n) es'
      go (inl (e, h, there, is)) = rw (e, is) (round_hit f)
      go (inr (inl (e, h, at, is))) =
          let q : f ≡ next = at ∙ sym (r.filling h) in
          let size : length es' ≡ suc (length es) = ap length is ∙ length_snoc zero_entry es (loaded_at t p) in
          fault_in q (ap fault_of e) (λ l. omega (arith, at, q, size))
      go (inr (inr (e, h, at, l, is))) =
          let q : f ≡ next = at ∙ sym (next_chosen sees h) in
          let size : length es' ≡ length es = ap length is ∙ length-set es f (loaded_at t p) in
          fault_in q e (λ l. absurd (omega (arith, size)))

-- ---- at a moment of the walk

-- in a full cache the policy knows which page goes
pub round_knows : (n : ℕ) (trace : List ℕ) (t next : ℕ) → Round n t next (entries_at Fifo n trace t)
    → (held : List ℕ) → held ≡ held_before Fifo n trace t → n ≤ length held → next ≡ choice_at Fifo n trace t
unfolding choice_at
round_knows n trace t next r held same full =
    let l : length held ≡ length (held_before Fifo n trace t) = ap length same in
    next_chosen n t next (entries_at Fifo n trace t) r (sees_at trace t) (omega (arith, full, size Fifo n trace t))

-- and a request keeps it so
pub round_keeps : (n : ℕ) (trace : List ℕ) (t next : ℕ) → Round n t next (entries_at Fifo n trace t) → Within n trace t
    → (frame : Frame) → frame.0 ≡ seat_at Fifo n trace t → (o : Outcome) → o ≡ told_at Fifo n trace t → (later : ℕ) → later ≡ next_after (fault_of o) next n
    → Round n (t + 1) later (entries_at Fifo n trace (t + 1))
round_keeps n trace t next r x frame is o told later e =
    round_steps n t next (entries_at Fifo n trace t) r _ _ (told_at Fifo n trace t) frame.0 _ (seat_way Fifo n trace t x.some frame is)
    (held_at_most Fifo n trace (t + 1)) (fault_of o) (ap fault_of told) later e
