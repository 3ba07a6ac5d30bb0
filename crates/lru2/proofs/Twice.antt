-- LRU-2 by two hands over the moments: in a full cache the frame served where the one or the other stops is the one chosen, and one request keeps it so.
--
-- In order: what the walk keeps; what is chosen, with pages requested once and without; the hands; one request.
-- Assumes nothing.
use mathlib.Core.Path.{◌≡◌, refl, sym, ap, ◌∙◌}
use mathlib.Core.Logic.{⊎_elim}
use mathlib.Core.Bool.{Bool, true, false}
use mathlib.Core.List.{List, []}
use Prim.Native.Nat.{ℕ, ◌+◌, ◌-◌, ◌≤◌, ◌<◌}
use native.Mathlib.Omega.{arith}
use native.Mathlib.Decide.{ℕ_discrete, dec_lt}
use lib.Dec.{leb}
use lib.ListN.{length, get_or, set, replicate, length-set, length-replicate, get_or-replicate}
use lib.Seq.{get_or-set_same, get_or-set_other}
use borrow.Author.Tests.{lt-ltb, le-ltb, ne_eqb}
use Rattle.paging.specs.Lists.{pick, both, implies, any, all, index_of}
use Rattle.paging.specs.Rules.{mark, Sees, once, lru2_drops, drops, chosen}
use Rattle.paging.specs.Walk.{zero_entry, entry_at, loaded_at, renewed, fault_of, sees_at, entries_at}
use Rattle.paging.specs.Calls.{frame_limit, request_limit}
use Rattle.paging.specs.declared.Entry.{Entry}
use Rattle.paging.specs.declared.Rule.TheVariants.{Lru2}
use Rattle.paging.specs.declared.Outcome.{Outcome}
use Rattle.paging.specs.declared.Outcome.TheVariants.{Hit}
use Rattle.paging.proofs.Lists.{true≢false, bool_cases, at_any, at_none, index_same}
use Rattle.paging.proofs.Choice.{least_index}
use Rattle.paging.specs.declared.Frame.{Frame}
use Rattle.walks.specs.Hands.{stops, first_from}
use Rattle.walks.specs.Tied.{held_before, choice_at, seat_at, told_at, Within}
use Rattle.walks.proofs.Hands.{Stopped, stopped, hand_moves, hand_stops, hand_least, hand_served, below_served}
use Rattle.walks.proofs.Walking.{Served, size, seat_low, seat_serves}
use Rattle.lru2.specs.Twice.{Twice}
use Rattle.lru2.specs.Devices.{hand_of, earlier_for}

pub twice_starts : Twice 0 0 0 [] (replicate frame_limit 0) (replicate frame_limit 0) (replicate request_limit 0)
twice_starts =
    record {
      frames = length-replicate {A = ℕ} frame_limit 0;
      pasts = length-replicate {A = ℕ} frame_limit 0;
      moments = length-replicate {A = ℕ} request_limit 0;
      lasts = λ f h. absurd (omega arith);
      only = λ f h. absurd (omega arith);
      again = λ f h. absurd (omega arith);
      bytes = λ k h. rw (get_or-replicate {A = ℕ} request_limit k 0 0 h) (omega arith);
      used = λ k h. absurd (omega arith);
      over_last = record { onward = omega arith; past = λ f h. absurd (omega arith); by = λ f h. absurd (omega arith); behind = λ f h. absurd (omega arith) };
      over_earlier = record { onward = omega arith; past = λ f h. absurd (omega arith); by = λ f h. absurd (omega arith); behind = λ f h. absurd (omega arith) };
    }

-- where the hands stop
module _ (t first second : ℕ) (es : List Entry) (last earlier served : List ℕ) (x : Twice t first second es last earlier served) (early : t < request_limit) where
  pub twice_stops : (at : ℕ) → at ≡ first_from (stops last earlier served) first (t - first) → Stopped first t at last earlier served
  twice_stops at e =
      stopped first t last earlier served frame_limit x.over_last.onward (omega (arith, x.moments)) x.frames x.pasts (λ k h. x.bytes k (omega arith)) at e

  pub twice_stops₂ : (at : ℕ) → at ≡ first_from (stops earlier earlier served) second (t - second) → Stopped second t at earlier earlier served
  twice_stops₂ at e =
      stopped second t earlier earlier served frame_limit x.over_earlier.onward (omega (arith, x.moments)) x.pasts x.pasts (λ k h. x.bytes k (omega arith)) at e

-- ---- what is chosen

-- the two halves of the rule
abbrev seldom : List Entry → Entry → Bool
seldom es e = both (once e) (all (λ (d : Entry). implies (once d) (leb e.last.0 d.last.0)) es)

abbrev often : List Entry → Entry → Bool
often es e = all (λ (d : Entry). leb e.earlier.0 d.earlier.0) es

chosen_by : (sees : Sees) (es : List Entry) (b : Bool) → any once es ≡ b → chosen Lru2 sees es ≡ index_of (λ (e : Entry). pick b (seldom es e) (often es e)) es
unfolding chosen drops lru2_drops
chosen_by sees es b q = index_same (lru2_drops es) (λ (e : Entry). pick b (seldom es e) (often es e)) (λ e. ap (λ (a : Bool). pick a (seldom es e) (often es e)) q) es

-- ---- the hands

module _
    (t first second : ℕ) (es : List Entry) (last earlier served : List ℕ) (x : Twice t first second es last earlier served)
    (at : ℕ) (s : Stopped first t at last earlier served) (at₂ : ℕ) (s₂ : Stopped second t at₂ earlier earlier served)
  where
    -- the hands where they stop
    pub twice_moves : Twice t at at₂ es last earlier served
    twice_moves =
        record {
          frames = x.frames;
          pasts = x.pasts;
          moments = x.moments;
          lasts = x.lasts;
          only = x.only;
          again = x.again;
          bytes = x.bytes;
          used = x.used;
          over_last = hand_moves t first (length es) last earlier served x.over_last at s;
          over_earlier = hand_moves t second (length es) earlier earlier served x.over_earlier at₂ s₂;
        }

    -- the first hand stopped: at the only request of a page
    module _ (early : at < t) where
      abbrev f : ℕ
      f = get_or served at 0

      there : f < length es
      there = x.used at early

      single : once (entry_at es f) ≡ true
      single = ⊎_elim (λ e. e) (λ e. absurd (omega (arith, (s.here early).0, (s.here early).1, (x.again f there e).1))) (bool_cases (once (entry_at es f)))

      by_first : (sees : Sees) → f ≡ chosen Lru2 sees es
      by_first sees =
          sym
          (chosen_by sees es true (at_any once zero_entry es f there single)
          ∙ least_index once (λ (e : Entry). e.last.0) es f there single
          (λ j h g d.
          rw (← x.lasts j h, ← x.lasts f there, (s.here early).0)
          (hand_least t first (length es) last earlier served x.over_last at s j h (x.only j h g) d)))

    -- it stopped nowhere: every page was requested again
    module _ (none : t ≤ at) (some : 0 < length es) where
      twice : (j : ℕ) → j < length es → once (entry_at es j) ≡ false
      twice j h =
          ⊎_elim (λ e. absurd (omega (arith, hand_stops t first (length es) last earlier served x.over_last at s j h (x.only j h e)))) (λ e. e)
          (bool_cases (once (entry_at es j)))

      early₂ : at₂ < t
      early₂ = hand_stops t second (length es) earlier earlier served x.over_earlier at₂ s₂ 0 some refl

      abbrev f₂ : ℕ
      f₂ = get_or served at₂ 0

      there₂ : f₂ < length es
      there₂ = x.used at₂ early₂

      by_second : (sees : Sees) → f₂ ≡ chosen Lru2 sees es
      by_second sees =
          sym
          (chosen_by sees es false (at_none once zero_entry es (λ j h e. true≢false (sym e ∙ twice j h)))
          ∙ least_index (λ (e : Entry). true) (λ (e : Entry). e.earlier.0) es f₂ there₂ refl
          (λ j h g d.
          rw (← (x.again j h (twice j h)).0, ← (x.again f₂ there₂ (twice f₂ there₂)).0, (s₂.here early₂).0)
          (hand_least t second (length es) earlier earlier served x.over_earlier at₂ s₂ j h refl d)))

    -- THE FRAME SERVED AT THE HAND THAT COUNTS IS THE ONE CHOSEN
    pub hand_chosen : (hand : ℕ) → hand ≡ hand_of at at₂ t → (sees : Sees) → 0 < length es → get_or served hand 0 ≡ chosen Lru2 sees es
    hand_chosen hand e sees some =
        elim (dec_lt at t) [
          | yes h ↦ rw (e, lt-ltb at t h) (by_first h sees)
          | no h ↦ let k : t ≤ at = omega arith in rw (e, le-ltb at t k) (by_second k some sees)
        ]

-- either hand stops by the end
pub hand_inside : (at at₂ t : ℕ) → at₂ ≤ t → (hand : ℕ) → hand ≡ hand_of at at₂ t → hand ≤ t
hand_inside at at₂ t h hand e =
    elim (dec_lt at t) [
      | yes k ↦ rw (e, lt-ltb at t k) (omega arith)
      | no k ↦ rw (e, le-ltb at t (let l : t ≤ at = omega arith in l)) h
    ]

-- ---- one request, with its page in frame f then

module _
    (t first second : ℕ) (es : List Entry) (last earlier served : List ℕ) (x : Twice t first second es last earlier served) (early : t < request_limit)
    (p : ℕ) (o : Outcome) (f : ℕ) (es' : List Entry) (s : Served t p o f es es') (small : f < frame_limit)
  where
    soon : t < length served
    soon = rw x.moments early

    inside : f < length last
    inside = rw x.frames small

    inside₂ : f < length earlier
    inside₂ = rw x.pasts small

    -- m is the moment before the last: of a page requested once it is now; else an earlier one, at which the frame was served
    module _
        (m : ℕ)
        (one : once (entry_at es' f) ≡ true → m ≡ t)
        (two : once (entry_at es' f) ≡ false → (m ≡ (entry_at es' f).earlier.0) × (m < t))
        (most : m ≤ t) (there : get_or (set served t f) m 0 ≡ f) (back : second ≤ m) (now : (entry_at es' f).last.0 ≡ t)
      where
        own : get_or (set last f t) f 0 ≡ t
        own = get_or-set_same last f t 0 inside

        own₂ : get_or (set earlier f m) f 0 ≡ m
        own₂ = get_or-set_same earlier f m 0 inside₂

        other : (j : ℕ) → (j ≡ f → ⊥) → get_or (set last f t) j 0 ≡ get_or last j 0
        other j d = get_or-set_other last f j t 0 d

        other₂ : (j : ℕ) → (j ≡ f → ⊥) → get_or (set earlier f m) j 0 ≡ get_or earlier j 0
        other₂ j d = get_or-set_other earlier f j m 0 d

        stamped : Twice (t + 1) first second es' (set last f t) (set earlier f m) (set served t f)
        stamped =
            record {
              frames = length-set last f t ∙ x.frames;
              pasts = length-set earlier f m ∙ x.pasts;
              moments = length-set served t f ∙ x.moments;
              lasts = λ j h. elim (ℕ_discrete j f) [
                | yes e ↦ rw (e, own) (sym now)
                | no e ↦ rw (other j e, (s.others j h e).1) (x.lasts j (s.others j h e).0)
              ];
              only = λ j h. elim (ℕ_discrete j f) [
                | yes e ↦ rw (e, own, own₂) (λ q. sym (one q))
                | no e ↦ rw (other j e, other₂ j e, (s.others j h e).1) (x.only j (s.others j h e).0)
              ];
              again = λ j h. elim (ℕ_discrete j f) [
                | yes e ↦ rw (e, own, own₂) two
                | no e ↦ rw (other j e, other₂ j e, (s.others j h e).1) (x.again j (s.others j h e).0)
              ];
              bytes = λ k h. below_served t f frame_limit frame_limit served soon small (omega arith) k (λ e. x.bytes k h);
              used = λ k h. below_served t f (length es) (length es') served soon s.inside s.grows k (λ e. x.used k (omega arith));
              over_last =
                  hand_served t first (length es) last earlier served x.over_last f t (length es') (set earlier f m) soon inside (omega arith)
                  (get_or-set_same served t f 0 soon) (λ e. x.over_last.onward) (λ j h d. ((s.others j h d).0, other₂ j d));
              over_earlier =
                  hand_served t second (length es) earlier earlier served x.over_earlier f m (length es') (set earlier f m) soon inside₂ most there
                  (λ e. back) (λ j h d. ((s.others j h d).0, other₂ j d));
            }

    pub twice_steps : (fault : ℕ) → fault ≡ fault_of o → (m : ℕ) → m ≡ earlier_for fault (get_or last f 0) t
        → Twice (t + 1) first second es' (set last f t) (set earlier f m) (set served t f)
    twice_steps fault a m b = ⊎_elim hit loaded s.own
      where
        hit : (o ≡ Hit) × (f < length es) × (entry_at es' f ≡ renewed t (entry_at es f)) → Twice (t + 1) first second es' (set last f t) (set earlier f m) (set served t f)
        hit (e, h, is) =
            let q : m ≡ get_or last f 0 = b ∙ rw (a, e) refl in
            let l : get_or last f 0 < t = x.over_last.past f h in
            let seldom : once (entry_at es' f) ≡ false = rw (is, ← x.lasts f h) (ne_eqb (get_or last f 0) mark (λ z. omega arith)) in
            stamped m
            (λ z. absurd (true≢false (sym z ∙ seldom)))
            (λ z. (q ∙ x.lasts f h ∙ ap (λ (d : Entry). d.earlier.0) (sym is), omega arith))
            (omega arith)
            (rw q (get_or-set_other served t (get_or last f 0) f 0 (λ z. omega arith) ∙ x.over_last.by f h))
            (rw q (reaches h))
            (ap (λ (d : Entry). d.last.0) is)
          where
            -- the second hand is behind the last moments too
            reaches : f < length es → second ≤ get_or last f 0
            reaches h =
                ⊎_elim (λ z. omega (arith, x.only f h z, x.over_earlier.behind f h refl)) (λ z. omega (arith, (x.again f h z).1, x.over_earlier.behind f h refl))
                (bool_cases (once (entry_at es f)))

        loaded : (fault_of o ≡ 1) × (entry_at es' f ≡ loaded_at t p) → Twice (t + 1) first second es' (set last f t) (set earlier f m) (set served t f)
        loaded (e, is) =
            let q : m ≡ t = b ∙ rw (a, e) refl in
            stamped m
            (λ z. q)
            (λ z. absurd (true≢false (ap once (sym is) ∙ z)))
            (omega arith)
            (rw q (get_or-set_same served t f 0 soon))
            (omega (arith, x.over_earlier.onward))
            (ap (λ (d : Entry). d.last.0) is)

-- in a full cache the policy knows which page goes
pub twice_knows : (n : ℕ) (trace : List ℕ) (t first second : ℕ) (held last earlier served : List ℕ)
    → held ≡ held_before Lru2 n trace t → Twice t first second (entries_at Lru2 n trace t) last earlier served → 1 ≤ n
    → (at : ℕ) → Stopped first t at last earlier served → (at₂ : ℕ) → Stopped second t at₂ earlier earlier served → (hand : ℕ) → hand ≡ hand_of at at₂ t
    → n ≤ length held → get_or served hand 0 ≡ choice_at Lru2 n trace t
unfolding choice_at
twice_knows n trace t first second held last earlier served same w some at s at₂ s₂ hand is full =
    let k : length held ≡ length (held_before Lru2 n trace t) = ap length same in
    hand_chosen t first second (entries_at Lru2 n trace t) last earlier served w at s at₂ s₂ hand is (sees_at trace t)
    (omega (arith, full, k, size Lru2 n trace t, some))

-- ---- at a moment of the walk

module _
    (n : ℕ) (trace : List ℕ) (t first second : ℕ) (last earlier served : List ℕ)
    (w : Twice t first second (entries_at Lru2 n trace t) last earlier served) (x : Within n trace t)
  where
    soon_lem : t < request_limit
    soon_lem = omega (arith, x.inside, x.requests)

    -- the hands stop at moments of the trace
    module _
        (at : ℕ) (e : at ≡ first_from (stops last earlier served) first (t - first))
        (at₂ : ℕ) (e₂ : at₂ ≡ first_from (stops earlier earlier served) second (t - second))
      where
        stop : Stopped first t at last earlier served
        stop = twice_stops t first second (entries_at Lru2 n trace t) last earlier served w soon_lem at e

        stop₂ : Stopped second t at₂ earlier earlier served
        stop₂ = twice_stops₂ t first second (entries_at Lru2 n trace t) last earlier served w soon_lem at₂ e₂

        pub twice_inside : (hand : ℕ) → hand ≡ hand_of at at₂ t → hand < request_limit
        twice_inside hand is = omega (arith, hand_inside at at₂ t stop₂.inside hand is, soon_lem)

        pub twice_goes : (held : List ℕ) → held ≡ held_before Lru2 n trace t → n ≤ length held → (hand : ℕ) → hand ≡ hand_of at at₂ t
            → get_or served hand 0 ≡ choice_at Lru2 n trace t
        twice_goes held same full hand is =
            twice_knows n trace t first second held last earlier served same w x.some at stop at₂ stop₂ hand is full

        pub twice_moved : Twice t at at₂ (entries_at Lru2 n trace t) last earlier served
        twice_moved = twice_moves t first second (entries_at Lru2 n trace t) last earlier served w at stop at₂ stop₂

    -- and a request keeps it so
    module _ (frame : Frame) (is : frame.0 ≡ seat_at Lru2 n trace t) where
      pub twice_low : frame.0 < frame_limit
      twice_low = omega (arith, seat_low Lru2 n trace t x.some frame is, x.frames)

      pub twice_keeps : (o : Outcome) → o ≡ told_at Lru2 n trace t → (m : ℕ) → m ≡ earlier_for (fault_of o) (get_or last frame.0 0) t
          → Twice (t + 1) first second (entries_at Lru2 n trace (t + 1)) (set last frame.0 t) (set earlier frame.0 m) (set served t frame.0)
      twice_keeps o told m e =
          twice_steps t first second (entries_at Lru2 n trace t) last earlier served w soon_lem _ (told_at Lru2 n trace t) frame.0 _
          (seat_serves Lru2 n trace t x.some frame is) twice_low (fault_of o) (ap fault_of told) m e
