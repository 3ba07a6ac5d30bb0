-- LRU by a hand over the moments: in a full cache the frame served where it stops is the one chosen, and one request keeps it so.
-- Assumes nothing.
use mathlib.Core.Path.{◌≡◌, refl, sym, ap, ◌∙◌}
use mathlib.Core.Logic.{⊎_elim}
use mathlib.Core.Bool.{true}
use mathlib.Core.List.{List, []}
use Prim.Native.Nat.{ℕ, ◌+◌, ◌-◌, ◌≤◌, ◌<◌}
use native.Mathlib.Omega.{arith}
use native.Mathlib.Decide.{ℕ_discrete}
use lib.ListN.{length, get_or, set, replicate, length-set, length-replicate, get_or-replicate}
use lib.Seq.{get_or-set_same, get_or-set_other}
use Rattle.paging.specs.Rules.{Sees, lru_drops, drops, chosen}
use Rattle.paging.specs.Walk.{entry_at, sees_at, entries_at}
use Rattle.paging.specs.Calls.{frame_limit, request_limit}
use Rattle.paging.specs.declared.Entry.{Entry}
use Rattle.paging.specs.declared.Rule.TheVariants.{Lru}
use Rattle.paging.specs.declared.Outcome.{Outcome}
use Rattle.paging.proofs.Choice.{least_index}
use Rattle.paging.specs.declared.Frame.{Frame}
use Rattle.walks.specs.Hands.{stops, first_from}
use Rattle.walks.specs.Tied.{held_before, choice_at, seat_at, told_at, Within}
use Rattle.walks.proofs.Hands.{Stopped, stopped, hand_moves, hand_stops, hand_least, hand_served, below_served}
use Rattle.walks.proofs.Walking.{Served, size, seat_low, seat_serves}
use Rattle.lru1.specs.Lasts.{Lasts}

pub lasts_start : Lasts 0 0 [] (replicate frame_limit 0) (replicate request_limit 0)
lasts_start =
    record {
      frames = length-replicate {A = ℕ} frame_limit 0;
      moments = length-replicate {A = ℕ} request_limit 0;
      lasts = λ f h. absurd (omega arith);
      bytes = λ k h. rw (get_or-replicate {A = ℕ} request_limit k 0 0 h) (omega arith);
      used = λ k h. absurd (omega arith);
      over = record { onward = omega arith; past = λ f h. absurd (omega arith); by = λ f h. absurd (omega arith); behind = λ f h. absurd (omega arith) };
    }

-- where the hand stops
pub lasts_stop : (t hand : ℕ) (es : List Entry) (last served : List ℕ) → Lasts t hand es last served → t < request_limit
    → (at : ℕ) → at ≡ first_from (stops last last served) hand (t - hand) → Stopped hand t at last last served
lasts_stop t hand es last served x early at e =
    stopped hand t last last served frame_limit x.over.onward (omega (arith, x.moments)) x.frames x.frames (λ k h. x.bytes k (omega arith)) at e

module _ (t hand : ℕ) (es : List Entry) (last served : List ℕ) (x : Lasts t hand es last served) (at : ℕ) (s : Stopped hand t at last last served) where
  -- the hand where it stops
  pub lasts_move : Lasts t at es last served
  lasts_move =
      record {
        frames = x.frames;
        moments = x.moments;
        lasts = x.lasts;
        bytes = x.bytes;
        used = x.used;
        over = hand_moves t hand (length es) last last served x.over at s;
      }

  -- THE FRAME SERVED THERE IS THE ONE CHOSEN
  pub hand_chosen : (sees : Sees) → 0 < length es → get_or served at 0 ≡ chosen Lru sees es
  unfolding chosen drops lru_drops
  hand_chosen sees some =
      let early : at < t = hand_stops t hand (length es) last last served x.over at s 0 some refl in
      let there : get_or served at 0 < length es = x.used at early in
      sym
      (least_index (λ (e : Entry). true) (λ (e : Entry). e.last.0) es (get_or served at 0) there refl
      (λ j h g d.
      rw (← x.lasts j h, ← x.lasts (get_or served at 0) there, (s.here early).0)
      (hand_least t hand (length es) last last served x.over at s j h refl d)))

-- one request, with its page in frame f then
pub lasts_step : (t hand : ℕ) (es : List Entry) (last served : List ℕ) → Lasts t hand es last served → t < request_limit
    → (p : ℕ) (o : Outcome) (f : ℕ) (es' : List Entry) → Served t p o f es es' → f < frame_limit → Lasts (t + 1) hand es' (set last f t) (set served t f)
lasts_step t hand es last served x early p o f es' s small =
    record {
      frames = length-set last f t ∙ x.frames;
      moments = length-set served t f ∙ x.moments;
      lasts = λ j h. elim (ℕ_discrete j f) [
        | yes e ↦ rw e (own ∙ sym now)
        | no e ↦ other j e ∙ x.lasts j (s.others j h e).0 ∙ ap (λ (d : Entry). d.last.0) (sym (s.others j h e).1)
      ];
      bytes = λ k h. below_served t f frame_limit frame_limit served soon small (omega arith) k (λ e. x.bytes k h);
      used = λ k h. below_served t f (length es) (length es') served soon s.inside s.grows k (λ e. x.used k (omega arith));
      over =
          hand_served t hand (length es) last last served x.over f t (length es') (set last f t) soon inside (omega arith)
          (get_or-set_same served t f 0 soon) (λ e. x.over.onward) (λ j h d. ((s.others j h d).0, other j d));
    }
  where
    soon : t < length served
    soon = rw x.moments early

    inside : f < length last
    inside = rw x.frames small

    own : get_or (set last f t) f 0 ≡ t
    own = get_or-set_same last f t 0 inside

    other : (j : ℕ) → (j ≡ f → ⊥) → get_or (set last f t) j 0 ≡ get_or last j 0
    other j d = get_or-set_other last f j t 0 d

    -- a request is the last of its page, whether it is a hit or not
    now : (entry_at es' f).last.0 ≡ t
    now = ⊎_elim (λ w. ap (λ (d : Entry). d.last.0) w.2) (λ w. ap (λ (d : Entry). d.last.0) w.1) s.own

-- in a full cache the policy knows which page goes
pub lasts_know : (n : ℕ) (trace : List ℕ) (t hand : ℕ) (held last served : List ℕ)
    → held ≡ held_before Lru n trace t → Lasts t hand (entries_at Lru n trace t) last served → 1 ≤ n → (at : ℕ) → Stopped hand t at last last served
    → n ≤ length held → get_or served at 0 ≡ choice_at Lru n trace t
unfolding choice_at
lasts_know n trace t hand held last served same l some at s full =
    let k : length held ≡ length (held_before Lru n trace t) = ap length same in
    hand_chosen t hand (entries_at Lru n trace t) last served l at s (sees_at trace t) (omega (arith, full, k, size Lru n trace t, some))

-- ---- at a moment of the walk

module _ (n : ℕ) (trace : List ℕ) (t hand : ℕ) (last served : List ℕ) (l : Lasts t hand (entries_at Lru n trace t) last served) (x : Within n trace t) where
  soon : t < request_limit
  soon = omega (arith, x.inside, x.requests)

  stop : (at : ℕ) → at ≡ first_from (stops last last served) hand (t - hand) → Stopped hand t at last last served
  stop at e = lasts_stop t hand (entries_at Lru n trace t) last served l soon at e

  -- the hand stops at a moment of the trace
  pub lasts_inside : (at : ℕ) → at ≡ first_from (stops last last served) hand (t - hand) → at < request_limit
  lasts_inside at e = omega (arith, (stop at e).inside, soon)

  pub lasts_goes : (held : List ℕ) → held ≡ held_before Lru n trace t → n ≤ length held
      → (at : ℕ) → at ≡ first_from (stops last last served) hand (t - hand) → get_or served at 0 ≡ choice_at Lru n trace t
  lasts_goes held same full at e = lasts_know n trace t hand held last served same l x.some at (stop at e) full

  pub lasts_moved : (at : ℕ) → at ≡ first_from (stops last last served) hand (t - hand) → Lasts t at (entries_at Lru n trace t) last served
  lasts_moved at e = lasts_move t hand (entries_at Lru n trace t) last served l at (stop at e)

  -- and a request keeps it so
  module _ (frame : Frame) (is : frame.0 ≡ seat_at Lru n trace t) where
    pub lasts_low : frame.0 < frame_limit
    lasts_low = omega (arith, seat_low Lru n trace t x.some frame is, x.frames)

    pub lasts_keep : Lasts (t + 1) hand (entries_at Lru n trace (t + 1)) (set last frame.0 t) (set served t frame.0)
    lasts_keep =
        lasts_step t hand (entries_at Lru n trace t) last served l soon _ (told_at Lru n trace t) frame.0 _ (seat_serves Lru n trace t x.some frame is) lasts_low
