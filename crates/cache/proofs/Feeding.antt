-- Feed: it keeps a record sound, drops a page that is unique, and feeding a trace from a fresh record gives the walk.
--
-- In order: Feed where nothing is refused, and of a record that is not sound; one request; soundness; the page dropped; feeding a trace.
-- Assumes nothing.
use Rattle.std.specs.Prelude.{Ok, Err}
use mathlib.Core.Path.{◌≡◌, refl, sym, ap, ap₂, ◌∙◌}
use mathlib.Core.Bool.{Bool, true, false}
use mathlib.Core.List.{List, [], ◌∷◌, map}
use Prim.Native.Nat.{ℕ, suc, ◌+◌, ◌-◌, ◌≤◌, ◌<◌}
use native.Mathlib.Numerals.{add-one}
use native.Mathlib.Omega.{arith}
use lib.Dec.{eqb}
use lib.ListN.{length, take, replicate, length-append, length-replicate}
use lib.Seq.{take-append_seam}
use borrow.Author.Tests.{ne_eqb, eqb-false, tests}
use Rattle.paging.specs.Lists.{pick, both, any}
use Rattle.paging.specs.Rules.{mark, between, no_requests, rule_numbered, named, drops}
use Rattle.paging.specs.Walk.{entry_at, next, outcomes, faults_in, plan_in, faults, plan}
use Rattle.paging.specs.Calls.{frame_limit, request_limit, marked, test, gate}
use Rattle.paging.specs.declared.Entry.{Entry}
use Rattle.paging.specs.Refusals.{Gate}
use Rattle.paging.specs.declared.Refusal.{Refusal}
use Rattle.paging.specs.declared.Refusal.TheVariants.{UnsoundRecord, ClockFull}
use Rattle.paging.specs.declared.Rule.TheVariants.{Min}
use Rattle.paging.specs.declared.Outcome.{Outcome}
use Rattle.paging.specs.declared.Outcome.TheVariants as O
use Rattle.paging.proofs.Frames.{next_size}
use Rattle.paging.proofs.Sight.{outcomes_past, outcome_blind, next_blind}
use Rattle.calls.specs.Chain.{and_then}
use Rattle.calls.proofs.Chain.{gate_append}
use Rattle.entries.specs.Blank.{blank_entry}
use Rattle.occupancy.specs.Map.{lowest_only}
use Rattle.occupancy.proofs.Lowest.{map_ones, map_words_lem}
use Rattle.soundness.specs.Sound.{feedable, sound_parts}
use Rattle.soundness.proofs.Orderly.{drops_one}
use Rattle.cache.specs.declared.Cache.{Cache}
use Rattle.cache.specs.declared.Fed.{Fed}
use Rattle.cache.specs.Record.{empty_cache, held_of, held_entries, padded, rule_of, Formed, fresh_of}
use Rattle.cache.specs.Sound.{sound, Sound}
use Rattle.cache.specs.Feed.{Reply, served, feed_tests, fed, feeding, fed_plan, fed_faults}
use Rattle.cache.specs.Lookup.{lookup_tests}
use Rattle.cache.specs.Devices.Step.{outcomes_from}
use Rattle.cache.proofs.Soundness.{sound_is, is_sound, held_length, empty_formed, empty_held, empty_sound, fresh_in_order, fresh_empty}
use Rattle.cache.proofs.Least.{not_min}
use Rattle.cache.proofs.Step.{served_sound}

below : (t : ℕ) → t ≤ request_limit → (t ≡ request_limit → ⊥) → t < request_limit
below t h e = omega arith

-- ---- where nothing is refused

pub fed_open : (c : Cache) (p : ℕ) → sound c ≡ true → (p ≡ mark → ⊥) → (c.clock ≡ request_limit → ⊥)
    → ◌≡◌ {A = Fed} (fed c p) (record { outcome = Ok (served c p).outcome; next = (served c p).next })
unfolding fed
fed_open c p s page clock = rw (s, ne_eqb p mark page, ne_eqb c.clock request_limit clock)

-- 5 and 4, as for any question about a page, then 8
pub gate_on : (c : Cache) (p : ℕ) → gate (feed_tests c p) ≡ and_then (gate (lookup_tests c p)) (pick (eqb c.clock request_limit) (Err ClockFull) (Ok tt))
unfolding gate feed_tests lookup_tests
gate_on c p = gate_append (lookup_tests c p) (test (eqb c.clock request_limit) ClockFull ∷ [])

-- where the gate is open the record is sound, and there is time for a request
-- a gate that refuses nothing is open
pub open_unless : (g : Gate) → ((r : Refusal) → g ≡ Err r → ⊥) → g ≡ Ok tt
open_unless (Ok nothing) other = refl
open_unless (Err r) other = absurd (other r refl)

pub feed_taken : (c : Cache) (p : ℕ) → gate (feed_tests c p) ≡ Ok tt → (sound c ≡ true) × (c.clock < request_limit)
unfolding gate feed_tests
feed_taken c p e =
    let s : sound c ≡ true = grind (arith, tests) in
    let k : c.clock ≤ request_limit = (sound_is c s).parts.clock_most in
    (s, grind (arith, tests))

-- ---- a record that is not sound is refused with 5 and handed back; so is every map with a gap or a stray bit

pub unsound_refused : (c : Cache) (p : ℕ) → sound c ≡ false → ◌≡◌ {A = Fed} (fed c p) (record { outcome = Err UnsoundRecord; next = c })
unfolding fed
unsound_refused c p s = rw s

pub stray_refused : (c : Cache) (p : ℕ) → lowest_only c.map ≡ false → ◌≡◌ {A = Fed} (fed c p) (record { outcome = Err UnsoundRecord; next = c })
unfolding sound
stray_refused c p l =
    unsound_refused c p (ap (λ (b : Bool). both b (sound_parts c.rule c.frames c.clock (held_of c) c.entries)) l)

-- ---- one request

-- the entries in use after a request are those of the walk, and the record has its form
module _ (c : Cache) (p : ℕ) (formed : Formed c) (s : Sound c) where
  abbrev after : List Entry
  after = next (rule_of c) c.frames c.clock p no_requests (held_entries c)

  after_few : length after ≤ frame_limit
  after_few =
      omega (
        arith,
        next_size (rule_of c) c.frames c.clock p no_requests (held_entries c) (omega (arith, held_length c formed s, s.parts.held_frames)),
        s.parts.frames_most,
      )

  served_held : held_entries (served c p).next ≡ after
  unfolding served
  served_held = ap (λ (k : ℕ). take k (padded after)) (map_ones (length after) after_few) ∙ take-append_seam after _

  pub served_formed : Formed (served c p).next
  unfolding served
  served_formed =
      record {
        all_entries = omega (arith, length-append after (replicate (frame_limit - length after) blank_entry), length-replicate (frame_limit - length after) blank_entry, after_few);
        map_words_lem = map_words_lem (length after);
      }

-- ---- FEED KEEPS A RECORD SOUND

pub fed_sound : (c : Cache) (p : ℕ) → Formed c → sound c ≡ true → sound (fed c p).next ≡ true
unfolding fed
fed_sound c p formed s = go (eqb p mark) (eqb c.clock request_limit) refl refl
  where
    go : (a b : Bool) → eqb p mark ≡ a → eqb c.clock request_limit ≡ b → sound (fed c p).next ≡ true
    go true b q r = rw (s, q) s
    go false true q r = rw (s, q, r) s
    go false false q r =
        let k : Sound c = sound_is c s in
        rw (s, q, r) (is_sound _ (served_sound c p formed k (below c.clock k.parts.clock_most (eqb-false _ _ r)) (eqb-false _ _ q)))

-- ---- THE PAGE DROPPED IS UNIQUE, on a sound record: only one entry fits the rule's description

pub dropped_one : (c : Cache) → Formed c → sound c ≡ true → (i j : ℕ) → i < held_of c → j < held_of c
    → drops (rule_of c) no_requests (held_entries c) (entry_at (held_entries c) i) ≡ true
    → drops (rule_of c) no_requests (held_entries c) (entry_at (held_entries c) j) ≡ true → i ≡ j
dropped_one c formed s i j h k =
    let w : Sound c = sound_is c s in
    drops_one c.clock (held_entries c) w.parts.orderly (rule_of c) no_requests (not_min c.rule w.parts.feeds) i j
    (omega (arith, held_length c formed w)) (omega (arith, held_length c formed w))

-- ---- FEEDING A TRACE

unmarked_cons : (p : ℕ) (ps : List ℕ) → marked (p ∷ ps) ≡ false → (p ≡ mark → ⊥) × (marked ps ≡ false)
unfolding marked any
unmarked_cons p ps m = (grind (arith, tests), grind (arith, tests))

-- one request, then the rest
outcomes_step : (c : Cache) (p : ℕ) (ps : List ℕ) → Formed c → Sound c → outcomes_from c (p ∷ ps) ≡ (served c p).outcome ∷ outcomes_from (served c p).next ps
unfolding served outcomes
outcomes_step c p ps formed s =
    let fed : rule_of c ≡ Min → ⊥ = not_min c.rule s.parts.feeds in
    let es : List Entry = held_entries c in
    ap₂ (λ (o : Outcome) (os : List Outcome). o ∷ os) (outcome_blind (rule_of c) fed (between [] ps) no_requests es c.frames p)
    (outcomes_past (rule_of c) c.frames (suc c.clock) (p ∷ []) [] ps (next (rule_of c) c.frames c.clock p (between [] ps) es)
    ∙ ap₂ (λ (t : ℕ) (new : List Entry). outcomes (rule_of c) c.frames t [] ps new) (sym (add-one c.clock))
    (next_blind (rule_of c) fed (between [] ps) no_requests es c.frames c.clock p ∙ sym (served_held c p formed s)))

-- a record that can be fed these requests without a refusal
record Fits (c : Cache) (ps : List ℕ) : Type 0 where
  sound_now : Sound c
  formed_now : Formed c
  time_left : c.clock + length ps ≤ request_limit
  no_mark : marked ps ≡ false

fits_first : (c : Cache) (ps : List ℕ) → Formed c → (sound c ≡ true) → (c.clock + length ps ≤ request_limit) → (marked ps ≡ false) → Fits c ps
fits_first c ps l s h m = record { sound_now = sound_is c s; formed_now = l; time_left = h; no_mark = m }

fits_next : (c : Cache) (p : ℕ) (ps : List ℕ) → Fits c (p ∷ ps) → (p ≡ mark → ⊥) × Fits (served c p).next ps
fits_next c p ps f =
    let (page, rest) = unmarked_cons p ps f.no_mark in (
      page,
      record {
        sound_now = served_sound c p f.formed_now f.sound_now (omega (arith, f.time_left)) page;
        formed_now = served_formed c p f.formed_now f.sound_now;
        time_left = later c p ps f.time_left;
        no_mark = rest;
      },
    )
  where
    later : (c : Cache) (p : ℕ) (ps : List ℕ) → c.clock + length (p ∷ ps) ≤ request_limit → (served c p).next.clock + length ps ≤ request_limit
    later c p ps h = unfold served in omega arith

-- the replies are the outcomes of the walk from its entries
feeding_walks : (ps : List ℕ) (c : Cache) → Fits c ps → feeding c ps ≡ map Ok (outcomes_from c ps)
unfolding feeding outcomes
feeding_walks [] c f = refl
feeding_walks (p ∷ ps) c f =
    let (page, g) = fits_next c p ps f in
    let full : c.clock ≡ request_limit → ⊥ = λ x. omega (arith, f.time_left) in
    rw (fed_open c p (is_sound c f.sound_now) page full) (ap (λ (rs : List Reply). Ok (served c p).outcome ∷ rs) (feeding_walks ps (served c p).next g))
    ∙ ap (map Ok) (sym (outcomes_step c p ps f.formed_now f.sound_now))

plan_of_replies : (os : List Outcome) → fed_plan (map Ok os) ≡ plan_in os
unfolding fed_plan plan_in
plan_of_replies [] = refl
plan_of_replies (O.Hit ∷ os) = rw (plan_of_replies os)
plan_of_replies (O.Loaded ∷ os) = rw (plan_of_replies os)
plan_of_replies (O.Dropped p ∷ os) = rw (plan_of_replies os)

faults_of_replies : (os : List Outcome) → fed_faults (map Ok os) ≡ faults_in os
unfolding fed_faults faults_in
faults_of_replies [] = refl
faults_of_replies (O.Hit ∷ os) = rw (faults_of_replies os)
faults_of_replies (O.Loaded ∷ os) = rw (faults_of_replies os)
faults_of_replies (O.Dropped p ∷ os) = rw (faults_of_replies os)

-- rule 1, 2 or 4 by its number, 1 to 256 frames, up to 8,000 requests without the mark
module _ (rule n : ℕ) (trace : List ℕ) (feeds : feedable rule ≡ true) (some : 1 ≤ n) (most : n ≤ frame_limit) (short : length trace ≤ request_limit) (clean : marked trace ≡ false) where
  -- the replies are the walk's outcomes
  pub feeding_gives_the_walk : feeding (empty_cache rule n) trace ≡ map Ok (outcomes (named (rule_numbered rule)) n 0 [] trace [])
  feeding_gives_the_walk =
      feeding_walks trace (empty_cache rule n)
      (fits_first (empty_cache rule n) trace (empty_formed rule n) (is_sound (empty_cache rule n) (empty_sound rule n feeds some most)) (omega arith) clean)
      ∙ ap (λ (es : List Entry). map Ok (outcomes (named (rule_numbered rule)) n 0 [] trace es)) (empty_held rule n)

  -- so they give the rule's plan
  pub feeding_gives_the_plan : fed_plan (feeding (empty_cache rule n) trace) ≡ plan (named (rule_numbered rule)) n trace
  unfolding plan
  feeding_gives_the_plan = ap fed_plan feeding_gives_the_walk ∙ plan_of_replies (outcomes (named (rule_numbered rule)) n 0 [] trace [])

  -- and its count
  pub feeding_gives_the_count : fed_faults (feeding (empty_cache rule n) trace) ≡ faults (named (rule_numbered rule)) n trace
  unfolding faults
  feeding_gives_the_count = ap fed_faults feeding_gives_the_walk ∙ faults_of_replies (outcomes (named (rule_numbered rule)) n 0 [] trace [])

-- THE SAME FROM FRESH: where its gate is open, up to 8,000 requests without the mark
module _ (rule n : ℕ) (trace : List ℕ) (opens : (fresh_of rule n).gate ≡ Ok tt) (short : length trace ≤ request_limit) (clean : marked trace ≡ false) where
  pub fresh_gives_the_walk : feeding (fresh_of rule n).cache trace ≡ map Ok (outcomes (named (rule_numbered rule)) n 0 [] trace [])
  fresh_gives_the_walk = let (f, h, k) = fresh_in_order rule n opens in rw (fresh_empty rule n opens) (feeding_gives_the_walk rule n trace f h k short clean)

  pub fresh_gives_the_plan : fed_plan (feeding (fresh_of rule n).cache trace) ≡ plan (named (rule_numbered rule)) n trace
  fresh_gives_the_plan = let (f, h, k) = fresh_in_order rule n opens in rw (fresh_empty rule n opens) (feeding_gives_the_plan rule n trace f h k short clean)

  pub fresh_gives_the_count : fed_faults (feeding (fresh_of rule n).cache trace) ≡ faults (named (rule_numbered rule)) n trace
  fresh_gives_the_count = let (f, h, k) = fresh_in_order rule n opens in rw (fresh_empty rule n opens) (feeding_gives_the_count rule n trace f h k short clean)
