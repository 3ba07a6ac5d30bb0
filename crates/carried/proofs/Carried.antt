-- EVERY ANSWER IS THE ONE THE OLD RECORD GAVE.
--
-- In order: each old record and its new one; soundness; Fresh and the blank record; Feed; any list of requests; numbers beyond the map; the answers of the services.
-- Assumes nothing.
use Rattle.std.specs.Prelude.{Ok, Err}
use mathlib.Core.Path.{◌≡◌, refl, sym, ap, ap₂, ◌∙◌, subst}
use mathlib.Core.Logic.{◌↔◌}
use mathlib.Core.Bool.{Bool, true, false}
use mathlib.Core.List.{List, [], ◌∷◌}
use Prim.Native.Nat.{ℕ, ◌<◌}
use native.Mathlib.Omega.{arith}
use lib.ListN.{length, take, drop, length-take}
use Rattle.paging.specs.Lists.{not, both}
use Rattle.paging.specs.Refusals.{gate_numbers, Gate}
use Rattle.paging.specs.Rules.{no_requests}
use Rattle.paging.specs.Walk.{outcome, next}
use Rattle.paging.specs.Calls.{frame_limit, Test, test, gate}
use Rattle.paging.specs.declared.Entry.{Entry}
use Rattle.paging.specs.declared.Refusal.TheVariants.{UnsoundRecord}
use Rattle.paging.proofs.Frames.{next_size}
use Rattle.occupancy.specs.Map.{lowest_only, Words}
use Rattle.occupancy.proofs.Lowest.{map_none, map_ones, map_lowest, map_words_lem, ones_all, lowest_map}
use Rattle.soundness.specs.Sound.{sound_parts, SoundParts}
use Rattle.soundness.proofs.Meaning.{met_means}
use Rattle.cache.specs.declared.Cache.{Cache}
use Rattle.cache.specs.declared.Fresh.{Fresh}
use Rattle.cache.specs.declared.Fed.{Fed}
use Rattle.cache.specs.Record.{blank_cache, held_of, holding, Formed, fresh_tests, fresh_by, fresh_of}
use Rattle.cache.specs.Sound.{sound}
use Rattle.cache.specs.Feed.{Reply, served, feed_tests, fed_by, fed, feeding, reply_numbers}
use Rattle.carried.specs.Old.{OldCache, OldFed, old_empty, old_blank, old_sound, old_fresh_by, old_fresh, old_entries, old_rule, old_served, old_tests, old_fed_by, old_fed, old_feeding, old_after}
use Rattle.carried.specs.Carried.{Mapped, carried, carried_from, carried_fresh, carried_fed, after}

-- ---- each old record and its new one

-- a record whose map is made anew of its number of ones
carried_again : (d : Cache) → Words d.map → lowest_only d.map ≡ true → carried (carried_from d) ≡ d
carried_again d w l = ap remapped (lowest_map d.map w l)
  where
    remapped : List ℕ → Cache
    remapped m = record { rule = d.rule; frames = d.frames; clock = d.clock; map = m; entries = d.entries }

module _ (c : OldCache) (m : Mapped c) where
  -- the number of ones is the old held number
  pub held_stays : held_of (carried c) ≡ c.held
  held_stays = map_ones c.held m

  -- it has a record's form
  pub new_formed : length c.entries ≡ frame_limit → Formed (carried c)
  new_formed size = record { all_entries = size; map_words_lem = map_words_lem c.held }

  -- different old records have different new ones
  pub back_again : carried_from (carried c) ≡ c
  back_again = ap renumbered held_stays
    where
      renumbered : ℕ → OldCache
      renumbered h = record { rule = c.rule; frames = c.frames; clock = c.clock; held = h; entries = c.entries }

  -- EXACTLY ONE NEW RECORD: `carried` has a map of exactly the lowest bits and says all that the old one said, and no other record does
  pub one_new : (d : Cache) → Words d.map → ((lowest_only d.map ≡ true) × (carried_from d ≡ c)) ↔ (d ≡ carried c)
  one_new d w = (
    λ e. sym (carried_again d w e.0) ∙ ap carried e.1,
    λ e. (ap (λ (x : Cache). lowest_only x.map) e ∙ map_lowest c.held m, ap carried_from e ∙ back_again),
  )

-- CARRIED FROM AN OLD RECORD: exactly where the lowest bits and no others are set
pub carried_where : (d : Cache) → Words d.map → (lowest_only d.map ≡ true) ↔ ((c : OldCache) × Mapped c × (carried c ≡ d))
carried_where d w = (
  λ l. (carried_from d, ones_all d.map w, carried_again d w l),
  λ e. ap (λ (x : Cache). lowest_only x.map) (sym e.2) ∙ map_lowest e.0.held e.1,
)

-- ---- SOUND: the new record is where the old one was

pub sound_stays : (c : OldCache) → Mapped c → sound (carried c) ≡ old_sound c
unfolding sound old_sound
sound_stays c m =
    ap₂ (λ (b : Bool) (h : ℕ). both b (sound_parts c.rule c.frames c.clock h c.entries)) (map_lowest c.held m) (map_ones c.held m)

-- and a record that is carried from none is not
pub from_none_unsound : (d : Cache) → Words d.map → ((c : OldCache) → Mapped c → carried c ≡ d → ⊥) → sound d ≡ false
unfolding sound
from_none_unsound d w none = go (lowest_only d.map) refl
  where
    go : (b : Bool) → lowest_only d.map ≡ b → both (lowest_only d.map) (sound_parts d.rule d.frames d.clock (held_of d) d.entries) ≡ false
    go true l = let e = (carried_where d w).0 l in absurd (none e.0 e.1 e.2)
    go false l = ap (λ (b : Bool). both b (sound_parts d.rule d.frames d.clock (held_of d) d.entries)) l

-- ---- FRESH, and the blank record

empty_stays : (rule n : ℕ) → (fresh_by (Ok tt) rule n).cache ≡ carried (old_empty rule n)
empty_stays rule n = ap emptied (sym map_none)
  where
    emptied : List ℕ → Cache
    emptied m = record { rule = rule; frames = n; clock = 0; map = m; entries = (old_empty rule n).entries }

pub blank_stays : blank_cache ≡ carried old_blank
blank_stays = empty_stays 0 0

pub fresh_stays : (rule n : ℕ) → fresh_of rule n ≡ carried_fresh (old_fresh rule n)
unfolding fresh_of old_fresh
fresh_stays rule n = go (gate (fresh_tests rule n))
  where
    handed : Gate → Cache → Fresh
    handed g d = record { gate = g; cache = d }

    go : (g : Gate) → fresh_by g rule n ≡ carried_fresh (old_fresh_by g rule n)
    go (Ok tt) = ap (handed (Ok tt)) (empty_stays rule n)
    go (Err refusal) = ap (handed (Err refusal)) blank_stays

pub fresh_mapped : (rule n : ℕ) → Mapped (old_fresh rule n).cache
unfolding old_fresh
fresh_mapped rule n = go (gate (fresh_tests rule n))
  where
    go : (g : Gate) → Mapped (old_fresh_by g rule n).cache
    go (Ok tt) = omega arith
    go (Err refusal) = omega arith

-- ---- FEED: the reply and the next record, refusals too

-- the tests, by whether the record is sound
abbrev tests_by : OldCache → ℕ → Bool → List Test
tests_by c p sound = test (not sound) UnsoundRecord ∷ drop 1 (old_tests c p)

module _ (c : OldCache) (m : Mapped c) (p : ℕ) where
  held_entries_lem : take (held_of (carried c)) c.entries ≡ old_entries c
  held_entries_lem = ap (λ (h : ℕ). take h c.entries) (map_ones c.held m)

  served_outcome : (served (carried c) p).outcome ≡ (old_served c p).outcome
  unfolding served old_served
  served_outcome = ap (λ (es : List Entry). outcome (old_rule c) c.frames p no_requests es) held_entries_lem

  served_next : (served (carried c) p).next ≡ carried (old_served c p).next
  unfolding served old_served
  served_next = ap (λ (es : List Entry). holding (carried c) (next (old_rule c) c.frames c.clock p no_requests es)) held_entries_lem

  same_tests : feed_tests (carried c) p ≡ old_tests c p
  unfolding feed_tests old_tests
  same_tests = ap (tests_by c p) (sound_stays c m)

  pub fed_stays : fed (carried c) p ≡ carried_fed (old_fed c p)
  unfolding fed old_fed
  fed_stays = ap (λ (tests : List Test). fed_by (gate tests) (carried c) p) same_tests ∙ go (gate (old_tests c p))
    where
      both_parts : Reply → Cache → Fed
      both_parts r d = record { outcome = r; next = d }

      go : (g : Gate) → fed_by g (carried c) p ≡ carried_fed (old_fed_by g c p)
      go (Ok tt) = ap₂ both_parts (ap Ok served_outcome) served_next
      go (Err refusal) = refl

  -- the next record has a new one too
  pub fed_mapped : Mapped (old_fed c p).next
  unfolding old_fed
  fed_mapped = go (old_sound c) refl
    where
      served_few : old_sound c ≡ true → Mapped (old_served c p).next
      served_few s =
          let parts : SoundParts c.rule c.frames c.clock c.held c.entries = met_means c.rule c.frames c.clock c.held c.entries s in
          omega (
            arith,
            next_size (old_rule c) c.frames c.clock p no_requests (old_entries c) (omega (arith, length-take c.held c.entries, parts.held_frames)),
            parts.frames_most,
          )

      any_gate : (g : Gate) → Mapped (old_served c p).next → Mapped (old_fed_by g c p).next
      any_gate (Ok tt) k = k
      any_gate (Err refusal) k = m

      go : (b : Bool) → old_sound c ≡ b → Mapped (old_fed_by (gate (old_tests c p)) c p).next
      go true s = any_gate (gate (old_tests c p)) (served_few s)
      go false s = subst (λ (b : Bool). Mapped (old_fed_by (gate (tests_by c p b)) c p).next) (sym s) m

-- ---- ANY LIST OF REQUESTS: the replies, and the record after them

pub feeding_stays : (ps : List ℕ) (c : OldCache) → Mapped c → (feeding (carried c) ps ≡ old_feeding c ps) × (after (carried c) ps ≡ carried (old_after c ps)) × Mapped (old_after c ps)
unfolding feeding old_feeding after old_after
feeding_stays [] c m = (refl, refl, m)
feeding_stays (p ∷ ps) c m =
    let (replies, record-after, few) = feeding_stays ps (old_fed c p).next (fed_mapped c m p) in
    let e : fed (carried c) p ≡ carried_fed (old_fed c p) = fed_stays c m p in (
      ap (λ (f : Fed). f.outcome ∷ feeding f.next ps) e ∙ ap (λ (rs : List Reply). (old_fed c p).outcome ∷ rs) replies,
      ap (λ (f : Fed). after f.next ps) e ∙ record-after,
      few,
    )

-- FROM FRESH ON: whatever was asked for, and whatever is requested then; no old record with a number beyond the map is reached
pub from_fresh : (rule n : ℕ) (ps : List ℕ)
    → (gate_numbers (fresh_of rule n).gate ≡ gate_numbers (old_fresh rule n).gate)
    × (feeding (fresh_of rule n).cache ps ≡ old_feeding (old_fresh rule n).cache ps)
    × (after (fresh_of rule n).cache ps ≡ carried (old_after (old_fresh rule n).cache ps))
    × Mapped (old_after (old_fresh rule n).cache ps)
from_fresh rule n ps =
    let e : fresh_of rule n ≡ carried_fresh (old_fresh rule n) = fresh_stays rule n in
    let (replies, record-after, few) = feeding_stays ps (old_fresh rule n).cache (fresh_mapped rule n) in (
      ap (λ (f : Fresh). gate_numbers f.gate) e,
      ap (λ (f : Fresh). feeding f.cache ps) e ∙ replies,
      ap (λ (f : Fresh). after f.cache ps) e ∙ record-after,
      few,
    )

-- ---- NUMBERS BEYOND THE MAP: such an old record was not sound, so Feed refused it and handed it back; no map has such a number of ones (`ones_all` of crate `occupancy`)

pub beyond_refused : (c : OldCache) (p : ℕ) → frame_limit < c.held → (old_sound c ≡ false) × (◌≡◌ {A = OldFed} (old_fed c p) (record { outcome = Err UnsoundRecord; next = c }))
unfolding old_fed
beyond_refused c p h =
    let s : old_sound c ≡ false = not_sound (old_sound c) refl in
    (s, ap (λ (b : Bool). old_fed_by (gate (tests_by c p b)) c p) s)
  where
    not_sound : (b : Bool) → old_sound c ≡ b → old_sound c ≡ false
    not_sound false s = s
    not_sound true s =
        let parts : SoundParts c.rule c.frames c.clock c.held c.entries = met_means c.rule c.frames c.clock c.held c.entries s in
        absurd (omega (arith, parts.held_frames, parts.frames_most))

-- ---- THE SAME OF THE ANSWERS: in numbers, and the old record of the one that is handed back

pub answer_stays : (c : OldCache) → Mapped c → (p : ℕ) (r : Fed) → r ≡ fed (carried c) p
    → (reply_numbers r.outcome ≡ reply_numbers (old_fed c p).outcome) × (carried_from r.next ≡ (old_fed c p).next)
answer_stays c m p r e =
    let f : r ≡ carried_fed (old_fed c p) = e ∙ fed_stays c m p in (
      ap (λ (x : Fed). reply_numbers x.outcome) f,
      ap (λ (x : Fed). carried_from x.next) f ∙ back_again (old_fed c p).next (fed_mapped c m p),
    )

pub fresh_answer_stays : (rule n : ℕ) (r : Fresh) → r ≡ fresh_of rule n
    → (gate_numbers r.gate ≡ gate_numbers (old_fresh rule n).gate) × (carried_from r.cache ≡ (old_fresh rule n).cache)
fresh_answer_stays rule n r e =
    let f : r ≡ carried_fresh (old_fresh rule n) = e ∙ fresh_stays rule n in (
      ap (λ (x : Fresh). gate_numbers x.gate) f,
      ap (λ (x : Fresh). carried_from x.cache) f ∙ back_again (old_fresh rule n).cache (fresh_mapped rule n),
    )

pub sound_answer_stays : (c : OldCache) → Mapped c → (r : Bool) → r ≡ sound (carried c) → r ≡ old_sound c
sound_answer_stays c m r e = e ∙ sound_stays c m
