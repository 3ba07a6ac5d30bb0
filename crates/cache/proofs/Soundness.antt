-- Soundness: what a sound record gives its callers, and which records are sound.
--
-- In order: the test and its meaning; the entries of a sound record; the empty cache is sound; so is what Fresh hands out.
-- Assumes nothing.
use Rattle.std.specs.Prelude.{Ok, Err}
use mathlib.Core.Path.{◌≡◌, refl, sym, ap, ap₂, ◌∙◌, subst}
use mathlib.Core.Logic.{◌⊎◌}
use mathlib.Core.Bool.{Bool, true, false}
use mathlib.Core.List.{List, [], ◌∷◌, ◌++◌}
use Prim.Native.Nat.{ℕ, zero, suc, ◌+◌, ◌-◌, ◌≤◌, ◌<◌}
use native.Mathlib.Numerals.{add-one}
use native.Mathlib.Omega.{arith}
use lib.ListN.{length, get_or, take, drop, replicate, length-drop, take-append-drop, get_or-replicate}
use lib.Seq.{length-take-le, take-append_seam, drop-append_seam}
use borrow.Author.Tests.{le-ltb, tests}
use Rattle.paging.specs.Lists.{all}
use Rattle.paging.specs.Walk.{zero_entry, entry_at}
use Rattle.paging.specs.Calls.{frame_limit, request_limit}
use Rattle.paging.specs.declared.Entry.{Entry}
use Rattle.paging.specs.declared.Refusal.TheVariants.{UnknownRule, FramesOutside}
use Rattle.paging.proofs.Lists.{both_first, both_second, both_true}
use Rattle.paging.proofs.Held.{apart_nil}
use Rattle.entries.specs.Blank.{blank_entry}
use Rattle.occupancy.specs.Map.{map_words, bits_of, ones_of, lowest_zero, lowest_only, map_of, Words}
use Rattle.occupancy.proofs.Lowest.{map_none, map_ones, map_zero, map_lowest, map_words_lem, lowest_map, lowest_means, means_lowest}
use Rattle.soundness.specs.Sound.{feedable, all_marks, blank_from, Orderly, sound_parts, SoundParts}
use Rattle.soundness.proofs.Meaning.{is_outside, met_means, means_met}
use Rattle.cache.specs.declared.Cache.{Cache}
use Rattle.cache.specs.declared.Fresh.{Fresh}
use Rattle.cache.specs.Record.{blank_cache, empty_cache, held_of, held_entries, padded, holding, Formed, fresh_of}
use Rattle.cache.specs.Sound.{sound, Sound}

-- ---- the test and its meaning

pub sound_is : (c : Cache) → sound c ≡ true → Sound c
unfolding sound
sound_is c e =
    let others : Bool = sound_parts c.rule c.frames c.clock (held_of c) c.entries in
    record {
      lowest = lowest_means c.map (both_first (lowest_only c.map) others e);
      parts = met_means c.rule c.frames c.clock (held_of c) c.entries (both_second (lowest_only c.map) others e);
    }

pub is_sound : (c : Cache) → Sound c → sound c ≡ true
unfolding sound
is_sound c s = both_true _ _ (means_lowest c.map s.lowest) (means_met c.rule c.frames c.clock (held_of c) c.entries s.parts)

-- ---- the entries of a sound record

blank_is : (e : Entry) → all_marks e ≡ true → e ≡ blank_entry
blank_is e a = grind (arith, tests)

blanks : (es : List Entry) → blank_from es ≡ true → es ≡ replicate (length es) blank_entry
unfolding blank_from
blanks [] a = refl
blanks (e ∷ es) a =
    ap₂ (λ (x : Entry) (y : List Entry). x ∷ y) (blank_is e (both_first (all_marks e) (all all_marks es) a)) (blanks es (both_second (all_marks e) (all all_marks es) a))

all_blank : (k : ℕ) → blank_from (replicate k blank_entry) ≡ true
unfolding blank_from
all_blank zero = refl
all_blank (suc k) = all_blank k

module _ (c : Cache) (formed : Formed c) (s : Sound c) where
  pub held_length : length (held_entries c) ≡ held_of c
  held_length = length-take-le (held_of c) c.entries (omega (arith, formed.all_entries, s.parts.held_frames, s.parts.frames_most))

  -- the entries in use, then blank ones
  pub entries_padded : c.entries ≡ padded (held_entries c)
  entries_padded =
      sym (take-append-drop (held_of c) c.entries)
      ∙ ap (λ (xs : List Entry). held_entries c ++ xs) (blanks (drop (held_of c) c.entries) s.parts.blank_after)
      ∙ ap (λ (k : ℕ). held_entries c ++ replicate k blank_entry) (let e : length (drop (held_of c) c.entries) ≡ frame_limit - length (held_entries c) = omega (arith, length-drop (held_of c) c.entries, formed.all_entries, held_length) in e)

  -- the map of the lowest frames, as many as are in use
  pub map_held : map_of (held_of c) ≡ c.map
  map_held = lowest_map c.map formed.map_words_lem (means_lowest c.map s.lowest)

  -- THE NEXT FREE FRAME: while fewer than all frames are held it is the lowest zero bit, which is the frame past those in use
  pub next_free : held_of c < c.frames → (lowest_zero c.map ≡ held_of c) × (lowest_zero c.map < c.frames) × (get_or (bits_of c.map) (held_of c) false ≡ false)
  next_free h =
      let e : lowest_zero c.map ≡ held_of c = ap lowest_zero (sym map_held) ∙ map_zero (held_of c) (omega (arith, s.parts.frames_most)) in
      (e, omega arith, s.lowest (held_of c) ∙ le-ltb (held_of c) (held_of c) (omega arith))

-- ---- records that are sound

-- a record that holds entries in order, at most as many as it has frames, one request later
pub holding_sound : (c : Cache) (es : List Entry) → Sound c → c.clock < request_limit → length es ≤ c.frames → length es ≤ suc c.clock
    → Orderly (suc c.clock) es → Sound (holding c es)
holding_sound c es s h k l o =
    let most : length es ≤ frame_limit = omega (arith, s.parts.frames_most) in
    record {
      lowest = lowest_means (map_of (length es)) (map_lowest (length es) most);
      parts =
          subst (λ (held : ℕ). SoundParts c.rule c.frames (c.clock + 1) held (padded es)) (sym (map_ones (length es) most))
          (record {
            feeds = s.parts.feeds;
            frames_some = s.parts.frames_some;
            frames_most = s.parts.frames_most;
            clock_most = omega arith;
            held_frames = k;
            held_clock = omega arith;
            orderly = rw (take-append_seam es (replicate (frame_limit - length es) blank_entry), add-one c.clock) o;
            blank_after = rw (drop-append_seam es (replicate (frame_limit - length es) blank_entry)) (all_blank (frame_limit - length es));
          });
    }

-- THE EMPTY CACHE has a record's form, holds nothing, and is sound
pub empty_formed : (rule frames : ℕ) → Formed (empty_cache rule frames)
empty_formed rule frames = record { all_entries = refl; map_words_lem = subst Words map_none (map_words_lem 0) }

none_held : ones_of (replicate map_words 0) ≡ 0
none_held = ap ones_of (sym map_none) ∙ map_ones 0 (omega arith)

pub empty_held : (rule frames : ℕ) → held_entries (empty_cache rule frames) ≡ []
empty_held rule frames = ap (λ (k : ℕ). take k (replicate frame_limit blank_entry)) none_held

pub empty_sound : (rule frames : ℕ) → feedable rule ≡ true → 1 ≤ frames → frames ≤ frame_limit → Sound (empty_cache rule frames)
empty_sound rule frames f h k =
    record {
      lowest = lowest_means (replicate map_words 0) (subst (λ (m : List ℕ). lowest_only m ≡ true) map_none (map_lowest 0 (omega arith)));
      parts =
          subst (λ (held : ℕ). SoundParts rule frames 0 held (replicate frame_limit blank_entry)) (sym none_held)
          (record {
            feeds = f;
            frames_some = h;
            frames_most = k;
            clock_most = omega arith;
            held_frames = omega arith;
            held_clock = omega arith;
            orderly =
                record {
                  apart = apart_nil;
                  unmarked = λ i l x. absurd (omega arith);
                  in_time_lem = λ i l. absurd (omega arith);
                  moments_apart = λ i j l m n a b. absurd (omega arith);
                };
            blank_after = all_blank frame_limit;
          });
    }

-- every entry of the blank record and of an empty cache is all marks
pub every_entry_blank : (rule frames i : ℕ) → i < frame_limit → entry_at (empty_cache rule frames).entries i ≡ blank_entry
every_entry_blank rule frames i h = get_or-replicate frame_limit i blank_entry zero_entry h

-- ---- FRESH, in numbers

-- a rule that can be fed and 1 to 256 frames: the open gate and the empty cache
pub fresh_open : (rule n : ℕ) → feedable rule ≡ true → 1 ≤ n → n ≤ frame_limit
    → ◌≡◌ {A = Fresh} (fresh_of rule n) (record { gate = (Ok tt); cache = empty_cache rule n })
unfolding fresh_of
fresh_open rule n f h k = rw (f, le-ltb n 1 h, le-ltb frame_limit n k)

-- else refusal 1, then 2, with the blank record
pub fresh_refused : (rule n : ℕ)
    → (feedable rule ≡ false → ◌≡◌ {A = Fresh} (fresh_of rule n) (record { gate = Err UnknownRule; cache = blank_cache }))
    × (feedable rule ≡ true → (n < 1) ⊎ (frame_limit < n) → ◌≡◌ {A = Fresh} (fresh_of rule n) (record { gate = Err (FramesOutside 0); cache = blank_cache }))
unfolding fresh_of
fresh_refused rule n = (λ f. rw f, λ f h. rw (f, is_outside n h))

-- so an open gate tells that rule and frames are in order
pub fresh_in_order : (rule n : ℕ) → (fresh_of rule n).gate ≡ Ok tt → (feedable rule ≡ true) × (1 ≤ n) × (n ≤ frame_limit)
unfolding fresh_of
fresh_in_order rule n e = (grind (arith, tests), grind (arith, tests), grind (arith, tests))

-- and that the record is the empty cache
pub fresh_empty : (rule n : ℕ) → (fresh_of rule n).gate ≡ Ok tt → (fresh_of rule n).cache ≡ empty_cache rule n
fresh_empty rule n e = let (f, h, k) = fresh_in_order rule n e in ap (λ (r : Fresh). r.cache) (fresh_open rule n f h k)

-- WHAT FRESH HANDS OUT is sound
pub fresh_sound : (rule n : ℕ) → (fresh_of rule n).gate ≡ Ok tt → sound (fresh_of rule n).cache ≡ true
fresh_sound rule n e =
    let (f, h, k) = fresh_in_order rule n e in
    rw (fresh_empty rule n e) (is_sound (empty_cache rule n) (empty_sound rule n f h k))
