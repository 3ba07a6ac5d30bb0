-- One request of a sound record: the devices of the code against document 01's words.
--
-- In order: the three ways of one request, as stores; what the code does to the parts is the request; it keeps a record sound.
-- Assumes nothing.
use mathlib.Core.Path.{◌≡◌, sym, ap, ap₂, ◌∙◌}
use mathlib.Core.Logic.{inl, inr}
use mathlib.Core.Bool.{true, false}
use mathlib.Core.List.{List, [], ◌∷◌, ◌++◌}
use Prim.Native.Nat.{ℕ, suc, ◌+◌, ◌-◌, ◌≤◌, ◌<◌}
use native.Mathlib.Numerals.{add-one}
use native.Mathlib.Omega.{arith}
use lib.ListN.{length, set, replicate, length-set}
use borrow.Author.Tests.{lt-ltb, le-ltb}
use lib.Seq.{get_or-take, set-append_left, set-append_seam, append_snoc}
use Rattle.paging.specs.Rules.{mark, no_requests, chosen}
use Rattle.paging.specs.Lists.{place_of}
use Rattle.paging.specs.Walk.{pages, holds, zero_entry, entry_at, loaded_at, renewed, next}
use Rattle.paging.specs.Calls.{frame_limit, request_limit}
use Rattle.paging.specs.declared.Entry.{Entry}
use Rattle.paging.specs.declared.Outcome.{Outcome}
use Rattle.paging.specs.declared.Outcome.TheVariants.{Hit, Loaded, Dropped}
use Rattle.paging.proofs.Lists.{length_snoc}
use Rattle.paging.proofs.Choice.{chosen_below}
use Rattle.paging.proofs.Frames.{mem_pages, Ways, ways, held_frame, outcome_hit, outcome_room, outcome_full, next_hit, next_room, next_full, next_size, next_grows}
use Rattle.entries.specs.Blank.{blank_entry}
use Rattle.entries.specs.Devices.Search.{least_frame}
use Rattle.occupancy.specs.Map.{lowest_zero, map_of, with_frame}
use Rattle.occupancy.proofs.Lowest.{map_next}
use Rattle.soundness.proofs.Orderly.{next_orderly}
use Rattle.steps.specs.Devices.Step.{stepped}
use Rattle.cache.specs.declared.Cache.{Cache}
use Rattle.cache.specs.declared.Served.{Served}
use Rattle.cache.specs.Record.{held_of, held_entries, padded, holding, rule_of, Formed}
use Rattle.cache.specs.Sound.{Sound}
use Rattle.cache.specs.Feed.{served}
use Rattle.cache.specs.Devices.Step.{step_on, onward}
use Rattle.cache.proofs.Least.{least_chosen}
use Rattle.cache.proofs.Soundness.{held_length, entries_padded, map_held, next_free, holding_sound}

-- an entry in use, read from the array
pub entry_held : (c : Cache) (i : ℕ) → i < held_of c → entry_at (held_entries c) i ≡ entry_at c.entries i
entry_held c i h = get_or-take (held_of c) c.entries i zero_entry h

-- ---- the three ways of one request, as stores

-- the record one request later, with an entry written into a frame, and so many in use
abbrev pub placed : Cache → ℕ → Entry → ℕ → Cache
placed c frame e held =
    record { rule = c.rule; frames = c.frames; clock = c.clock + 1; map = map_of held; entries = set c.entries frame e }

-- a store among the entries in use
padded_set : (es : List Entry) (f : ℕ) (e : Entry) → f < length es → set (padded es) f e ≡ padded (set es f e)
padded_set es f e h =
    set-append_left es (replicate (frame_limit - length es) blank_entry) f e h
    ∙ ap (λ (k : ℕ). set es f e ++ replicate (frame_limit - k) blank_entry) (sym (length-set es f e))

-- a store into the lowest free frame
padded_snoc : (es : List Entry) (e : Entry) → length es < frame_limit → set (padded es) (length es) e ≡ padded (es ++ (e ∷ []))
padded_snoc es e h =
    let k : ℕ = frame_limit - suc (length es) in
    let more : frame_limit - length es ≡ suc k = omega arith in
    let fewer : k ≡ frame_limit - length (es ++ (e ∷ [])) = omega (arith, length_snoc zero_entry es e) in
    ap (λ (j : ℕ). set (es ++ replicate j blank_entry) (length es) e) more
    ∙ set-append_seam es blank_entry (replicate k blank_entry) e
    ∙ sym (append_snoc es e (replicate k blank_entry))
    ∙ ap (λ (j : ℕ). es ++ (e ∷ []) ++ replicate j blank_entry) fewer

abbrev served_as : Outcome → Cache → Served
served_as o d = record { outcome = o; next = d }

module _ (c : Cache) (formed : Formed c) (s : Sound c) (p : ℕ) where
  es : List Entry
  es = held_entries c

  -- the record that the code writes is the one that holds the new entries
  written : (f held : ℕ) (e : Entry) (new : List Entry) → held ≡ length new → set (padded es) f e ≡ padded new → placed c f e held ≡ holding c new
  unfolding es
  written f held e new l w =
      ap₂ (λ (h : ℕ) (xs : List Entry). rebuilt c h xs) l
      (ap (λ (xs : List Entry). set xs f e) (entries_padded c formed s) ∙ w)
    where
      rebuilt : Cache → ℕ → List Entry → Cache
      rebuilt c h xs = record { rule = c.rule; frames = c.frames; clock = c.clock + 1; map = map_of h; entries = xs }

  pub served_hit : holds p (held_entries c) ≡ true
      → (place_of p (pages (held_entries c)) < frame_limit)
      × (◌≡◌ {A = Served}
      (record { outcome = Hit; next = placed c (place_of p (pages (held_entries c))) (renewed c.clock (entry_at c.entries (place_of p (pages (held_entries c))))) (held_of c) })
      (served c p))
  unfolding served es
  served_hit q =
      let f : ℕ = place_of p (pages es) in
      let h : f < length es = (held_frame p es q).0 in
      let k : f < held_of c = omega (arith, held_length c formed s) in
      let x : Entry = renewed c.clock (entry_at es f) in (
        omega (arith, s.parts.held_frames, s.parts.frames_most),
        rw (outcome_hit (rule_of c) c.frames c.clock p no_requests es q, next_hit (rule_of c) c.frames c.clock p no_requests es q, ← entry_held c f k)
            (ap (served_as Hit) (written f (held_of c) x (set es f x) (omega (arith, held_length c formed s, length-set es f x)) (padded_set es f x h))),
      )

  pub served_room : holds p (held_entries c) ≡ false → held_of c < c.frames
      → ◌≡◌ {A = Served} (record { outcome = Loaded; next = placed c (held_of c) (loaded_at c.clock p) (held_of c + 1) }) (served c p)
  unfolding served es
  served_room q h =
      let x : Entry = loaded_at c.clock p in
      let l : length es ≡ held_of c = held_length c formed s in
      let k : length es < c.frames = omega arith in
      rw (outcome_room (rule_of c) c.frames c.clock p no_requests es q k, next_room (rule_of c) c.frames c.clock p no_requests es q k)
      (ap (served_as Loaded)
      (written (held_of c) (held_of c + 1) x (es ++ (x ∷ [])) (omega (arith, length_snoc zero_entry es x))
      (ap (λ (j : ℕ). set (padded es) j x) (sym l) ∙ padded_snoc es x (omega (arith, s.parts.frames_most)))))

  -- the frame that the code finds by the least key
  least_drops : 0 < held_of c → least_frame c.rule (held_entries c) ≡ chosen (rule_of c) no_requests (held_entries c)
  least_drops h =
      least_chosen c.clock c.rule (held_entries c) s.parts.orderly s.parts.clock_most s.parts.feeds (omega (arith, held_length c formed s))

  pub served_full : holds p (held_entries c) ≡ false → c.frames ≤ held_of c
      → (chosen (rule_of c) no_requests (held_entries c) < frame_limit)
      × (◌≡◌ {A = Served}
      (record {
        outcome = Dropped (entry_at c.entries (chosen (rule_of c) no_requests (held_entries c))).page;
        next = placed c (chosen (rule_of c) no_requests (held_entries c)) (loaded_at c.clock p) (held_of c);
      })
      (served c p))
  unfolding served es
  served_full q h =
      let x : Entry = loaded_at c.clock p in
      let l : length es ≡ held_of c = held_length c formed s in
      let k : c.frames ≤ length es = omega arith in
      let f : ℕ = chosen (rule_of c) no_requests es in
      let m : f < length es = chosen_below (rule_of c) no_requests es (omega (arith, s.parts.frames_some)) in (
        omega (arith, s.parts.held_frames, s.parts.frames_most),
        rw (
          outcome_full (rule_of c) c.frames c.clock p no_requests es q k,
          next_full (rule_of c) c.frames c.clock p no_requests es q k,
          ← entry_held c f (omega arith),
        )
            (ap (served_as (Dropped (entry_at es f).page)) (written f (held_of c) x (set es f x) (omega (arith, length-set es f x)) (padded_set es f x m))),
      )

-- ---- what the code does to the parts is the request

module _ (c : Cache) (formed : Formed c) (s : Sound c) (o : Outcome) (f : ℕ) (e : Entry) where
  -- the record that the code writes
  abbrev written_as : List ℕ → ℕ → Served
  written_as map frame =
      record {
        outcome = o;
        next = record { rule = c.rule; frames = c.frames; clock = c.clock + 1; map = map; entries = set c.entries frame e };
      }

  -- with the map as it was
  map_stays : written_as c.map f ≡ served_as o (placed c f e (held_of c))
  map_stays = ap (λ (m : List ℕ). written_as m f) (sym (map_held c formed s))

  -- with the next free frame taken, which is the one past those in use
  map_grows : held_of c < c.frames → written_as (with_frame c.map (lowest_zero c.map)) (lowest_zero c.map) ≡ served_as o (placed c (held_of c) e (held_of c + 1))
  map_grows h =
      let most : held_of c < frame_limit = omega (arith, s.parts.frames_most) in
      let own : map_of (held_of c) ≡ c.map = map_held c formed s in
      let free : lowest_zero c.map ≡ held_of c = (next_free c formed s h).0 in
      let more : with_frame c.map (held_of c) ≡ map_of (held_of c + 1) =
      ap (λ (m : List ℕ). with_frame m (held_of c)) (sym own) ∙ map_next (held_of c) most ∙ ap map_of (sym (add-one (held_of c))) in
      ap (λ (k : ℕ). written_as (with_frame c.map k) k) free ∙ ap (λ (m : List ℕ). written_as m (held_of c)) more

pub served_steps : (c : Cache) → Formed c → Sound c → (p : ℕ)
    → ◌≡◌ {A = Served} (record { outcome = (step_on c p).outcome; next = onward c (step_on c p) }) (served c p)
unfolding stepped
served_steps c formed s p = go (ways c.frames p (held_entries c))
  where
    l : length (held_entries c) ≡ held_of c
    l = held_length c formed s

    go : Ways c.frames p (held_entries c) → ◌≡◌ {A = Served} (record { outcome = (step_on c p).outcome; next = onward c (step_on c p) }) (served c p)
    go (inl q) = rw (mem_pages p (held_entries c) ∙ q) (map_stays c formed s _ _ _ ∙ (served_hit c formed s p q).1)
    go (inr (inl (q, h))) =
        let k : held_of c < c.frames = omega (arith, l) in
        rw (mem_pages p (held_entries c) ∙ q, lt-ltb (held_of c) c.frames k) (map_grows c formed s _ 0 _ k ∙ served_room c formed s p q k)
    go (inr (inr (q, h))) =
        let k : c.frames ≤ held_of c = omega (arith, l) in
        rw (mem_pages p (held_entries c) ∙ q, le-ltb (held_of c) c.frames k, least_drops c formed s p (omega (arith, s.parts.frames_some))) (map_stays c formed s _ _ _ ∙ (served_full c formed s p q k).1)

-- ---- one request keeps a record sound

pub served_sound : (c : Cache) (p : ℕ) → Formed c → Sound c → c.clock < request_limit → (p ≡ mark → ⊥) → Sound (served c p).next
unfolding served
served_sound c p formed s h page =
    let l : length (held_entries c) ≡ held_of c = held_length c formed s in
    holding_sound c (next (rule_of c) c.frames c.clock p no_requests (held_entries c)) s h
    (next_size (rule_of c) c.frames c.clock p no_requests (held_entries c) (omega (arith, s.parts.held_frames)))
    (omega (arith, next_grows (rule_of c) c.frames c.clock p no_requests (held_entries c), s.parts.held_clock))
    (next_orderly (rule_of c) c.frames c.clock p no_requests (held_entries c) s.parts.orderly page)
