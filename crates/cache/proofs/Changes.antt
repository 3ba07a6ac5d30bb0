-- What a request that is taken changes of a sound record: one frame, and every other entry stays.
-- Assumes nothing.
use mathlib.Core.Path.{◌≡◌, refl, sym, ap, ◌∙◌}
use mathlib.Core.Logic.{inl, inr}
use mathlib.Core.Bool.{true}
use Prim.Native.Nat.{ℕ, ◌≤◌, ◌<◌}
use native.Mathlib.Omega.{arith}
use lib.ListN.{length}
use lib.Seq.{get_or-set_same, get_or-set_other}
use borrow.Author.Tests.{lt-ltb, le-ltb}
use Rattle.paging.specs.Rules.{mark, no_requests, chosen}
use Rattle.paging.specs.Lists.{place_of}
use Rattle.paging.specs.Walk.{pages, zero_entry}
use Rattle.paging.specs.Calls.{frame_limit, request_limit}
use Rattle.paging.specs.declared.Entry.{Entry}
use Rattle.paging.proofs.Choice.{chosen_below}
use Rattle.paging.proofs.Frames.{pages_length, mem_pages, Ways, ways, held_frame}
use Rattle.occupancy.proofs.Lowest.{map_ones}
use Rattle.cache.specs.declared.Cache.{Cache}
use Rattle.cache.specs.declared.Served.{Served}
use Rattle.cache.specs.Record.{held_of, held_entries, rule_of, Formed}
use Rattle.cache.specs.Sound.{sound, Sound}
use Rattle.cache.specs.Feed.{served, fed, changed_frame, changed_entry, changed_held, Applied}
use Rattle.cache.proofs.Soundness.{sound_is, held_length}
use Rattle.cache.proofs.Step.{placed, entry_held, served_hit, served_room, served_full}
use Rattle.cache.proofs.Feeding.{fed_open}

-- the record after a request, as one store, in a frame of the cache, of an entry of the page
abbrev Places : Cache → ℕ → Type 0
Places c p =
    (changed_frame c p < c.frames)
    × (changed_frame c p < changed_held c p)
    × ((changed_entry c p).page.0 ≡ p)
    × ((changed_entry c p).last.0 ≡ c.clock)
    × (changed_held c p ≤ frame_limit)
    × ((served c p).next ≡ placed c (changed_frame c p) (changed_entry c p) (changed_held c p))

served_places : (c : Cache) (p : ℕ) → Formed c → Sound c → Places c p
unfolding changed_frame changed_entry changed_held
served_places c p formed s = go (ways c.frames p (held_entries c))
  where
    l : length (held_entries c) ≡ held_of c
    l = held_length c formed s

    in_use_lem : length (pages (held_entries c)) ≡ held_of c
    in_use_lem = pages_length (held_entries c) ∙ l

    go : Ways c.frames p (held_entries c) → Places c p
    go (inl q) =
        let (h, e) = held_frame p (held_entries c) q in
        let k : place_of p (pages (held_entries c)) < held_of c = omega (arith, l) in
        let m : place_of p (pages (held_entries c)) < c.frames = omega (arith, s.parts.held_frames) in
        rw (mem_pages p (held_entries c) ∙ q) (
          m,
          k,
          ap (λ (x : Entry). x.page.0) (sym (entry_held c (place_of p (pages (held_entries c))) k)) ∙ e,
          refl,
          omega (arith, s.parts.held_frames, s.parts.frames_most),
          sym (ap (λ (a : Served). a.next) (served_hit c formed s p q).1),
        )
    go (inr (inl (q, h))) =
        let k : held_of c < c.frames = omega (arith, l) in
        rw (mem_pages p (held_entries c) ∙ q, in_use_lem, lt-ltb (held_of c) c.frames k) (k, omega arith, refl, refl, omega (arith, s.parts.frames_most), sym (ap (λ (a : Served). a.next) (served_room c formed s p q k)))
    go (inr (inr (q, h))) =
        let k : c.frames ≤ held_of c = omega (arith, l) in
        let m : chosen (rule_of c) no_requests (held_entries c) < c.frames =
        omega (arith, l, chosen_below (rule_of c) no_requests (held_entries c) (omega (arith, s.parts.frames_some)), s.parts.held_frames) in
        rw (mem_pages p (held_entries c) ∙ q, in_use_lem, le-ltb (held_of c) c.frames k) (m, omega arith, refl, refl, omega (arith, s.parts.held_frames, s.parts.frames_most), sym (ap (λ (a : Served). a.next) (served_full c formed s p q k).1))

-- FEED APPLIES THE RULE TO THE ENTRIES AS THEY STAND: on any sound record, wherever the request is taken
pub fed_applies : (c : Cache) (p : ℕ) → Formed c → sound c ≡ true → (p ≡ mark → ⊥) → (c.clock ≡ request_limit → ⊥)
    → Applied c p (fed c p).next
fed_applies c p formed s page clock =
    let k : Sound c = sound_is c s in
    let (inside, used, own, last, few, e) = served_places c p formed k in
    let f : ℕ = changed_frame c p in
    let x : Entry = changed_entry c p in
    rw (fed_open c p s page clock, e) (record {
      rule_stays = refl;
      frames_stay = refl;
      clock_on = refl;
      map_now = refl;
      held_now = map_ones (changed_held c p) few;
      frame_inside = inside;
      frame_used = rw (map_ones (changed_held c p) few) used;
      entry_now = get_or-set_same c.entries f x zero_entry (omega (arith, k.parts.frames_most));
      page_now = own;
      last_now = last;
      others_stay = λ i h d. get_or-set_other c.entries f i x zero_entry d;
    })
