-- How an old record is carried over to the new one: the map of so many lowest frames stands in place of the number held.
--
-- In order: the record, there and back; what Fresh and Feed hand back; the record after a list of requests; a record computed both ways.
-- Assumes nothing.
use Rattle.std.specs.Prelude.{◌≡◌, refl, List, [], ◌∷◌, ℕ, ◌≤◌, Ok}
use Rattle.paging.specs.Calls.{frame_limit}
use Rattle.paging.specs.declared.Outcome.TheVariants.{Loaded, Dropped}
use Rattle.occupancy.specs.Map.{map_of, ones_of}
use Rattle.cache.specs.declared.Cache.{Cache}
use Rattle.cache.specs.declared.Fresh.{Fresh}
use Rattle.cache.specs.declared.Fed.{Fed}
use Rattle.cache.specs.Record.{empty_cache, held_of}
use Rattle.cache.specs.Feed.{fed, feeding}
use Rattle.carried.specs.Old.{OldCache, OldFresh, OldFed, old_empty, old_feeding, old_after}

-- ---- the record, there and back

-- a map has room for 256 frames; an old record with a larger number held was not sound
abbrev pub Mapped : OldCache → Type 0
Mapped c = c.held ≤ frame_limit

abbrev pub carried : OldCache → Cache
carried c =
    record { rule = c.rule; frames = c.frames; clock = c.clock; map = map_of c.held; entries = c.entries }

-- the number of ones is the old held number
abbrev pub carried_from : Cache → OldCache
carried_from d =
    record { rule = d.rule; frames = d.frames; clock = d.clock; held = held_of d; entries = d.entries }

-- ---- what Fresh and Feed hand back

abbrev pub carried_fresh : OldFresh → Fresh
carried_fresh f = record { gate = f.gate; cache = carried f.cache }

abbrev pub carried_fed : OldFed → Fed
carried_fed f = record { outcome = f.outcome; next = carried f.next }

-- ---- the record after a list of requests

unfoldable pub after : Cache → List ℕ → Cache
unfolding fed
after c [] = c
after c (p ∷ ps) = after (fed c p).next ps

-- ---- a cache of three frames, computed both ways: two pages, then two more

pub two_held : (carried (old_after (old_empty 1 3) (5 ∷ 6 ∷ []))).map ≡ 3 ∷ 0 ∷ 0 ∷ 0 ∷ []
unfolding old_after map_of
two_held = refl

pub two_held_now : (after (empty_cache 1 3) (5 ∷ 6 ∷ [])).map ≡ 3 ∷ 0 ∷ 0 ∷ 0 ∷ []
unfolding after map_of ones_of
two_held_now = refl

pub four_fed_now : feeding (empty_cache 1 3) (5 ∷ 6 ∷ 7 ∷ 8 ∷ []) ≡ Ok Loaded ∷ Ok Loaded ∷ Ok Loaded ∷ Ok (Dropped (record { 0 = 5 })) ∷ []
unfolding feeding map_of ones_of
four_fed_now = refl

pub four_fed : (old_feeding (old_empty 1 3) (5 ∷ 6 ∷ 7 ∷ 8 ∷ []) ≡ Ok Loaded ∷ Ok Loaded ∷ Ok Loaded ∷ Ok (Dropped (record { 0 = 5 })) ∷ []) × ((old_after (old_empty 1 3) (5 ∷ 6 ∷ 7 ∷ 8 ∷ [])).held ≡ 3)
unfolding old_feeding old_after
four_fed = (refl, refl)
