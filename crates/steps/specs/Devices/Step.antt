-- Devices of one request over a record's parts: the three ways as the code writes them, for any parts.
-- Assumes nothing.
use Rattle.std.specs.Prelude.{List, ℕ, ltb, take, set}
use Rattle.paging.specs.Lists.{pick}
use Rattle.paging.specs.Held.{found, if_held}
use Rattle.paging.specs.Walk.{pages, entry_at, loaded_at, renewed}
use Rattle.paging.specs.declared.Entry.{Entry}
use Rattle.paging.specs.declared.Outcome.TheVariants.{Hit, Loaded, Dropped}
use Rattle.occupancy.specs.Map.{ones_of, lowest_zero, with_frame}
use Rattle.entries.specs.Devices.Search.{least_frame}
use Rattle.steps.specs.declared.After.{After}

-- the page is held in a frame
abbrev pub hit_step : List ℕ → List Entry → ℕ → ℕ → After
hit_step map entries frame t =
    record { outcome = Hit; map = map; entries = set entries frame (renewed t (entry_at entries frame)) }

-- a frame is free: the lowest zero bit is the next
abbrev pub room_step : List ℕ → List Entry → Entry → After
room_step map entries e =
    record { outcome = Loaded; map = with_frame map (lowest_zero map); entries = set entries (lowest_zero map) e }

-- none is: the entry with the least key goes
abbrev pub full_step : ℕ → ℕ → List ℕ → List Entry → Entry → After
full_step rule held map entries e =
    record {
      outcome = Dropped (entry_at entries (least_frame rule (take held entries))).page;
      map = map;
      entries = set entries (least_frame rule (take held entries)) e;
    }

abbrev pub load_step : ℕ → ℕ → ℕ → List ℕ → List Entry → Entry → After
load_step rule frames held map entries e =
    pick (ltb held frames) (room_step map entries e) (full_step rule held map entries e)

-- the request of page p at moment t
unfoldable pub stepped : ℕ → ℕ → ℕ → ℕ → List ℕ → List Entry → After
unfolding found ones_of
stepped rule frames t p map entries =
    if_held (found p (pages (take (ones_of map) entries))) (λ (f : ℕ). hit_step map entries f t)
    (load_step rule frames (ones_of map) map entries (loaded_at t p))
