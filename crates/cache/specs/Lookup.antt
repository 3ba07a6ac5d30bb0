-- Document 02, request 6, the service Frame: which frame of a record holds a page, or none. The record is only read.
--
-- In order: the tests; the answer; its numbers; what an answer means, said of the record's entries.
-- Assumes nothing.
use Rattle.std.specs.Prelude.{◌≡◌, List, [], ◌∷◌, ℕ, ◌<◌, eqb, Some, None, Result, Ok, Err}
use Rattle.paging.specs.Lists.{not}
use Rattle.paging.specs.Rules.{mark}
use Rattle.paging.specs.Refusals.{table, Gate}
use Rattle.paging.specs.Held.{found, Found}
use Rattle.paging.specs.Walk.{pages, entry_at}
use Rattle.paging.specs.Calls.{Test, test, gate}
use Rattle.paging.specs.declared.Refusal.{Refusal}
use Rattle.paging.specs.declared.Refusal.TheVariants.{UnsoundRecord, MarkRequested}
use Rattle.cache.specs.declared.Cache.{Cache}
use Rattle.cache.specs.declared.LookupNumbers.{LookupNumbers}
use Rattle.cache.specs.Record.{held_of, held_entries}
use Rattle.cache.specs.Sound.{sound}

-- the order: 5, 4
unfoldable pub lookup_tests : Cache → ℕ → List Test
unfolding sound
lookup_tests c p =
    test (not (sound c)) UnsoundRecord
    ∷ test (eqb p mark) (MarkRequested 0)
    ∷ []

-- what the service says: the frame or none, or a refusal
abbrev pub Lookup : Type 0
Lookup = Result Found Refusal

abbrev pub looked_up_by : Gate → Found → Lookup
looked_up_by (Ok nothing) answer = Ok answer
looked_up_by (Err refusal) answer = Err refusal

-- the frame in use that holds the page, or none
unfoldable pub looked_up : Cache → ℕ → Lookup
unfolding lookup_tests gate found
looked_up c p = looked_up_by (gate (lookup_tests c p)) (found p (pages (held_entries c)))

-- the numbers of an answer: a refusal's number and place; 1 where a frame holds the page, else 0; that frame, else 0
abbrev pub lookup_numbers : Lookup → LookupNumbers
lookup_numbers (Ok (Some frame)) = record { number = 0; place = 0; held = 1; frame = frame.0 }
lookup_numbers (Ok None) = record { number = 0; place = 0; held = 0; frame = 0 }
lookup_numbers (Err refusal) = record { number = (table refusal).number; place = (table refusal).place; held = 0; frame = 0 }

-- frame i of the record is in use and has page p
abbrev pub HasAt : Cache → ℕ → ℕ → Type 0
HasAt c p i = (i < held_of c) × ((entry_at c.entries i).page.0 ≡ p)
