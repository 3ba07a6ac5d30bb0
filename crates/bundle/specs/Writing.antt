-- Document 01, "Bundle file": the bytes of a bundle, what writing one answers, and what it leaves in the lent room.
-- Assumes nothing.
use Rattle.std.specs.Prelude.{List, [], ◌∷◌, ◌++◌, ℕ, ltb, length, Result, Ok, Err}
use Rattle.paging.specs.Lists.{not}
use Rattle.paging.specs.Calls.{Test, test, gate, trace_tests}
use Rattle.paging.specs.Services.{left_by}
use Rattle.paging.specs.Refusals.{Gate}
use Rattle.paging.specs.declared.Refusal.{Refusal}
use Rattle.paging.specs.declared.Refusal.TheVariants.{LentTooShort, CountNotAllowed}
use Rattle.reading.specs.Reading.{plan_fits, size_tests}
use Rattle.bundle.specs.Bytes.{section}

-- sizes, requests and plan
unfoldable pub file_of : ℕ → ℕ → List ℕ → List ℕ → List ℕ
unfolding section
file_of n m trace plan = section (n ∷ m ∷ []) ++ section trace ++ section plan

-- 2 (for n and m) and 12, then 3 and 4 as in a call (its 2, for n alone, is settled before), then 10
unfoldable pub call_tests : ℕ → ℕ → List ℕ → ℕ → List Test
unfolding size_tests trace_tests
call_tests n m trace planned =
    size_tests n m 0 0 ++ trace_tests n trace ++ test (not (plan_fits (length trace) planned)) (CountNotAllowed 0) ∷ []

-- 6 last, for a room of so many bytes
unfoldable pub write_tests : ℕ → ℕ → List ℕ → List ℕ → ℕ → List Test
unfolding call_tests file_of
write_tests n m trace plan room =
    call_tests n m trace (length plan) ++ test (ltb room (length (file_of n m trace plan))) LentTooShort ∷ []

-- what a writing answers: the bytes of the file, or a refusal
abbrev pub WriteAnswer : Type 0
WriteAnswer = Result ℕ Refusal

abbrev pub bytes_by : Gate → ℕ → WriteAnswer
bytes_by (Ok nothing) bytes = Ok bytes
bytes_by (Err refusal) bytes = Err refusal

unfoldable pub write_of : ℕ → ℕ → List ℕ → List ℕ → ℕ → WriteAnswer
unfolding gate write_tests
write_of n m trace plan room = bytes_by (gate (write_tests n m trace plan room)) (length (file_of n m trace plan))

-- the file at the front of the room; on a refusal the room as it was
unfoldable pub room_left : ℕ → ℕ → List ℕ → List ℕ → List ℕ → List ℕ
unfolding gate write_tests
room_left n m trace plan room = left_by (gate (write_tests n m trace plan (length room))) (file_of n m trace plan) room
