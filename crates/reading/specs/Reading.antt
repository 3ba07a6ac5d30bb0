-- Document 01, "Bundle file": what reading a file answers.
--
-- In order: where the sections of a file stand; the chain of refusals (each test beside its refusal, the first that is true decides); the
-- answer. Everything is a function of the file's bytes and of how many words were lent.
-- Assumes nothing.
use Rattle.std.specs.Prelude.{List, [], ◌∷◌, ◌++◌, Bool, true, ℕ, ◌+◌, ◌*◌, ◌/◌, eqb, ltb, length, Result, Ok, Err}
use Rattle.paging.specs.Lists.{pick, not}
use Rattle.paging.specs.Calls.{request_limit, Test, test, gate, outside, marked, first_mark}
use Rattle.paging.specs.Refusals.{Gate}
use Rattle.paging.specs.declared.Refusal.{Refusal}
use Rattle.paging.specs.declared.Refusal.TheVariants.{FramesOutside, MarkRequested, LentTooShort, FileCut, CountNotAllowed, BytesLeftOver, PlanAboveCache}
use Rattle.words.specs.Bytes.{word_at, words_at}
use Rattle.reading.specs.declared.Sizes.{Sizes}

-- ---- where the sections stand: byte 0 has the count of sizes, 4 has n, 8 has m, 12 the count of requests

abbrev pub request_count : List ℕ → ℕ
request_count file = word_at file 12

-- the byte of the plan's count
abbrev pub plan_place : List ℕ → ℕ
plan_place file = 16 + 4 * request_count file

abbrev pub plan_count : List ℕ → ℕ
plan_count file = word_at file (plan_place file)

-- the first byte after the last section
abbrev pub file_end : List ℕ → ℕ
file_end file = plan_place file + 4 + 4 * plan_count file

unfoldable pub file_requests : List ℕ → List ℕ
unfolding words_at
file_requests file = words_at file 16 (request_count file)

unfoldable pub file_plan : List ℕ → List ℕ
unfolding words_at
file_plan file = words_at file (plan_place file + 4) (plan_count file)

-- ---- the chain of refusals

-- 9: the file ends before this byte; its place is the byte where the missing or partial word begins
abbrev pub ends_before : List ℕ → ℕ → Test
ends_before file end = test (ltb (length file) end) (FileCut (length file / 4 * 4))

-- a plan has no words, or one for each request
abbrev pub plan_fits : ℕ → ℕ → Bool
plan_fits requests planned = pick (eqb planned 0) true (eqb planned requests)

-- 9 and 10, as far as the requests' count
unfoldable pub head_tests : List ℕ → List Test
head_tests file =
    ends_before file 4
    ∷ test (not (eqb (word_at file 0) 2)) (CountNotAllowed 0)
    ∷ ends_before file 16
    ∷ test (ltb request_limit (request_count file)) (CountNotAllowed 12)
    ∷ []

-- 9, 10 and 11 from there on
unfoldable pub tail_tests : List ℕ → List Test
tail_tests file =
    ends_before file (plan_place file + 4)
    ∷ test (not (plan_fits (request_count file) (plan_count file))) (CountNotAllowed (plan_place file))
    ∷ ends_before file (file_end file)
    ∷ test (ltb (file_end file) (length file)) (BytesLeftOver (file_end file))
    ∷ []

unfoldable pub form_tests : List ℕ → List Test
unfolding head_tests tail_tests
form_tests file = head_tests file ++ tail_tests file

-- 2, with a place for n and one for m, and 12
unfoldable pub size_tests : ℕ → ℕ → ℕ → ℕ → List Test
size_tests n m place_n place_m =
    test (outside n) (FramesOutside place_n)
    ∷ test (outside m) (FramesOutside place_m)
    ∷ test (ltb n m) PlanAboveCache
    ∷ []

-- 2, 12 and 4
unfoldable pub value_tests : List ℕ → List Test
unfolding size_tests file_requests marked first_mark
value_tests file =
    size_tests (word_at file 4) (word_at file 8) 4 8
    ++ test (marked (file_requests file)) (MarkRequested (16 + 4 * first_mark (file_requests file))) ∷ []

-- 6 last, for so many words lent for the requests and for the plan
unfoldable pub read_tests : List ℕ → ℕ → ℕ → List Test
unfolding form_tests value_tests
read_tests file for_requests for_plan =
    form_tests file ++ value_tests file
    ++ test (ltb for_requests (request_count file)) LentTooShort
    ∷ test (ltb for_plan (plan_count file)) LentTooShort
    ∷ []

-- ---- the answer

abbrev pub sizes_of : List ℕ → Sizes
sizes_of file = record { n = word_at file 4; m = word_at file 8; requests = request_count file; planned = plan_count file }

-- what a reading answers: the sizes and counts, or a refusal
abbrev pub ReadAnswer : Type 0
ReadAnswer = Result Sizes Refusal

abbrev pub sizes_by : Gate → Sizes → ReadAnswer
sizes_by (Ok nothing) sizes = Ok sizes
sizes_by (Err refusal) sizes = Err refusal

unfoldable pub read_of : List ℕ → ℕ → ℕ → ReadAnswer
unfolding gate read_tests
read_of file for_requests for_plan = sizes_by (gate (read_tests file for_requests for_plan)) (sizes_of file)
