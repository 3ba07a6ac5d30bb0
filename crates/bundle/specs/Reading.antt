-- Document 01, "Bundle file": what reading a file leaves in the two lent lists. What it answers is `read_of` of `reading`.
-- Assumes nothing.
use Rattle.std.specs.Prelude.{List, ℕ, length}
use Rattle.paging.specs.Calls.{gate}
use Rattle.paging.specs.Services.{left_by}
use Rattle.reading.specs.Reading.{file_requests, file_plan, read_tests}

-- the requests at the front of one list, the plan at the front of the other; on a refusal both as they were
unfoldable pub requests_left : List ℕ → List ℕ → ℕ → List ℕ
unfolding gate read_tests
requests_left file requests for_plan = left_by (gate (read_tests file (length requests) for_plan)) (file_requests file) requests

unfoldable pub plan_left : List ℕ → ℕ → List ℕ → List ℕ
unfolding gate read_tests file_plan
plan_left file for_requests plan = left_by (gate (read_tests file for_requests (length plan))) (file_plan file) plan
