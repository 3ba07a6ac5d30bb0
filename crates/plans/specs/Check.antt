-- Document 01, the service Check: refusals 2, 3, 4 and 6, then 7 at the first entry that breaks the plan rule; else the faults.
-- Assumes nothing.
use Rattle.std.specs.Prelude.{List, ◌++◌, ℕ}
use Rattle.paging.specs.Plans.{through, check}
use Rattle.paging.specs.Calls.{gate, trace_tests, lent_tests}
use Rattle.paging.specs.Refusals.{Answer}

unfoldable pub check_of : ℕ → List ℕ → List ℕ → Answer
unfolding gate trace_tests lent_tests check
check_of m trace words = through (gate (trace_tests m trace ++ lent_tests trace words)) (check m trace words)
