-- Document 01, the services Count and Write a plan, for all four rules by their numbers.
-- Assumes nothing.
use Rattle.std.specs.Prelude.{List, ◌++◌, ℕ}
use Rattle.paging.specs.Rules.{rule_numbered, named}
use Rattle.paging.specs.Calls.{Test, rule_tests, lent_tests}
use Rattle.paging.specs.Services.{answered, written}
use Rattle.paging.specs.Refusals.{Answer}

-- Count: the faults, or refusal 1, 2, 3, 4 in that order
unfoldable pub count_of : ℕ → ℕ → List ℕ → Answer
unfolding answered rule_tests
count_of rule n trace = answered (rule_tests rule n trace) (named (rule_numbered rule)) n trace

-- Write a plan: 1, 2, 3, 4, then 6 for fewer than T words
unfoldable pub plan_tests : ℕ → ℕ → List ℕ → List ℕ → List Test
unfolding rule_tests lent_tests
plan_tests rule n trace words = rule_tests rule n trace ++ lent_tests trace words

unfoldable pub plan_answer : ℕ → ℕ → List ℕ → List ℕ → Answer
unfolding answered plan_tests
plan_answer rule n trace words = answered (plan_tests rule n trace words) (named (rule_numbered rule)) n trace

-- what it leaves in the lent words
unfoldable pub plan_words : ℕ → ℕ → List ℕ → List ℕ → List ℕ
unfolding written plan_tests
plan_words rule n trace words = written (plan_tests rule n trace words) (named (rule_numbered rule)) n trace words
