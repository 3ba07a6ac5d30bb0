-- Document 01, the services Count and Write a plan, over any chain of tests: each crate that offers them names its own chain.
-- Assumes nothing.
use Rattle.std.specs.Prelude.{List, ◌++◌, ℕ, length, take, drop, Ok, Err}
use Rattle.paging.specs.Walk.{faults, plan}
use Rattle.paging.specs.Plans.{through}
use Rattle.paging.specs.Calls.{Test, gate}
use Rattle.paging.specs.declared.Rule.{Rule}
use Rattle.paging.specs.Refusals.{Gate, Answer}

-- the faults, or the refusal
unfoldable pub answered : List Test → Rule → ℕ → List ℕ → Answer
unfolding gate faults
answered tests rule n trace = through (gate tests) (Ok (faults rule n trace))

-- a list laid over the front of lent words: as much of it as there is room for, and the words past it as they were
abbrev pub laid : List ℕ → List ℕ → List ℕ
laid list words = take (length words) list ++ drop (length list) words

-- lent words after a call: a list laid over their front where the gate is open, else as they were
abbrev pub left_by : Gate → List ℕ → List ℕ → List ℕ
left_by (Ok nothing) list words = laid list words
left_by (Err refusal) list words = words

-- Write a plan: the rule's plan in the first T words, the others as they were; on a refusal all as they were
unfoldable pub written : List Test → Rule → ℕ → List ℕ → List ℕ → List ℕ
unfolding gate plan
written tests rule n trace words = left_by (gate tests) (plan rule n trace) words
