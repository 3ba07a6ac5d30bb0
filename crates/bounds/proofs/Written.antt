-- Write a plan and Check together: what the one leaves, the other accepts for the same frames and requests, with the faults that were answered.
-- It stands above both crates, which do not know of one another. In order: the words are enough; the law.
-- Assumes nothing.
use Rattle.std.specs.Prelude.{Ok}
use mathlib.Core.Path.{◌≡◌, ◌∙◌}
use mathlib.Core.List.{List}
use Prim.Native.Nat.{ℕ, ◌≤◌}
use native.Mathlib.Omega.{arith}
use lib.ListN.{length, drop, length-append}
use Rattle.paging.specs.Rules.{rule_numbered, named}
use Rattle.paging.specs.Walk.{plan}
use Rattle.paging.proofs.Writing.{plan_length}
use Rattle.counts.specs.Counts.{plan_answer, plan_words}
use Rattle.counts.proofs.Services.{plan_then_rest, written_plan_accepted, in_order}
use Rattle.plans.specs.Check.{check_of}
use Rattle.judge.proofs.Accepted.{check_decides}

module _ (rule n : ℕ) (trace words : List ℕ) (f : ℕ) (said : plan_answer rule n trace words ≡ Ok f) where
  enough : length trace ≤ length (plan_words rule n trace words)
  enough =
      rw (plan_then_rest rule n trace words f said)
      (omega (arith, length-append (plan (named (rule_numbered rule)) n trace) (drop (length trace) words), plan_length (named (rule_numbered rule)) n trace))

  -- WHAT WRITE A PLAN LEAVES is answered by Check with the same faults
  pub written_plan_checked : check_of n trace (plan_words rule n trace words) ≡ Ok f
  written_plan_checked = check_decides n trace (plan_words rule n trace words) (in_order rule n trace words f said) enough ∙ written_plan_accepted rule n trace words f said
