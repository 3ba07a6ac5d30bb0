-- The chains of tests of the crates below, against those of the services.
-- Assumes nothing.
use Rattle.std.specs.Prelude.{Ok, Err}
use mathlib.Core.Path.{◌≡◌, sym, ap, ◌∙◌}
use mathlib.Core.List.{List}
use Prim.Native.Nat.{ℕ, ◌≤◌}
use native.Mathlib.Omega.{arith}
use lib.ListN.{length}
use Rattle.paging.specs.Rules.{rule_numbered, named}
use Rattle.paging.specs.Calls.{gate, trace_tests, rule_tests}
use Rattle.paging.specs.Services.{answered, written}
use Rattle.paging.specs.declared.Rule.{Rule}
use Rattle.paging.specs.declared.Refusal.{Refusal}
use Rattle.paging.specs.declared.Refusal.TheVariants.{UnknownRule}
use Rattle.paging.proofs.Services.{answered_open, written_open, walk_no, answered_same, written_same}
use Rattle.calls.proofs.Chain.{lent_open}
use Rattle.counts.specs.Counts.{count_of, plan_tests, plan_answer, plan_words}

-- ---- what the rule's walk answers, in the services' words

module _ (rule n : ℕ) (trace words : List ℕ) where
  -- a number that stands for no rule is refused before all else
  unknown_is : (refusal : Refusal) → rule_numbered rule ≡ Err refusal → refusal ≡ UnknownRule
  unknown_is refusal e = Prim.grind arith

  unknown_gate : (refusal : Refusal) → rule_numbered rule ≡ Err refusal → gate (rule_tests rule n trace) ≡ Err refusal
  unfolding gate rule_tests
  unknown_gate refusal e = rw (e, unknown_is refusal e)

  pub unknown_answer : (refusal : Refusal) → rule_numbered rule ≡ Err refusal
      → (Err refusal ≡ count_of rule n trace) × (words ≡ written (rule_tests rule n trace) (named (rule_numbered rule)) n trace words)
  unfolding count_of
  unknown_answer refusal e = walk_no (rule_tests rule n trace) (named (rule_numbered rule)) n trace refusal (unknown_gate refusal e) words

  -- else the tests are those of the trace
  module _ (kind : Rule) (e : rule_numbered rule ≡ Ok kind) where
    known_gate : gate (trace_tests n trace) ≡ gate (rule_tests rule n trace)
    unfolding gate rule_tests
    known_gate = rw e

    pub known_answer : (answered (trace_tests n trace) kind n trace ≡ count_of rule n trace)
        × (written (trace_tests n trace) kind n trace words ≡ written (rule_tests rule n trace) (named (rule_numbered rule)) n trace words)
    unfolding count_of
    known_answer = (
      answered_same (trace_tests n trace) (rule_tests rule n trace) known_gate kind n trace
          ∙ ap (λ (k : Rule). answered (rule_tests rule n trace) k n trace) (ap named (sym e)),
      written_same (trace_tests n trace) (rule_tests rule n trace) known_gate kind n trace words
          ∙ ap (λ (k : Rule). written (rule_tests rule n trace) k n trace words) (ap named (sym e)),
    )

-- ---- Write a plan

module _ (rule n : ℕ) (trace words : List ℕ) where
  pub plan_refused : (refusal : Refusal) → gate (plan_tests rule n trace words) ≡ Err refusal
      → (Err refusal ≡ plan_answer rule n trace words) × (words ≡ plan_words rule n trace words)
  unfolding plan_answer plan_words
  plan_refused refusal e = walk_no (plan_tests rule n trace words) (named (rule_numbered rule)) n trace refusal e words

  -- where it isn't refused, neither is Count, and there are words for the whole plan
  module _ (o : gate (plan_tests rule n trace words) ≡ Ok tt) where
    pub count_open : (gate (rule_tests rule n trace) ≡ Ok tt) × (length trace ≤ length words)
    unfolding plan_tests
    count_open = (lent_open (rule_tests rule n trace) trace words).0 o

    -- Count and Write a plan answer the same number
    pub same_answer_lem : count_of rule n trace ≡ plan_answer rule n trace words
    unfolding count_of plan_answer
    same_answer_lem =
        answered_open (rule_tests rule n trace) (named (rule_numbered rule)) n trace count_open.0
        ∙ sym (answered_open (plan_tests rule n trace words) (named (rule_numbered rule)) n trace o)

    pub same_words_lem : written (rule_tests rule n trace) (named (rule_numbered rule)) n trace words ≡ plan_words rule n trace words
    unfolding plan_words
    same_words_lem =
        written_open (rule_tests rule n trace) (named (rule_numbered rule)) n trace words count_open.0
        ∙ sym (written_open (plan_tests rule n trace words) (named (rule_numbered rule)) n trace words o)
