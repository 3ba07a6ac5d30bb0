-- Count and Write a plan as services: the plan written keeps the plan rule with the faults answered, both answer the same number, and feeding gives both.
-- Each holds of any accepted call: where Write a plan answers a number of faults, whatever the rule, the frames, the trace and the words.
-- Assumes nothing.
use Rattle.std.specs.Prelude.{Ok, Err}
use mathlib.Core.Path.{◌≡◌, refl, sym, ap, ap₂, ◌∙◌}
use mathlib.Core.Bool.{Bool, true, false}
use mathlib.Core.List.{List, ◌++◌}
use Prim.Native.Nat.{ℕ, ◌≤◌}
use native.Mathlib.Omega.{arith}
use lib.ListN.{length, take, drop}
use lib.Seq.{take-append_seam}
use Rattle.paging.specs.Lists.{pick}
use Rattle.paging.specs.Rules.{rule_numbered, named}
use Rattle.paging.specs.Walk.{faults, plan}
use Rattle.paging.specs.Plans.{through, check}
use Rattle.paging.specs.Calls.{gate, unknown, trace_tests, rule_tests}
use Rattle.paging.specs.declared.Rule.{Rule}
use Rattle.paging.specs.Refusals.{Gate}
use Rattle.paging.specs.declared.Refusal.TheVariants.{UnknownRule}
use Rattle.paging.proofs.Own.{own_plan_accepted}
use Rattle.paging.proofs.PlanRule.{check_extra}
use Rattle.paging.proofs.Calls.{none_marked}
use Rattle.paging.proofs.Services.{written_open}
use Rattle.paging.proofs.Writing.{plan_length, laid_whole}
use Rattle.paging.specs.Meanings.{InOrder}
use Rattle.calls.proofs.Chain.{trace_open}
use Rattle.soundness.specs.Sound.{feedable}
use Rattle.cache.specs.Record.{empty_cache, fresh_of}
use Rattle.cache.specs.Feed.{feeding, fed_plan, fed_faults}
use Rattle.cache.proofs.Soundness.{fresh_in_order, fresh_empty}
use Rattle.cache.proofs.Feeding.{feeding_gives_the_plan, feeding_gives_the_count}
use Rattle.counts.specs.Counts.{count_of, plan_tests, plan_answer, plan_words}
use Rattle.counts.proofs.Chains.{count_open, same_answer_lem}

-- an answer of faults comes through an open gate
answer_open : (g : Gate) (f x : ℕ) → through g (Ok x) ≡ Ok f → (g ≡ Ok tt) × (x ≡ f)
answer_open (Ok tt) f x e = (refl, (cc))
answer_open (Err refusal) f x e = absurd (let z : ◌≡◌ {A = ℕ} 0 1 = cc in omega arith)

-- a number that Count answers is the rule's faults
pub count_is : (rule n : ℕ) (trace : List ℕ) (f : ℕ) → count_of rule n trace ≡ Ok f → faults (named (rule_numbered rule)) n trace ≡ f
unfolding count_of
count_is rule n trace f e = (answer_open (gate (rule_tests rule n trace)) f (faults (named (rule_numbered rule)) n trace) e).1

module _ (rule n : ℕ) (trace words : List ℕ) (f : ℕ) (said : plan_answer rule n trace words ≡ Ok f) where
  kind : Rule
  kind = named (rule_numbered rule)

  accepted : (gate (plan_tests rule n trace words) ≡ Ok tt) × (faults kind n trace ≡ f)
  unfolding plan_answer kind
  accepted = answer_open (gate (plan_tests rule n trace words)) f (faults (named (rule_numbered rule)) n trace) said

  -- an answered call is in order
  pub in_order : InOrder n trace
  unfolding gate rule_tests
  in_order = go (unknown (rule_numbered rule)) (count_open rule n trace words accepted.0).0
    where
      go : (b : Bool) → pick b (Err UnknownRule) (gate (trace_tests n trace)) ≡ Ok tt → InOrder n trace
      go true e = absurd (let z : ◌≡◌ {A = ℕ} 0 1 = cc in omega arith)
      go false e = (trace_open n trace).0 e

  plan_long : length (plan kind n trace) ≡ length trace
  plan_long = plan_length kind n trace

  -- the first T words are the plan, the others are as they were lent
  pub plan_then_rest : plan_words rule n trace words ≡ plan (named (rule_numbered rule)) n trace ++ drop (length trace) words
  unfolding plan_words kind
  plan_then_rest =
      written_open (plan_tests rule n trace words) kind n trace words accepted.0
      ∙ laid_whole (plan kind n trace) words (let h : length (plan kind n trace) ≤ length words = omega (arith, plan_long, (count_open rule n trace words accepted.0).1) in h)
      ∙ ap (λ (k : ℕ). plan kind n trace ++ drop k words) plan_long

  -- WHAT WRITE A PLAN LEAVES keeps the plan rule for the same frames, with the faults that it answered
  pub written_plan_accepted : check n trace (plan_words rule n trace words) ≡ Ok f
  unfolding kind
  written_plan_accepted =
      ap (check n trace) plan_then_rest
      ∙ check_extra n trace (plan kind n trace) (drop (length trace) words) plan_long
      ∙ own_plan_accepted kind n trace in_order.one_frame
      ∙ ap Ok accepted.1

  -- COUNT answers the same number
  pub count_answers_the_same : count_of rule n trace ≡ Ok f
  count_answers_the_same = same_answer_lem rule n trace words accepted.0 ∙ said

  -- FEEDING the trace from an empty cache of rule 1, 2 or 4 gives that plan and that number
  module _ (feeds : feedable rule ≡ true) where
    pub feeding_gives_the_words : fed_plan (feeding (empty_cache rule n) trace) ≡ take (length trace) (plan_words rule n trace words)
    unfolding kind
    feeding_gives_the_words =
        feeding_gives_the_plan rule n trace feeds in_order.one_frame in_order.frames in_order.requests (none_marked trace in_order.pages)
        ∙ sym (take-append_seam (plan kind n trace) (drop (length trace) words))
        ∙ ap₂ take plan_long (sym plan_then_rest)

    pub feeding_gives_the_number : fed_faults (feeding (empty_cache rule n) trace) ≡ f
    unfolding kind
    feeding_gives_the_number =
        feeding_gives_the_count rule n trace feeds in_order.one_frame in_order.frames in_order.requests (none_marked trace in_order.pages)
        ∙ accepted.1

  -- THE SAME FROM FRESH, where its gate is open
  module _ (opens : (fresh_of rule n).gate ≡ Ok tt) where
    pub fresh_gives_the_words : fed_plan (feeding (fresh_of rule n).cache trace) ≡ take (length trace) (plan_words rule n trace words)
    fresh_gives_the_words = rw (fresh_empty rule n opens) (feeding_gives_the_words (fresh_in_order rule n opens).0)

    pub fresh_gives_the_number : fed_faults (feeding (fresh_of rule n).cache trace) ≡ f
    fresh_gives_the_number = rw (fresh_empty rule n opens) (feeding_gives_the_number (fresh_in_order rule n opens).0)
