-- `counts::write_plan` meets its contract: the chain with refusal 6 behind it, then the run.
-- Assumes nothing.
use Rattle.std.specs.Prelude.{Err}
use Rattle.std.proofs.Common.{rules}
use mathlib.Core.Path.{◌≡◌, sym, ap, ◌∙◌}
use lib.ListN.{length}
use Rattle.paging.specs.Calls.{gate, rule_tests}
use Rattle.paging.specs.Refusals.{Gate}
use Rattle.calls.specs.Chain.{lent_gate}
use Rattle.calls.specs.Answers.{answer_numbers}
use Rattle.calls.proofs.Chain.{gate_lent}
use Rattle.counts.specs.Counts.{plan_tests}
use Rattle.counts.proofs.Chains.{plan_refused, same_answer_lem, same_words_lem}
use Rattle.counts.proofs.write_plan.Goals as goal
use Rattle.counts.proofs.write_plan.Goals.{After-lent_gate}

-- the gate that the code took is the chain's
chain : (c : After-lent_gate) → c.lent_gate.result ≡ gate (plan_tests c.args.rule c.args.n c.args.trace.now c.args.words.now)
unfolding plan_tests
chain c =
    c.lent_gate.ensures
    ∙ ap (λ (g : Gate). lent_gate g (length c.args.trace.now) (length c.args.words.now)) c.rule_gate.ensures
    ∙ gate_lent (rule_tests c.args.rule c.args.n c.args.trace.now) c.args.trace.now c.args.words.now

pub returns-in_err-lent_gate : goal.returns-in_err-lent_gate
returns-in_err-lent_gate c =
    let e : c.from_residual.result ≡ Err c.in_err-lent_gate.field-0.0 = search rules in
    let (answer, words) = plan_refused c.args.rule c.args.n c.args.trace.now c.args.words.now _ (sym (chain (goal.at.returns-in_err-lent_gate c).After-lent_gate) ∙ c.in_err-lent_gate.was) in
    rw e (answer, words, ap answer_numbers answer)

pub returns : goal.returns
returns c =
    let o = sym (chain (goal.at.returns c).After-lent_gate) ∙ c.in_ok-lent_gate.was in
    let answer = c.run.ensures.0 ∙ same_answer_lem c.args.rule c.args.n c.args.trace.now c.args.words.now o in
    (answer, c.run.ensures.1 ∙ same_words_lem c.args.rule c.args.n c.args.trace.now c.args.words.now o, ap answer_numbers answer)
