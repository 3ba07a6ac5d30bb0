-- `counts::run` meets its contract: the number's rule first, then the rule's walk.
-- Assumes nothing.
use Rattle.std.specs.Prelude.{Err}
use Rattle.std.proofs.Common.{rules}
use mathlib.Core.Path.{◌≡◌, sym, ◌∙◌}
use Rattle.counts.proofs.Chains.{unknown_answer, known_answer}
use Rattle.counts.proofs.run.Goals as goal

pub returns-in_err-try_from : goal.returns-in_err-try_from
returns-in_err-try_from c =
    let e : c.from_residual.result ≡ Err c.in_err-try_from.field-0.0 = search rules in
    rw e (unknown_answer _ _ _ c.args.words.now _ (sym c.try_from.ensures ∙ c.in_err-try_from.was))

pub returns : goal.returns
returns c =
    let e = known_answer _ _ _ c.args.words.now _ (sym c.try_from.ensures ∙ c.in_ok-try_from.was) in
    (c.walk.ensures.0 ∙ e.0, c.walk.ensures.1 ∙ e.1)
