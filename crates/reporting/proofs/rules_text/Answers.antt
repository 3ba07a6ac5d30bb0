-- `reporting::rules_text` meets its contract.
-- Assumes nothing.
use Rattle.text.proofs.Putting.{wrote_then}
use Rattle.reporting.proofs.rules_text.Goals as goal

pub returns : goal.returns
returns c =
    wrote_then (wrote_then (wrote_then (wrote_then c.rule_line.ensures c.rule_line-2.ensures) c.rule_line-3.ensures) c.rule_line-4.ensures) c.rule_line-5.ensures
