-- `reporting::lines` meets its contract.
-- Assumes nothing.
use Rattle.text.proofs.Putting.{wrote_then}
use Rattle.reporting.proofs.lines.Goals as goal

pub returns : goal.returns
returns c =
    wrote_then (wrote_then (wrote_then (wrote_then c.word.ensures c.number.ensures) c.put.ensures) c.rules_text.ensures) c.claim_line.ensures
