-- `reporting::claim_line` meets its contract.
-- Assumes nothing.
use mathlib.Core.Path.{ap}
use borrow.Author.Tests.{eq-eqb, ne_eqb}
use Rattle.reporting.specs.Report.{claimed}
use Rattle.text.proofs.Putting.{wrote_then, wrote_same}
use Rattle.reporting.proofs.claim_line.Goals as goal

pub returns-then-sizes-eq0 : goal.returns-then-sizes-eq0
returns-then-sizes-eq0 c =
    rw (eq-eqb _ _ c.if-sizes-eq0.true) (wrote_then c.word.ensures c.word-then-sizes-eq0.ensures)

pub returns-else-sizes-eq0 : goal.returns-else-sizes-eq0
returns-else-sizes-eq0 c =
    rw (ne_eqb _ _ c.if-sizes-eq0.false) (wrote_then c.word.ensures (wrote_same (ap (claimed c.args.sizes.m) c.check.ensures.0) c.claimed.ensures))
