-- `text::Writer::number` meets its contract: the digits of its tenth, where it has one, and the last.
-- Assumes nothing.
use native.Mathlib.Omega.{arith}
use Rattle.text.proofs.Putting.{wrote_then, wrote_same}
use Rattle.text.proofs.Decimal.{last_digit, more_digits}
use Rattle.text.proofs.Writer.+number.Goals as goal
use Rattle.text.proofs.Writer.+number.Goals.{then-tens, else-tens}

pub returns : goal.returns
returns t c = elim c.if-tens.branch [
  | then-tens w ↦
      wrote_same (more_digits _ (omega (arith, w.if-tens.true)) (omega (arith, c.ranges.x.fits)))
      (wrote_then w.number.ensures (rw (← w.self-is) c.put.ensures))
  | else-tens w ↦ wrote_same (last_digit _ (omega (arith, w.if-tens.false))) (rw (← w.self-is) c.put.ensures)
]
