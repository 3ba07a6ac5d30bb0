-- `text::Writer::number` meets its contract: a tenth is less.
-- Assumes nothing.
use Rattle.text.proofs.Writer.+number.Given as goal

abbrev pub decreases-number : goal.decreases-number
decreases-number l = l.x
