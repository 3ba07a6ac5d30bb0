-- `text::Writer::line` meets its contract.
-- Assumes nothing.
use Rattle.text.proofs.Putting.{wrote_then}
use Rattle.text.proofs.Writer.line.Goals as goal

pub returns : goal.returns
returns c = wrote_then c.word.ensures c.two_numbers.ensures
