-- `text::Writer::two_numbers` meets its contract.
-- Assumes nothing.
use Rattle.text.proofs.Putting.{wrote_then}
use Rattle.text.proofs.Writer.two_numbers.Goals as goal

pub returns : goal.returns
returns c = wrote_then (wrote_then (wrote_then c.number.ensures c.word.ensures) c.number-2.ensures) c.put.ensures
