-- `text::Writer::word` meets its contract.
-- Assumes nothing.
use borrow.Author.Rules.{rules}
use Rattle.text.proofs.Putting.{wrote_none, wrote_next}
use Rattle.text.proofs.Writer.word.Goals as goal

pub loop-byte-init : goal.loop-byte-init
loop-byte-init c = wrote_none _

pub loop-byte-preserved : goal.loop-byte-preserved
loop-byte-preserved c = wrote_next _ _ (search rules) c.loop-byte.invariant c.put.ensures
