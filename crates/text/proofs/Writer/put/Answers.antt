-- `text::Writer::put` meets its contract.
-- Assumes nothing.
use mathlib.Core.Path.{refl}
use Rattle.text.proofs.Putting.{put_one, put_out}
use Rattle.text.proofs.Writer.put.Goals as goal

pub returns-then-self : goal.returns-then-self
returns-then-self c = record { same = refl; put = put_one _ _ _ c.if-self.true }

pub returns-else-self : goal.returns-else-self
returns-else-self c = record { same = refl; put = put_out _ _ _ c.if-self.false }
