-- FIFO's policy knows which page goes.
-- Assumes nothing.
use Rattle.fifo.proofs.Round.{round_knows}
use Rattle.fifo.proofs.FifoPolicyPolicy.goes.Goals as goal

pub returns-clause-goes : goal.returns-clause-goes
returns-clause-goes c = round_knows _ _ _ _ c.requires.keeps _ c.requires.held c.requires.full
