-- FIFO's policy keeps a request.
-- Assumes nothing.
use Rattle.fifo.proofs.Round.{round_keeps}
use Rattle.fifo.proofs.FifoPolicyPolicy.served.Goals as goal

pub returns : goal.returns
returns c = round_keeps _ _ _ _ c.requires.keeps c.requires.within _ c.requires.seat _ c.requires.told _ c.next_after-self.ensures
