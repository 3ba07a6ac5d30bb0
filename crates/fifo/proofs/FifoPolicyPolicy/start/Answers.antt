-- FIFO's policy starts in order.
-- Assumes nothing.
use Rattle.paging.specs.Walk.{entries_at}
use Rattle.fifo.proofs.Round.{round_starts}
use Rattle.fifo.proofs.FifoPolicyPolicy.start.Goals as goal

pub returns : goal.returns
unfolding entries_at
returns c = λ n trace some. round_starts n some
