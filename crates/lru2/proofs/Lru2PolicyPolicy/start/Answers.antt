-- LRU-2's policy starts in order.
-- Assumes nothing.
use Rattle.paging.specs.Walk.{entries_at}
use Rattle.lru2.proofs.Twice.{twice_starts}
use Rattle.lru2.proofs.Lru2PolicyPolicy.start.Goals as goal

pub returns : goal.returns
unfolding entries_at
returns c = λ n trace some. twice_starts
