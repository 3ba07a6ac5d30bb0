-- LRU's policy starts in order.
-- Assumes nothing.
use Rattle.paging.specs.Walk.{entries_at}
use Rattle.lru1.proofs.Lasts.{lasts_start}
use Rattle.lru1.proofs.LruPolicyPolicy.start.Goals as goal

pub returns : goal.returns
unfolding entries_at
returns c = λ n trace some. lasts_start
