-- MIN's policy starts in order.
-- Assumes nothing.
use Rattle.minimum.proofs.Serving.{fair_starts}
use Rattle.minimum.proofs.MinPolicyPolicy.start.Goals as goal

pub returns : goal.returns
returns c = λ n trace some. fair_starts n trace
