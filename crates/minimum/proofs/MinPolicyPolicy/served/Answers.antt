-- MIN's policy keeps a request.
-- Assumes nothing.
use Rattle.minimum.proofs.Serving.{fair_low, fair_after}
use Rattle.minimum.proofs.MinPolicyPolicy.served.Goals as goal

pub bounds-self-frame : goal.bounds-self-frame
bounds-self-frame c = fair_low _ _ _ _ c.requires.keeps c.requires.within _ c.requires.seat

pub returns : goal.returns
returns c = fair_after _ _ _ _ c.requires.keeps c.requires.within _ c.requires.seat _ c.next_request.ensures
