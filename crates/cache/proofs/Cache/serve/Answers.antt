-- `cache::Cache::serve` meets its contract: the request over the record's parts (`served_steps`).
-- Assumes nothing.
use Rattle.cache.proofs.Form.{formed}
use Rattle.cache.proofs.Soundness.{sound_is}
use Rattle.cache.proofs.Step.{served_steps}
use Rattle.cache.proofs.Cache.serve.Goals as goal

pub returns : goal.returns
returns c =
    rw c.step-outcome.ensures (served_steps c.args.self (formed c.args.self _ c.well_formed.0) (sound_is _ c.requires.0) c.args.page.0)
