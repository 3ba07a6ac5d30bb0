-- MIN's policy knows which page goes.
-- Assumes nothing.
use native.Mathlib.Omega.{arith}
use mathlib.Core.Path.{◌≡◌, ap}
use lib.ListN.{length}
use Rattle.walks.specs.Tied.{held_before}
use Rattle.walks.proofs.Walking.{few}
use Rattle.paging.specs.declared.Rule.TheVariants.{Min}
use Rattle.minimum.proofs.Serving.{latest_goes}
use Rattle.minimum.proofs.MinPolicyPolicy.goes.Goals as goal

pub latest-requires : goal.latest-requires
latest-requires c =
    let l : length c.args.held.now ≡ length (held_before Min c.args._n c.args._trace.now c.args._t) = ap length c.requires.held in
    rw c.pages.ensures (omega (arith, c.requires.full, c.requires.within.some), omega (arith, l, few Min c.args._n c.args._trace.now c.args._t, c.requires.within.frames))

pub returns-clause-goes : goal.returns-clause-goes
returns-clause-goes c =
    latest_goes _ _ _ _ c.requires.keeps c.requires.within _ c.requires.held c.requires.absent _ (rw (← c.pages.ensures) c.latest.ensures.0) (rw (← c.pages.ensures) c.latest.ensures.1)
