-- `occupancy::lowest_only` meets its contract: the test of `lowest_test`.
-- Assumes nothing.
use mathlib.Core.Path.{ap₂, ◌∙◌}
use lib.Dec.{eqb}
use Rattle.occupancy.proofs.Lowest.{lowest_test}
use Rattle.occupancy.proofs.lowest_only.Goals as goal

pub returns : goal.returns
returns c = ap₂ eqb c.next_free.ensures c.held.ensures ∙ lowest_test c.args.map
