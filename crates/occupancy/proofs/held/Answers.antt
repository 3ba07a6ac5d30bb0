-- `occupancy::held` meets its contract: the sum over the words.
-- Assumes nothing.
use Rattle.std.proofs.Common.{◌∙◌, rules, tests}
use Rattle.std.proofs.lemmas.Iterator.{YieldsList-from_slice, YieldsList-from_map}
use Rattle.std.proofs.lemmas.Iterator.Consumers.{YieldsList-at, sum_by_from_yields_List, fits_by_from_yields_list}
use native.Mathlib.Omega.{arith}
use lib.Count.{ones}
use Rattle.occupancy.specs.Map.{Words}
use Rattle.occupancy.proofs.Bits.{ones_sum, ones_fit}
use Rattle.occupancy.proofs.Made.{made}
use Rattle.occupancy.proofs.held.Goals as goal

pub sum-requires-clause-fits : goal.sum-requires-clause-fits
sum-requires-clause-fits c =
    let w : Words c.args.map = made c.args.map _ c.well_formed.0 in
    fits_by_from_yields_list ones c.args.map _ _
    (YieldsList-from_map _ ones (YieldsList-at c.map.ensures.source (YieldsList-from_slice _ c.iter.ensures.rest)) c.map.ensures.closure (λ x r q k. search (rules, tests)))
    (omega (arith, w.four, ones_fit c.args.map w.small))

pub returns : goal.returns
returns c =
    let w : Words c.args.map = made c.args.map _ c.well_formed.0 in
    sum_by_from_yields_List ones c.args.map c.map.result _ c.sum.ensures.ran
    (YieldsList-from_map _ ones (YieldsList-at c.map.ensures.source (YieldsList-from_slice _ c.iter.ensures.rest)) c.map.ensures.closure (λ x r q k. search (rules, tests)))
    ∙ ones_sum c.args.map w.small
