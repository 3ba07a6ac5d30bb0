-- `steps::replace` meets its contract.
-- Assumes nothing.
use native.Mathlib.Omega.{arith}
use Rattle.entries.proofs.Long.{long}
use Rattle.steps.proofs.Inside.{least_frame_inside}
use Rattle.steps.proofs.replace.Goals as goal

pub bounds-entries-frame : goal.bounds-entries-frame
bounds-entries-frame c =
    omega (arith, least_frame_inside c.args.held c.args.entries (long c.args.entries _ c.well_formed.1.1.1.0) c.args.rule, c.least-frame.ensures)
