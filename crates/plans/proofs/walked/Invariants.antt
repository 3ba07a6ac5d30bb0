-- `plans::walked` meets its contract. The loop's invariant: the check of what is left, with the faults and the pages held so far, gives the whole.
-- Assumes nothing.
use mathlib.Core.Path.{◌≡◌}
use Prim.Native.Nat.{◌≤◌}
use lib.ListN.{length, drop}
use Rattle.paging.specs.Calls.{frame_limit}
use Rattle.paging.specs.Plans.{check_from, check}
use Rattle.plans.proofs.walked.Given as goal

abbrev pub invariant-loop-t : goal.invariant-loop-t
invariant-loop-t l =
    (l.faults ≤ l.t)
    × (length l.held ≤ frame_limit)
    × (check_from l.m l.t l.faults l.held (drop l.t l.trace) (drop l.t l.words) ≡ check l.m l.trace l.words)
