-- `walks::onward` meets its contract: the first from where the loop stands is the first from the hand on.
-- Assumes nothing.
use mathlib.Core.Path.{◌≡◌}
use Prim.Native.Nat.{◌-◌}
use Rattle.walks.specs.Hands.{stops, first_from}
use Rattle.walks.proofs.onward.Given as goal

abbrev pub invariant-loop-at : goal.invariant-loop-at
invariant-loop-at l =
    first_from (stops l.moments l.others l.served) l.at (l.end - l.at) ≡ first_from (stops l.moments l.others l.served) l.hand (l.end - l.hand)
