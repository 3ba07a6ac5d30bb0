-- `walks::stops` meets its contract.
-- Assumes nothing.
use mathlib.Core.Path.{sym}
use Rattle.walks.proofs.Hands.{stops_past, stops_is}
use Rattle.walks.proofs.stops.Goals as goal

pub returns-then-served-at : goal.returns-then-served-at
returns-then-served-at c = sym (stops_past _ _ _ _ c.if-served-at.true)

pub returns-then-has : goal.returns-then-has
returns-then-has c = rw (stops_is _ _ _ _ c.if-served-at.false, ← c.has.ensures, c.if-has.true) c.has-then-has.ensures

pub returns-else-has : goal.returns-else-has
returns-else-has c = rw (stops_is _ _ _ _ c.if-served-at.false, ← c.has.ensures, c.if-has.false)
