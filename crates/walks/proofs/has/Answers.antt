-- `walks::has` meets its contract.
-- Assumes nothing.
use mathlib.Core.Path.{refl}
use borrow.Author.Tests.{lt-ltb, le-ltb}
use Rattle.walks.specs.Hands.{has}
use Rattle.walks.proofs.has.Goals as goal

pub returns-then-frame-moments : goal.returns-then-frame-moments
unfolding has
returns-then-frame-moments c = rw (lt-ltb _ _ c.if-frame-moments.true) refl

pub returns-else-frame-moments : goal.returns-else-frame-moments
unfolding has
returns-else-frame-moments c = rw (le-ltb _ _ c.if-frame-moments.false) refl
