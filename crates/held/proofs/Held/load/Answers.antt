-- `Held::load` meets its contract.
-- Assumes nothing.
use mathlib.Core.Path.{◌≡◌}
use native.Mathlib.Omega.{arith}
use lib.ListN.{length}
use Rattle.held.proofs.Keeping.{held_length, count_small, load_pages, load_keeps}
use Rattle.held.proofs.Held.load.Goals as goal

pub overflow_add-self : goal.overflow_add-self
overflow_add-self c = omega (arith, count_small _ _ _ c.self.invariant c.hash-h.result c.hash-h.ensures.1)

pub invariant_of-self : goal.invariant_of-self
invariant_of-self c =
    let l : length c.args.self.now ≡ c.self.inside.count = rw (← c.self.view_is) (held_length _ _ _ c.self.invariant) in
    load_keeps _ _ _ c.self.invariant _ _ c.hash-h.ensures.0 (rw c.self.view_is c.requires.1) (omega (arith, c.requires.0))

pub returns : goal.returns
returns c =
    let l : length c.args.self.now ≡ c.self.inside.count = rw (← c.self.view_is) (held_length _ _ _ c.self.invariant) in
    rw (← c.self.view_is) (load_pages _ _ _ c.self.invariant _ (omega (arith, c.requires.0)))
