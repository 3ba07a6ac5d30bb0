-- `Held::replace` meets its contract.
-- Assumes nothing.
use mathlib.Core.Path.{◌≡◌, refl}
use native.Mathlib.Omega.{arith}
use lib.ListN.{length}
use Rattle.held.proofs.Keeping.{held_length, count_some, replace_small, replace_pages, replace_keeps}
use Rattle.held.proofs.Held.replace.Goals as goal

pub overflow_sub-self : goal.overflow_sub-self
overflow_sub-self c =
    let l : length c.args.self.now ≡ c.self.inside.count = rw (← c.self.view_is) (held_length _ _ _ c.self.invariant) in
    count_some _ _ _ c.self.invariant _ _ (omega (arith, c.requires.0)) c.hash-goes.ensures.0

pub overflow_add-self : goal.overflow_add-self
overflow_add-self c = omega (arith, replace_small _ _ _ c.self.invariant c.hash-goes.result c.hash-comes.result c.hash-comes.ensures.1)

pub invariant_of-self : goal.invariant_of-self
invariant_of-self c =
    let l : length c.args.self.now ≡ c.self.inside.count = rw (← c.self.view_is) (held_length _ _ _ c.self.invariant) in
    replace_keeps _ _ _ c.self.invariant _ _ c.hash-comes.ensures.0 (rw c.self.view_is c.requires.1) _ _ (omega (arith, c.requires.0)) c.hash-goes.ensures.0 _ refl

pub returns : goal.returns
returns c =
    let l : length c.args.self.now ≡ c.self.inside.count = rw (← c.self.view_is) (held_length _ _ _ c.self.invariant) in
    rw (← c.self.view_is) (replace_pages _ _ _ c.self.invariant _ _ (omega (arith, c.requires.0)))
