-- `laying::lay` meets its contract: one number more stands over the front of the words.
-- Assumes nothing.
use mathlib.Core.Path.{ap, ◌∙◌}
use mathlib.Core.List.{List}
use Prim.Native.Nat.{ℕ, ◌<◌}
use native.Mathlib.Omega.{arith}
use lib.ListN.{length, set, get_or, length-set}
use Rattle.laying.proofs.Laying.{lay_on}
use Rattle.laying.proofs.lay.Goals as goal

pub loop-i-preserved : goal.loop-i-preserved
loop-i-preserved c =
    let a = c.args in
    let h : c.loop-i.i < length a.numbers.now = omega arith in
    let k : c.loop-i.i < length a.words.now = omega arith in (
      omega arith,
      length-set c.loop-i.words c.loop-i.i (get_or a.numbers.now c.loop-i.i 0) ∙ c.loop-i.invariant.1,
      ap (λ (xs : List ℕ). set xs c.loop-i.i (get_or a.numbers.now c.loop-i.i 0)) c.loop-i.invariant.2 ∙ lay_on a.numbers.now a.words.now c.loop-i.i h k,
    )
