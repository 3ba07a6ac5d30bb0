-- `laying::lay` meets its contract. The loop's invariant: the numbers passed stand over the front of the words as lent.
-- Assumes nothing.
use mathlib.Core.Path.{◌≡◌}
use mathlib.Core.List.{◌++◌}
use Prim.Native.Nat.{◌≤◌}
use lib.ListN.{length, take, drop}
use Rattle.laying.proofs.lay.Given as goal

abbrev pub invariant-loop-i : goal.invariant-loop-i
invariant-loop-i l = (l.i ≤ length l.initial.words) × (length l.words ≡ length l.initial.words) × (l.words ≡ take l.i l.numbers ++ drop l.i l.initial.words)
