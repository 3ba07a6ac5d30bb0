-- `occupancy::next_free` meets its contract: the words passed over have no zero bit.
-- Assumes nothing.
use mathlib.Core.Path.{◌≡◌}
use Prim.Native.Nat.{◌+◌, ◌*◌, ◌≤◌}
use lib.ListN.{drop}
use Rattle.occupancy.specs.Map.{word_bits, map_words, lowest_zero}
use Rattle.occupancy.proofs.next_free.Given as goal

abbrev pub invariant-loop-i : goal.invariant-loop-i
invariant-loop-i l = (l.i ≤ map_words) × (word_bits * l.i + lowest_zero (drop l.i l.fn.map) ≡ lowest_zero l.fn.map)
