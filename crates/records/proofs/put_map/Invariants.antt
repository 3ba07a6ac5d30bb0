-- `records::put_map` meets its contract.
-- Assumes nothing.
use mathlib.Core.Path.{◌≡◌}
use Prim.Native.Nat.{◌+◌, ◌*◌}
use lib.ListN.{length, drop}
use Rattle.records.specs.Records.{map_place, put_list, put_word, put_map}
use Rattle.records.proofs.put_map.Given as goal

abbrev pub invariant-loop-i : goal.invariant-loop-i
invariant-loop-i l = (length l.words ≡ length l.initial.words) × (put_list 2 put_word (map_place + 2 * l.i) (drop l.i l.map) l.words ≡ put_map l.map l.initial.words)
