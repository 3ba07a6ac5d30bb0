-- `records::put_entries` meets its contract.
-- Assumes nothing.
use mathlib.Core.Path.{◌≡◌}
use Prim.Native.Nat.{◌+◌, ◌*◌}
use lib.ListN.{length, drop}
use Rattle.records.specs.Records.{entries_place, put_list, put_entry, put_entries}
use Rattle.records.proofs.put_entries.Given as goal

abbrev pub invariant-loop-i : goal.invariant-loop-i
invariant-loop-i l = (length l.words ≡ length l.initial.words) × (put_list 4 put_entry (entries_place + 4 * l.i) (drop l.i l.entries) l.words ≡ put_entries l.entries l.initial.words)
