-- `soundness::entries_ok` meets its contract. The loop's invariant: the entries from here on, with the moments seen so far, answer the whole.
-- Assumes nothing.
use mathlib.Core.Path.{◌≡◌}
use lib.ListN.{drop}
use Rattle.soundness.specs.Sound.{met, entry_conditions}
use Rattle.soundness.proofs.Seen.{scan}
use Rattle.soundness.proofs.entries_ok.Given as goal

abbrev pub invariant-loop-e : goal.invariant-loop-e
invariant-loop-e l =
    scan l.fn.clock l.seen (drop l.e-index l.fn.in_use) ≡ met (entry_conditions l.fn.clock l.fn.in_use)
