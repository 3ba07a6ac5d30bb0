-- `soundness::pages` meets its contract: the words so far are the pages so far.
-- Assumes nothing.
use mathlib.Core.Path.{◌≡◌}
use lib.ListN.{length, take}
use Rattle.paging.specs.Walk.{pages}
use Rattle.soundness.proofs.pages.Given as goal

abbrev pub invariant-loop-i : goal.invariant-loop-i
invariant-loop-i l = (length l.words ≡ 256) × (take l.i l.words ≡ take l.i (pages l.fn.entries))
