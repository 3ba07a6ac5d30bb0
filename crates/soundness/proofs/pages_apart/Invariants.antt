-- `soundness::pages_apart` meets its contract. The loop's invariant: the pages that are left answer the whole.
-- Assumes nothing.
use mathlib.Core.Path.{◌≡◌}
use lib.ListN.{length, take}
use Rattle.soundness.specs.Sound.{pairwise, distinct_pages}
use Rattle.soundness.proofs.Words.{differ}
use Rattle.soundness.proofs.pages_apart.Given as goal

abbrev pub invariant-loop-p : goal.invariant-loop-p
invariant-loop-p l = pairwise differ l.rest ≡ distinct_pages (take l.fn.held l.fn.entries)

abbrev pub decreases-loop-p : goal.decreases-loop-p
decreases-loop-p l = length l.rest
