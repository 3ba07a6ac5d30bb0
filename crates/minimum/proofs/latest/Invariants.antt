-- `minimum::latest` meets its contract. The loop's invariant: of the frames looked at, the best goes before all (`Best`).
-- Assumes nothing.
use Rattle.std.proofs.Common.{length}
use Rattle.minimum.proofs.Scan.{Best}
use Rattle.minimum.proofs.latest.Given as goal

abbrev pub invariant-loop-i : goal.invariant-loop-i
invariant-loop-i l = Best (length l.pages) l.pages l.turns l.best l.i
