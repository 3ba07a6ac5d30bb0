-- `words::words_at` meets its contract. The loop's invariant: the words passed stand at the front of the list as lent.
-- Assumes nothing.
use mathlib.Core.Path.{◌≡◌}
use mathlib.Core.List.{◌++◌}
use lib.ListN.{drop}
use Rattle.words.specs.Bytes.{words_at}
use Rattle.words.proofs.words_at.Given as goal

abbrev pub invariant-loop-i : goal.invariant-loop-i
invariant-loop-i l = l.out ≡ words_at l.file l.at l.i ++ drop l.i l.initial.out
