-- `bundle::put_words` meets its contract. The loop's invariant: the bytes of the words passed are laid over the front of the room as lent.
-- Assumes nothing.
use mathlib.Core.Path.{◌≡◌}
use lib.ListN.{take}
use Rattle.paging.specs.Services.{laid}
use Rattle.bundle.specs.Bytes.{bytes_in}
use Rattle.bundle.proofs.put_words.Given as goal

abbrev pub invariant-loop-i : goal.invariant-loop-i
invariant-loop-i l = l.room ≡ laid (bytes_in (take l.i l.words)) l.initial.room
