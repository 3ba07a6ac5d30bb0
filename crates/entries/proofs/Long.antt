-- The array has 256 entries: its type says so, and this law hands it to arithmetic.
-- Assumes nothing.
use mathlib.Core.Path.{◌≡◌}
use mathlib.Core.List.{List}
use lib.ListN.{length}
use mir.Val.{Val}
use denote.Laws.{Is}
use denote.Array.{Array}
use Rattle.paging.specs.declared.Entry.{Entry}
use Rattle.paging.specs.contracts.Entry as E

pub long : (es : List Entry) (vs : List Val) → Is (Array E.the_row 256) es vs → length es ≡ 256
long es vs p = p.1.0.1
