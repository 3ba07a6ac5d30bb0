-- `text::Writer::refused_line` meets its contract.
-- Assumes nothing.
use mathlib.Core.Path.{ap₂}
use Prim.Native.Nat.{ℕ}
use Rattle.text.specs.Lines.{at_word, pair}
use Rattle.text.proofs.Putting.{wrote_then, wrote_same}
use Rattle.text.proofs.Writer.refused_line.Goals as goal

pub returns : goal.returns
returns c =
    wrote_then c.word.ensures (wrote_same (ap₂ (λ (x y : ℕ). pair x at_word y) c.number.ensures c.place.ensures) c.two_numbers.ensures)
