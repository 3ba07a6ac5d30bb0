-- `text::Writer::word` meets its contract: the bytes passed are put.
-- Assumes nothing.
use lib.ListN.{take}
use Rattle.text.specs.Writing.{Wrote}
use Rattle.text.proofs.Writer.word.Given as goal

abbrev pub invariant-loop-byte : goal.invariant-loop-byte
invariant-loop-byte l = Wrote l.initial.self (take l.byte-index l.bytes) l.self
