-- Document 01's numbers of a writing: a refusal's number and place, and 0 for the bytes; else the bytes.
-- Assumes nothing.
use Rattle.std.specs.Prelude.{Ok, Err}
use Rattle.paging.specs.Refusals.{table}
use Rattle.bundle.specs.Writing.{WriteAnswer}
use Rattle.bundle.specs.declared.WriteNumbers.{WriteNumbers}

abbrev pub write_numbers : WriteAnswer → WriteNumbers
write_numbers (Ok bytes) = record { number = 0; place = 0; bytes = bytes }
write_numbers (Err refusal) = record { number = (table refusal).number; place = (table refusal).place; bytes = 0 }
