-- Document 01's numbers of a reading: a refusal's number and place, and 0 for every other number; else the sizes and counts.
-- Assumes nothing.
use Rattle.std.specs.Prelude.{Ok, Err}
use Rattle.paging.specs.Refusals.{table}
use Rattle.reading.specs.Reading.{ReadAnswer}
use Rattle.reading.specs.declared.ReadNumbers.{ReadNumbers}

abbrev pub read_numbers : ReadAnswer → ReadNumbers
read_numbers (Ok sizes) =
    record { number = 0; place = 0; n = sizes.n; m = sizes.m; requests = sizes.requests; planned = sizes.planned }
read_numbers (Err refusal) =
    record { number = (table refusal).number; place = (table refusal).place; n = 0; m = 0; requests = 0; planned = 0 }
