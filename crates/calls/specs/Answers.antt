-- Document 01's numbers of an answer that counts: the faults; or the number and place of a refusal, and 0 for every other number.
-- Assumes nothing.
use Rattle.std.specs.Prelude.{Ok, Err}
use Rattle.paging.specs.Refusals.{table, Answer}
use Rattle.calls.specs.declared.AnswerNumbers.{AnswerNumbers}

abbrev pub answer_numbers : Answer → AnswerNumbers
answer_numbers (Ok faults) = record { faults = faults; number = 0; place = 0 }
answer_numbers (Err refusal) = record { faults = 0; number = (table refusal).number; place = (table refusal).place }
