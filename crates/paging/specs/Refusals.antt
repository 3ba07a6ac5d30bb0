-- Document 01, "Numbers that say no": the number and the place of each refusal.
-- A refusal's answer has 0 for every other number (faults, sizes, counts).
-- Assumes nothing.
use Rattle.std.specs.Prelude.{ℕ, List, ◌++◌, Result, Ok, Err, codes, decimal}
use Rattle.paging.specs.declared.GateNumbers.{GateNumbers}
use Rattle.paging.specs.declared.Refusal.{Refusal}
use Rattle.paging.specs.declared.Refusal.TheVariants.{UnknownRule, FramesOutside, TraceTooLong, MarkRequested, UnsoundRecord, LentTooShort, PlanBroken, ClockFull, FileCut, CountNotAllowed, BytesLeftOver, PlanAboveCache}

-- whether a call may go on: nothing is in the way, or a refusal
abbrev pub Gate : Type 0
Gate = Result (Unit {0}) Refusal

-- what a service that counts answers: the faults, or a refusal
abbrev pub Answer : Type 0
Answer = Result ℕ Refusal

pub record Row : Type 0 where
  pub number : ℕ
  pub place : ℕ

abbrev pub row : ℕ → ℕ → Row
row number place = record { number = number; place = place }

abbrev pub table : Refusal → Row
table UnknownRule = row 1 0
table (FramesOutside at) = row 2 at
table TraceTooLong = row 3 0
table (MarkRequested at) = row 4 at
table UnsoundRecord = row 5 0
table LentTooShort = row 6 0
table (PlanBroken at) = row 7 at
table ClockFull = row 8 0
table (FileCut at) = row 9 at
table (CountNotAllowed at) = row 10 at
table (BytesLeftOver at) = row 11 at
table PlanAboveCache = row 12 8

-- what a refusal prints: its number and its place
abbrev pub refusal_text : Refusal → List ℕ
refusal_text refusal = codes "refused " ++ decimal (table refusal).number ++ codes " at " ++ decimal (table refusal).place

-- the numbers of a gate; where it is open both are 0
abbrev pub gate_numbers : Gate → GateNumbers
gate_numbers (Ok nothing) = record { number = 0; place = 0 }
gate_numbers (Err refusal) = record { number = (table refusal).number; place = (table refusal).place }
