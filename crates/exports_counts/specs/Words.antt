-- The numbers of each answer, in the order in which they are laid over the front of lent words.
-- Assumes nothing.
use Rattle.std.specs.Prelude.{List, [], ◌∷◌, ℕ}
use Rattle.paging.specs.Refusals.{Answer}
use Rattle.calls.specs.Answers.{answer_numbers}

-- number, place, faults
abbrev pub count_words : Answer → List ℕ
count_words a = (answer_numbers a).number ∷ (answer_numbers a).place ∷ (answer_numbers a).faults ∷ []
