-- The numbers of each answer, in the order in which they are laid over the front of lent words.
-- Assumes nothing.
use Rattle.std.specs.Prelude.{List, [], ◌∷◌, ℕ}
use Rattle.reading.specs.Reading.{ReadAnswer}
use Rattle.bundle.specs.Writing.{WriteAnswer}
use Rattle.reading.specs.Numbers.{read_numbers}
use Rattle.bundle.specs.Numbers.{write_numbers}

-- number, place, both sizes, the requests' count, the plan's count
abbrev pub read_words : ReadAnswer → List ℕ
read_words a =
    (read_numbers a).number
    ∷ (read_numbers a).place
    ∷ (read_numbers a).n
    ∷ (read_numbers a).m
    ∷ (read_numbers a).requests
    ∷ (read_numbers a).planned
    ∷ []

-- number, place, bytes
abbrev pub write_words : WriteAnswer → List ℕ
write_words a = (write_numbers a).number ∷ (write_numbers a).place ∷ (write_numbers a).bytes ∷ []
