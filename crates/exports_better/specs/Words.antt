-- The numbers of each answer, in the order in which they are laid over the front of lent words.
-- Assumes nothing.
use Rattle.std.specs.Prelude.{List, [], ◌∷◌, ℕ, length}
use Rattle.judge.specs.Better.{Verdict, verdict_numbers, better_words}

-- number, place, which plan, its faults
abbrev pub verdict_words : Verdict → List ℕ
verdict_words v =
    (verdict_numbers v).number ∷ (verdict_numbers v).place ∷ (verdict_numbers v).which ∷ (verdict_numbers v).faults ∷ []

-- how many words Better of two hands back
abbrev pub chosen_words : ℕ → List ℕ → List ℕ → List ℕ → List ℕ
chosen_words m trace first second = length (better_words m trace first second) ∷ []
