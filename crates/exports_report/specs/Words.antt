-- The numbers of each answer, in the order in which they are laid over the front of lent words.
-- Assumes nothing.
use Rattle.std.specs.Prelude.{List, [], ◌∷◌, ℕ, length, take}

-- how many bytes of a text a room of so many holds
abbrev pub text_words : List ℕ → ℕ → List ℕ
text_words text room = length (take room text) ∷ []
