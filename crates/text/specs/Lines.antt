-- Document 01, the report program: its lines of two numbers, as bytes.
-- Assumes nothing.
use Rattle.std.specs.Prelude.{List, [], ◌∷◌, ◌++◌, ℕ}
use Rattle.paging.specs.Refusals.{table}
use Rattle.paging.specs.declared.Refusal.{Refusal}
use Rattle.text.specs.Decimal.{decimal}

-- "refused "
abbrev pub refused_word : List ℕ
refused_word = 114 ∷ 101 ∷ 102 ∷ 117 ∷ 115 ∷ 101 ∷ 100 ∷ 32 ∷ []

-- " at "
abbrev pub at_word : List ℕ
at_word = 32 ∷ 97 ∷ 116 ∷ 32 ∷ []

-- two numbers with something between, and a line feed
abbrev pub pair : ℕ → List ℕ → ℕ → List ℕ
pair x between y = decimal x ++ between ++ decimal y ++ 10 ∷ []

-- a refusal's number and place
abbrev pub refused_line : Refusal → List ℕ
refused_line refusal = refused_word ++ pair (table refusal).number at_word (table refusal).place

-- a name, a number of frames, the faults
abbrev pub line : List ℕ → ℕ → ℕ → List ℕ
line name frames faults = name ++ pair frames (32 ∷ []) faults
