-- Document 01, "Bundle file": little-endian 32-bit words from bytes: the word at a byte, the word or none, and several from there on.
-- Assumes nothing.
use Rattle.std.specs.Prelude.{List, [], ◌∷◌, ℕ, zero, suc, ◌+◌, ◌*◌, ltb, length, get_or, Option, Some, None}
use Rattle.paging.specs.Lists.{pick}

-- the word that begins at byte `at`
unfoldable pub word_at : List ℕ → ℕ → ℕ
word_at file at = get_or file at 0 + 256 * get_or file (at + 1) 0 + 65536 * get_or file (at + 2) 0 + 16777216 * get_or file (at + 3) 0

-- a word of a file, or none
abbrev pub Word : Type 0
Word = Option ℕ

-- the word that begins at byte `at`, or none where the file ends before the word does
unfoldable pub word_in : List ℕ → ℕ → Word
unfolding word_at
word_in file at = pick (ltb (length file) (at + 4)) None (Some (word_at file at))

-- so many words from byte `at` on
unfoldable pub words_at : List ℕ → ℕ → ℕ → List ℕ
unfolding word_at
words_at file at zero = []
words_at file at (suc count) = word_at file at ∷ words_at file (at + 4) count
