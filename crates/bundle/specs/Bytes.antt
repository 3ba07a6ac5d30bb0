-- Document 01, "Bundle file": little-endian 32-bit words to bytes: the bytes of a word, of several, and of a section.
-- Assumes nothing.
use Rattle.std.specs.Prelude.{List, [], ◌∷◌, ◌++◌, ℕ, ◌/◌, ◌%◌, length}

unfoldable pub bytes_of : ℕ → List ℕ
bytes_of word = word % 256 ∷ word / 256 % 256 ∷ word / 65536 % 256 ∷ word / 16777216 % 256 ∷ []

unfoldable pub bytes_in : List ℕ → List ℕ
unfolding bytes_of
bytes_in [] = []
bytes_in (word ∷ words) = bytes_of word ++ bytes_in words

-- the count of the words, then the words
unfoldable pub section : List ℕ → List ℕ
unfolding bytes_in
section words = bytes_of (length words) ++ bytes_in words
