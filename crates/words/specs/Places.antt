-- Document 01, "Forms we want to see": a place in a file's bytes, how much is left from it, where it moves, and the words copied from it.
-- Assumes nothing.
use Rattle.std.specs.Prelude.{List, ◌++◌, ℕ, ◌+◌, ◌-◌, ◌/◌, min, ltb, length, drop}
use Rattle.paging.specs.Lists.{pick}
use Rattle.words.specs.Bytes.{words_at}

-- how many bytes the file has from byte `at` on; none where that is past the end
abbrev pub bytes_from : List ℕ → ℕ → ℕ
bytes_from file at = length file - at

-- so many bytes on, or the end where fewer are left
abbrev pub place_after : List ℕ → ℕ → ℕ → ℕ
place_after file at bytes = pick (ltb (bytes_from file at) bytes) (length file) (at + bytes)

-- how many words a copy has: no more than asked, lent, or left whole in the file
abbrev pub words_held : List ℕ → ℕ → ℕ → ℕ → ℕ
words_held file at count room = min (min count room) (bytes_from file at / 4)

-- the words copied to the front of the lent list, other words as they were
abbrev pub section_over : List ℕ → ℕ → ℕ → List ℕ → List ℕ
section_over file at count out = words_at file at (words_held file at count (length out)) ++ drop (words_held file at count (length out)) out
