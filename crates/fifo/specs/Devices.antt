-- A device of the code: what only private functions promise. The public promise is said in document 01's definitions.
-- Assumes nothing.
use Rattle.std.specs.Prelude.{ℕ, ◌+◌, eqb, ltb}
use Rattle.paging.specs.Lists.{pick}

-- the frame of the next fault in n frames, after a request with so many faults, 0 or 1
abbrev pub next_after : ℕ → ℕ → ℕ → ℕ
next_after fault next n = pick (eqb fault 0) next (pick (ltb (next + 1) n) (next + 1) 0)
