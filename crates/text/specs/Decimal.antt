-- Decimal numbers as bytes: no leading zeros, and 0 is one digit.
-- Assumes nothing.
use Rattle.std.specs.Prelude.{List, [], ◌∷◌, ◌++◌, ℕ, ◌+◌, ◌/◌, ◌%◌, ltb}
use Rattle.paging.specs.Lists.{pick}

-- the digit for a power of ten; none, where the number is below that power
unfoldable pub digit_at : ℕ → ℕ → List ℕ
digit_at x power = pick (ltb x power) [] ((48 + x / power % 10) ∷ [])

-- a number below 2^32
unfoldable pub decimal : ℕ → List ℕ
decimal x =
    digit_at x 1000000000
    ++ digit_at x 100000000
    ++ digit_at x 10000000
    ++ digit_at x 1000000
    ++ digit_at x 100000
    ++ digit_at x 10000
    ++ digit_at x 1000
    ++ digit_at x 100
    ++ digit_at x 10
    ++ ((48 + x % 10) ∷ [])
