-- Demand 3 over the answers of the services: if Count answers f for a rule with n frames and Check answers g for m frames, on the same list of
-- requests and with any words as the plan, then the bound holds of f and g. The answers give every other premise.
-- Assumes nothing.
use Rattle.std.specs.Prelude.{◌≡◌, List, ℕ, ◌≤◌, Ok}
use Rattle.counts.specs.Counts.{count_of}
use Rattle.plans.specs.Check.{check_of}

-- for the rule of this number
abbrev pub OfAnswers : (ℕ → ℕ → ℕ → ℕ → Type 0) → ℕ → Type 0
OfAnswers Claim rule =
    (n m : ℕ) (trace words : List ℕ) (f g : ℕ) → m ≤ n → count_of rule n trace ≡ Ok f → check_of m trace words ≡ Ok g → Claim n m f g

-- rule 1 is LRU, rule 2 FIFO
abbrev pub ForBothNumbers : (ℕ → Type 0) → Type 0
ForBothNumbers P = P 1 × P 2
