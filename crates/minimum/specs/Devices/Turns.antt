-- What the code keeps: beside each held page its turn, the moment of its next request, or the trace's length for "never again".
-- Assumes nothing.
use Rattle.std.specs.Prelude.{◌≡◌, ◌⊎◌, List, Bool, true, false, ℕ, ◌+◌, ◌≤◌, ◌<◌, ltb, get_or, drop}
use Rattle.paging.specs.Lists.{pick}
use Rattle.paging.specs.Rules.{next_of}

-- the moment of page p's next request from moment t on
abbrev pub turn_of : List ℕ → ℕ → ℕ → ℕ
turn_of trace t p = t + next_of (drop t trace) p

-- a page goes before another: its turn is later, or the same and its number lower
abbrev pub goes_before : ℕ → ℕ → ℕ → ℕ → Bool
goes_before turn page other rival = pick (ltb other turn) true (pick (ltb turn other) false (ltb page rival))

-- frame j's turn is earlier than frame f's, or the same and its page number no lower
abbrev pub Behind : List ℕ → List ℕ → ℕ → ℕ → Type 0
Behind pages turns j f = (get_or turns j 0 < get_or turns f 0) ⊎ ((get_or turns j 0 ≡ get_or turns f 0) × (get_or pages f 0 ≤ get_or pages j 0))
