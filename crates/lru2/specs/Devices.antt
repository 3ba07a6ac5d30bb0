-- Devices of the code: what only private functions promise. The public promise is said in document 01's definitions.
-- Assumes nothing.
use Rattle.std.specs.Prelude.{ℕ, eqb, ltb}
use Rattle.paging.specs.Lists.{pick}

-- the hand whose page goes
abbrev pub hand_of : ℕ → ℕ → ℕ → ℕ
hand_of first second end = pick (ltb first end) first second

-- the moment before a page's last, which is now
abbrev pub earlier_for : ℕ → ℕ → ℕ → ℕ
earlier_for fault last now = pick (eqb fault 0) last now
