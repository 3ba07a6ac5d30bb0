-- What FIFO's policy keeps: a frame that goes round. Its laws are in proofs/Round.antt.
-- Assumes nothing.
use Rattle.std.specs.Prelude.{◌≡◌, ◌⊎◌, List, ℕ, ◌≤◌, ◌<◌, length}
use Rattle.paging.specs.Walk.{entry_at}
use Rattle.paging.specs.declared.Entry.{Entry}

-- frame i comes before frame j, where the frames go round from `next`
abbrev pub Before : ℕ → ℕ → ℕ → Type 0
Before next i j = ((next ≤ i) × (i < j)) ⊎ ((next ≤ i) × (j < next)) ⊎ ((i < j) × (j < next))

-- just before moment t: while there is room the frame of the next fault is the next free one; the pages held were loaded in the order of their frames from it on
pub record Round (n t next : ℕ) (es : List Entry) : Type 0 where
  pub within : next < n
  pub filling : length es < n → next ≡ length es
  pub young : (j : ℕ) → j < length es → (entry_at es j).loaded.0 < t
  pub ordered : (i j : ℕ) → i < length es → j < length es → Before next i j → (entry_at es i).loaded.0 < (entry_at es j).loaded.0
