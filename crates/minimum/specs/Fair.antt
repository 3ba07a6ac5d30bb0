-- What MIN's policy keeps: beside each held page its turn.
-- Assumes nothing.
use Rattle.std.specs.Prelude.{◌≡◌, List, ℕ, ◌<◌, length, get_or}
use Rattle.paging.specs.Walk.{entry_at, entries_at}
use Rattle.paging.specs.Calls.{frame_limit}
use Rattle.paging.specs.declared.Rule.TheVariants.{Min}
use Rattle.minimum.specs.Devices.Turns.{turn_of}

-- just before moment t: beside each page of the definition's stands its turn
pub record Fair (n : ℕ) (trace : List ℕ) (t : ℕ) (turns : List ℕ) : Type 0 where
  pub deep : length turns ≡ frame_limit
  pub in_turn : (i : ℕ) → i < length (entries_at Min n trace t) → get_or turns i 0 ≡ turn_of trace t (entry_at (entries_at Min n trace t) i).page.0
