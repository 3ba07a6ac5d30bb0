-- What LRU-2's policy keeps. Its laws are in proofs/Twice.antt.
-- Assumes nothing.
use Rattle.std.specs.Prelude.{◌≡◌, true, false, List, ℕ, ◌<◌, length, get_or}
use Rattle.paging.specs.Rules.{once}
use Rattle.paging.specs.Walk.{entry_at}
use Rattle.paging.specs.Calls.{frame_limit, request_limit}
use Rattle.paging.specs.declared.Entry.{Entry}
use Rattle.walks.specs.Hands.{Hand}

-- just before moment t: each frame's last moment and the one before it, which is the last again for a page requested once; the frame of each moment served
pub record Twice (t first second : ℕ) (es : List Entry) (last earlier served : List ℕ) : Type 0 where
  pub frames : length last ≡ frame_limit
  pub pasts : length earlier ≡ frame_limit
  pub moments : length served ≡ request_limit
  pub lasts : (f : ℕ) → f < length es → get_or last f 0 ≡ (entry_at es f).last.0
  pub only : (f : ℕ) → f < length es → once (entry_at es f) ≡ true → get_or last f 0 ≡ get_or earlier f 0
  pub again : (f : ℕ) → f < length es → once (entry_at es f) ≡ false → (get_or earlier f 0 ≡ (entry_at es f).earlier.0) × (get_or earlier f 0 < get_or last f 0)
  pub bytes : (k : ℕ) → k < request_limit → get_or served k 0 < frame_limit
  pub used : (k : ℕ) → k < t → get_or served k 0 < length es
  pub over_last : Hand t first (length es) last earlier served
  pub over_earlier : Hand t second (length es) earlier earlier served
