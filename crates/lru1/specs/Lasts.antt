-- What LRU's policy keeps. Its laws are in proofs/Lasts.antt.
-- Assumes nothing.
use Rattle.std.specs.Prelude.{◌≡◌, List, ℕ, ◌<◌, length, get_or}
use Rattle.paging.specs.Walk.{entry_at}
use Rattle.paging.specs.Calls.{frame_limit, request_limit}
use Rattle.paging.specs.declared.Entry.{Entry}
use Rattle.walks.specs.Hands.{Hand}

-- just before moment t: each frame's last moment, and the frame of each moment served
pub record Lasts (t hand : ℕ) (es : List Entry) (last served : List ℕ) : Type 0 where
  pub frames : length last ≡ frame_limit
  pub moments : length served ≡ request_limit
  pub lasts : (f : ℕ) → f < length es → get_or last f 0 ≡ (entry_at es f).last.0
  pub bytes : (k : ℕ) → k < request_limit → get_or served k 0 < frame_limit
  pub used : (k : ℕ) → k < t → get_or served k 0 < length es
  pub over : Hand t hand (length es) last last served
