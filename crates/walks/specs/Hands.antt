-- A hand over the moments: it stops at the first that is still a frame's moment.
--
-- `served` has the frame in which the page of each moment stood then; a list of moments has one for each frame.
-- Assumes nothing.
use Rattle.std.specs.Prelude.{◌≡◌, ◌≤◌, ◌<◌, Bool, true, List, ℕ, zero, suc, eqb, ltb, length, get_or}
use Rattle.paging.specs.Lists.{pick, both}

-- the list has moment k for frame f
unfoldable pub has : List ℕ → ℕ → ℕ → Bool
has moments f k = both (ltb f (length moments)) (eqb (get_or moments f 0) k)

-- a hand stops at moment k: both lists have it for the frame served then, or the list of frames served ends before it
unfoldable pub stops : List ℕ → List ℕ → List ℕ → ℕ → Bool
unfolding has
stops moments others served k =
    pick (ltb k (length served)) (both (has moments (get_or served k 0) k) (has others (get_or served k 0) k)) true

-- the first of so many moments, from k on, that passes a test; else the one behind them
unfoldable pub first_from : (ℕ → Bool) → ℕ → ℕ → ℕ
first_from test k zero = k
first_from test k (suc m) = pick (test k) k (first_from test (suc k) m)

-- just before moment t: each frame's moment is past, and the frame was served then; no frame of the hand's has a moment before it
pub record Hand (t hand held : ℕ) (moments others served : List ℕ) : Type 0 where
  pub onward : hand ≤ t
  pub past : (f : ℕ) → f < held → get_or moments f 0 < t
  pub by : (f : ℕ) → f < held → get_or served (get_or moments f 0) 0 ≡ f
  pub behind : (f : ℕ) → f < held → get_or moments f 0 ≡ get_or others f 0 → hand ≤ get_or moments f 0
