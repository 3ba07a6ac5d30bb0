-- The index of the pages held: for each hash, how many held pages have it.
--
-- In order: hashes; how often one occurs; the pages held with their index.
-- Assumes nothing.
use Rattle.std.specs.Prelude.{◌≡◌, List, [], ◌∷◌, ℕ, ◌+◌, ◌*◌, ◌/◌, ◌%◌, ◌≤◌, ◌<◌, eqb, length, get_or, take}
use Rattle.paging.specs.Lists.{pick}
use Rattle.paging.specs.Calls.{frame_limit}
use Rattle.paging.specs.Meanings.{Apart}

-- ---- hashes

abbrev pub hashes : ℕ
hashes = 2048

-- the top eleven bits of a product of 32 bits
unfoldable pub hash_of : ℕ → ℕ
hash_of p = p * 2654435761 % 4294967296 / 2097152

-- ---- how often one occurs

-- 1 if page p has hash h
unfoldable pub hits : ℕ → ℕ → ℕ
unfolding hash_of
hits h p = pick (eqb (hash_of p) h) 1 0

-- how many pages of a list have hash h
unfoldable pub hashed : ℕ → List ℕ → ℕ
unfolding hits
hashed h [] = 0
hashed h (p ∷ ps) = hits h p + hashed h ps

-- ---- the pages held with their index

-- the first `held` words are the pages held, all different, and every count is right
pub record Indexed (held : ℕ) (words counts : List ℕ) : Type 0 where
  pub room : length words ≡ frame_limit
  pub buckets : length counts ≡ hashes
  pub few : held ≤ frame_limit
  pub apart : Apart (take held words)
  pub right : (h : ℕ) → h < hashes → get_or counts h 0 ≡ hashed h (take held words)
