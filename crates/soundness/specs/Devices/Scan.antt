-- Devices of the code that tests soundness: what is tested of one entry, and the set of the moments seen.
-- The laws that tie them to `sound_parts` are in proofs/Seen.antt.
-- Assumes nothing.
use Rattle.std.specs.Prelude.{◌≡◌, List, [], ◌∷◌, Bool, true, false, ℕ, ◌<◌, get_or, set}
use Rattle.paging.specs.Lists.{not, both, all}
use Rattle.paging.specs.Rules.{mark}
use Rattle.paging.specs.declared.Entry.{Entry}
use Rattle.soundness.specs.Sound.{is_page, in_order, earlier_fits, moments}

-- what is tested of one entry in use by itself
abbrev pub entry_ok : ℕ → Entry → Bool
entry_ok clock e = both (is_page e) (both (in_order clock e) (earlier_fits e))

-- ---- the moments seen: at each moment, whether it was

-- the entry's moments have a place in a set of n
pub record Below (n : ℕ) (e : Entry) : Type 0 where
  pub loaded : e.loaded.0 < n
  pub last : e.last.0 < n
  pub earlier : (e.earlier.0 ≡ mark → ⊥) → e.earlier.0 < n

-- none of the entry's moments was seen
unfoldable pub unseen : List Bool → Entry → Bool
unfolding all
unseen seen e = all (λ (m : ℕ). not (get_or seen m false)) (moments e)

-- these moments are seen too
unfoldable pub noting : List Bool → List ℕ → List Bool
noting seen [] = seen
noting seen (m ∷ ms) = noting (set seen m true) ms

-- and those of an entry
unfoldable pub noted : List Bool → Entry → List Bool
unfolding noting
noted seen e = noting seen (moments e)
