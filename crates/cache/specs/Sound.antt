-- Document 01, when a record is sound: the conditions of crate `soundness` at the record's fields, of the number of ones of its map; and exactly the lowest bits of the map are set.
-- Assumes nothing.
use Rattle.std.specs.Prelude.{◌≡◌, Bool, false, ℕ, ltb, get_or}
use Rattle.paging.specs.Lists.{both}
use Rattle.occupancy.specs.Map.{bits_of, lowest_only}
use Rattle.soundness.specs.Sound.{sound_parts, SoundParts}
use Rattle.cache.specs.declared.Cache.{Cache}
use Rattle.cache.specs.Record.{held_of}

unfoldable pub sound : Cache → Bool
unfolding sound_parts lowest_only
sound c = both (lowest_only c.map) (sound_parts c.rule c.frames c.clock (held_of c) c.entries)

-- the same, said of numbers
pub record Sound (c : Cache) : Type 0 where
  -- bit i of the map is set exactly for the i below the number held
  pub lowest : (i : ℕ) → get_or (bits_of c.map) i false ≡ ltb i (held_of c)
  pub parts : SoundParts c.rule c.frames c.clock (held_of c) c.entries
