-- Maps, computed: none, the ends of the words, all 256, and maps that are not exactly the lowest bits.
-- Assumes nothing.
use Rattle.std.specs.Prelude.{◌≡◌, refl, true, false, List, [], ◌∷◌, ℕ}
use Rattle.occupancy.specs.Map.{ones_of, lowest_zero, lowest_only, map_of, with_frame}

-- every bit of a word, and its highest
abbrev full : ℕ
full = 18446744073709551615

abbrev top : ℕ
top = 9223372036854775808

abbrev every_frame : List ℕ
every_frame = full ∷ full ∷ full ∷ full ∷ []

-- the map of the lowest frames: of none, three, a word's, one more, three words', all
pub map_clause : (map_of 0 ≡ 0 ∷ 0 ∷ 0 ∷ 0 ∷ [])
    × (map_of 3 ≡ 7 ∷ 0 ∷ 0 ∷ 0 ∷ [])
    × (map_of 64 ≡ full ∷ 0 ∷ 0 ∷ 0 ∷ [])
    × (map_of 65 ≡ full ∷ 1 ∷ 0 ∷ 0 ∷ [])
    × (map_of 192 ≡ full ∷ full ∷ full ∷ 0 ∷ [])
    × (map_of 256 ≡ every_frame)
unfolding map_of
map_clause = (refl, refl, refl, refl, refl, refl)

-- the ones of every word are counted
pub ones_clause : (ones_of (1 ∷ 3 ∷ 7 ∷ 15 ∷ []) ≡ 10) × (ones_of every_frame ≡ 256)
unfolding ones_of
ones_clause = (refl, refl)

-- low bits first: of 11 the lowest zero is bit 2; of all frames occupied there is none
pub zero_clause : (lowest_zero (11 ∷ 0 ∷ 0 ∷ 0 ∷ []) ≡ 2)
    × (lowest_zero (0 ∷ 0 ∷ 0 ∷ 0 ∷ []) ≡ 0)
    × (lowest_zero (full ∷ full ∷ 0 ∷ 0 ∷ []) ≡ 128)
    × (lowest_zero every_frame ≡ 256)
unfolding lowest_zero
zero_clause = (refl, refl, refl, refl)

pub lowest_clause : (lowest_only (7 ∷ 0 ∷ 0 ∷ 0 ∷ []) ≡ true) × (lowest_only (full ∷ 1 ∷ 0 ∷ 0 ∷ []) ≡ true) × (lowest_only every_frame ≡ true)
unfolding lowest_only
lowest_clause = (refl, refl, refl)

-- a gap, frame 255 beside three, a high bit first, a word passed over
pub gap_clause : (lowest_only (5 ∷ 0 ∷ 0 ∷ 0 ∷ []) ≡ false)
    × (lowest_only (7 ∷ 0 ∷ 0 ∷ top ∷ []) ≡ false)
    × (lowest_only (top ∷ 0 ∷ 0 ∷ 0 ∷ []) ≡ false)
    × (lowest_only (full ∷ 0 ∷ 1 ∷ 0 ∷ []) ≡ false)
unfolding lowest_only
gap_clause = (refl, refl, refl, refl)

-- one frame more: in a word, in the next word, and past the last
pub frame_clause : (with_frame (7 ∷ 0 ∷ 0 ∷ 0 ∷ []) 3 ≡ 15 ∷ 0 ∷ 0 ∷ 0 ∷ [])
    × (with_frame (full ∷ 0 ∷ 0 ∷ 0 ∷ []) 64 ≡ full ∷ 1 ∷ 0 ∷ 0 ∷ [])
    × (with_frame every_frame 256 ≡ every_frame)
unfolding with_frame
frame_clause = (refl, refl, refl)
