-- The map of occupied frames: four words of 64 bits, one bit for each frame, low bits first.
--
-- In order: its bits; what they tell; the words of given bits, and the map of the lowest frames; one frame more; the map as a record has it.
-- Assumes nothing.
use Rattle.std.specs.Prelude.{◌≡◌, Bool, true, false, List, [], ◌∷◌, ◌++◌, ℕ, zero, suc, ◌+◌, ◌-◌, ◌*◌, ◌/◌, ◌%◌, ◌^◌, ◌<◌, eqb, length, get_or, take, drop, set, replicate}
use Rattle.paging.specs.Lists.{pick, not, all, index_of}
use Rattle.paging.specs.Calls.{frame_limit}

abbrev pub word_bits : ℕ
word_bits = 64

abbrev pub map_words : ℕ
map_words = 4

-- ---- its bits

-- the lowest so many bits of a word, low bits first
unfoldable pub bits_in : ℕ → ℕ → List Bool
bits_in zero word = []
bits_in (suc count) word = eqb (word % 2) 1 ∷ bits_in count (word / 2)

-- the bits of all words: bit i is that of frame i
unfoldable pub bits_of : List ℕ → List Bool
unfolding bits_in
bits_of [] = []
bits_of (word ∷ words) = bits_in word_bits word ++ bits_of words

-- ---- what they tell

abbrev pub digit : Bool → ℕ
digit bit = pick bit 1 0

-- the number of ones
unfoldable pub ones_in : List Bool → ℕ
ones_in [] = 0
ones_in (bit ∷ bits) = digit bit + ones_in bits

-- how many frames are occupied
unfoldable pub ones_of : List ℕ → ℕ
unfolding ones_in bits_of
ones_of map = ones_in (bits_of map)

-- the lowest zero bit, which is the next free frame while fewer than all frames are occupied; where there is none, the number of bits
unfoldable pub lowest_zero : List ℕ → ℕ
unfolding index_of bits_of
lowest_zero map = index_of not (bits_of map)

-- no bit is set at or beyond so many
unfoldable pub none_from : ℕ → List Bool → Bool
unfolding all
none_from count bits = all not (drop count bits)

-- exactly the lowest bits are set: none at or beyond the number of ones
unfoldable pub lowest_only : List ℕ → Bool
unfolding none_from ones_in bits_of
lowest_only map = none_from (ones_in (bits_of map)) (bits_of map)

-- ---- the words of given bits

-- a word, its low bits first
unfoldable pub word_of : List Bool → ℕ
word_of [] = 0
word_of (bit ∷ bits) = digit bit + 2 * word_of bits

-- so many words
unfoldable pub words_of : ℕ → List Bool → List ℕ
unfolding word_of
words_of zero bits = []
words_of (suc count) bits = word_of (take word_bits bits) ∷ words_of count (drop word_bits bits)

-- so many ones, then zeros up to the last frame
abbrev pub lowest_bits : ℕ → List Bool
lowest_bits held = replicate held true ++ replicate (frame_limit - held) false

-- the map of the lowest so many frames
unfoldable pub map_of : ℕ → List ℕ
unfolding words_of
map_of held = words_of map_words (lowest_bits held)

-- ---- one frame more

-- the map with a frame's bit set; a frame past the last has none
unfoldable pub with_frame : List ℕ → ℕ → List ℕ
unfolding words_of bits_of
with_frame map frame = words_of map_words (set (bits_of map) frame true)

-- ---- the map as a record has it

-- words of 64 bits
abbrev pub Small : List ℕ → Type 0
Small map = (i : ℕ) → i < length map → get_or map i 0 < 2 ^ word_bits

-- four of them
pub record Words (map : List ℕ) : Type 0 where
  pub four : length map ≡ map_words
  pub small : Small map
