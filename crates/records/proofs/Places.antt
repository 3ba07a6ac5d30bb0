-- Where what a record says stands in its words.
--
-- In order: a word of the map and its halves; rule, frames and clock; the frames' bits; the entries.
-- Assumes nothing.
use mathlib.Core.Path.{◌≡◌, sym, ap, ◌∙◌}
use mathlib.Core.Bool.{false}
use mathlib.Core.List.{List}
use Prim.Native.Nat.{ℕ, zero, suc, ◌+◌, ◌*◌, ◌/◌, ◌%◌, ◌^◌, ◌≤◌, ◌<◌}
use native.Mathlib.Decide.{dec_lt}
use native.Mathlib.Nat.{pow-suc}
use native.Mathlib.Omega.{arith}
use lib.Dec.{eqb}
use lib.ListN.{length, get_or}
use lib.Pow.{shr-shr}
use Rattle.paging.specs.Walk.{zero_entry, entry_at}
use Rattle.paging.specs.Calls.{frame_limit}
use Rattle.paging.specs.declared.Entry.{Entry}
use Rattle.occupancy.specs.Map.{word_bits, map_words, bits_of}
use Rattle.occupancy.proofs.Bits.{bit_is}
use Rattle.cache.specs.declared.Cache.{Cache}
use Rattle.records.specs.Records.{map_place, entries_place, record_length, word_from, map_from, entry_from, record_in, record_of}
use Rattle.records.proofs.Back.{InWords, long_of}
use Rattle.records.proofs.Loops.{list_at, list_count}

-- the low bits of a number are those of its low half
twice : (k high : ℕ) → 2 ^ suc k * high ≡ 2 * (2 ^ k * high)
twice k high = ap (λ (p : ℕ). p * high) (pow-suc 2 k) ∙ (let e : 2 ^ k * 2 * high ≡ 2 * (2 ^ k * high) = omega arith in e)

next_bit : (v b : ℕ) → v / 2 ^ suc b ≡ v / 2 / 2 ^ b
next_bit v b = ap (λ (j : ℕ). v / 2 ^ j) (let e : suc b ≡ 1 + b = omega arith in e) ∙ sym (shr-shr v 1 b)

low_bit : (k b low high : ℕ) → b < k → (low + 2 ^ k * high) / 2 ^ b % 2 ≡ low / 2 ^ b % 2
low_bit zero b low high h = absurd (omega arith)
low_bit (suc k) zero low high h = let e : (low + 2 ^ suc k * high) / 1 % 2 ≡ low / 1 % 2 = omega (arith, twice k high) in e
low_bit (suc k) (suc b) low high h =
    ap (λ (v : ℕ). v % 2) (next_bit (low + 2 ^ suc k * high) b)
    ∙ ap (λ (v : ℕ). v / 2 ^ b % 2) (let e : (low + 2 ^ suc k * high) / 2 ≡ low / 2 + 2 ^ k * high = omega (arith, twice k high) in e)
    ∙ low_bit k b (low / 2) high (omega arith)
    ∙ ap (λ (v : ℕ). v % 2) (sym (next_bit low b))

module _ (words : List ℕ) (small : InWords words) (fits : record_length ≤ length words) where
  -- the bit of a word of the map is one of the half that it lies in
  half_bit : (at b : ℕ) → at + 2 ≤ length words → b < word_bits → word_from words at / 2 ^ b % 2 ≡ get_or words (at + b / 32) 0 / 2 ^ (b % 32) % 2
  half_bit at b h k =
      elim (dec_lt b 32) [
        | yes low ↦ low_bit 32 b (get_or words at 0) (get_or words (at + 1) 0) low
            ∙ ap (λ (i : ℕ). get_or words i 0 / 2 ^ b % 2) (let e : at ≡ at + b / 32 = omega arith in e)
            ∙ ap (λ (j : ℕ). get_or words (at + b / 32) 0 / 2 ^ j % 2) (let e : b ≡ b % 32 = omega arith in e)
        | no high ↦ ap (λ (j : ℕ). word_from words at / 2 ^ j % 2) (let e : b ≡ 32 + b % 32 = omega arith in e)
            ∙ ap (λ (v : ℕ). v % 2) (sym (shr-shr (word_from words at) 32 (b % 32)))
            ∙ ap (λ (v : ℕ). v / 2 ^ (b % 32) % 2) (let e : word_from words at / 4294967296 ≡ get_or words (at + 1) 0 = omega (arith, small at (omega arith)) in e)
            ∙ ap (λ (i : ℕ). get_or words i 0 / 2 ^ (b % 32) % 2) (let e : at + 1 ≡ at + b / 32 = omega arith in e)
      ]

  map_bit : (f : ℕ) → f < frame_limit → get_or (bits_of (map_from words)) f false ≡ eqb (get_or words (map_place + f / 32) 0 / 2 ^ (f % 32) % 2) 1
  map_bit f h =
      let q : f / word_bits < map_words = omega arith in
      ap (λ (i : ℕ). get_or (bits_of (map_from words)) i false) (let e : f ≡ word_bits * (f / word_bits) + f % word_bits = omega arith in e)
      ∙ bit_is (map_from words) (f / word_bits) (f % word_bits) (omega (arith, list_count 2 word_from words map_place map_words)) (omega arith)
      ∙ ap (λ (w : ℕ). eqb (w / 2 ^ (f % word_bits) % 2) 1) (list_at 2 word_from words 0 map_place map_words (f / word_bits) q)
      ∙ ap (λ (v : ℕ). eqb v 1) (half_bit (map_place + 2 * (f / word_bits)) (f % word_bits) (omega arith) (omega arith))
      ∙ ap (λ (i : ℕ). eqb (get_or words i 0 / 2 ^ (f % word_bits % 32) % 2) 1) (let e : map_place + 2 * (f / word_bits) + f % word_bits / 32 ≡ map_place + f / 32 = omega arith in e)
      ∙ ap (λ (j : ℕ). eqb (get_or words (map_place + f / 32) 0 / 2 ^ j % 2) 1) (let e : f % word_bits % 32 ≡ f % 32 = omega arith in e)

-- WHERE IT STANDS: in words that are long enough
module _ (words : List ℕ) (fits : record_length ≤ length words) where
  -- rule, frames and clock in words 0, 1 and 2
  pub head_words : ((record_of words).rule ≡ get_or words 0 0) × ((record_of words).frames ≡ get_or words 1 0) × ((record_of words).clock ≡ get_or words 2 0)
  unfolding record_in
  head_words =
      let e = long_of words fits in
      (ap (λ (c : Cache). c.rule) e, ap (λ (c : Cache). c.frames) e, ap (λ (c : Cache). c.clock) e)

  -- frame f has bit f % 32 of word 3 + f / 32
  pub frame_word : InWords words → (f : ℕ) → f < frame_limit → get_or (bits_of (record_of words).map) f false ≡ eqb (get_or words (3 + f / 32) 0 / 2 ^ (f % 32) % 2) 1
  unfolding record_in
  frame_word small f h = ap (λ (c : Cache). get_or (bits_of c.map) f false) (long_of words fits) ∙ map_bit words small fits f h

  -- page, loaded, last and earlier of frame f in words 11 + 4 f to 14 + 4 f
  pub entry_words : (f : ℕ) → f < frame_limit
      → ((entry_at (record_of words).entries f).page.0 ≡ get_or words (11 + 4 * f) 0)
      × ((entry_at (record_of words).entries f).loaded.0 ≡ get_or words (12 + 4 * f) 0)
      × ((entry_at (record_of words).entries f).last.0 ≡ get_or words (13 + 4 * f) 0)
      × ((entry_at (record_of words).entries f).earlier.0 ≡ get_or words (14 + 4 * f) 0)
  unfolding record_in
  entry_words f h =
      let at : ℕ = entries_place + 4 * f in
      let e : entry_at (record_of words).entries f ≡ entry_from words at =
      ap (λ (c : Cache). entry_at c.entries f) (long_of words fits) ∙ list_at 4 entry_from words zero_entry entries_place frame_limit f h in (
        ap (λ (x : Entry). x.page.0) e,
        ap (λ (x : Entry). x.loaded.0) e ∙ ap (λ (i : ℕ). get_or words i 0) (let k : at + 1 ≡ 12 + 4 * f = omega arith in k),
        ap (λ (x : Entry). x.last.0) e ∙ ap (λ (i : ℕ). get_or words i 0) (let k : at + 2 ≡ 13 + 4 * f = omega arith in k),
        ap (λ (x : Entry). x.earlier.0) e ∙ ap (λ (i : ℕ). get_or words i 0) (let k : at + 3 ≡ 14 + 4 * f = omega arith in k),
      )
