-- The bits of a map and its words.
--
-- In order: bits and words, there and back; which bit is a frame's; the number of ones; the lowest zero bit.
-- Assumes nothing.
use mathlib.Core.Path.{◌≡◌, refl, sym, ap, ap₂, ◌∙◌}
use mathlib.Core.Bool.{Bool, true, false}
use mathlib.Core.List.{List, [], ◌∷◌, ◌++◌}
use Prim.Native.Nat.{ℕ, zero, suc, ◌+◌, ◌-◌, ◌*◌, ◌/◌, ◌%◌, ◌^◌, ◌≤◌, ◌<◌, max}
use native.Mathlib.Nat.{pow-suc}
use native.Mathlib.Omega.{arith}
use lib.Dec.{eqb}
use lib.Bits.{bit_or, or_step, or_zero_r}
use lib.Pow.{pow_mono, shr-shr}
use lib.Count.{ones, ones-le, ones_step, count_trailing_zeros, under}
use lib.ListN.{length, get_or, take, drop, set, length-append, length-take, length-drop, take-append-drop, drop_of_length-le, get_or-append}
use lib.Seq.{length-take-le, take-append_seam, drop-append_seam, set-append_left, get_or-append-add, drop-cons}
use borrow.Author.Tests.{eqb-true, eqb-false, eq-eqb, ne_eqb}
use Rattle.std.specs.List.{sum_by}
use Rattle.std.proofs.lemmas.List.Sums.{sum_by-cons}
use Rattle.paging.specs.Lists.{pick, not, index_of}
use Rattle.paging.specs.Calls.{frame_limit}
use Rattle.occupancy.specs.Map.{word_bits, map_words, bits_in, bits_of, digit, ones_in, ones_of, lowest_zero, word_of, words_of, Small, Words}

-- ---- bits and words, there and back

-- the lowest bit of a word, as a number
digit_low : (w : ℕ) → digit (eqb (w % 2) 1) ≡ w % 2
digit_low w = go (eqb (w % 2) 1) refl
  where
    go : (b : Bool) → eqb (w % 2) 1 ≡ b → digit b ≡ w % 2
    go true e = sym (eqb-true _ _ e)
    go false e = let h = eqb-false (w % 2) 1 e in omega arith

half : (k w : ℕ) → w < 2 ^ suc k → w / 2 < 2 ^ k
half k w h = omega (arith, pow-suc 2 k)

bits_length : (k w : ℕ) → length (bits_in k w) ≡ k
unfolding bits_in
bits_length zero w = refl
bits_length (suc k) w = ap suc (bits_length k (w / 2))

word_back : (k w : ℕ) → w < 2 ^ k → word_of (bits_in k w) ≡ w
unfolding bits_in word_of
word_back zero w h = omega arith
word_back (suc k) w h =
    ap₂ (λ (d r : ℕ). d + 2 * r) (digit_low w) (word_back k (w / 2) (half k w h)) ∙ (let e : w % 2 + 2 * (w / 2) ≡ w = omega arith in e)

word_small : (bits : List Bool) → word_of bits < 2 ^ length bits
unfolding word_of
word_small [] = omega arith
word_small (true ∷ bits) = omega (arith, word_small bits, pow-suc 2 (length bits))
word_small (false ∷ bits) = omega (arith, word_small bits, pow-suc 2 (length bits))

bits_back : (bits : List Bool) → bits_in (length bits) (word_of bits) ≡ bits
unfolding bits_in word_of
bits_back [] = refl
bits_back (b ∷ bits) = ap₂ (λ (x : Bool) (xs : List Bool). x ∷ xs) (low b) (ap (bits_in (length bits)) (rest b) ∙ bits_back bits)
  where
    low : (b : Bool) → eqb ((digit b + 2 * word_of bits) % 2) 1 ≡ b
    low true = eq-eqb ((1 + 2 * word_of bits) % 2) 1 (omega arith)
    low false = ne_eqb ((0 + 2 * word_of bits) % 2) 1 (λ e. omega arith)

    rest : (b : Bool) → (digit b + 2 * word_of bits) / 2 ≡ word_of bits
    rest true = omega arith
    rest false = omega arith

small_rest : (w : ℕ) (ws : List ℕ) → Small (w ∷ ws) → Small ws
small_rest w ws s i h = s (suc i) (omega arith)

pub map_length : (map : List ℕ) → length (bits_of map) ≡ word_bits * length map
unfolding bits_of
map_length [] = refl
map_length (w ∷ ws) = length-append (bits_in word_bits w) (bits_of ws) ∙ (let e : length (bits_in word_bits w) + length (bits_of ws) ≡ word_bits * suc (length ws) = omega (arith, bits_length word_bits w, map_length ws) in e)

-- THE BITS TELL THE MAP
pub map_back : (map : List ℕ) → Small map → words_of (length map) (bits_of map) ≡ map
unfolding words_of bits_of
map_back [] s = refl
map_back (w ∷ ws) s =
    ap₂ (λ (x : ℕ) (xs : List ℕ). x ∷ xs)
    (ap word_of (front w (bits_of ws)) ∙ word_back word_bits w (s 0 (omega arith)))
    (ap (words_of (length ws)) (behind w (bits_of ws)) ∙ map_back ws (small_rest w ws s))
  where
    front : (w : ℕ) (rest : List Bool) → take word_bits (bits_in word_bits w ++ rest) ≡ bits_in word_bits w
    front w rest = ap (λ (k : ℕ). take k (bits_in word_bits w ++ rest)) (sym (bits_length word_bits w)) ∙ take-append_seam (bits_in word_bits w) rest

    behind : (w : ℕ) (rest : List Bool) → drop word_bits (bits_in word_bits w ++ rest) ≡ rest
    behind w rest = ap (λ (k : ℕ). drop k (bits_in word_bits w ++ rest)) (sym (bits_length word_bits w)) ∙ drop-append_seam (bits_in word_bits w) rest

pub words_length : (n : ℕ) (bits : List Bool) → length (words_of n bits) ≡ n
unfolding words_of
words_length zero bits = refl
words_length (suc n) bits = ap suc (words_length n (drop word_bits bits))

pub words_small : (n : ℕ) (bits : List Bool) → Small (words_of n bits)
unfolding words_of
words_small zero bits i h = absurd (omega arith)
words_small (suc n) bits zero h = short (take word_bits bits) (omega (arith, length-take word_bits bits))
  where
    short : (front : List Bool) → length front ≤ word_bits → word_of front < 2 ^ word_bits
    short front k = omega (arith, word_small front, pow_mono k)
words_small (suc n) bits (suc i) h = words_small n (drop word_bits bits) i (omega arith)

-- AND THE MAP ITS BITS
pub words_back : (n : ℕ) (bits : List Bool) → length bits ≡ word_bits * n → bits_of (words_of n bits) ≡ bits
unfolding words_of bits_of
words_back zero [] l = refl
words_back zero (b ∷ bits) l = absurd (omega arith)
words_back (suc n) bits l =
    let t : length (take word_bits bits) ≡ word_bits = length-take-le word_bits bits (omega arith) in
    let d : length (drop word_bits bits) ≡ word_bits * n = omega (arith, length-drop word_bits bits) in
    ap₂ (λ (xs ys : List Bool). xs ++ ys)
    (ap (λ (k : ℕ). bits_in k (word_of (take word_bits bits))) (sym t) ∙ bits_back (take word_bits bits))
    (words_back n (drop word_bits bits) d)
    ∙ take-append-drop word_bits bits

-- ---- which bit is a frame's

bit_word : (k w b : ℕ) → b < k → get_or (bits_in k w) b false ≡ eqb (w / 2 ^ b % 2) 1
unfolding bits_in
bit_word zero w b h = absurd (omega arith)
bit_word (suc k) w zero h = ap (λ (v : ℕ). eqb (v % 2) 1) (let e : w ≡ w / 1 = omega arith in e)
bit_word (suc k) w (suc b) h =
    bit_word k (w / 2) b (omega arith)
    ∙ ap (λ (v : ℕ). eqb (v % 2) 1) (shr-shr w 1 b ∙ ap (λ (j : ℕ). w / 2 ^ j) (let e : 1 + b ≡ suc b = omega arith in e))

-- FRAME 64 · q + b HAS BIT b OF WORD q
pub bit_is : (map : List ℕ) (q b : ℕ) → q < length map → b < word_bits → get_or (bits_of map) (word_bits * q + b) false ≡ eqb (get_or map q 0 / 2 ^ b % 2) 1
unfolding bits_of
bit_is [] q b h k = absurd (omega arith)
bit_is (w ∷ ws) zero b h k =
    get_or-append (bits_in word_bits w) (bits_of ws) false (word_bits * 0 + b) (omega (arith, bits_length word_bits w))
    ∙ ap (λ (i : ℕ). get_or (bits_in word_bits w) i false) (let e : word_bits * 0 + b ≡ b = omega arith in e)
    ∙ bit_word word_bits w b k
bit_is (w ∷ ws) (suc q) b h k =
    ap (λ (i : ℕ). get_or (bits_in word_bits w ++ bits_of ws) i false)
    (let e : word_bits * suc q + b ≡ length (bits_in word_bits w) + (word_bits * q + b) = omega (arith, bits_length word_bits w) in e)
    ∙ get_or-append-add (bits_in word_bits w) (bits_of ws) (word_bits * q + b) false
    ∙ bit_is ws q b (omega arith) k

set_behind : (xs ys : List Bool) (n : ℕ) → set (xs ++ ys) (length xs + n) true ≡ xs ++ set ys n true
set_behind [] ys n = ap (λ (k : ℕ). set ys k true) (let e : 0 + n ≡ n = omega arith in e)
set_behind (x ∷ xs) ys n =
    ap (λ (k : ℕ). set (x ∷ xs ++ ys) k true) (let e : suc (length xs) + n ≡ suc (length xs + n) = omega arith in e)
    ∙ ap (λ (zs : List Bool). x ∷ zs) (set_behind xs ys n)

-- a bit set in a word
or_bit : (k b w : ℕ) → b < k → bits_in k (bit_or w (2 ^ b)) ≡ set (bits_in k w) b true
unfolding bits_in
or_bit zero b w h = absurd (omega arith)
or_bit (suc k) zero w h =
    let s : bit_or w 1 ≡ (w / 2) * 2 + 1 = or_step w 1 ∙ ap₂ (λ (x y : ℕ). x * 2 + y) (or_zero_r (w / 2)) (let e : max (w % 2) 1 ≡ 1 = omega arith in e) in
    ap₂ (λ (b : Bool) (v : ℕ). b ∷ bits_in k v) (eq-eqb _ 1 (let e : bit_or w 1 % 2 ≡ 1 = omega arith in e)) (let e : bit_or w 1 / 2 ≡ w / 2 = omega arith in e)
or_bit (suc k) (suc b) w h =
    let p : 2 ^ suc b ≡ 2 ^ b * 2 = pow-suc 2 b in
    let s : bit_or w (2 ^ suc b) ≡ bit_or (w / 2) (2 ^ b) * 2 + w % 2 =
    or_step w (2 ^ suc b)
    ∙ ap₂ (λ (x y : ℕ). bit_or (w / 2) x * 2 + y) (let e : 2 ^ suc b / 2 ≡ 2 ^ b = omega arith in e) (let e : max (w % 2) (2 ^ suc b % 2) ≡ w % 2 = omega arith in e) in
    ap₂ (λ (d v : ℕ). eqb d 1 ∷ bits_in k v)
    (let e : bit_or w (2 ^ suc b) % 2 ≡ w % 2 = omega arith in e)
    (let e : bit_or w (2 ^ suc b) / 2 ≡ bit_or (w / 2) (2 ^ b) = omega arith in e)
    ∙ ap (λ (xs : List Bool). eqb (w % 2) 1 ∷ xs) (or_bit k b (w / 2) (omega arith))

-- in a map
or_map : (map : List ℕ) (q b : ℕ) → b < word_bits → bits_of (set map q (bit_or (get_or map q 0) (2 ^ b))) ≡ set (bits_of map) (word_bits * q + b) true
unfolding bits_of
or_map [] q b h = refl
or_map (w ∷ ws) zero b h =
    ap (λ (xs : List Bool). xs ++ bits_of ws) (or_bit word_bits b w h)
    ∙ sym (set-append_left (bits_in word_bits w) (bits_of ws) b true (omega (arith, bits_length word_bits w)))
    ∙ ap (λ (i : ℕ). set (bits_in word_bits w ++ bits_of ws) i true) (let e : b ≡ word_bits * 0 + b = omega arith in e)
or_map (w ∷ ws) (suc q) b h =
    ap (λ (xs : List Bool). bits_in word_bits w ++ xs) (or_map ws q b h)
    ∙ sym (set_behind (bits_in word_bits w) (bits_of ws) (word_bits * q + b))
    ∙ ap (λ (i : ℕ). set (bits_in word_bits w ++ bits_of ws) i true) (let e : length (bits_in word_bits w) + (word_bits * q + b) ≡ word_bits * suc q + b = omega (arith, bits_length word_bits w) in e)

-- as the code sets it: in the word and at the place of the frame
abbrev pub or_frame : List ℕ → ℕ → List ℕ
or_frame map f = set map (f / word_bits) (bit_or (get_or map (f / word_bits) 0) (2 ^ (f % word_bits)))

pub or_frame_lem : (map : List ℕ) (f : ℕ) → bits_of (or_frame map f) ≡ set (bits_of map) f true
or_frame_lem map f =
    or_map map (f / word_bits) (f % word_bits) (omega arith)
    ∙ ap (λ (i : ℕ). set (bits_of map) i true) (let e : word_bits * (f / word_bits) + f % word_bits ≡ f = omega arith in e)

-- ---- the number of ones

ones_append : (xs ys : List Bool) → ones_in (xs ++ ys) ≡ ones_in xs + ones_in ys
unfolding ones_in
ones_append [] ys = omega arith
ones_append (x ∷ xs) ys = omega (arith, ones_append xs ys)

-- of a word: what `u64::count_ones` counts
pub ones_word : (k w : ℕ) → w < 2 ^ k → ones_in (bits_in k w) ≡ ones w
unfolding bits_in ones_in
ones_word zero w h = let e : w ≡ 0 = omega arith in rw e (unfold ones in refl)
ones_word (suc k) w h = ap₂ (λ (d r : ℕ). d + r) (digit_low w) (ones_word k (w / 2) (half k w h)) ∙ sym (ones_step w)

-- of a map: the sum over its words
pub ones_more : (w : ℕ) (ws : List ℕ) → w < 2 ^ word_bits → ones_of (w ∷ ws) ≡ ones w + ones_of ws
unfolding ones_of bits_of
ones_more w ws h = ones_append (bits_in word_bits w) (bits_of ws) ∙ ap (λ (k : ℕ). k + ones_in (bits_of ws)) (ones_word word_bits w h)

pub ones_sum : (map : List ℕ) → Small map → sum_by ones map ≡ ones_of map
ones_sum [] s = unfold ones_of in refl
ones_sum (w ∷ ws) s = sum_by-cons ones w ws ∙ ap (λ (k : ℕ). ones w + k) (ones_sum ws (small_rest w ws s)) ∙ sym (ones_more w ws (s 0 (omega arith)))

-- of a map's four words
pub ones_four : (map : List ℕ) → Words map → ones_of map ≡ ones (get_or map 0 0) + ones (get_or map 1 0) + ones (get_or map 2 0) + ones (get_or map 3 0)
ones_four [] w = absurd (omega (arith, w.four))
ones_four (a ∷ []) w = absurd (omega (arith, w.four))
ones_four (a ∷ b ∷ []) w = absurd (omega (arith, w.four))
ones_four (a ∷ b ∷ c ∷ []) w = absurd (omega (arith, w.four))
ones_four (a ∷ b ∷ c ∷ d ∷ []) w =
    let none : ones_of [] ≡ 0 = unfold ones_of in refl in
    omega (
      arith,
      ones_more a (b ∷ c ∷ d ∷ []) (w.small 0 (omega arith)),
      ones_more b (c ∷ d ∷ []) (w.small 1 (omega arith)),
      ones_more c (d ∷ []) (w.small 2 (omega arith)),
      ones_more d [] (w.small 3 (omega arith)),
    )
ones_four (a ∷ b ∷ c ∷ d ∷ e ∷ rest) w = absurd (omega (arith, w.four))

-- at most the bits that there are
pub ones_fit : (map : List ℕ) → Small map → sum_by ones map ≤ word_bits * length map
ones_fit [] s = omega arith
ones_fit (w ∷ ws) s = omega (arith, sum_by-cons ones w ws, ones-le word_bits w (s 0 (omega arith)), ones_fit ws (small_rest w ws s))

-- ---- the lowest zero bit

-- of a word: what `u64::trailing_zeros` counts of the complement
pub zero_word : (k w : ℕ) → w < 2 ^ k → index_of not (bits_in k w) ≡ count_trailing_zeros k ((2 ^ k - 1) - w)
unfolding bits_in index_of count_trailing_zeros
zero_word zero w h = refl
zero_word (suc k) w h =
    let rest : ((2 ^ suc k - 1) - w) / 2 ≡ (2 ^ k - 1) - w / 2 = omega (arith, pow-suc 2 k, half k w h) in
    let low : ((2 ^ suc k - 1) - w) % 2 ≡ 1 - w % 2 = omega (arith, pow-suc 2 k) in
    rw (rest, low) (go (eqb (w % 2) 1) refl (index_of not (bits_in k (w / 2))) (count_trailing_zeros k ((2 ^ k - 1) - w / 2)) (zero_word k (w / 2) (half k w h)))
  where
    go : (b : Bool) → eqb (w % 2) 1 ≡ b → (s t : ℕ) → s ≡ t → pick (not b) 0 (suc s) ≡ under (1 - w % 2) t
    go true e s t q = rw (eqb-true (w % 2) 1 e) (ap suc q)
    go false e s t q = let z : w % 2 ≡ 0 = (let h = eqb-false (w % 2) 1 e in omega arith) in rw z refl

-- a zero among the first bits is the lowest of all
zero_first : (xs ys : List Bool) → index_of not xs < length xs → index_of not (xs ++ ys) ≡ index_of not xs
unfolding index_of
zero_first [] ys h = absurd (omega arith)
zero_first (true ∷ xs) ys h = ap suc (zero_first xs ys (omega arith))
zero_first (false ∷ xs) ys h = refl

-- with none among them it is behind them
zero_behind : (xs ys : List Bool) → length xs ≤ index_of not xs → index_of not (xs ++ ys) ≡ length xs + index_of not ys
unfolding index_of
zero_behind [] ys h = omega arith
zero_behind (true ∷ xs) ys h = omega (arith, zero_behind xs ys (omega arith))
zero_behind (false ∷ xs) ys h = absurd (omega arith)

module _ (w : ℕ) (ws : List ℕ) (small : w < 2 ^ word_bits) where
  -- of a map: in its first word
  pub zero_here : count_trailing_zeros word_bits ((2 ^ word_bits - 1) - w) < word_bits → lowest_zero (w ∷ ws) ≡ count_trailing_zeros word_bits ((2 ^ word_bits - 1) - w)
  unfolding lowest_zero bits_of
  zero_here h =
      let e = zero_word word_bits w small in
      zero_first (bits_in word_bits w) (bits_of ws) (omega (arith, e, bits_length word_bits w)) ∙ e

  -- or in a later one
  pub zero_later : word_bits ≤ count_trailing_zeros word_bits ((2 ^ word_bits - 1) - w) → lowest_zero (w ∷ ws) ≡ word_bits + lowest_zero ws
  unfolding lowest_zero bits_of
  zero_later h =
      let e = zero_word word_bits w small in
      zero_behind (bits_in word_bits w) (bits_of ws) (omega (arith, e, bits_length word_bits w))
      ∙ ap (λ (k : ℕ). k + index_of not (bits_of ws)) (bits_length word_bits w)

-- the same, word by word from the front: where a word has a zero bit, and where it is passed over
module _ (map : List ℕ) (w : Words map) (i : ℕ) (more : i < map_words) (so_far : word_bits * i + lowest_zero (drop i map) ≡ lowest_zero map) where
  small : get_or map i 0 < 2 ^ word_bits
  small = w.small i (omega (arith, w.four))

  left : drop i map ≡ get_or map i 0 ∷ drop (suc i) map
  left = drop-cons map i 0 (omega (arith, w.four))

  pub zero_found : count_trailing_zeros word_bits ((2 ^ word_bits - 1) - get_or map i 0) < word_bits → word_bits * i + count_trailing_zeros word_bits ((2 ^ word_bits - 1) - get_or map i 0) ≡ lowest_zero map
  zero_found h = omega (arith, so_far, ap lowest_zero left, zero_here (get_or map i 0) (drop (suc i) map) small h)

  pub zero_passed : word_bits ≤ count_trailing_zeros word_bits ((2 ^ word_bits - 1) - get_or map i 0) → word_bits * suc i + lowest_zero (drop (suc i) map) ≡ lowest_zero map
  zero_passed h = omega (arith, so_far, ap lowest_zero left, zero_later (get_or map i 0) (drop (suc i) map) small h)

pub zero_nowhere : (map : List ℕ) → Words map → (i : ℕ) → map_words ≤ i → i ≤ map_words → word_bits * i + lowest_zero (drop i map) ≡ lowest_zero map → frame_limit ≡ lowest_zero map
zero_nowhere map w i h k e =
    let none : lowest_zero (drop i map) ≡ 0 = ap lowest_zero (drop_of_length-le map {i = i} (omega (arith, w.four))) ∙ (unfold lowest_zero in refl) in
    omega arith
