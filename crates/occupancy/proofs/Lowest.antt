-- Maps whose ones are exactly the lowest bits.
--
-- In order: ones, then zeros; exactly the lowest bits; the map of the lowest frames; one frame more; what it means, bit by bit.
-- Assumes nothing.
use mathlib.Core.Path.{◌≡◌, refl, sym, ap, ap₂, ◌∙◌, subst}
use mathlib.Core.Bool.{Bool, true, false}
use mathlib.Core.List.{List, [], ◌∷◌, ◌++◌}
use Prim.Native.Nat.{ℕ, zero, suc, ◌+◌, ◌-◌, ◌*◌, ◌/◌, ◌%◌, ◌^◌, ◌≤◌, ◌<◌}
use native.Mathlib.Omega.{arith}
use mathlib.Core.Logic.{⊎_elim}
use lib.Dec.{eqb, ltb}
use lib.Bits.{bit_or, or_lt}
use lib.Pow.{pow-lt}
use lib.ListN.{length, get_or, drop, set, replicate, length-append, length-replicate, length-set}
use lib.Seq.{set_at, get_or-drop}
use borrow.Author.Tests.{eqb-true, eqb-false, ltb-true, ltb-false, lt-ltb, le-ltb}
use Rattle.paging.specs.Lists.{not, all, index_of}
use Rattle.paging.specs.Calls.{frame_limit}
use Rattle.paging.proofs.Lists.{false≢true, true≢false, index_passes, index_first, at_all, set_cases}
use Rattle.occupancy.specs.Map.{word_bits, map_words, bits_of, ones_in, ones_of, lowest_zero, none_from, lowest_only, words_of, lowest_bits, map_of, with_frame, Small, Words}
use Rattle.occupancy.proofs.Bits.{map_length, map_back, words_length, words_small, words_back, or_frame, or_frame_lem}

-- ---- ones, then zeros

-- so many ones, then so many zeros
abbrev run : ℕ → ℕ → List Bool
run h k = replicate h true ++ replicate k false

ones_run : (h k : ℕ) → ones_in (run h k) ≡ h
unfolding ones_in
ones_run zero zero = refl
ones_run zero (suc k) = omega (arith, ones_run zero k)
ones_run (suc h) k = omega (arith, ones_run h k)

zero_run : (h k : ℕ) → index_of not (run h k) ≡ h
unfolding index_of
zero_run zero zero = refl
zero_run zero (suc k) = refl
zero_run (suc h) k = ap suc (zero_run h k)

none_run : (h k : ℕ) → none_from h (run h k) ≡ true
unfolding none_from all
none_run zero zero = refl
none_run zero (suc k) = none_run zero k
none_run (suc h) k = none_run h k

length_run : (h k : ℕ) → length (run h k) ≡ h + k
length_run h k = length-append (replicate h true) (replicate k false) ∙ ap₂ (λ (a b : ℕ). a + b) (length-replicate h true) (length-replicate k false)

bit_run : (h k i : ℕ) → get_or (run h k) i false ≡ ltb i h
bit_run zero zero i = sym (le-ltb i 0 (omega arith))
bit_run zero (suc k) zero = refl
bit_run zero (suc k) (suc i) = bit_run zero k i ∙ le-ltb i 0 (omega arith) ∙ sym (le-ltb (suc i) 0 (omega arith))
bit_run (suc h) k zero = sym (lt-ltb 0 (suc h) (omega arith))
bit_run (suc h) k (suc i) = bit_run h k i ∙ same (ltb i h) refl
  where
    same : (b : Bool) → ltb i h ≡ b → ltb i h ≡ ltb (suc i) (suc h)
    same true e = e ∙ sym (lt-ltb (suc i) (suc h) (omega (arith, ltb-true i h e)))
    same false e = e ∙ sym (le-ltb (suc i) (suc h) (omega (arith, ltb-false i h e)))

ones_drop : (m : ℕ) (bits : List Bool) → ones_in bits ≤ m + ones_in (drop m bits)
unfolding ones_in
ones_drop zero bits = omega arith
ones_drop (suc m) [] = omega arith
ones_drop (suc m) (true ∷ bits) = omega (arith, ones_drop m bits)
ones_drop (suc m) (false ∷ bits) = omega (arith, ones_drop m bits)

none_ones : (bits : List Bool) → all not bits ≡ true → (ones_in bits ≡ 0) × (bits ≡ replicate (length bits) false)
unfolding ones_in all
none_ones [] a = (refl, refl)
none_ones (true ∷ bits) a = absurd (false≢true a)
none_ones (false ∷ bits) a = let (n, e) = none_ones bits a in (omega arith, ap (λ (xs : List Bool). false ∷ xs) e)

-- ---- exactly the lowest bits

-- the bits of a map whose ones are exactly the lowest
lowest_run : (bits : List Bool) → none_from (ones_in bits) bits ≡ true → bits ≡ run (ones_in bits) (length bits - ones_in bits)
unfolding none_from ones_in
lowest_run [] a = refl
lowest_run (true ∷ bits) a =
    let more : 1 + ones_in bits ≡ suc (ones_in bits) = omega arith in
    let a' : none_from (suc (ones_in bits)) (true ∷ bits) ≡ true = subst (λ (k : ℕ). none_from k (true ∷ bits) ≡ true) more a in
    ap (λ (xs : List Bool). true ∷ xs) (lowest_run bits a')
    ∙ (let e : length bits - ones_in bits ≡ suc (length bits) - (1 + ones_in bits) = omega arith in
    ap₂ (λ (h k : ℕ). run h k) (sym more) e)
lowest_run (false ∷ bits) a = go (ones_in bits) refl
  where
    none : 0 + ones_in bits ≡ ones_in bits
    none = omega arith

    go : (o : ℕ) → ones_in bits ≡ o → false ∷ bits ≡ run (0 + ones_in bits) (suc (length bits) - (0 + ones_in bits))
    go zero e =
        let zs : all not bits ≡ true = subst (λ (k : ℕ). none_from k (false ∷ bits) ≡ true) (none ∙ e) a in
        ap (λ (xs : List Bool). false ∷ xs) (none_ones bits zs).1
        ∙ ap₂ (λ (h k : ℕ). run h k) (sym (none ∙ e)) (let f : suc (length bits) ≡ suc (length bits) - (0 + ones_in bits) = omega arith in f)
    go (suc m) e =
        let zs : all not (drop m bits) ≡ true = subst (λ (k : ℕ). none_from k (false ∷ bits) ≡ true) (none ∙ e) a in
        absurd (omega (arith, ones_drop m bits, (none_ones (drop m bits) zs).0))

ones_most : (bits : List Bool) → ones_in bits ≤ length bits
unfolding ones_in
ones_most [] = omega arith
ones_most (true ∷ bits) = omega (arith, ones_most bits)
ones_most (false ∷ bits) = omega (arith, ones_most bits)

-- the ones below the lowest zero are all there are
zero_ones : (bits : List Bool) → index_of not bits ≡ ones_in bits → none_from (ones_in bits) bits ≡ true
unfolding index_of none_from ones_in all
zero_ones [] e = refl
zero_ones (true ∷ bits) e =
    let more : 1 + ones_in bits ≡ suc (ones_in bits) = omega arith in
    subst (λ (k : ℕ). none_from k (true ∷ bits) ≡ true) (sym more) (zero_ones bits (omega arith))
zero_ones (false ∷ bits) e =
    let n : ones_in bits ≡ 0 = omega arith in
    subst (λ (k : ℕ). none_from k (false ∷ bits) ≡ true) e (zeros bits n)
  where
    zeros : (bits : List Bool) → ones_in bits ≡ 0 → all not bits ≡ true
    zeros [] n = refl
    zeros (true ∷ bits) n = absurd (omega arith)
    zeros (false ∷ bits) n = zeros bits (omega arith)

-- EXACTLY THE LOWEST: where the lowest zero bit is the number of ones, and nowhere else
pub lowest_test : (map : List ℕ) → eqb (lowest_zero map) (ones_of map) ≡ lowest_only map
unfolding lowest_zero ones_of lowest_only
lowest_test map = go (none_from (ones_in bits) bits) refl (eqb (index_of not bits) (ones_in bits)) refl
  where
    bits : List Bool
    bits = bits_of map

    go : (a : Bool) → none_from (ones_in bits) bits ≡ a → (b : Bool) → eqb (index_of not bits) (ones_in bits) ≡ b
        → eqb (index_of not bits) (ones_in bits) ≡ none_from (ones_in bits) bits
    go true p true q = q ∙ sym p
    go false p false q = q ∙ sym p
    go false p true q = absurd (true≢false (sym (zero_ones bits (eqb-true _ _ q)) ∙ p))
    go true p false q = absurd (eqb-false _ _ q (ap (index_of not) (lowest_run bits p) ∙ zero_run (ones_in bits) (length bits - ones_in bits)))

-- ---- the map of the lowest frames

-- of none: all words zero
pub map_none : map_of 0 ≡ replicate map_words 0
unfolding map_of
map_none = refl

module _ (h : ℕ) (most : h ≤ frame_limit) where
  pub map_bits : bits_of (map_of h) ≡ lowest_bits h
  unfolding map_of
  map_bits = words_back map_words (lowest_bits h) (length_run h (frame_limit - h) ∙ (let e : h + (frame_limit - h) ≡ word_bits * map_words = omega arith in e))

  -- has so many ones
  pub map_ones : ones_of (map_of h) ≡ h
  unfolding ones_of
  map_ones = ap ones_in map_bits ∙ ones_run h (frame_limit - h)

  -- its lowest zero bit is the next frame
  pub map_zero : lowest_zero (map_of h) ≡ h
  unfolding lowest_zero
  map_zero = ap (index_of not) map_bits ∙ zero_run h (frame_limit - h)

  pub map_lowest : lowest_only (map_of h) ≡ true
  unfolding lowest_only
  map_lowest =
      ap (λ (bits : List Bool). none_from (ones_in bits) bits) map_bits
      ∙ ap (λ (k : ℕ). none_from k (lowest_bits h)) (ones_run h (frame_limit - h))
      ∙ none_run h (frame_limit - h)

pub map_words_lem : (h : ℕ) → Words (map_of h)
unfolding map_of
map_words_lem h = record { four = words_length map_words (lowest_bits h); small = words_small map_words (lowest_bits h) }

module _ (map : List ℕ) (w : Words map) where
  bits_all : length (bits_of map) ≡ frame_limit
  bits_all = map_length map ∙ (let e : word_bits * length map ≡ frame_limit = omega (arith, w.four) in e)

  pub ones_all : ones_of map ≤ frame_limit
  unfolding ones_of
  ones_all = omega (arith, ones_most (bits_of map), bits_all)

  -- the map of given bits
  told : (bits : List Bool) → bits_of map ≡ bits → words_of map_words bits ≡ map
  told bits e = ap (words_of map_words) (sym e) ∙ ap (λ (n : ℕ). words_of n (bits_of map)) (sym w.four) ∙ map_back map w.small

  -- A MAP OF EXACTLY THE LOWEST BITS is the map of so many frames
  pub lowest_map : lowest_only map ≡ true → map_of (ones_of map) ≡ map
  unfolding map_of lowest_only ones_of
  lowest_map a =
      told (lowest_bits (ones_in (bits_of map)))
      (lowest_run (bits_of map) a ∙ ap (λ (n : ℕ). run (ones_in (bits_of map)) (n - ones_in (bits_of map))) bits_all)

-- ---- one frame more

ones_next : (h : ℕ) (bits : List Bool) → replicate h true ++ true ∷ bits ≡ replicate (suc h) true ++ bits
ones_next zero bits = refl
ones_next (suc h) bits = ap (λ (xs : List Bool). true ∷ xs) (ones_next h bits)

-- THE MAP OF ONE FRAME MORE: the next free frame's bit is set
pub map_next : (h : ℕ) → h < frame_limit → with_frame (map_of h) h ≡ map_of (suc h)
unfolding with_frame
map_next h m =
    ap (words_of map_words)
    (ap (λ (bits : List Bool). set bits h true) (map_bits h (omega arith) ∙ ap (run h) (let left : frame_limit - h ≡ suc (frame_limit - suc h) = omega arith in left))
    ∙ set_at (replicate h true) false (replicate (frame_limit - suc h) false) true h (length-replicate h true)
    ∙ ones_next h (replicate (frame_limit - suc h) false))
    ∙ (unfold map_of in refl)

module _ (map : List ℕ) (w : Words map) (f : ℕ) where
  -- that frame's bit is set, and every other is as it was
  pub frame_bit : bits_of (with_frame map f) ≡ set (bits_of map) f true
  unfolding with_frame
  frame_bit =
      words_back map_words (set (bits_of map) f true)
      (length-set (bits_of map) f true ∙ bits_all map w ∙ (let e : frame_limit ≡ word_bits * map_words = refl in e))

  or_words : Words (or_frame map f)
  or_words = record { four = length-set map (f / word_bits) _ ∙ w.four; small = below }
    where
      word : ℕ
      word = bit_or (get_or map (f / word_bits) 0) (2 ^ (f % word_bits))

      below : Small (set map (f / word_bits) word)
      below i h =
          ⊎_elim
          (λ s. let k : f / word_bits < length map = omega (arith, length-set map (f / word_bits) word, s.0) in rw s.1 (or_lt word_bits _ _ (w.small (f / word_bits) k) (pow-lt {i = f % word_bits} {j = word_bits} (omega arith))))
          (λ s. rw s.2 (w.small i s.1))
          (set_cases 0 map (f / word_bits) word i h)

  -- which is what the code does
  pub frame_or : with_frame map f ≡ or_frame map f
  unfolding with_frame
  frame_or = told (or_frame map f) or_words (set (bits_of map) f true) (or_frame_lem map f)

-- ---- what it means, bit by bit

-- exactly the frames below the number of ones have their bit set
pub lowest_means : (map : List ℕ) → lowest_only map ≡ true → (i : ℕ) → get_or (bits_of map) i false ≡ ltb i (ones_of map)
unfolding lowest_only ones_of
lowest_means map a i =
    ap (λ (bits : List Bool). get_or bits i false) (lowest_run (bits_of map) a)
    ∙ bit_run (ones_in (bits_of map)) (length (bits_of map) - ones_in (bits_of map)) i

pub means_lowest : (map : List ℕ) → ((i : ℕ) → get_or (bits_of map) i false ≡ ltb i (ones_of map)) → lowest_only map ≡ true
unfolding lowest_only ones_of none_from
means_lowest map each =
    let o : ℕ = ones_in (bits_of map) in
    at_all not false (drop o (bits_of map))
    (λ j h. ap not (get_or-drop o (bits_of map) j false ∙ each (o + j) ∙ le-ltb (o + j) o (omega arith)))

-- the lowest zero bit is zero, and every lower one is set
pub zero_means : (map : List ℕ) → Words map → (lowest_zero map < frame_limit → get_or (bits_of map) (lowest_zero map) false ≡ false) × ((i : ℕ) → i < lowest_zero map → get_or (bits_of map) i false ≡ true)
unfolding lowest_zero
zero_means map w = (
  λ h. clear _ (index_passes not false (bits_of map) (omega (arith, bits_all map w))),
  λ i h. set_bit (get_or (bits_of map) i false) (index_first not false (bits_of map) i h),
)
  where
    clear : (b : Bool) → not b ≡ true → b ≡ false
    clear true e = absurd (false≢true e)
    clear false e = refl

    set_bit : (b : Bool) → (not b ≡ true → ⊥) → b ≡ true
    set_bit true f = refl
    set_bit false f = absurd (f refl)
