-- Laws of the first mark among the words of a file: the library's search through the requests' numbers finds it, and tells whether there is one.
-- Assumes nothing.
use Rattle.std.specs.Prelude.{cond, Some, None, nat_lt, MatchOption}
use Rattle.std.specs.List.{position, position_or_len, range_with_len}
use Rattle.std.proofs.lemmas.List.FromFn.{length-range_with_len}
use mathlib.Core.Path.{◌≡◌, refl, ap, ◌∙◌}
use mathlib.Core.Bool.{Bool, true, false}
use mathlib.Core.List.{List}
use Prim.Native.Nat.{ℕ, zero, suc, ◌+◌, ◌*◌, ◌≤◌, ◌<◌}
use native.Mathlib.Omega.{arith}
use lib.Dec.{eqb, ltb}
use lib.ListN.{length}
use borrow.Author.Tests.{ltb-true, ltb-false}
use Rattle.paging.specs.Rules.{mark}
use Rattle.paging.specs.Lists.{mem, place_of}
use Rattle.paging.specs.Calls.{marked, first_mark}
use Rattle.paging.proofs.Held.{place_out}
use Rattle.calls.proofs.Search.{found_mem}
use Rattle.words.specs.Bytes.{word_at, words_at}
use Rattle.words.proofs.Bytes.{length_words}

-- ---- a mark is told where there is one

pub mark_found : (words : List ℕ) → first_mark words < length words → marked words ≡ true
unfolding marked first_mark mem place_of
mark_found words h = found_mem mark words h

pub mark_lost : (words : List ℕ) → length words ≤ first_mark words → marked words ≡ false
unfolding marked first_mark mem place_of
mark_lost words h = place_out mark words h

-- ---- the library's search through the requests' numbers

-- whether request i is the mark
abbrev pub is_mark : List ℕ → ℕ → Bool
is_mark file i = eqb (word_at file (16 + 4 * i)) mark

mark_by : (file : List ℕ) (a n : ℕ) → position_or_len (is_mark file) (range_with_len a n) ≡ first_mark (words_at file (16 + 4 * a) n)
unfolding first_mark words_at
mark_by file a zero = refl
mark_by file a (suc n) =
    let at : 16 + 4 * (a + 1) ≡ 16 + 4 * a + 4 = omega arith in
    let rest : position_or_len (is_mark file) (range_with_len (a + 1) n) ≡ first_mark (words_at file (16 + 4 * a + 4) n) =
    mark_by file (a + 1) n ∙ ap (λ (k : ℕ). first_mark (words_at file k n)) at
    in go (is_mark file a) refl rest
  where
    go : (b : Bool) → is_mark file a ≡ b → position_or_len (is_mark file) (range_with_len (a + 1) n) ≡ first_mark (words_at file (16 + 4 * a + 4) n)
        → position_or_len (is_mark file) (range_with_len a (suc n)) ≡ first_mark (words_at file (16 + 4 * a) (suc n))
    go true q e = rw q
    go false q e = rw (q, e) (omega arith)

-- where the search ends
mark_case : (words : List ℕ) (k n : ℕ) → length words ≡ n → k ≡ first_mark words
    → MatchOption (cond (nat_lt k n) (Some k) None) (marked words ≡ false) (λ i. (i < n) × (marked words ≡ true) × (i ≡ first_mark words))
mark_case words k n l e = go (nat_lt k n) refl
  where
    go : (b : Bool) → nat_lt k n ≡ b → MatchOption (cond b (Some k) None) (marked words ≡ false) (λ i. (i < n) × (marked words ≡ true) × (i ≡ first_mark words))
    go true q = let h : k < n = ltb-true k n q in (h, mark_found words (omega arith), e)
    go false q = let h : n ≤ k = ltb-false k n q in mark_lost words (omega arith)

pub mark_told : (file : List ℕ) (n : ℕ)
    → MatchOption (position (is_mark file) (range_with_len 0 n)) (marked (words_at file 16 n) ≡ false)
    (λ i. (i < n) × (marked (words_at file 16 n) ≡ true) × (i ≡ first_mark (words_at file 16 n)))
mark_told file n = rw (length-range_with_len 0 n) (mark_case (words_at file 16 n) (position_or_len (is_mark file) (range_with_len 0 n)) n (length_words file 16 n) (mark_by file 0 n))
