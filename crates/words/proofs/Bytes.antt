-- Laws of words in a file: how many there are, a word or none, and one word more, laid at the front of lent ones.
-- Assumes nothing.
use Rattle.std.specs.Prelude.{Some, None}
use mathlib.Core.Path.{◌≡◌, refl, sym, ap, ◌∙◌}
use mathlib.Core.List.{List, [], ◌∷◌, ◌++◌}
use Prim.Native.Nat.{ℕ, zero, suc, ◌+◌, ◌*◌, ◌≤◌, ◌<◌}
use native.Mathlib.Numerals.{add-one}
use native.Mathlib.Omega.{arith}
use lib.ListN.{length, get_or, drop, set}
use lib.Seq.{drop-cons, append_snoc, set_at}
use borrow.Author.Tests.{lt-ltb, le-ltb}
use Rattle.words.specs.Bytes.{word_at, word_in, words_at}

pub length_words : (file : List ℕ) (at count : ℕ) → length (words_at file at count) ≡ count
unfolding words_at
length_words file at zero = refl
length_words file at (suc count) = ap suc (length_words file (at + 4) count)

-- ---- a word or none

pub word_missing : (file : List ℕ) (at : ℕ) → length file < at + 4 → word_in file at ≡ None
unfolding word_in
word_missing file at h = rw (lt-ltb _ _ h)

pub word_whole : (file : List ℕ) (at : ℕ) → at + 4 ≤ length file → word_in file at ≡ Some (word_at file at)
unfolding word_in
word_whole file at h = rw (le-ltb _ _ h)

pub words_more : (file : List ℕ) (at count : ℕ) → words_at file at (suc count) ≡ words_at file at count ++ (word_at file (at + 4 * count) ∷ [])
unfolding words_at
words_more file at zero = let e : at + 4 * 0 ≡ at = omega arith in rw e
words_more file at (suc count) =
    let e : at + 4 + 4 * count ≡ at + 4 * suc count = omega arith in
    ap (λ (ws : List ℕ). word_at file at ∷ ws) (words_more file (at + 4) count ∙ ap (λ (k : ℕ). words_at file (at + 4) count ++ (word_at file k ∷ [])) e)

-- ---- a list that grows at the front of lent words

pub lay_next : (done : List ℕ) (word i : ℕ) (lent : List ℕ) → length done ≡ i → i < length lent
    → set (done ++ drop i lent) i word ≡ done ++ (word ∷ []) ++ drop (i + 1) lent
lay_next done word i lent e h =
    ap (λ (xs : List ℕ). set (done ++ xs) i word) (drop-cons lent i 0 h)
    ∙ set_at done (get_or lent i 0) (drop (suc i) lent) word i e
    ∙ sym (append_snoc done word (drop (suc i) lent))
    ∙ ap (λ (k : ℕ). done ++ (word ∷ []) ++ drop k lent) (sym (add-one i))

pub words_none : (file : List ℕ) (at : ℕ) (lent : List ℕ) → lent ≡ words_at file at 0 ++ drop 0 lent
unfolding words_at
words_none file at lent = refl

-- one word more of a file
pub words_next : (file : List ℕ) (at i : ℕ) (lent : List ℕ) → i < length lent
    → set (words_at file at i ++ drop i lent) i (word_at file (at + 4 * i)) ≡ words_at file at (i + 1) ++ drop (i + 1) lent
words_next file at i lent h =
    lay_next (words_at file at i) (word_at file (at + 4 * i)) i lent (length_words file at i) h
    ∙ ap (λ (ws : List ℕ). ws ++ drop (i + 1) lent) (sym (words_more file at i) ∙ ap (words_at file at) (sym (add-one i)))
