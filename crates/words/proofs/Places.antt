-- Laws of places in a file: where a place moves, the word and the section so many bytes after the file's first, and how many words a copy has.
-- Assumes nothing.
use mathlib.Core.Path.{◌≡◌, refl, sym, ap, ◌∙◌}
use mathlib.Core.Bool.{Bool, true, false}
use mathlib.Core.List.{List, ◌++◌}
use Prim.Native.Nat.{ℕ, ◌+◌, ◌*◌, ◌-◌, ◌/◌, ◌≤◌, ◌<◌, min}
use native.Mathlib.Omega.{arith}
use lib.Dec.{ltb}
use lib.ListN.{length, drop}
use borrow.Author.Tests.{lt-ltb, le-ltb, ltb-true, ltb-false}
use Rattle.words.specs.Bytes.{word_in, words_at}
use Rattle.words.specs.Places.{bytes_from, place_after, words_held, section_over}
use Rattle.words.proofs.Bytes.{word_missing}

pub after_end : (file : List ℕ) (at bytes : ℕ) → bytes_from file at < bytes → place_after file at bytes ≡ length file
after_end file at bytes h = rw (lt-ltb _ _ h)

pub after_whole : (file : List ℕ) (at bytes : ℕ) → bytes ≤ bytes_from file at → place_after file at bytes ≡ at + bytes
after_whole file at bytes h = rw (le-ltb _ _ h)

-- past the end there is no word, and none at the end
pub word_after : (file : List ℕ) (at : ℕ) → word_in file (place_after file 0 at) ≡ word_in file at
word_after file at = go (ltb (length file) at) refl
  where
    go : (b : Bool) → ltb (length file) at ≡ b → word_in file (place_after file 0 at) ≡ word_in file at
    go true q =
        let h : length file < at = ltb-true _ _ q in
        let e : place_after file 0 at ≡ length file = after_end file 0 at (omega arith) in
        rw e (word_missing file (length file) (omega arith) ∙ sym (word_missing file at (omega arith)))
    go false q =
        let h : at ≤ length file = ltb-false _ _ q in
        let e : place_after file 0 at ≡ 0 + at = after_whole file 0 at (omega arith) in
        let z : 0 + at ≡ at = omega arith in
        rw (e, z)

-- a copy that has words stays in the file and in the room
pub held_fits : (file : List ℕ) (at count room : ℕ) → 0 < words_held file at count room → (at + 4 * words_held file at count room ≤ length file) × (words_held file at count room ≤ room)
held_fits file at count room h = (omega (arith, h), omega arith)

pub over_none : (file : List ℕ) (at count : ℕ) (out : List ℕ) → words_held file at count (length out) ≡ 0 → section_over file at count out ≡ out
unfolding words_at
over_none file at count out z = ap (λ (k : ℕ). words_at file at k ++ drop k out) z

-- a copy that fits both sides has all that is asked
pub held_whole : (file : List ℕ) (at count room : ℕ) → at + 4 * count ≤ length file → count ≤ room → words_held file at count room ≡ count
held_whole file at count room f r =
    let q : count ≤ bytes_from file at / 4 = omega arith in omega arith

-- and lays all of it over the lent words
pub over_whole : (file : List ℕ) (at count : ℕ) (out : List ℕ) → at + 4 * count ≤ length file → count ≤ length out
    → section_over file at count out ≡ words_at file at count ++ drop count out
over_whole file at count out f r = ap (λ (k : ℕ). words_at file at k ++ drop k out) (held_whole file at count (length out) f r)

-- past the end there are no words, and none at the end
pub held_after : (file : List ℕ) (at count room : ℕ) → words_held file (place_after file 0 at) count room ≡ words_held file at count room
held_after file at count room = go (ltb (length file) at) refl
  where
    go : (b : Bool) → ltb (length file) at ≡ b → words_held file (place_after file 0 at) count room ≡ words_held file at count room
    go true q =
        let h : length file < at = ltb-true _ _ q in
        let e : place_after file 0 at ≡ length file = after_end file 0 at (omega arith) in
        let z : length file - length file ≡ length file - at = omega arith in
        rw e (ap (λ (k : ℕ). min (min count room) (k / 4)) z)
    go false q =
        let h : at ≤ length file = ltb-false _ _ q in
        let e : place_after file 0 at ≡ 0 + at = after_whole file 0 at (omega arith) in
        let z : 0 + at ≡ at = omega arith in
        rw (e, z)

pub over_after : (file : List ℕ) (at count : ℕ) (out : List ℕ) → section_over file (place_after file 0 at) count out ≡ section_over file at count out
over_after file at count out = go (ltb (length file) at) refl
  where
    go : (b : Bool) → ltb (length file) at ≡ b → section_over file (place_after file 0 at) count out ≡ section_over file at count out
    go true q =
        let h : length file < at = ltb-true _ _ q in
        let left : length file - at ≡ 0 = omega arith in
        let none : words_held file at count (length out) ≡ 0 = omega (arith, left) in
        over_none file (place_after file 0 at) count out (held_after file at count (length out) ∙ none) ∙ sym (over_none file at count out none)
    go false q =
        let h : at ≤ length file = ltb-false _ _ q in
        let e : place_after file 0 at ≡ 0 + at = after_whole file 0 at (omega arith) in
        let z : 0 + at ≡ at = omega arith in
        rw (e, z)
