-- Laws of words and bytes: how many there are, one word more, and bytes laid over the front of a room one after another.
-- Assumes nothing.
use Rattle.std.specs.Int.{w32, to_le_bytes}
use Rattle.std.proofs.lemmas.List.{drop_at}
use borrow.Rule.Slice.PartMut.{mid_of, post_of, put_mid}
use mathlib.Core.Path.{◌≡◌, refl, sym, ap, ap₂, ◌∙◌}
use mathlib.Core.List.{List, [], ◌∷◌, ◌++◌, append_assoc, append-nil}
use Prim.Native.Nat.{ℕ, suc, ◌+◌, ◌*◌, ◌-◌, ◌≤◌, ◌<◌}
use native.Mathlib.Numerals.{add-one}
use native.Mathlib.Omega.{arith}
use lib.ListN.{length, get_or, take, drop, length-append, length-drop, drop_of_length-le}
use lib.Seq.{length-take-le, take-suc, take_at, take_all, drop-drop}
use Rattle.paging.specs.Services.{laid}
use Rattle.paging.proofs.Writing.{laid_whole}
use Rattle.words.specs.Bytes.{words_at}
use Rattle.words.proofs.Bytes.{length_words}
use Rattle.bundle.specs.Bytes.{bytes_of, bytes_in, section}

-- ---- how many

pub length_word : (word : ℕ) → length (bytes_of word) ≡ 4
unfolding bytes_of
length_word word = refl

pub length_bytes : (words : List ℕ) → length (bytes_in words) ≡ 4 * length words
unfolding bytes_in
length_bytes [] = refl
length_bytes (word ∷ words) = omega (arith, length_bytes words)

pub length_section : (words : List ℕ) → length (section words) ≡ 4 + 4 * length words
unfolding section
length_section words = omega (arith, length_bytes words)

-- ---- one word more

pub bytes_append : (xs ys : List ℕ) → bytes_in (xs ++ ys) ≡ bytes_in xs ++ bytes_in ys
unfolding bytes_in
bytes_append [] ys = refl
bytes_append (x ∷ xs) ys = ap (λ (bs : List ℕ). bytes_of x ++ bs) (bytes_append xs ys) ∙ sym (append_assoc (bytes_of x) (bytes_in xs) (bytes_in ys))

bytes_one : (word : ℕ) → bytes_in (word ∷ []) ≡ bytes_of word
unfolding bytes_in
bytes_one word = append-nil (bytes_of word)

pub bytes_more : (words : List ℕ) (i : ℕ) → i < length words → bytes_in (take (suc i) words) ≡ bytes_in (take i words) ++ bytes_of (get_or words i 0)
bytes_more words i h =
    ap bytes_in (take-suc words i 0 h)
    ∙ bytes_append (take i words) (get_or words i 0 ∷ [])
    ∙ ap (λ (bs : List ℕ). bytes_in (take i words) ++ bs) (bytes_one (get_or words i 0))

-- with room for all of them, words of a file laid over lent ones
pub laid_words : (file : List ℕ) (at count : ℕ) (lent : List ℕ) → count ≤ length lent
    → laid (words_at file at count) lent ≡ words_at file at count ++ drop count lent
laid_words file at count lent h =
    laid_whole (words_at file at count) lent (rw (length_words file at count) h)
    ∙ ap (λ (k : ℕ). words_at file at count ++ drop k lent) (length_words file at count)

-- ---- bytes laid over the front of a room

-- a word's bytes, as the library has them, over the first four
pub put_four : (room : List ℕ) (word : ℕ) (bytes : List ℕ) → 4 ≤ length room → bytes ≡ to_le_bytes w32 word → bytes ++ drop 4 room ≡ laid (bytes_of word) room
unfolding bytes_of
put_four room word bytes h e = ap (λ (bs : List ℕ). bs ++ drop 4 room) e ∙ sym (laid_whole (bytes_of word) room h)

-- bytes laid over the front of the part that begins right behind what was laid before
pub laid_behind : (next : ℕ) (xs ys room old new : List ℕ) → next ≡ length xs → next + length ys ≤ length room → old ≡ laid xs room
    → new ≡ laid ys (mid_of next (length old - next) old) → put_mid next (length old - next) old new ≡ laid (xs ++ ys) room
laid_behind next xs ys room old new n h o p =
    let long : length xs ≤ length room = omega arith in
    let front : old ≡ xs ++ drop next room = o ∙ laid_whole xs room long ∙ ap (λ (k : ℕ). xs ++ drop k room) (sym n) in
    let size : length old ≡ length room = omega (arith, ap length front, length-append xs (drop next room), length-drop next room) in
    let rest : length (drop next old) ≤ length old - next = omega (arith, length-drop next old) in
    let part : mid_of next (length old - next) old ≡ drop next room =
    take_all (length old - next) (drop next old) rest ∙ ap (drop next) front ∙ drop_at xs (drop next room) next (sym n) in
    let fits : length ys ≤ length (drop next room) = omega (arith, length-drop next room) in
    let put : new ≡ ys ++ drop (length ys) (drop next room) = p ∙ ap (laid ys) part ∙ laid_whole ys (drop next room) fits in
    let none : post_of next (length old - next) old ≡ [] = drop_of_length-le (drop next old) rest in
    let end : next + length ys ≡ length (xs ++ ys) = omega (arith, length-append xs ys) in
    let whole : length (xs ++ ys) ≤ length room = omega arith in
    let before : take next old ≡ xs = ap (take next) front ∙ take_at xs (drop next room) next (sym n) in
    ap₂ (λ (a b : List ℕ). a ++ b) before (ap₂ (λ (a b : List ℕ). a ++ b) put none ∙ append-nil _ ∙ ap (λ (bs : List ℕ). ys ++ bs) (drop-drop (length ys) next room))
    ∙ sym (append_assoc xs ys (drop (next + length ys) room))
    ∙ ap (λ (k : ℕ). xs ++ ys ++ drop k room) end
    ∙ sym (laid_whole (xs ++ ys) room whole)

-- one word more of a list
pub laid_word : (room : List ℕ) (words : List ℕ) (i : ℕ) (old new : List ℕ) → i < length words → 4 * length words ≤ length room → old ≡ laid (bytes_in (take i words)) room
    → new ≡ laid (bytes_of (get_or words i 0)) (mid_of (4 * i) (length old - 4 * i) old) → put_mid (4 * i) (length old - 4 * i) old new ≡ laid (bytes_in (take (i + 1) words)) room
laid_word room words i old new h fits o p =
    let k : length (take i words) ≡ i = length-take-le i words (omega arith) in
    let e : 4 * i ≡ length (bytes_in (take i words)) = omega (arith, length_bytes (take i words)) in
    let f : 4 * i + length (bytes_of (get_or words i 0)) ≤ length room = omega (arith, length_word (get_or words i 0)) in
    laid_behind (4 * i) (bytes_in (take i words)) (bytes_of (get_or words i 0)) room old new e f o p
    ∙ ap (λ (bs : List ℕ). laid bs room) (sym (bytes_more words i h) ∙ ap (λ (j : ℕ). bytes_in (take j words)) (sym (add-one i)))

pub laid_none : (room : List ℕ) → laid (bytes_in []) room ≡ room
unfolding bytes_in
laid_none room = laid_whole [] room (omega arith)

-- a count and its words are a section
pub laid_section : (words room old new : List ℕ) → 4 + 4 * length words ≤ length room → old ≡ laid (bytes_of (length words)) room
    → new ≡ laid (bytes_in words) (mid_of 4 (length old - 4) old) → put_mid 4 (length old - 4) old new ≡ laid (section words) room
unfolding section
laid_section words room old new h o p =
    laid_behind 4 (bytes_of (length words)) (bytes_in words) room old new (sym (length_word (length words))) (omega (arith, length_bytes words)) o p
