-- Words to bytes and back: reading the bytes of words gives the words, the bytes of the words read are the bytes, and words of bytes are below 2^32.
-- Assumes nothing.
use mathlib.Core.Path.{◌≡◌, refl, sym, ap, ap₂, subst, ◌∙◌}
use mathlib.Core.List.{List, [], ◌∷◌, ◌++◌, append_assoc}
use Prim.Native.Nat.{ℕ, zero, suc, ◌+◌, ◌*◌, ◌/◌, ◌%◌, ◌<◌}
use native.Mathlib.Omega.{arith}
use lib.ListN.{length, get_or}
use lib.Seq.{get_or-append-add}
use Rattle.words.specs.Bytes.{word_at, words_at}
use Rattle.bundle.specs.Bytes.{bytes_of, bytes_in, section}
use Rattle.bundle.specs.Writing.{file_of}
use Rattle.bundle.specs.Accepted.{AllBelow}

-- ---- behind other bytes

pub word_behind : (xs ys : List ℕ) (at : ℕ) → word_at (xs ++ ys) (length xs + at) ≡ word_at ys at
unfolding word_at
word_behind xs ys at =
    let one : length xs + at + 1 ≡ length xs + (at + 1) = omega arith in
    let two : length xs + at + 2 ≡ length xs + (at + 2) = omega arith in
    let three : length xs + at + 3 ≡ length xs + (at + 3) = omega arith in
    rw (one, two, three, get_or-append-add xs ys at 0, get_or-append-add xs ys (at + 1) 0, get_or-append-add xs ys (at + 2) 0, get_or-append-add xs ys (at + 3) 0)

pub words_behind : (xs ys : List ℕ) (at count : ℕ) → words_at (xs ++ ys) (length xs + at) count ≡ words_at ys at count
unfolding words_at
words_behind xs ys at zero = refl
words_behind xs ys at (suc count) =
    let e : length xs + at + 4 ≡ length xs + (at + 4) = omega arith in
    ap₂ (λ (w : ℕ) (ws : List ℕ). w ∷ ws) (word_behind xs ys at) (ap (λ (k : ℕ). words_at (xs ++ ys) k count) e ∙ words_behind xs ys (at + 4) count)

-- ---- from words to bytes and back

low_high : (w : ℕ) → w % 256 + 256 * (w / 256) ≡ w
low_high w = omega arith

div_two : (w : ℕ) → w / 65536 ≡ w / 256 / 256
div_two w = omega arith

div_three : (w : ℕ) → w / 16777216 ≡ w / 256 / 256 / 256
div_three w = omega arith

small_mod : (w : ℕ) → w < 256 → w % 256 ≡ w
small_mod w h = omega arith

top_small : (w : ℕ) → w < 4294967296 → w / 16777216 < 256
top_small w h = omega arith

glue : (w q r s a b c d : ℕ) → a + 256 * q ≡ w → b + 256 * r ≡ q → c + 256 * s ≡ r → d ≡ s → a + 256 * b + 65536 * c + 16777216 * d ≡ w
glue w q r s a b c d e f g h = omega arith

four_bytes : (w : ℕ) → w < 4294967296 → w % 256 + 256 * (w / 256 % 256) + 65536 * (w / 65536 % 256) + 16777216 * (w / 16777216 % 256) ≡ w
four_bytes w h =
    let q = w / 256 in
    glue w q (q / 256) (q / 256 / 256) (w % 256) (q % 256) (w / 65536 % 256) (w / 16777216 % 256)
    (low_high w)
    (low_high q)
    (ap (λ (k : ℕ). k % 256 + 256 * (q / 256 / 256)) (div_two w) ∙ low_high (q / 256))
    (small_mod (w / 16777216) (top_small w h) ∙ div_three w)

pub word_back : (w : ℕ) (rest : List ℕ) → w < 4294967296 → word_at (bytes_of w ++ rest) 0 ≡ w
unfolding word_at bytes_of
word_back w rest h = four_bytes w h

pub words_back : (words rest : List ℕ) → AllBelow 4294967296 words → words_at (bytes_in words ++ rest) 0 (length words) ≡ words
unfolding words_at bytes_in
words_back [] rest b = refl
words_back (w ∷ words) rest b =
    let e : bytes_of w ++ bytes_in words ++ rest ≡ bytes_of w ++ (bytes_in words ++ rest) = append_assoc (bytes_of w) (bytes_in words) rest in
    subst (λ (xs : List ℕ). words_at xs 0 (suc (length words)) ≡ w ∷ words) (sym e)
    (ap₂ (λ (x : ℕ) (xs : List ℕ). x ∷ xs)
    (word_back w (bytes_in words ++ rest) b.0)
    (words_behind (bytes_of w) (bytes_in words ++ rest) 0 (length words) ∙ words_back words rest b.1))

-- ---- from bytes to words and back

low : (a x : ℕ) → a < 256 → (a + 256 * x) % 256 ≡ a
low a x h = omega arith

high : (a x : ℕ) → a < 256 → (a + 256 * x) / 256 ≡ x
high a x h = omega arith

bytes_again : (a b c d : ℕ) → a < 256 → b < 256 → c < 256 → d < 256 → bytes_of (a + 256 * b + 65536 * c + 16777216 * d) ≡ a ∷ b ∷ c ∷ d ∷ []
unfolding bytes_of
bytes_again a b c d ha hb hc hd =
    let y = c + 256 * d in
    let x = b + 256 * y in
    let e : a + 256 * b + 65536 * c + 16777216 * d ≡ a + 256 * x = omega arith in
    ap bytes_of e
    ∙ ap₂ (λ (z : ℕ) (zs : List ℕ). z ∷ zs)
    (low a x ha)
    (ap₂ (λ (z : ℕ) (zs : List ℕ). z ∷ zs)
    (ap (λ (k : ℕ). k % 256) (high a x ha) ∙ low b y hb)
    (ap₂ (λ (z : ℕ) (zs : List ℕ). z ∷ zs)
    (ap (λ (k : ℕ). k % 256) (div_two (a + 256 * x) ∙ ap (λ (k : ℕ). k / 256) (high a x ha) ∙ high b y hb) ∙ low c d hc)
    (ap (λ (z : ℕ). z ∷ [])
    (ap (λ (k : ℕ). k % 256) (div_three (a + 256 * x) ∙ ap (λ (k : ℕ). k / 256 / 256) (high a x ha) ∙ ap (λ (k : ℕ). k / 256) (high b y hb) ∙ high c d hc)
    ∙ small_mod d hd))))

pub bytes_back : (count : ℕ) (file : List ℕ) → AllBelow 256 file → length file ≡ 4 * count → bytes_in (words_at file 0 count) ≡ file
unfolding bytes_in words_at
bytes_back zero [] s e = refl
bytes_back zero (a ∷ file) s e = absurd (omega arith)
bytes_back (suc count) [] s e = absurd (omega arith)
bytes_back (suc count) (a ∷ []) s e = absurd (omega arith)
bytes_back (suc count) (a ∷ b ∷ []) s e = absurd (omega arith)
bytes_back (suc count) (a ∷ b ∷ c ∷ []) s e = absurd (omega arith)
bytes_back (suc count) (a ∷ b ∷ c ∷ d ∷ file) s e =
    ap₂ (λ (xs ys : List ℕ). xs ++ ys)
    (bytes_again a b c d s.0 s.1.0 s.1.1.0 s.1.1.1.0)
    (ap bytes_in (words_behind (a ∷ b ∷ c ∷ d ∷ []) file 0 count) ∙ bytes_back count file s.1.1.1.1 (omega arith))

-- ---- words of bytes are below 2^32

byte_small : (file : List ℕ) → AllBelow 256 file → (i : ℕ) → get_or file i 0 < 256
byte_small [] s zero = omega arith
byte_small [] s (suc i) = omega arith
byte_small (x ∷ xs) s zero = s.0
byte_small (x ∷ xs) s (suc i) = byte_small xs s.1 i

word_small : (file : List ℕ) → AllBelow 256 file → (at : ℕ) → word_at file at < 4294967296
unfolding word_at
word_small file s at = omega (arith, byte_small file s at, byte_small file s (at + 1), byte_small file s (at + 2), byte_small file s (at + 3))

pub words_small : (file : List ℕ) → AllBelow 256 file → (at count : ℕ) → AllBelow 4294967296 (words_at file at count)
unfolding words_at
words_small file s at zero = tt
words_small file s at (suc count) = (word_small file s at, words_small file s (at + 4) count)

-- ---- words in two parts

pub words_append : (file : List ℕ) (at i j : ℕ) → words_at file at (i + j) ≡ words_at file at i ++ words_at file (at + 4 * i) j
unfolding words_at
words_append file at zero j =
    let e : 0 + j ≡ j = omega arith in
    let f : at + 4 * 0 ≡ at = omega arith in
    rw (e, f)
words_append file at (suc i) j =
    let e : suc i + j ≡ suc (i + j) = omega arith in
    let f : at + 4 + 4 * i ≡ at + 4 * suc i = omega arith in
    rw (e, ← f) (ap (λ (ws : List ℕ). word_at file at ∷ ws) (words_append file (at + 4) i j))

-- a bundle's words: sizes and requests with their counts, then the plan with its count
pub file_words : (n m : ℕ) (trace plan : List ℕ)
    → file_of n m trace plan ≡ bytes_in (2 ∷ n ∷ m ∷ length trace ∷ trace) ++ bytes_in (length plan ∷ plan)
unfolding file_of section bytes_in bytes_of
file_words n m trace plan = refl
