-- What the words of a record say: read back, they give the record that was put, words past it stay as they were, and words that are read and put back are the same.
--
-- In order: things put one after the other; a word of the map; an entry; rule, frames and clock; the record in words that are long enough; fewer words; the record.
-- Assumes nothing.
use mathlib.Core.Path.{◌≡◌, refl, sym, ap, ap₂, ◌∙◌}
use mathlib.Core.List.{List, [], ◌∷◌}
use mathlib.Core.Logic.{◌⊎◌, inl, inr, ⊎_elim}
use Prim.Native.Nat.{ℕ, zero, suc, ◌+◌, ◌*◌, ◌/◌, ◌%◌, ◌≤◌, ◌<◌}
use Rattle.std.proofs.lemmas.Grind.{common_steps}
use native.Mathlib.Omega.{arith}
use native.Mathlib.Decide.{dec_lt}
use lib.ListN.{length, get_or, set}
use lib.Seq.{set-get_or}
use mathlib.Core.Bool.{false}
use borrow.Author.Tests.{lt-ltb, le-ltb}
use Rattle.paging.specs.Calls.{frame_limit}
use Rattle.paging.specs.declared.Entry.{Entry}
use Rattle.occupancy.specs.Map.{map_words}
use Rattle.cache.specs.declared.Cache.{Cache}
use Rattle.cache.specs.Record.{Formed}
use Rattle.cache.specs.Sound.{sound}
use Rattle.records.specs.Records.{map_place, entries_place, record_length, word_limit, list_from, word_from, map_from, entry_from, entries_from, record_in, record_of, put_list, put_head, put_word, put_map, put_entry, put_entries, record_over, record_into}

-- every word of the list has 32 bits
abbrev pub InWords : List ℕ → Type 0
InWords words = (i : ℕ) → i < length words → get_or words i 0 < word_limit

-- ---- things put one after the other

-- a thing is put into so many words of its own, and read back from them wherever they are as they were put
pub record Layout {A : Type 0} (size : ℕ) (from : List ℕ → ℕ → A) (put : ℕ → A → List ℕ → List ℕ) : Type 0 where
  pub same_length : (at : ℕ) (x : A) (words : List ℕ) → length (put at x words) ≡ length words
  pub others_stay : (at : ℕ) (x : A) (words : List ℕ) (i : ℕ) → (i < at) ⊎ (at + size ≤ i) → get_or (put at x words) i 0 ≡ get_or words i 0
  pub back : (at : ℕ) (x : A) (words after : List ℕ) → at + size ≤ length words → ((i : ℕ) → i < at + size → get_or after i 0 ≡ get_or (put at x words) i 0) → from after at ≡ x

module _ {A : Type 0} (size : ℕ) (from : List ℕ → ℕ → A) (put : ℕ → A → List ℕ → List ℕ) (l : Layout size from put) where
  list_length : (xs : List A) (words : List ℕ) (at : ℕ) → length (put_list size put at xs words) ≡ length words
  unfolding put_list
  list_length [] words at = refl
  list_length (x ∷ xs) words at = list_length xs (put at x words) (at + size) ∙ l.same_length at x words

  -- words before them and past them are as they were
  list_stay : (xs : List A) (words : List ℕ) (at i : ℕ) → (i < at) ⊎ (at + size * length xs ≤ i) → get_or (put_list size put at xs words) i 0 ≡ get_or words i 0
  unfolding put_list
  list_stay [] words at i h = refl
  list_stay (x ∷ xs) words at i h =
      list_stay xs (put at x words) (at + size) i (⊎_elim (λ k. inl (omega arith)) (λ k. inr (omega arith)) h)
      ∙ l.others_stay at x words i (⊎_elim (λ k. inl (omega arith)) (λ k. inr (omega arith)) h)

  list_back : (xs : List A) (words after : List ℕ) (at : ℕ) → at + size * length xs ≤ length words
      → ((i : ℕ) → i < at + size * length xs → get_or after i 0 ≡ get_or (put_list size put at xs words) i 0)
      → list_from size from after at (length xs) ≡ xs
  unfolding put_list list_from
  list_back [] words after at fits same = refl
  list_back (x ∷ xs) words after at fits same =
      ap₂ (λ (y : A) (ys : List A). y ∷ ys)
      (l.back at x words after (omega arith) (λ i h. same i (omega arith) ∙ list_stay xs (put at x words) (at + size) i (inl h)))
      (list_back xs (put at x words) after (at + size) (omega (arith, l.same_length at x words)) (λ i h. same i (omega arith)))

-- things read and put back: the same words, where it is so for each
list_again : {A : Type 0} (size : ℕ) (from : List ℕ → ℕ → A) (put : ℕ → A → List ℕ → List ℕ) (words : List ℕ)
    → ((at : ℕ) → at + size ≤ length words → put at (from words at) words ≡ words)
    → (at count : ℕ) → at + size * count ≤ length words
    → put_list size put at (list_from size from words at count) words ≡ words
unfolding put_list list_from
list_again size from put words one at zero fits = refl
list_again size from put words one at (suc count) fits =
    ap (put_list size put (at + size) (list_from size from words (at + size) count)) (one at (omega arith))
    ∙ list_again size from put words one (at + size) count (omega arith)

-- ---- a word of the map

module _ (at x : ℕ) (words : List ℕ) where
  word_length : length (put_word at x words) ≡ length words
  word_length = grind (arith, common_steps)

  word_stay : (i : ℕ) → (i < at) ⊎ (at + 2 ≤ i) → get_or (put_word at x words) i 0 ≡ get_or words i 0
  word_stay i (inl h) = grind (arith, common_steps)
  word_stay i (inr h) = grind (arith, common_steps)

  word_back : (after : List ℕ) → at + 2 ≤ length words → ((i : ℕ) → i < at + 2 → get_or after i 0 ≡ get_or (put_word at x words) i 0) → word_from after at ≡ x
  word_back after fits same =
      let low : get_or after at 0 ≡ x % word_limit = same at (omega arith) ∙ grind (arith, common_steps) in
      let high : get_or after (at + 1) 0 ≡ x / word_limit = same (at + 1) (omega arith) ∙ grind (arith, common_steps) in
      omega arith

pub word_layout : Layout 2 word_from put_word
word_layout = record { same_length = word_length; others_stay = word_stay; back = word_back }

word_again : (words : List ℕ) → InWords words → (at : ℕ) → at + 2 ≤ length words → put_word at (word_from words at) words ≡ words
word_again words small at fits =
    let s : get_or words at 0 < word_limit = small at (omega arith) in
    let low : word_from words at % word_limit ≡ get_or words at 0 = omega arith in
    let high : word_from words at / word_limit ≡ get_or words (at + 1) 0 = omega arith in
    ap₂ (λ (a b : ℕ). set (set words at a) (at + 1) b) low high ∙ simp set-get_or

-- ---- an entry

module _ (at : ℕ) (e : Entry) (words : List ℕ) where
  entry_length : length (put_entry at e words) ≡ length words
  entry_length = grind (arith, common_steps)

  entry_stay : (i : ℕ) → (i < at) ⊎ (at + 4 ≤ i) → get_or (put_entry at e words) i 0 ≡ get_or words i 0
  entry_stay i (inl h) = grind (arith, common_steps)
  entry_stay i (inr h) = grind (arith, common_steps)

  entry_back : (after : List ℕ) → at + 4 ≤ length words → ((i : ℕ) → i < at + 4 → get_or after i 0 ≡ get_or (put_entry at e words) i 0) → entry_from after at ≡ e
  entry_back after fits same =
      let page : get_or after at 0 ≡ e.page.0 = same at (omega arith) ∙ grind (arith, common_steps) in
      let loaded : get_or after (at + 1) 0 ≡ e.loaded.0 = same (at + 1) (omega arith) ∙ grind (arith, common_steps) in
      let last : get_or after (at + 2) 0 ≡ e.last.0 = same (at + 2) (omega arith) ∙ grind (arith, common_steps) in
      let earlier : get_or after (at + 3) 0 ≡ e.earlier.0 = same (at + 3) (omega arith) ∙ grind (arith, common_steps) in
      rw (page, loaded, last, earlier) refl

pub entry_layout : Layout 4 entry_from put_entry
entry_layout = record { same_length = entry_length; others_stay = entry_stay; back = entry_back }

entry_again : (words : List ℕ) (at : ℕ) → at + 4 ≤ length words → put_entry at (entry_from words at) words ≡ words
entry_again words at fits = simp set-get_or

-- ---- rule, frames and clock

module _ (words : List ℕ) (a b c : ℕ) where
  head_length : length (put_head a b c words) ≡ length words
  head_length = grind (arith, common_steps)

  head_stay : (i : ℕ) → map_place ≤ i → get_or (put_head a b c words) i 0 ≡ get_or words i 0
  head_stay i h = grind (arith, common_steps)

  head_back : map_place ≤ length words → (get_or (put_head a b c words) 0 0 ≡ a) × (get_or (put_head a b c words) 1 0 ≡ b) × (get_or (put_head a b c words) 2 0 ≡ c)
  head_back fits = (grind (arith, common_steps), grind (arith, common_steps), grind (arith, common_steps))

head_again : (words : List ℕ) → put_head (get_or words 0 0) (get_or words 1 0) (get_or words 2 0) words ≡ words
head_again words = simp set-get_or

-- ---- the record in words that are long enough

pub long_into : (c : Cache) (words : List ℕ) → record_length ≤ length words → record_into c words ≡ record_over c words
unfolding record_into
long_into c words fits = rw (le-ltb (length words) record_length fits) refl

pub long_of : (words : List ℕ) → record_length ≤ length words → record_of words ≡ record_in words
unfolding record_of
long_of words fits = rw (le-ltb (length words) record_length fits) refl

module _ (c : Cache) (words : List ℕ) where
  abbrev head : List ℕ
  head = put_head c.rule c.frames c.clock words

  abbrev mapped : List ℕ
  mapped = put_map c.map head

  mapped_length : length mapped ≡ length words
  mapped_length = list_length 2 word_from put_word word_layout c.map head map_place ∙ head_length words c.rule c.frames c.clock

  over_length : length (record_over c words) ≡ length words
  unfolding record_over
  over_length = list_length 4 entry_from put_entry entry_layout c.entries mapped entries_place ∙ mapped_length

  module _ (formed : Formed c) where
    size : length c.entries ≡ frame_limit
    size = formed.all_entries

    four : length c.map ≡ map_words
    four = formed.map_words_lem.four

    -- the entries leave what stands before them, and the map what stands before it
    before_entries : (i : ℕ) → i < entries_place → get_or (record_over c words) i 0 ≡ get_or mapped i 0
    unfolding record_over
    before_entries i h = list_stay 4 entry_from put_entry entry_layout c.entries mapped entries_place i (inl h)

    before_map : (i : ℕ) → i < map_place → get_or (record_over c words) i 0 ≡ get_or head i 0
    before_map i h = before_entries i (omega arith) ∙ list_stay 2 word_from put_word word_layout c.map head map_place i (inl h)

    over_map : record_length ≤ length words → map_from (record_over c words) ≡ c.map
    over_map fits =
        ap (list_from 2 word_from (record_over c words) map_place) (sym four)
        ∙ list_back 2 word_from put_word word_layout c.map head (record_over c words) map_place (omega (arith, four, head_length words c.rule c.frames c.clock)) (λ i h. before_entries i (omega (arith, four)))

    over_entries : record_length ≤ length words → entries_from (record_over c words) ≡ c.entries
    unfolding record_over
    over_entries fits =
        ap (list_from 4 entry_from (record_over c words) entries_place) (sym size)
        ∙ list_back 4 entry_from put_entry entry_layout c.entries mapped (record_over c words) entries_place (omega (arith, size, mapped_length)) (λ i h. refl)

    over_back : record_length ≤ length words → record_in (record_over c words) ≡ c
    unfolding record_in
    over_back fits =
        let put = head_back words c.rule c.frames c.clock (omega arith) in
        rw (before_map 0 (omega arith) ∙ put.0, before_map 1 (omega arith) ∙ put.1, before_map 2 (omega arith) ∙ put.2, over_map fits, over_entries fits) refl

    over_past : (i : ℕ) → record_length ≤ i → get_or (record_over c words) i 0 ≡ get_or words i 0
    unfolding record_over
    over_past i h =
        list_stay 4 entry_from put_entry entry_layout c.entries mapped entries_place i (inr (omega (arith, size)))
        ∙ list_stay 2 word_from put_word word_layout c.map head map_place i (inr (omega (arith, four)))
        ∙ head_stay words c.rule c.frames c.clock i (omega arith)

over_again : (words : List ℕ) → InWords words → record_length ≤ length words → record_over (record_in words) words ≡ words
unfolding record_over record_in
over_again words small fits =
    ap (λ (ws : List ℕ). put_entries (entries_from words) (put_map (map_from words) ws)) (head_again words)
    ∙ ap (put_entries (entries_from words)) (list_again 2 word_from put_word words (word_again words small) map_place map_words (omega arith))
    ∙ list_again 4 entry_from put_entry words (entry_again words) entries_place frame_limit (omega arith)

-- ---- fewer words

module _ (words : List ℕ) (few : length words < record_length) where
  -- hold no sound record
  pub short_unsound : sound (record_of words) ≡ false
  unfolding record_of sound
  short_unsound = rw (lt-ltb (length words) record_length few) refl

  -- and nothing is put into them
  pub short_kept : (c : Cache) → record_into c words ≡ words
  unfolding record_into
  short_kept c = rw (lt-ltb (length words) record_length few) refl

-- ---- the record

module _ (c : Cache) (words : List ℕ) (formed : Formed c) where
  -- a record put into words that have room for it is read back as it was
  pub record_back : record_length ≤ length words → record_of (record_into c words) ≡ c
  record_back fits =
      let there : record_length ≤ length (record_over c words) = omega (arith, over_length c words) in
      ap record_of (long_into c words fits) ∙ long_of (record_over c words) there ∙ over_back c words formed fits

  -- and words past its own stay as they were
  pub record_past : (i : ℕ) → record_length ≤ i → get_or (record_into c words) i 0 ≡ get_or words i 0
  record_past i h =
      elim (dec_lt (length words) record_length) [
        | yes few ↦ ap (λ (xs : List ℕ). get_or xs i 0) (short_kept words few c)
        | no long ↦ ap (λ (xs : List ℕ). get_or xs i 0) (long_into c words (omega arith)) ∙ over_past c words formed i h
      ]

-- words read, and the record put back, are the same words: the layout loses nothing of them
pub words_stay : (words : List ℕ) → InWords words → record_into (record_of words) words ≡ words
words_stay words small =
    elim (dec_lt (length words) record_length) [
      | yes few ↦ short_kept words few (record_of words)
      | no long ↦ (let fits : record_length ≤ length words = omega arith in
          ap (λ (c : Cache). record_into c words) (long_of words fits) ∙ long_into (record_in words) words fits ∙ over_again words small fits)
    ]
