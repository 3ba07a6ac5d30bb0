-- How a cache record stands in words of 32 bits: rule, frames and clock, then the words of its map, each as two, low half first, then page, loaded, last and earlier of each of its entries.
--
-- In order: places; from words; to words.
-- Assumes nothing.
use Rattle.std.specs.Prelude.{List, [], ◌∷◌, ℕ, suc, zero, ◌+◌, ◌*◌, ◌/◌, ◌%◌, ltb, length, get_or, set}
use Rattle.paging.specs.Lists.{pick}
use Rattle.paging.specs.Calls.{frame_limit}
use Rattle.paging.specs.declared.Entry.{Entry}
use Rattle.occupancy.specs.Map.{map_words}
use Rattle.cache.specs.declared.Cache.{Cache}
use Rattle.cache.specs.Record.{blank_cache}

-- ---- places

-- where the map begins, and where the entries
abbrev pub map_place : ℕ
map_place = 3

abbrev pub entries_place : ℕ
entries_place = map_place + 2 * map_words

-- how many words a record takes: 1,035
abbrev pub record_length : ℕ
record_length = entries_place + 4 * frame_limit

-- 2 to the 32: every word is below it, and so is each half of a word of the map
abbrev pub word_limit : ℕ
word_limit = 4294967296

-- ---- from words

-- so many things of so many words each, from one place on
unfoldable pub list_from : {A : Type 0} → ℕ → (List ℕ → ℕ → A) → List ℕ → ℕ → ℕ → List A
list_from size from words at zero = []
list_from size from words at (suc count) = from words at ∷ list_from size from words (at + size) count

-- a word of the map, low half first
abbrev pub word_from : List ℕ → ℕ → ℕ
word_from words at = get_or words at 0 + word_limit * get_or words (at + 1) 0

abbrev pub map_from : List ℕ → List ℕ
map_from words = list_from 2 word_from words map_place map_words

abbrev pub entry_from : List ℕ → ℕ → Entry
entry_from words at =
    record {
      page = record { 0 = get_or words at 0 };
      loaded = record { 0 = get_or words (at + 1) 0 };
      last = record { 0 = get_or words (at + 2) 0 };
      earlier = record { 0 = get_or words (at + 3) 0 };
    }

abbrev pub entries_from : List ℕ → List Entry
entries_from words = list_from 4 entry_from words entries_place frame_limit

-- words that are long enough
unfoldable pub record_in : List ℕ → Cache
record_in words =
    record {
      rule = get_or words 0 0;
      frames = get_or words 1 0;
      clock = get_or words 2 0;
      map = map_from words;
      entries = entries_from words;
    }

-- fewer words hold no record: the blank one, which is not sound
unfoldable pub record_of : List ℕ → Cache
record_of words = pick (ltb (length words) record_length) blank_cache (record_in words)

-- ---- to words

-- things of so many words each, one after the other, from one place on
unfoldable pub put_list : {A : Type 0} → ℕ → (ℕ → A → List ℕ → List ℕ) → ℕ → List A → List ℕ → List ℕ
put_list size put at [] words = words
put_list size put at (x ∷ xs) words = put_list size put (at + size) xs (put at x words)

-- rule, frames and clock
abbrev pub put_head : ℕ → ℕ → ℕ → List ℕ → List ℕ
put_head rule frames clock words = set (set (set words 0 rule) 1 frames) 2 clock

-- a word of the map, low half first
abbrev pub put_word : ℕ → ℕ → List ℕ → List ℕ
put_word at word words = set (set words at (word % word_limit)) (at + 1) (word / word_limit)

abbrev pub put_map : List ℕ → List ℕ → List ℕ
put_map map words = put_list 2 put_word map_place map words

abbrev pub put_entry : ℕ → Entry → List ℕ → List ℕ
put_entry at e words =
    set (set (set (set words at e.page.0) (at + 1) e.loaded.0) (at + 2) e.last.0) (at + 3) e.earlier.0

abbrev pub put_entries : List Entry → List ℕ → List ℕ
put_entries es words = put_list 4 put_entry entries_place es words

-- over the front of words that are long enough
unfoldable pub record_over : Cache → List ℕ → List ℕ
record_over c words = put_entries c.entries (put_map c.map (put_head c.rule c.frames c.clock words))

-- fewer words stay as they were
unfoldable pub record_into : Cache → List ℕ → List ℕ
record_into c words = pick (ltb (length words) record_length) words (record_over c words)
