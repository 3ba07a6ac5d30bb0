-- Document 01, "Cache record", with the map of request 11 in place of the number held; and the service Fresh.
--
-- A record is a state of the walk with its list of entries padded to 256 by blank ones, and a map of the frames that these entries occupy.
-- Assumes nothing.
use Rattle.std.specs.Prelude.{List, [], ◌∷◌, ◌++◌, ◌≡◌, ℕ, ◌+◌, ◌-◌, length, take, replicate, Ok, Err}
use Rattle.paging.specs.Lists.{not}
use Rattle.paging.specs.Rules.{rule_numbered, named}
use Rattle.paging.specs.Calls.{frame_limit, Test, test, gate, outside}
use Rattle.paging.specs.declared.Entry.{Entry}
use Rattle.paging.specs.declared.Rule.{Rule}
use Rattle.paging.specs.Refusals.{Gate}
use Rattle.paging.specs.declared.Refusal.TheVariants.{UnknownRule, FramesOutside}
use Rattle.entries.specs.Blank.{blank_entry}
use Rattle.occupancy.specs.Map.{map_words, ones_of, map_of, Words}
use Rattle.soundness.specs.Sound.{feedable}
use Rattle.cache.specs.declared.Cache.{Cache}
use Rattle.cache.specs.declared.Fresh.{Fresh}

-- ---- blank and empty

-- the empty cache of a given rule and size
abbrev pub empty_cache : ℕ → ℕ → Cache
empty_cache rule frames =
    record { rule = rule; frames = frames; clock = 0; map = replicate map_words 0; entries = replicate frame_limit blank_entry }

-- rule, frames, clock and every word of the map zero, and every entry all marks
abbrev pub blank_cache : Cache
blank_cache = empty_cache 0 0

-- ---- what a record holds

-- how many entries are in use, which is the number of ones of the map; every definition that speaks of a record asks it here
abbrev pub held_of : Cache → ℕ
held_of c = ones_of c.map

-- the entries in use, in frame order
abbrev pub held_entries : Cache → List Entry
held_entries c = take (held_of c) c.entries

-- the record's rule; a sound record has one
abbrev pub rule_of : Cache → Rule
rule_of c = named (rule_numbered c.rule)

-- entries in use, with blank ones up to the last frame
abbrev pub padded : List Entry → List Entry
padded es = es ++ replicate (frame_limit - length es) blank_entry

-- the record c with these entries in use, in the lowest frames, one request later
abbrev pub holding : Cache → List Entry → Cache
holding c es =
    record {
      rule = c.rule;
      frames = c.frames;
      clock = c.clock + 1;
      map = map_of (length es);
      entries = padded es;
    }

-- a record as its type has it: 256 entries, and a map of four words of 64 bits
pub record Formed (c : Cache) : Type 0 where
  pub all_entries : length c.entries ≡ frame_limit
  pub map_words_lem : Words c.map

-- ---- Fresh

unfoldable pub fresh_tests : ℕ → ℕ → List Test
fresh_tests rule frames = test (not (feedable rule)) UnknownRule ∷ test (outside frames) (FramesOutside 0) ∷ []

abbrev pub fresh_by : Gate → ℕ → ℕ → Fresh
fresh_by (Ok nothing) rule frames = record { gate = (Ok tt); cache = empty_cache rule frames }
fresh_by (Err refusal) rule frames = record { gate = Err refusal; cache = blank_cache }

unfoldable pub fresh_of : ℕ → ℕ → Fresh
unfolding fresh_tests gate
fresh_of rule frames = fresh_by (gate (fresh_tests rule frames)) rule frames
