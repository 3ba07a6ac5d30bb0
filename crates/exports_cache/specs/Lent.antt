-- Fresh and Feed with the record in lent words: the service's refusals, then 6 for words too few for the record that is written.
--
-- In order: the test; Fresh; Feed, its reply and the words for the next record.
-- Assumes nothing.
use Rattle.std.specs.Prelude.{List, [], ◌∷◌, ◌++◌, ℕ, ltb, length}
use Rattle.paging.specs.Lists.{pick}
use Rattle.paging.specs.Calls.{Test, test, gate}
use Rattle.paging.specs.declared.Refusal.TheVariants.{LentTooShort}
use Rattle.cache.specs.Record.{fresh_tests}
use Rattle.cache.specs.Feed.{Reply, feed_tests, fed_by, fed}
use Rattle.records.specs.Records.{record_length, record_of, record_into}

-- 6: so many words are too few for a record
unfoldable pub room_tests : ℕ → List Test
room_tests lent = test (ltb lent record_length) LentTooShort ∷ []

-- ---- Fresh: 1, 2, 6

unfoldable pub fresh_lent : ℕ → ℕ → ℕ → List Test
fresh_lent rule n lent = fresh_tests rule n ++ room_tests lent

-- ---- Feed: 5, 4, 8, 6

-- words too few for a record are read as the blank one, which is not sound
unfoldable pub feed_lent : List ℕ → ℕ → ℕ → List Test
feed_lent words page lent = feed_tests (record_of words) page ++ room_tests lent

unfoldable pub fed_lent : List ℕ → ℕ → ℕ → Reply
fed_lent words page lent = (fed_by (gate (feed_lent words page lent)) (record_of words) page).outcome

-- the words lent for the next record: it, or the record that a refusal hands back; where the record's own words are too few there is none to hand back
unfoldable pub next_left : List ℕ → ℕ → List ℕ → List ℕ
next_left words page next =
    pick (ltb (length words) record_length) next (record_into (fed (record_of words) page).next next)
