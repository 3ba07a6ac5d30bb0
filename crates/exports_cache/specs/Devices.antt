-- What only a private function needs: Feed's reply, and 6 behind it where the words for the next record are too few.
-- Assumes nothing.
use Rattle.std.specs.Prelude.{ℕ, ltb, Ok, Err}
use Rattle.paging.specs.Lists.{pick}
use Rattle.paging.specs.declared.Refusal.TheVariants.{LentTooShort}
use Rattle.cache.specs.Feed.{Reply}
use Rattle.records.specs.Records.{record_length}

abbrev pub unless_refused : Reply → Reply
unless_refused (Ok outcome) = Err LentTooShort
unless_refused (Err refusal) = Err refusal

abbrev pub behind_room : Reply → ℕ → Reply
behind_room reply lent = pick (ltb lent record_length) (unless_refused reply) reply
