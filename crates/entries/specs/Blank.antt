-- Document 01, "Cache record": an entry that is all marks.
-- Assumes nothing.
use Rattle.paging.specs.Rules.{mark}
use Rattle.paging.specs.declared.Entry.{Entry}

abbrev pub blank_entry : Entry
blank_entry =
    record { page = record { 0 = mark }; loaded = record { 0 = mark }; last = record { 0 = mark }; earlier = record { 0 = mark } }
