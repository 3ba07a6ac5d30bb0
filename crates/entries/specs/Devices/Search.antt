-- Devices of the search among entries in use: how many there are, and which has the least key.
-- That the least key is the entry which the rule drops, of entries in order, is proved in crate `cache` (`least_chosen`).
-- Assumes nothing.
use Rattle.std.specs.Prelude.{List, Bool, ℕ, ◌+◌, eqb, ltb, leb}
use Rattle.paging.specs.Lists.{pick, all, index_of}
use Rattle.paging.specs.Rules.{once}
use Rattle.paging.specs.Calls.{frame_limit, request_limit}
use Rattle.paging.specs.declared.Entry.{Entry}

-- how many of the record's entries are in use, for any number held
abbrev pub in_use : ℕ → ℕ
in_use held = pick (ltb frame_limit held) frame_limit held

-- a number by which the entry that the rule drops is the least, for entries in order: moments are below the limit of requests
abbrev pub key_of : ℕ → Entry → ℕ
key_of rule e =
    pick (eqb rule 1) e.last.0
    (pick (eqb rule 2) e.loaded.0
    (pick (once e) e.last.0 (request_limit + e.earlier.0)))

-- no entry has a lesser key than e
unfoldable pub has_least : ℕ → List Entry → Entry → Bool
unfolding all
has_least rule es e = all (λ (d : Entry). leb (key_of rule e) (key_of rule d)) es

-- the first frame whose entry has the least key; 0, if there is none
unfoldable pub least_frame : ℕ → List Entry → ℕ
unfolding has_least index_of
least_frame rule es = index_of (has_least rule es) es
