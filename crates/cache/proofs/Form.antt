-- A record has 256 entries and a map of four words of 64 bits: its type says so, and this law hands it over.
-- Assumes nothing.
use mathlib.Core.List.{List}
use mir.Val.{Val}
use denote.Laws.{Is}
use Rattle.occupancy.proofs.Made.{made}
use Rattle.cache.specs.declared.Cache.{Cache}
use Rattle.cache.specs.Record.{Formed}
use Rattle.cache.specs.contracts.Cache as T

pub formed : (d : Cache) (vs : List Val) → Is T.the_row d vs → Formed d
formed d vs p =
    record {
      all_entries = p.1.1.1.1.1.1.0.1.0.1;
      map_words_lem = made d.map _ p.1.1.1.1.1.0;
    }
