-- The numbers of each answer, in the order in which they are laid over the front of lent words.
-- Assumes nothing.
use Rattle.std.specs.Prelude.{List, [], ◌∷◌, ℕ}
use Rattle.paging.specs.Lists.{pick}
use Rattle.paging.specs.Refusals.{gate_numbers, Gate}
use Rattle.cache.specs.declared.Cache.{Cache}
use Rattle.cache.specs.Sound.{sound}
use Rattle.cache.specs.Feed.{Reply, reply_numbers}
use Rattle.cache.specs.Lookup.{Lookup, lookup_numbers}

-- number, place
abbrev pub gate_words : Gate → List ℕ
gate_words g = (gate_numbers g).number ∷ (gate_numbers g).place ∷ []

-- 1 where the record is sound, else 0
abbrev pub sound_words : Cache → List ℕ
sound_words c = pick (sound c) 1 0 ∷ []

-- number, place, held, frame
abbrev pub lookup_words : Lookup → List ℕ
lookup_words l =
    (lookup_numbers l).number ∷ (lookup_numbers l).place ∷ (lookup_numbers l).held ∷ (lookup_numbers l).frame ∷ []

-- number, place, kind, page
abbrev pub reply_words : Reply → List ℕ
reply_words r =
    (reply_numbers r).number ∷ (reply_numbers r).place ∷ (reply_numbers r).kind ∷ (reply_numbers r).page ∷ []
