-- `entries::least` meets its contract: the library's search by a key is the one of the definition.
-- Assumes nothing.
use Rattle.std.proofs.Common.{◌≡◌, take, rules, tests}
use Rattle.std.specs.Option.{MatchOption}
use Rattle.std.proofs.lemmas.Iterator.{YieldsList-from_slice}
use Rattle.std.proofs.lemmas.Iterator.Consumers.{YieldsList-at, YieldsList-from_enumerate}
use Rattle.entries.specs.Devices.Search.{least_frame}
use Rattle.entries.proofs.Long.{long}
use Rattle.entries.proofs.Search.{take_in_use, numbered, IsFirstLeast, least_told}
use Rattle.entries.proofs.Chosen.{first_of_least}
use Rattle.entries.proofs.least.Goals as goal
use Rattle.entries.proofs.least.Goals.{After-min_by_key-chosen}

told : (c : After-min_by_key-chosen)
    → MatchOption c.min_by_key-chosen.result (0 ≡ least_frame c.args.rule (take c.args.held c.args.entries))
    (λ y. y.0 ≡ least_frame c.args.rule (take c.args.held c.args.entries))
told c =
    let chosen : IsFirstLeast c.args.rule (take c.in_use.result c.args.entries) c.min_by_key-chosen.result =
    first_of_least _ (λ p. (p.0, p.1.now)) (numbered c.args.rule) _ (λ x k q h. search (rules, tests))
    (YieldsList-from_enumerate (YieldsList-at c.enumerate.ensures.source (YieldsList-from_slice _ c.iter.ensures.rest)) c.enumerate.ensures.count)
    c.min_by_key-chosen.result c.min_by_key-chosen.ensures.ran in
    rw (← take_in_use c.args.held c.args.entries (long c.args.entries _ c.well_formed.0), ← c.in_use.ensures) (least_told c.args.rule (take c.in_use.result c.args.entries) c.min_by_key-chosen.result chosen)

pub returns-in-Some : goal.returns-in-Some
returns-in-Some c = rw c.in-Some.is at (told (goal.at.returns-in-Some c).After-min_by_key-chosen)

pub returns-in-None : goal.returns-in-None
returns-in-None c = rw c.in-None.is at (told (goal.at.returns-in-None c).After-min_by_key-chosen)
