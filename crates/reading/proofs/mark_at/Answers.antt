-- `reading::mark_at` meets its contract: the search through the requests' numbers finds the first mark.
-- Assumes nothing.
use Rattle.std.proofs.Common.{◌≡◌, refl, arith, rules, tests}
use Rattle.std.specs.List.{position, range_with_len}
use Rattle.std.proofs.lemmas.Iterator.{YieldsList-from_range}
use Rattle.std.proofs.lemmas.Iterator.Search.{position_from_yields_List}
use Rattle.reading.proofs.Marks.{is_mark, mark_told}
use Rattle.reading.proofs.mark_at.Goals as goal

pub returns : goal.returns
returns c =
    let found : c.position.result ≡ position (is_mark c.args.file.now) (range_with_len 0 c.args.requests) =
    position_from_yields_List (is_mark c.args.file.now) _ _ c.position.result c.position.ensures.ran
    (YieldsList-from_range 0 c.args.requests c.args.requests refl (omega arith)) (λ x b q k. search (rules, tests)) in
    rw found (mark_told c.args.file.now c.args.requests)
