-- `entries::find` meets its contract: the search of the library is the one of the definition.
-- Assumes nothing.
use Rattle.std.proofs.Common.{◌≡◌, take, sym, ◌∙◌, ap, eqb, rules, tests}
use Rattle.std.specs.List.{position}
use Rattle.std.proofs.lemmas.Iterator.{YieldsList-from_slice}
use Rattle.std.proofs.lemmas.Iterator.Search.{position_from_yields_List}
use Rattle.paging.specs.Held.{found}
use Rattle.paging.specs.Walk.{pages}
use Rattle.paging.specs.declared.Entry.{Entry}
use Rattle.entries.proofs.Long.{long}
use Rattle.entries.proofs.Search.{take_in_use, framed, found_by}
use Rattle.entries.proofs.find.Goals as goal
use Rattle.entries.proofs.find.Goals.{After-position}

told : (c : After-position) → framed c.position.result ≡ found c.args.page.0 (pages (take c.args.held c.args.entries))
told c =
    let ran : c.position.result ≡ position (λ (e : Entry). eqb e.page.0 c.args.page.0) (take c.in_use.result c.args.entries) =
    position_from_yields_List (λ (e : Entry). eqb e.page.0 c.args.page.0) _ _ c.position.result c.position.ensures.ran
    (YieldsList-from_slice _ c.iter.ensures.rest) (λ x b q k. search (rules, tests)) in
    rw ran (rw c.in_use.ensures (rw (take_in_use c.args.held c.args.entries (long c.args.entries _ c.well_formed.0)) (found_by c.args.page.0 (take c.args.held c.args.entries))))

pub returns-in_err-at : goal.returns-in_err-at
returns-in_err-at c = c.from_residual.ensures ∙ sym (ap framed c.in_err-at.was) ∙ told (goal.at.returns-in_err-at c).After-position

pub returns : goal.returns
returns c = sym (ap framed c.in_ok-at.was) ∙ told (goal.at.returns c).After-position
