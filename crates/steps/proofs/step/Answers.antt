-- `steps::step` meets its contract: the page is found in a frame, or it isn't.
-- Assumes nothing.
use Rattle.std.specs.Prelude.{Some}
use mathlib.Core.Path.{◌≡◌, sym, ap, ◌∙◌}
use Prim.Native.Nat.{ℕ}
use lib.ListN.{take}
use Rattle.paging.specs.Held.{found}
use Rattle.paging.specs.Walk.{pages}
use Rattle.occupancy.specs.Map.{ones_of}
use Rattle.entries.proofs.Long.{long}
use Rattle.steps.specs.Devices.Step.{stepped}
use Rattle.steps.proofs.Inside.{frame_inside}
use Rattle.steps.proofs.step.Goals as goal
use Rattle.steps.proofs.step.Goals.{In-Some}

-- where the page is found, by the number of ones
told : (c : In-Some)
    → found c.args.page.0 (pages (take (ones_of c.args.map) c.args.entries))
    ≡ Some c.in-Some.frame
told c =
    ap (λ (held : ℕ). found c.args.page.0 (pages (take held c.args.entries))) (sym c.held-held.ensures) ∙ sym c.find.ensures ∙ c.in-Some.is

pub hit-requires : goal.hit-requires
hit-requires c =
    let a = c.args in
    frame_inside (ones_of a.map) a.entries (long a.entries _ c.well_formed.1.1.1.1.0) a.page.0 _ (told (goal.at.hit-requires c).In-Some)

pub returns-in-Some : goal.returns-in-Some
unfolding stepped
returns-in-Some c = rw (c.hit.ensures, told (goal.at.returns-in-Some c).In-Some)

pub returns-in-None : goal.returns-in-None
unfolding stepped
returns-in-None c =
    let none = ap (λ (held : ℕ). found c.args.page.0 (pages (take held c.args.entries))) (sym c.held-held.ensures) ∙ sym c.find.ensures ∙ c.in-None.is in
    rw (c.load.ensures, c.loaded_at.ensures, c.held-held.ensures, none)
