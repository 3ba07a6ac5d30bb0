-- `reporting::text_of` meets its contract.
-- Assumes nothing.
use Rattle.std.specs.Prelude.{Ok}
use mathlib.Core.Path.{◌≡◌, refl, sym, ap₂, subst, ◌∙◌}
use mathlib.Core.List.{List}
use Prim.Native.Nat.{ℕ, ◌≤◌}
use lib.ListN.{length, take, replicate}
use lib.Seq.{length-take-le}
use Rattle.paging.specs.Calls.{request_limit}
use Rattle.reading.specs.Reading.{read_of}
use Rattle.reporting.specs.Report.{lines_of}
use Rattle.text.proofs.Putting.{wrote_same}
use Rattle.reporting.proofs.Reading.{text_refused, both_fit, text_lines}
use Rattle.reporting.proofs.text_of.Goals as goal
use Rattle.reporting.proofs.text_of.Goals.{In-Ok}

-- the words lent for the requests, and for the plan
abbrev zeros : List ℕ
zeros = replicate request_limit 0

read_is : (c : In-Ok) → read_of c.args.file.now request_limit request_limit ≡ Ok c.in-Ok.sizes
read_is c = sym c.read.ensures.0 ∙ c.in-Ok.is

requests-fit : (c : In-Ok) → c.in-Ok.sizes.requests ≤ length c.read.new.requests
requests-fit c =
    subst (λ (ws : List ℕ). c.in-Ok.sizes.requests ≤ length ws) (sym c.read.ensures.1) (both_fit _ _ (read_is c) zeros zeros refl refl).0

plan_fits_lem : (c : In-Ok) → c.in-Ok.sizes.planned ≤ length c.read.new.plan
plan_fits_lem c =
    subst (λ (ws : List ℕ). c.in-Ok.sizes.planned ≤ length ws) (sym c.read.ensures.2) (both_fit _ _ (read_is c) zeros zeros refl refl).1

pub slice_bounds-requests-end : goal.slice_bounds-requests-end
slice_bounds-requests-end c = requests-fit (goal.at.slice_bounds-requests-end c).In-Ok

pub slice_bounds-lines-end : goal.slice_bounds-lines-end
slice_bounds-lines-end c = sym (length-take-le _ _ (requests-fit (goal.at.slice_bounds-lines-end c).In-Ok))

pub slice_bounds-plan-end : goal.slice_bounds-plan-end
slice_bounds-plan-end c = plan_fits_lem (goal.at.slice_bounds-plan-end c).In-Ok

pub slice_bounds-lines-end-in-Ok : goal.slice_bounds-lines-end-in-Ok
slice_bounds-lines-end-in-Ok c = sym (length-take-le _ _ (plan_fits_lem (goal.at.slice_bounds-lines-end-in-Ok c).In-Ok))

pub returns-in-Err : goal.returns-in-Err
returns-in-Err c =
    wrote_same (text_refused c.args.file.now _ (sym c.read.ensures.0 ∙ c.in-Err.is)) c.refused_line.ensures

pub returns-in-Ok : goal.returns-in-Ok
returns-in-Ok c =
    let sizes = c.in-Ok.sizes in
    wrote_same
    (ap₂ (λ (ws ps : List ℕ). lines_of sizes (take sizes.requests ws) (take sizes.planned ps)) c.read.ensures.1 c.read.ensures.2
    ∙ text_lines c.args.file.now sizes (read_is (goal.at.returns-in-Ok c).In-Ok) zeros zeros refl refl)
    c.lines.ensures
