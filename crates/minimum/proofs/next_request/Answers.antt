-- `minimum::next_request` meets its contract: a page's turn is as far off as its place in the requests to come.
-- Assumes nothing.
use mathlib.Core.Path.{◌≡◌, ap, ◌∙◌}
use Prim.Native.Nat.{ℕ, ◌+◌, ◌-◌, ◌≤◌}
use native.Mathlib.Omega.{arith}
use lib.ListN.{length, get_or, drop, length-drop}
use lib.Seq.{take_all}
use Rattle.paging.specs.Rules.{next_of}
use Rattle.paging.specs.Lists.{place_of}
use Rattle.paging.proofs.Choice.{next_le}
use Rattle.minimum.proofs.Farthest.{place_next}
use Rattle.minimum.proofs.next_request.Goals as goal
use Rattle.minimum.proofs.next_request.Goals.{After-place_of}

-- how far off the page is found
off : (c : After-place_of)
    → (c.place_of.result ≡ next_of (drop (c.args.t + 1) c.args.trace.now) (get_or c.args.trace.now c.args.t 0))
    × (c.args.t + 1 + c.place_of.result ≤ length c.args.trace.now)
off c =
    let trace = c.args.trace.now in
    let p = get_or trace c.args.t 0 in
    let rest = drop (c.args.t + 1) trace in
    let short : length rest ≤ length trace - (c.args.t + 1) = omega (arith, length-drop (c.args.t + 1) trace) in
    let e : c.place_of.result ≡ next_of rest p = c.place_of.ensures ∙ ap (place_of p) (take_all _ rest short) ∙ place_next p rest in
    (e, omega (arith, next_le rest p, length-drop (c.args.t + 1) trace, c.requires.0))

pub overflow_add-result : goal.overflow_add-result
overflow_add-result c = omega (arith, (off (goal.at.overflow_add-result c).After-place_of).1)

pub overflow_cast-result : goal.overflow_cast-result
overflow_cast-result c = omega (arith, (off (goal.at.overflow_cast-result c).After-place_of).1)

pub returns : goal.returns
returns c = ap (λ (k : ℕ). c.args.t + 1 + k) (off (goal.at.returns c).After-place_of).0
