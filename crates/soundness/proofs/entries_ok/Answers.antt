-- `soundness::entries_ok` meets its contract: the entries from here on, with the moments seen so far, answer the whole.
-- Assumes nothing.
use mathlib.Core.Path.{sym, ◌∙◌, ◌≡◌}
use Prim.Native.Nat.{◌+◌}
use native.Mathlib.Omega.{arith}
use lib.ListN.{drop}
use Rattle.paging.specs.Calls.{request_limit}
use Rattle.paging.specs.Lists.{both}
use Rattle.paging.specs.Walk.{entry_at}
use Rattle.soundness.specs.Devices.Scan.{entry_ok, Below, unseen, noted}
use Rattle.soundness.specs.Sound.{met, entry_conditions}
use Rattle.soundness.proofs.Seen.{scan, scan_on, scan_end, scan_entries, fits_below}
use Rattle.soundness.proofs.entries_ok.Goals as goal
use Rattle.soundness.proofs.entries_ok.Goals.{Else-not-entry_ok, In-loop-e, then-not-entry_ok-via-then-not-entry_ok, then-not-entry_ok-via-else-not-entry_ok+then-not-unseen}

pub loop-e-init : goal.loop-e-init
loop-e-init c = scan_entries c.args.clock c.args.in_use.now c.requires

-- one entry, then the rest
turn : (c : In-loop-e)
    → met (entry_conditions c.args.clock c.args.in_use.now)
    ≡ both (entry_ok c.args.clock (entry_at c.args.in_use.now c.loop-e.e-index))
    (both (unseen c.loop-e.seen (entry_at c.args.in_use.now c.loop-e.e-index))
    (scan c.args.clock
    (noted c.loop-e.seen (entry_at c.args.in_use.now c.loop-e.e-index))
    (drop (c.loop-e.e-index + 1) c.args.in_use.now)))
turn c = sym c.loop-e.invariant ∙ scan_on c.args.clock c.loop-e.seen c.args.in_use.now c.loop-e.e-index (omega arith)

-- past the first test the moments are below the limit of requests
below : (c : Else-not-entry_ok)
    → Below request_limit (entry_at c.args.in_use.now c.loop-e.e-index)
below c =
    fits_below _ _ _ c.requires (sym c.entry_ok.ensures ∙ c.if-not-entry_ok.false)

pub returns-then-not-entry_ok : goal.returns-then-not-entry_ok
returns-then-not-entry_ok c =
    elim c.then-not-entry_ok.branch [
      | then-not-entry_ok-via-then-not-entry_ok w ↦ rw (turn (goal.at.returns-then-not-entry_ok c).In-loop-e, ← c.entry_ok.ensures, w.if-not-entry_ok.true)
      | then-not-entry_ok-via-else-not-entry_ok+then-not-unseen w ↦ rw (turn (goal.at.returns-then-not-entry_ok c).In-loop-e, ← c.entry_ok.ensures, w.if-not-entry_ok.false, ← w.unseen.ensures, w.if-not-unseen.true)
    ]

pub loop-e-preserved : goal.loop-e-preserved
loop-e-preserved c =
    rw (c.note.ensures, turn (goal.at.loop-e-preserved c).In-loop-e, ← c.entry_ok.ensures, c.if-not-entry_ok.false, ← c.unseen.ensures, c.if-not-unseen.false)

pub returns : goal.returns
returns c = sym (scan_end c.args.clock c.loop-e.seen c.args.in_use.now c.loop-e.e-index (omega arith)) ∙ c.loop-e.invariant
