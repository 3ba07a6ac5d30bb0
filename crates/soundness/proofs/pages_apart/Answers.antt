-- `soundness::pages_apart` meets its contract: the pages that are left answer the whole.
-- Assumes nothing.
use mathlib.Core.Path.{sym, ap, ◌∙◌, ◌≡◌}
use lib.ListN.{take}
use Rattle.paging.specs.Lists.{not, both, mem}
use Rattle.soundness.specs.Sound.{pairwise, distinct_pages}
use Rattle.soundness.proofs.Words.{differ, differ_on, differ_end, differ_pages}
use Rattle.soundness.proofs.pages_apart.Goals as goal
use Rattle.soundness.proofs.pages_apart.Goals.{In-Some}

pub loop-p-init : goal.loop-p-init
loop-p-init c = rw c.pages-words.ensures (differ_pages c.args.held c.args.entries.now)

-- one page against those after it, then the rest
turn : (c : In-Some)
    → distinct_pages (take c.args.held c.args.entries.now)
    ≡ both (not (mem c.in-Some.p.now c.in-Some.after.now)) (pairwise differ c.in-Some.after.now)
turn c = sym c.loop-p.invariant ∙ ap (pairwise differ) c.in-Some.ensures.cases.0 ∙ differ_on c.in-Some.p.now c.in-Some.after.now

pub returns-then-among : goal.returns-then-among
returns-then-among c = rw (turn (goal.at.returns-then-among c).In-Some, ← c.among.ensures, c.if-among.true)

pub loop-p-preserved : goal.loop-p-preserved
loop-p-preserved c = rw (turn (goal.at.loop-p-preserved c).In-Some, ← c.among.ensures, c.if-among.false)

pub returns : goal.returns
returns c = sym (differ_end c.loop-p.rest.now c.in_default.ensures.cases) ∙ c.loop-p.invariant
