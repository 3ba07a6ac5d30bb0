-- `walks::walked` meets its contract. The loop's invariant: the walk so far (`Walk`), and what the policy keeps.
-- Assumes nothing.
use Rattle.walks.specs.Tied.{Within}
use Rattle.walks.proofs.Walking.{walk_starts, walk_fits, walk_told, walk_steps, walk_ends}
use Rattle.walks.proofs.walked.Goals as goal
use Rattle.walks.proofs.walked.Goals.{In-loop-t}

within : (g : _) (c : In-loop-t g) → Within c.args.n c.args.trace.now c.loop-t.t
within g c = record { some = c.requires.0; frames = c.requires.1; requests = c.requires.2; inside = c.loop-t-test.true }

pub loop-t-init : goal.loop-t-init
loop-t-init g c =
    (rw c.new-held.ensures (walk_starts g.P.Policy.rule c.args.n c.args.trace.now c.args.words.now), c.start-policy.ensures _ _ c.requires.0)

pub put-outcome-requires : goal.put-outcome-requires
put-outcome-requires g c =
    walk_fits _ _ _ _ _ _ _ _ c.loop-t.invariant.0 (within g (goal.at.put-outcome-requires g c).In-loop-t) _ c.seat-frame.ensures.seat

pub served-requires-clause-told : goal.served-requires-clause-told
served-requires-clause-told g c =
    walk_told _ _ _ _ _ _ _ _ c.loop-t.invariant.0 c.requires.0 c.loop-t-test.true _ c.seat-frame.ensures.seat
    _ c.put-outcome.ensures.told

pub loop-t-preserved : goal.loop-t-preserved
loop-t-preserved g c = (
  walk_steps _ _ _ _ _ _ _ _ c.loop-t.invariant.0 c.requires.0 c.loop-t-test.true _ c.seat-frame.ensures.seat
      _ c.put-outcome.ensures.told _ c.put-outcome.ensures.pages _ c.told-faults.ensures.1 _ c.told-faults.ensures.0,
  c.served.ensures,
)

pub returns : goal.returns
returns g c = walk_ends _ _ _ _ _ _ _ _ c.loop-t.invariant.0 c.loop-t-test.false
