-- `walks::walked` meets its contract. The loop's invariant: the walk so far (`Walk`), and what the policy keeps.
-- Assumes nothing.
use Rattle.walks.proofs.Walking.{Walk}
use Rattle.walks.proofs.walked.Given as goal

abbrev pub invariant-loop-t : goal.invariant-loop-t
invariant-loop-t g l =
    Walk g.P.Policy.rule l.n l.trace l.initial.words l.words l.held l.faults l.t × g.P.Policy.Keeps l.policy l.n l.trace l.t
