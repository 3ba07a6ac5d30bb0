-- DEMAND 3 over the answers of Count and Check: sharp, and as the owner asked for it.
-- Assumes nothing.
use mathlib.Core.Path.{subst}
use Prim.Native.Nat.{ℕ}
use Rattle.paging.specs.Rules.{rule_numbered, named}
use Rattle.counts.proofs.Services.{count_is}
use Rattle.judge.proofs.Accepted.{accepted_open}
use Rattle.bounds.specs.Bound.{Demanded, Sharp, Bound}
use Rattle.bounds.specs.Answers.{OfAnswers, ForBothNumbers}
use Rattle.bounds.proofs.Bound.{sharply_bounded_by_any_plan, bounded_by_any_plan}

-- what holds of the walks holds of the answers
of_answers : (Claim : ℕ → ℕ → ℕ → ℕ → Type 0) (rule : ℕ) → Bound Claim (named (rule_numbered rule)) → OfAnswers Claim rule
of_answers Claim rule bound n m trace words f g fits counted checked =
    let (o, l, accepted) = accepted_open m trace words g checked in
    subst (λ (k : ℕ). Claim n m k g) (count_is rule n trace f counted) (bound n m trace words g (o.one_frame, fits) accepted)

-- (n - m + 1) times what Count answers is at most n times what Check answers
pub answers_sharply_bounded : ForBothNumbers (OfAnswers Sharp)
answers_sharply_bounded = let (lru, fifo) = sharply_bounded_by_any_plan in (of_answers Sharp 1 lru, of_answers Sharp 2 fifo)

-- THE DEMAND, of the services
pub answers_bounded : ForBothNumbers (OfAnswers Demanded)
answers_bounded = let (lru, fifo) = bounded_by_any_plan in (of_answers Demanded 1 lru, of_answers Demanded 2 fifo)
