-- Document 01, the service Better of two: the verdict, the words that it hands back, and the verdict's numbers.
-- Assumes nothing.
use Rattle.std.specs.Prelude.{List, ℕ, leb, length, take, Result, Ok, Err}
use Rattle.paging.specs.Lists.{pick}
use Rattle.paging.specs.Refusals.{table, Answer}
use Rattle.paging.specs.declared.Refusal.{Refusal}
use Rattle.judge.specs.declared.BetterPlan.{BetterPlan}
use Rattle.judge.specs.declared.BetterPlan.TheVariants.{First, Second}
use Rattle.judge.specs.declared.VerdictNumbers.{VerdictNumbers}
use Rattle.plans.specs.Check.{check_of}

-- what Better of two answers: which plan is better, or a refusal
abbrev pub Verdict : Type 0
Verdict = Result BetterPlan Refusal

-- Which plan has fewer faults. Equal: the first. Only one accepted: that one. Neither: the first plan's refusal.
abbrev pub fewer : Answer → Answer → Verdict
fewer (Ok f) (Ok g) = pick (leb f g) (Ok (First f)) (Ok (Second g))
fewer (Ok f) (Err s) = Ok (First f)
fewer (Err r) (Ok g) = Ok (Second g)
fewer (Err r) (Err s) = Err r

-- each plan by its own check: 2, 3 and 4 are then the same for both, 6 and 7 belong to each plan separately
unfoldable pub better_of : ℕ → List ℕ → List ℕ → List ℕ → Verdict
unfolding check_of
better_of m trace first second = fewer (check_of m trace first) (check_of m trace second)

-- the first T words of the plan that the verdict names; none, where it is a refusal
abbrev pub named_words : Verdict → ℕ → List ℕ → List ℕ → List ℕ
named_words (Ok (First f)) requests first second = take requests first
named_words (Ok (Second g)) requests first second = take requests second
named_words (Err r) requests first second = take 0 first

unfoldable pub better_words : ℕ → List ℕ → List ℕ → List ℕ → List ℕ
unfolding better_of
better_words m trace first second = named_words (better_of m trace first second) (length trace) first second

-- which of the two lent plans they are a part of: the first also where the verdict is a refusal
abbrev pub lender_of : {A : Type 0} → Verdict → A → A → A
lender_of (Ok (First f)) first second = first
lender_of (Ok (Second g)) first second = second
lender_of (Err r) first second = first

-- document 01's numbers of a verdict: which plan and its faults; or a refusal's number and place, and 0 for every other number
abbrev pub verdict_numbers : Verdict → VerdictNumbers
verdict_numbers (Ok (First f)) = record { which = 1; faults = f; number = 0; place = 0 }
verdict_numbers (Ok (Second g)) = record { which = 2; faults = g; number = 0; place = 0 }
verdict_numbers (Err r) = record { which = 0; faults = 0; number = (table r).number; place = (table r).place }
