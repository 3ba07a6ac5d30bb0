-- Document 01, "Trials on both sides": the cases marked P, in its order, as one theorem over one list.
-- Beside them: a case for each clause, by itself; FIFO can fault more with more frames; and the order of refusals, on calls with several causes.
-- Assumes nothing.
use Rattle.std.specs.Prelude.{◌≡◌, refl, List, [], ◌∷◌, ◌++◌, Bool, true, false, ℕ, ◌<◌, eqb, replicate, Some, None, Ok, Err}
use Rattle.std.proofs.Common.{arith}
use Rattle.paging.specs.Lists.{both, all}
use Rattle.paging.specs.Refusals.{table, Gate, Answer}
use Rattle.paging.specs.Held.{found, held_after, frame_after}
use Rattle.paging.specs.Rules.{mark}
use Rattle.paging.specs.Walk.{faults, plan}
use Rattle.paging.specs.Plans.{check}
use Rattle.paging.specs.Calls.{gate, rule_tests, lent_tests}
use Rattle.paging.specs.Services.{laid}
use Rattle.paging.specs.declared.Rule.{Rule}
use Rattle.paging.specs.declared.Rule.TheVariants.{Lru, Fifo, Min, Lru2}
use Rattle.paging.specs.declared.Refusal.{Refusal}
use Rattle.paging.specs.declared.Refusal.TheVariants.{UnknownRule, FramesOutside, TraceTooLong, MarkRequested, LentTooShort, PlanBroken}

-- ---- the cases

pub data Case : Type 0 where
  -- the rule with so many frames makes this plan of the trace, with so many faults
  plans : Rule → ℕ → List ℕ → List ℕ → ℕ → Case
  -- the rule with so many frames has so many faults
  counts : Rule → ℕ → List ℕ → ℕ → Case
  -- with so many frames the trace's plan is answered so
  checks : ℕ → List ℕ → List ℕ → Answer → Case

-- "any rule": a case for each of the four
any_rule : (Rule → Case) → List Case
any_rule f = f Lru ∷ f Fifo ∷ f Min ∷ f Lru2 ∷ []

A : List ℕ
A = 5 ∷ 6 ∷ 7 ∷ 5 ∷ 8 ∷ 6 ∷ 5 ∷ 7 ∷ []

-- no page
o : ℕ
o = mark

pub cases : List Case
unfolding A any_rule o
cases =
    plans Min 3 A (o ∷ o ∷ o ∷ o ∷ 7 ∷ o ∷ o ∷ 5 ∷ []) 5
    ∷ plans Lru 3 A (o ∷ o ∷ o ∷ o ∷ 6 ∷ 7 ∷ o ∷ 8 ∷ []) 6
    ∷ plans Fifo 3 A (o ∷ o ∷ o ∷ o ∷ 5 ∷ o ∷ 6 ∷ o ∷ []) 5
    ∷ plans Min 2 A (o ∷ o ∷ 6 ∷ o ∷ 7 ∷ 8 ∷ o ∷ 5 ∷ []) 6
    ∷ checks 2 A (o ∷ o ∷ 5 ∷ 6 ∷ 7 ∷ 5 ∷ 8 ∷ 6 ∷ []) (Ok 8)
    ∷ checks 2 A (o ∷ o ∷ 9 ∷ 6 ∷ 7 ∷ 5 ∷ 8 ∷ 6 ∷ []) (Err (PlanBroken 2))
    ∷ checks 2 A (o ∷ o ∷ o ∷ 6 ∷ 7 ∷ 5 ∷ 8 ∷ 6 ∷ []) (Err (PlanBroken 2))
    ∷ checks 2 A (o ∷ o ∷ 7 ∷ 6 ∷ 7 ∷ 5 ∷ 8 ∷ 6 ∷ []) (Err (PlanBroken 2))
    ∷ checks 3 A (o ∷ o ∷ o ∷ 5 ∷ o ∷ o ∷ o ∷ o ∷ []) (Err (PlanBroken 3))
    ∷ []
    ++ any_rule (λ (rule : Rule). plans rule 3 (5 ∷ 6 ∷ 7 ∷ []) (o ∷ o ∷ o ∷ []) 3)
    ++ any_rule (λ (rule : Rule). counts rule 1 (4 ∷ 4 ∷ 4 ∷ []) 1)
    ++ (checks 1 [] [] (Ok 0) ∷ counts Lru2 2 (1 ∷ 2 ∷ 3 ∷ 1 ∷ 4 ∷ 5 ∷ 1 ∷ []) 7 ∷ [])

-- ---- the test of a case

same_words : List ℕ → List ℕ → Bool
same_words [] [] = true
same_words [] (y ∷ ys) = false
same_words (x ∷ xs) [] = false
same_words (x ∷ xs) (y ∷ ys) = both (eqb x y) (same_words xs ys)

same_refusal : Refusal → Refusal → Bool
same_refusal r s = both (eqb (table r).number (table s).number) (eqb (table r).place (table s).place)

same_answer : Answer → Answer → Bool
unfolding same_refusal
same_answer (Ok f) (Ok g) = eqb f g
same_answer (Ok f) (Err s) = false
same_answer (Err r) (Ok g) = false
same_answer (Err r) (Err s) = same_refusal r s

pub comes_out : Case → Bool
unfolding same_words same_answer faults plan check
comes_out (plans rule n trace words f) = both (same_words (plan rule n trace) words) (eqb (faults rule n trace) f)
comes_out (counts rule n trace f) = eqb (faults rule n trace) f
comes_out (checks m trace words answer) = same_answer (check m trace words) answer

-- THE P CASES: each comes out as document 01 says
pub cases_hold : all comes_out cases ≡ true
unfolding all comes_out cases
cases_hold = refl

-- ---- a case for each clause of the rules and of plans, each by itself

-- 1: a hit renews the page's last request
pub lru_clause : comes_out (plans Lru 2 (1 ∷ 2 ∷ 1 ∷ 3 ∷ []) (mark ∷ mark ∷ mark ∷ 2 ∷ []) 3) ≡ true
unfolding comes_out
lru_clause = refl

-- 2: a hit doesn't renew the page
pub fifo_clause : comes_out (plans Fifo 2 (1 ∷ 2 ∷ 1 ∷ 3 ∷ []) (mark ∷ mark ∷ mark ∷ 1 ∷ []) 3) ≡ true
unfolding comes_out
fifo_clause = refl

-- 3: the next request that is latest; "never again" is later than every moment
pub min_clause : comes_out (plans Min 2 (1 ∷ 2 ∷ 3 ∷ 1 ∷ 2 ∷ 1 ∷ []) (mark ∷ mark ∷ 2 ∷ mark ∷ 3 ∷ mark ∷ []) 4) ≡ true
unfolding comes_out
min_clause = refl

-- 3: among several never requested again, the lowest page number
pub tie_clause : comes_out (plans Min 2 (9 ∷ 8 ∷ 7 ∷ []) (mark ∷ mark ∷ 8 ∷ []) 3) ≡ true
unfolding comes_out
tie_clause = refl

-- 4: of those requested only once since they were loaded, the one whose last request is earliest
pub once_clause : comes_out (plans Lru2 3 (1 ∷ 1 ∷ 2 ∷ 3 ∷ 4 ∷ []) (mark ∷ mark ∷ mark ∷ mark ∷ 2 ∷ []) 4) ≡ true
unfolding comes_out
once_clause = refl

-- 4: otherwise the one whose second to last request is earliest
pub second_clause : comes_out (plans Lru2 2 (1 ∷ 2 ∷ 2 ∷ 1 ∷ 3 ∷ []) (mark ∷ mark ∷ mark ∷ mark ∷ 1 ∷ []) 3) ≡ true
unfolding comes_out
second_clause = refl

-- first loads are faults
pub load_clause : comes_out (counts Lru 2 (5 ∷ 6 ∷ []) 2) ≡ true
unfolding comes_out
load_clause = refl

-- a plan drops nothing while there is room
pub room_clause : comes_out (checks 3 (5 ∷ 6 ∷ []) (mark ∷ 5 ∷ []) (Err (PlanBroken 1))) ≡ true
unfolding comes_out
room_clause = refl

-- the page being requested isn't held yet
pub requested_clause : comes_out (checks 1 (5 ∷ 6 ∷ []) (mark ∷ 6 ∷ []) (Err (PlanBroken 1))) ≡ true
unfolding comes_out
requested_clause = refl

-- of several entries that break the rule the first is told
pub first_clause : comes_out (checks 1 (5 ∷ 6 ∷ 7 ∷ []) (5 ∷ 9 ∷ 9 ∷ []) (Err (PlanBroken 0))) ≡ true
unfolding comes_out
first_clause = refl

-- words past the trace aren't read
pub past_clause : comes_out (checks 1 (5 ∷ 6 ∷ []) (mark ∷ 5 ∷ 9 ∷ []) (Ok 2)) ≡ true
unfolding comes_out
past_clause = refl

-- a list is laid over the front of lent words: all of it, or as much as there is room for, and the words past it as they were
pub laid_clause : (laid (1 ∷ 2 ∷ []) (7 ∷ 8 ∷ 9 ∷ []) ≡ 1 ∷ 2 ∷ 9 ∷ []) × (laid (1 ∷ 2 ∷ []) (7 ∷ []) ≡ 1 ∷ [])
laid_clause = (refl, refl)

-- which frame holds a page: the first in which it stands; absent, if it stands in none
pub found_clause : (found 6 (5 ∷ 6 ∷ 7 ∷ []) ≡ Some (record { 0 = 1 })) × (found 5 (5 ∷ 6 ∷ 5 ∷ []) ≡ Some (record { 0 = 0 })) × (found 8 (5 ∷ 6 ∷ 7 ∷ []) ≡ None)
unfolding found
found_clause = (refl, refl, refl)

-- the pages held after a request: on a hit, with room, and in a full cache
pub held_after_clause :
    (held_after 2 5 None (5 ∷ 6 ∷ []) ≡ 5 ∷ 6 ∷ [])
    × (held_after 3 7 None (5 ∷ 6 ∷ []) ≡ 5 ∷ 6 ∷ 7 ∷ [])
    × (held_after 2 7 (Some (record { 0 = 0 })) (5 ∷ 6 ∷ []) ≡ 7 ∷ 6 ∷ [])
unfolding held_after
held_after_clause = (refl, refl, refl)

-- and the frame of its page then
pub frame_after_clause :
    (frame_after 2 6 None (5 ∷ 6 ∷ []) ≡ 1) × (frame_after 3 7 None (5 ∷ 6 ∷ []) ≡ 2) × (frame_after 2 7 (Some (record { 0 = 0 })) (5 ∷ 6 ∷ []) ≡ 0)
unfolding frame_after
frame_after_clause = (refl, refl, refl)

-- ---- FIFO can fault more with more frames

pub classic : List ℕ
classic = 1 ∷ 2 ∷ 3 ∷ 4 ∷ 1 ∷ 2 ∷ 5 ∷ 1 ∷ 2 ∷ 3 ∷ 4 ∷ 5 ∷ []

pub fifo_can_fault_more_with_more_frames : faults Fifo 3 classic < faults Fifo 4 classic
unfolding faults classic
fifo_can_fault_more_with_more_frames = omega arith

-- ---- the order of refusals: of several causes the earlier decides

-- a call of a rule on a trace with lent words, and what it is answered
pub record Call : Type 0 where
  pub rule : ℕ
  pub frames : ℕ
  pub trace : List ℕ
  pub words : List ℕ
  pub says : Gate

abbrev call : ℕ → ℕ → List ℕ → List ℕ → Gate → Call
call rule frames trace words says = record { rule = rule; frames = frames; trace = trace; words = words; says = says }

same_gate : Gate → Gate → Bool
unfolding same_refusal
same_gate (Ok a) (Ok b) = true
same_gate (Ok a) (Err s) = false
same_gate (Err r) (Ok b) = false
same_gate (Err r) (Err s) = same_refusal r s

pub calls : List Call
unfolding A o
calls =
    call 5 0 (replicate 8001 o) [] (Err UnknownRule)
    ∷ call 0 257 A A (Err UnknownRule)
    ∷ call 2 257 (replicate 8000 o) [] (Err (FramesOutside 0))
    ∷ call 4 1 (5 ∷ 6 ∷ o ∷ o ∷ []) [] (Err (MarkRequested 2))
    ∷ call 1 256 A (o ∷ []) (Err LentTooShort)
    ∷ call 1 256 A A (Ok tt)
    ∷ call 4 1 (replicate 8000 4294967294) (replicate 8001 o) (Ok tt)
    ∷ []

pub call_comes_out : Call → Bool
unfolding same_gate gate rule_tests lent_tests
call_comes_out c = same_gate (gate (rule_tests c.rule c.frames c.trace ++ lent_tests c.trace c.words)) c.says

pub calls_hold : all call_comes_out calls ≡ true
unfolding all call_comes_out calls
calls_hold = refl

-- 2 before 3
pub order_clause : call_comes_out (call 1 0 (replicate 8001 mark) [] (Err (FramesOutside 0))) ≡ true
unfolding call_comes_out
order_clause = refl

-- 8,001 requests are too many
pub limit_clause : call_comes_out (call 3 256 (replicate 8001 mark) [] (Err TraceTooLong)) ≡ true
unfolding call_comes_out
limit_clause = refl
