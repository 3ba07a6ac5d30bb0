-- Laws of the service Check: a plan is accepted exactly when the call is in order and every entry keeps the plan rule.
--
-- In order: the tests before the entries; accepted and refused; only the first T words are read; a rule's own plan.
-- Assumes nothing.
use Rattle.std.specs.Prelude.{Ok, Err}
use mathlib.Core.Path.{◌≡◌, refl, sym, ap, ◌∙◌}
use mathlib.Core.Logic.{◌↔◌}
use mathlib.Core.Bool.{false}
use mathlib.Core.List.{List, [], ◌∷◌, ◌++◌}
use Prim.Native.Nat.{ℕ, suc, ◌+◌, ◌≤◌, ◌<◌}
use native.Mathlib.Omega.{arith}
use native.Mathlib.Decide.{dec_le}
use lib.Dec.{ltb}
use lib.ListN.{length, take}
use lib.Seq.{length-take-le, take_all}
use borrow.Author.Tests.{le-ltb}
use Rattle.paging.specs.Plans.{judged, after, absent, through, check_from, check}
use Rattle.paging.specs.Walk.{faults, plan}
use Rattle.paging.specs.Calls.{gate, trace_tests, lent_tests}
use Rattle.paging.specs.declared.Rule.{Rule}
use Rattle.paging.specs.Refusals.{Gate, Answer}
use Rattle.paging.specs.declared.Refusal.{Refusal}
use Rattle.paging.specs.declared.Refusal.TheVariants.{PlanBroken}
use Rattle.paging.proofs.Own.{own_plan_accepted}
use Rattle.paging.proofs.Writing.{plan_length}
use Rattle.paging.specs.Meanings.{InOrder, KeepsAt, absences}
use Rattle.paging.proofs.PlanRule.{accepted_exactly, accepted_count, refused_first}
use Rattle.calls.proofs.Chain.{trace_open, lent_open}
use Rattle.plans.specs.Check.{check_of}

-- ---- the tests before the entries

-- an answer with faults went through an open gate
through_faults : (g : Gate) (answer : Answer) (f : ℕ) → through g answer ≡ Ok f → (g ≡ Ok tt) × (answer ≡ Ok f)
through_faults (Ok tt) answer f e = (refl, e)
through_faults (Err refusal) answer f e = absurd (let k : ◌≡◌ {A = ℕ} 0 1 = cc in omega arith)

module _ (m : ℕ) (trace words : List ℕ) where
  -- refusals 2, 3, 4 and 6 are given exactly when a size or a page is not in order or the words are too few
  pub open_exactly : (gate (trace_tests m trace ++ lent_tests trace words) ≡ Ok tt) ↔ (InOrder m trace × (length trace ≤ length words))
  open_exactly = (
    (λ e. let (o, l) = (lent_open (trace_tests m trace) trace words).0 e in ((trace_open m trace).0 o, l)),
    λ o. (lent_open (trace_tests m trace) trace words).1 ((trace_open m trace).1 o.0, o.1),
  )

  -- where none of them is given, the plan rule decides
  pub check_decides : InOrder m trace → length trace ≤ length words → check_of m trace words ≡ check m trace words
  unfolding check_of
  check_decides o l = rw (open_exactly.1 (o, l))

  pub accepted_open : (f : ℕ) → check_of m trace words ≡ Ok f → InOrder m trace × (length trace ≤ length words) × (check m trace words ≡ Ok f)
  unfolding check_of
  accepted_open f e =
      let (o, a) = through_faults (gate (trace_tests m trace ++ lent_tests trace words)) (check m trace words) f e in
      let (i, l) = open_exactly.0 o in (i, l, a)

  -- ---- ACCEPTED EXACTLY WHEN EVERY ENTRY KEEPS THE PLAN RULE

  pub accepted : ((f : ℕ) × (check_of m trace words ≡ Ok f))
      ↔ (InOrder m trace × (length trace ≤ length words) × ((t : ℕ) → t < length trace → KeepsAt m trace words t))
  accepted = (there, back)
    where
      there : (f : ℕ) × (check_of m trace words ≡ Ok f)
          → InOrder m trace × (length trace ≤ length words) × ((t : ℕ) → t < length trace → KeepsAt m trace words t)
      there (f, e) = let (i, l, a) = accepted_open f e in (i, l, (accepted_exactly m trace words l).0 (f, a))

      back : InOrder m trace × (length trace ≤ length words) × ((t : ℕ) → t < length trace → KeepsAt m trace words t)
          → (f : ℕ) × (check_of m trace words ≡ Ok f)
      back (i, l, keep) = let (f, a) = (accepted_exactly m trace words l).1 keep in (f, check_decides i l ∙ a)

  -- and then the count is the number of requests that found their page absent
  pub accepted_faults : (f : ℕ) → check_of m trace words ≡ Ok f → f ≡ absences m trace words 0 (length trace)
  accepted_faults f e = let (i, l, a) = accepted_open f e in accepted_count m trace words l f a

  -- a call that is in order is refused at the first entry that breaks the rule
  pub refused_where : InOrder m trace → length trace ≤ length words → (r : Refusal) → check_of m trace words ≡ Err r
      → (s : ℕ) × (r ≡ PlanBroken s) × (s < length trace) × (KeepsAt m trace words s → ⊥) × ((t : ℕ) → t < s → KeepsAt m trace words t)
  refused_where o l r e = refused_first m trace words l r (sym (check_decides o l) ∙ e)

-- ---- only the first T words are read

check_front : (m t f : ℕ) (held trace words : List ℕ) → check_from m t f held trace (take (length trace) words) ≡ check_from m t f held trace words
unfolding check_from
check_front m t f held [] words = refl
check_front m t f held (p ∷ ps) [] = refl
check_front m t f held (p ∷ ps) (w ∷ ws) =
    ap (λ (r : Answer). through (judged m t held p w) r) (check_front m (suc t) (f + absent p held) (after m held p w) ps ws)

pub front_decides : (m : ℕ) (trace words : List ℕ) → check_of m trace (take (length trace) words) ≡ check_of m trace words
unfolding check_of check gate lent_tests
front_decides m trace words = elim (dec_le (length trace) (length words)) [
  | yes l ↦
      let a : ltb (length (take (length trace) words)) (length trace) ≡ false =
      rw (length-take-le (length trace) words l) (le-ltb (length trace) (length trace) (omega arith))
      in
      let b : ltb (length words) (length trace) ≡ false = le-ltb _ _ l in
      rw (a, b, check_front m 0 0 [] trace words)
  | no l ↦ rw (take_all (length trace) words (let h : length words ≤ length trace = omega arith in h))
]

-- ---- DEMAND 2, its last sentence, of the service: each rule's own plan is accepted with the rule's count

pub own_plan_passes : (rule : Rule) (n : ℕ) (trace : List ℕ) → InOrder n trace → check_of n trace (plan rule n trace) ≡ Ok (faults rule n trace)
own_plan_passes rule n trace o =
    check_decides n trace (plan rule n trace) o (omega (arith, plan_length rule n trace)) ∙ own_plan_accepted rule n trace o.one_frame
