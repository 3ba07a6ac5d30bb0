-- The words that Better of two hands back are no more than the longest trace has requests: a plan is accepted only beside a trace that is not too long.
-- Assumes nothing.
use Rattle.std.specs.Prelude.{Ok, Err}
use mathlib.Core.Path.{◌≡◌, refl}
use mathlib.Core.List.{List}
use Prim.Native.Nat.{ℕ, ◌≤◌}
use native.Mathlib.Omega.{arith}
use lib.ListN.{length, length-take}
use Rattle.paging.specs.Calls.{request_limit}
use Rattle.judge.specs.declared.BetterPlan.TheVariants.{First, Second}
use Rattle.judge.specs.Better.{Verdict, named_words, better_of, better_words}
use Rattle.judge.proofs.Accepted.{accepted_open}
use Rattle.judge.proofs.TwoPlans.{first_named, second_named}

pub words_few : (m : ℕ) (trace first second : List ℕ) → length (better_words m trace first second) ≤ request_limit
unfolding better_words
words_few m trace first second = go (better_of m trace first second) refl
  where
    go : (v : Verdict) → better_of m trace first second ≡ v → length (named_words v (length trace) first second) ≤ request_limit
    go (Ok (First f)) e =
        let (o, _, _) = accepted_open m trace first f (first_named m trace first second f e).0 in
        omega (arith, length-take (length trace) first, o.requests)
    go (Ok (Second g)) e =
        let (o, _, _) = accepted_open m trace second g (second_named m trace first second g e).0 in
        omega (arith, length-take (length trace) second, o.requests)
    go (Err r) e = omega arith
