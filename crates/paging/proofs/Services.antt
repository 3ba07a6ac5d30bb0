-- Count and Write a plan, where the gate is open and where it is not.
-- Assumes nothing.
use Rattle.std.specs.Prelude.{Ok, Err}
use mathlib.Core.Path.{◌≡◌, sym, ap, ◌∙◌}
use mathlib.Core.List.{List}
use Prim.Native.Nat.{ℕ}
use Rattle.paging.specs.Walk.{faults, plan}
use Rattle.paging.specs.Plans.{through}
use Rattle.paging.specs.Calls.{Test, gate}
use Rattle.paging.specs.Services.{answered, laid, left_by, written}
use Rattle.paging.specs.declared.Rule.{Rule}
use Rattle.paging.specs.Refusals.{Gate}
use Rattle.paging.specs.declared.Refusal.{Refusal}

module _ (tests : List Test) (rule : Rule) (n : ℕ) (trace : List ℕ) where
  -- nothing refused: the rule's faults, and its plan laid over the words
  pub answered_open : gate tests ≡ Ok tt → answered tests rule n trace ≡ Ok (faults rule n trace)
  unfolding answered
  answered_open e = ap (λ (g : Gate). through g (Ok (faults rule n trace))) e

  pub written_open : (words : List ℕ) → gate tests ≡ Ok tt → written tests rule n trace words ≡ laid (plan rule n trace) words
  unfolding written
  written_open words e = ap (λ (g : Gate). left_by g (plan rule n trace) words) e

  -- refused: the refusal, and the words as they were
  pub answered_no : (refusal : Refusal) → gate tests ≡ Err refusal → answered tests rule n trace ≡ Err refusal
  unfolding answered
  answered_no refusal e = ap (λ (g : Gate). through g (Ok (faults rule n trace))) e

  pub written_no : (words : List ℕ) (refusal : Refusal) → gate tests ≡ Err refusal → written tests rule n trace words ≡ words
  unfolding written
  written_no words refusal e = ap (λ (g : Gate). left_by g (plan rule n trace) words) e

  -- the same of a call that asks the chain itself and then walks: what it answers and leaves in the lent words
  pub walk_open : gate tests ≡ Ok tt → (f : ℕ) (words left : List ℕ) → (f ≡ faults rule n trace) × (left ≡ laid (plan rule n trace) words)
      → (Ok f ≡ answered tests rule n trace) × (left ≡ written tests rule n trace words)
  walk_open e f words left (counted, laid-over) = (ap Ok counted ∙ sym (answered_open e), laid-over ∙ sym (written_open words e))

  pub walk_no : (refusal : Refusal) → gate tests ≡ Err refusal → (words : List ℕ)
      → (Err refusal ≡ answered tests rule n trace) × (words ≡ written tests rule n trace words)
  walk_no refusal e words = (sym (answered_no refusal e), sym (written_no words refusal e))

-- chains with the same gate answer the same
module _ (xs ys : List Test) (same : gate xs ≡ gate ys) (rule : Rule) (n : ℕ) (trace : List ℕ) where
  pub answered_same : answered xs rule n trace ≡ answered ys rule n trace
  unfolding answered
  answered_same = ap (λ (g : Gate). through g (Ok (faults rule n trace))) same

  pub written_same : (words : List ℕ) → written xs rule n trace words ≡ written ys rule n trace words
  unfolding written
  written_same words = ap (λ (g : Gate). left_by g (plan rule n trace) words) same
