-- `plans::walked` meets its contract. The loop's invariant: the check of what is left, with the faults and the pages held so far, gives the whole.
-- Assumes nothing.
use Rattle.std.proofs.Common.{rules}
use Rattle.std.specs.Prelude.{Err}
use mathlib.Core.Path.{◌≡◌, refl, sym, ◌∙◌}
use Prim.Native.Nat.{◌<◌, ◌≤◌}
use native.Mathlib.Omega.{arith}
use lib.ListN.{length, length-drop}
use Rattle.paging.specs.Plans.{check}
use Rattle.paging.proofs.Writing.{fault_most}
use Rattle.plans.proofs.Steps.{entry_fits, few_after, check_from_on, check_end, check_on, check_stop}
use Rattle.plans.proofs.walked.Goals as goal

pub loop-t-init : goal.loop-t-init
unfolding check
loop-t-init c = rw c.new-held.ensures (omega arith, omega arith, refl)

pub returns-in_err-frame : goal.returns-in_err-frame
returns-in_err-frame c =
    let h : c.loop-t.t < length c.args.trace.now = omega arith in
    let told : c.from_residual.result ≡ Err c.in_err-frame.field-0.0 = search rules in
    told ∙ sym (check_stop _ _ _ _ _ _ c.judge_entry.ensures c.loop-t.faults _ _ _ c.in_err-frame.was) ∙ sym (check_from_on _ _ _ _ _ _ h c.requires.2) ∙ c.loop-t.invariant.2

pub put-requires : goal.put-requires
put-requires c =
    entry_fits _ _ _ _ _ _ c.judge_entry.ensures _ c.in_ok-frame.was c.requires.0 c.loop-t.invariant.1

pub loop-t-preserved : goal.loop-t-preserved
loop-t-preserved c =
    let h : c.loop-t.t < length c.args.trace.now = omega arith in
    let i = c.loop-t.invariant in (
      omega (arith, i.0, c.fault-faults.ensures, fault_most c.put.result),
      few_after _ _ _ _ _ _ c.judge_entry.ensures _ c.in_ok-frame.was c.requires.0 i.1 _ c.put.ensures.told _ c.put.ensures.pages,
      rw c.fault-faults.ensures
          (sym (check_on _ _ _ _ _ _ c.judge_entry.ensures _ c.in_ok-frame.was c.requires.0 i.1 _ c.put.ensures.told _ c.put.ensures.pages c.loop-t.faults _ _)
          ∙ sym (check_from_on _ _ _ _ _ _ h c.requires.2) ∙ i.2),
    )

pub returns : goal.returns
returns c =
    let h : length c.args.trace.now ≤ c.loop-t.t = omega arith in
    sym (check_end _ _ _ _ _ _ (length-drop c.loop-t.t c.args.trace.now ∙ omega arith)) ∙ c.loop-t.invariant.2
