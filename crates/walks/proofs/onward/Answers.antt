-- `walks::onward` meets its contract: the first from where the loop stands is the first from the hand on.
-- Assumes nothing.
use mathlib.Core.Path.{◌≡◌, sym, ◌∙◌}
use Rattle.std.specs.Prelude.{max}
use native.Mathlib.Omega.{arith}
use native.Mathlib.Decide.{dec_lt}
use Rattle.walks.proofs.Hands.{first_stops, first_passes, first_ends}
use Rattle.walks.proofs.onward.Goals as goal

pub returns-then-stops : goal.returns-then-stops
returns-then-stops c = first_stops _ _ _ c.loop-at-test.true (sym c.stops.ensures ∙ c.if-stops.true) ∙ c.loop-at.invariant

pub loop-at-preserved : goal.loop-at-preserved
loop-at-preserved c = first_passes _ _ _ c.loop-at-test.true (sym c.stops.ensures ∙ c.if-stops.false) ∙ c.loop-at.invariant

pub returns : goal.returns
returns c =
    c.max.ensures
    ∙ elim (dec_lt c.args.end c.args.hand) [
      | yes past ↦ (let e : max c.args.hand c.args.end ≡ c.args.hand = omega arith in e) ∙ first_ends _ _ _ (omega arith)
      | no onward ↦
          (let e : max c.args.hand c.args.end ≡ c.loop-at.at = omega (arith, c.loop-at.auto.at-end (omega arith), c.loop-at-test.false) in e)
          ∙ first_ends _ _ _ c.loop-at-test.false
          ∙ c.loop-at.invariant
    ]
