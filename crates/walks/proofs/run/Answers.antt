-- `walks::run` meets its contract: an open gate gives what the walk asks for.
-- Assumes nothing.
use Rattle.std.specs.Prelude.{Err}
use Rattle.std.proofs.Common.{rules}
use mathlib.Core.Path.{◌≡◌, sym, ◌∙◌}
use Rattle.paging.specs.Meanings.{InOrder}
use Rattle.paging.proofs.Services.{walk_open, walk_no}
use Rattle.calls.proofs.Chain.{trace_open}
use Rattle.walks.proofs.run.Goals as goal

pub walked-requires : goal.walked-requires
walked-requires g c =
    let o : InOrder c.args.n c.args.trace.now = (trace_open _ _).0 (sym c.trace_gate.ensures ∙ c.in_ok-trace_gate.was) in
    (o.one_frame, o.frames, o.requests)

pub returns-in_err-trace_gate : goal.returns-in_err-trace_gate
returns-in_err-trace_gate g c =
    let e : c.from_residual.result ≡ Err c.in_err-trace_gate.field-0.0 = search rules in
    rw e (walk_no _ g.P.Policy.rule _ _ _ (sym c.trace_gate.ensures ∙ c.in_err-trace_gate.was) c.args.words.now)

pub returns : goal.returns
returns g c =
    walk_open _ g.P.Policy.rule _ _ (sym c.trace_gate.ensures ∙ c.in_ok-trace_gate.was) _ c.args.words.now _ c.walked.ensures
