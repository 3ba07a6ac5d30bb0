-- `walks::seat` meets its contract: the page's own frame, the next free one, or that of the page that goes.
-- Assumes nothing.
use mathlib.Core.Path.{sym, ◌∙◌}
use Rattle.walks.proofs.Walking.{seat_own, seat_free, seat_other}
use Rattle.walks.proofs.seat.Goals as goal

pub returns-then-len-n-clause-seat : goal.returns-then-len-n-clause-seat
returns-then-len-n-clause-seat g c =
    c.len-len.ensures.pages
    ∙ seat_free g.P.Policy.rule _ _ _ _ c.requires.held (sym c.find.ensures ∙ c.in-None.is) (rw (← c.len-len.ensures.pages) c.if-len-n.true)

pub returns-in-Some-clause-seat : goal.returns-in-Some-clause-seat
returns-in-Some-clause-seat g c = seat_own g.P.Policy.rule _ _ _ _ c.requires.held _ (sym c.find.ensures ∙ c.in-Some.is)

pub returns-else-len-n-clause-seat : goal.returns-else-len-n-clause-seat
returns-else-len-n-clause-seat g c =
    seat_other g.P.Policy.rule _ _ _ _ c.requires.held (sym c.find.ensures ∙ c.in-None.is) (rw (← c.len-len.ensures.pages) c.if-len-n.false)
    _ c.goes.ensures.goes
