-- Document 01, "Plans": one word for each request, the page to drop or the mark.
--
-- In order: whether an entry keeps the plan rule; what is held after it; the check of a plan; what is held at a moment.
-- The cache is the list of the held pages in frame order.
-- Assumes nothing.
use Rattle.std.specs.Prelude.{List, [], ◌∷◌, ℕ, zero, suc, ◌+◌, eqb, ltb, length, get_or, Ok, Err}
use Rattle.paging.specs.Lists.{pick}
use Rattle.paging.specs.Held.{found, if_held, held_after}
use Rattle.paging.specs.Rules.{mark}
use Rattle.paging.specs.Refusals.{Gate, Answer}
use Rattle.paging.specs.declared.Refusal.TheVariants.{LentTooShort, PlanBroken}

-- ---- one entry, w, for the request of page p at moment t in m frames

-- If the page is held, the entry must be the mark. If it isn't held and there is room, the entry must be the mark.
-- If it isn't held and the cache is full, the entry must be a page held before this request.
unfoldable pub judged : ℕ → ℕ → List ℕ → ℕ → ℕ → Gate
unfolding found
judged m t held p w =
    if_held (found p held) (λ (f : ℕ). pick (eqb w mark) (Ok tt) (Err (PlanBroken t)))
    (pick (ltb (length held) m) (pick (eqb w mark) (Ok tt) (Err (PlanBroken t)))
    (if_held (found w held) (λ (f : ℕ). Ok tt) (Err (PlanBroken t))))

-- the pages held after the request, in frame order: in a full cache the entry names the page that goes
unfoldable pub after : ℕ → List ℕ → ℕ → ℕ → List ℕ
unfolding found held_after
after m held p w = held_after m p (found w held) held

-- a request whose page isn't held is a fault
abbrev pub absent : ℕ → List ℕ → ℕ
absent p held = if_held (found p held) (λ (f : ℕ). 0) 1

-- ---- the check

-- a refusal stands in the way of the answer
abbrev pub through : Gate → Answer → Answer
through (Ok nothing) answer = answer
through (Err refusal) answer = Err refusal

-- from moment t on, after f faults
unfoldable pub check_from : ℕ → ℕ → ℕ → List ℕ → List ℕ → List ℕ → Answer
unfolding judged after found
check_from m t f held [] words = Ok f
check_from m t f held (p ∷ ps) [] = Err LentTooShort
check_from m t f held (p ∷ ps) (w ∷ ws) =
    let r = check_from m (suc t) (f + absent p held) (after m held p w) ps ws in through (judged m t held p w) r

-- from an empty cache: the faults, or the place of the first entry that breaks the rule. Words past the trace's length are not read
unfoldable pub check : ℕ → List ℕ → List ℕ → Answer
unfolding check_from
check m trace words = check_from m 0 0 [] trace words

-- ---- the pages held just before the request of moment t

unfoldable pub held_at : ℕ → List ℕ → List ℕ → ℕ → List ℕ
unfolding after
held_at m trace words zero = []
held_at m trace words (suc t) = after m (held_at m trace words t) (get_or trace t 0) (get_or words t 0)
