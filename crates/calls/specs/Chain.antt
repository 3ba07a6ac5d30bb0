-- Document 01, the order of refusals in a call: how a service puts refusal 6 behind the refusals before it.
-- Assumes nothing.
use Rattle.std.specs.Prelude.{ℕ, ltb, Ok, Err}
use Rattle.paging.specs.Lists.{pick}
use Rattle.paging.specs.Refusals.{Gate}
use Rattle.paging.specs.declared.Refusal.TheVariants.{LentTooShort}

-- a gate, then another: the refusal of the first decides
abbrev pub and_then : Gate → Gate → Gate
and_then (Ok nothing) next = next
and_then (Err refusal) next = Err refusal

-- 6: lent words fewer than the requests
abbrev pub lent_gate : Gate → ℕ → ℕ → Gate
lent_gate before requests lent = and_then before (pick (ltb lent requests) (Err LentTooShort) (Ok tt))
