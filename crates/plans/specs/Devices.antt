-- A device of the code, which only private functions promise: what an entry comes to.
-- Assumes nothing.
use Rattle.std.specs.Prelude.{Result, Ok, Err}
use Rattle.paging.specs.declared.Frame.{Frame}
use Rattle.paging.specs.declared.Refusal.{Refusal}
use Rattle.paging.specs.Refusals.{Gate}

-- what an entry of a plan comes to: it keeps the plan rule, and this is the frame for the requested page, or it is refused
abbrev pub Judged : Type 0
Judged = Result Frame Refusal

-- a refusal stands in the way of the frame
abbrev pub settled : Gate → Frame → Judged
settled (Ok nothing) frame = Ok frame
settled (Err refusal) frame = Err refusal
