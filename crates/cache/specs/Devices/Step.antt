-- Devices of the request: the record that is written, and what feeding requests comes to.
-- Document 01's words are in Record, Sound and Feed; proofs/Step.antt ties these to them.
-- Assumes nothing.
use Rattle.std.specs.Prelude.{List, [], ℕ, ◌+◌}
use Rattle.paging.specs.Walk.{outcomes}
use Rattle.paging.specs.declared.Outcome.{Outcome}
use Rattle.steps.specs.declared.After.{After}
use Rattle.steps.specs.Devices.Step.{stepped}
use Rattle.cache.specs.declared.Cache.{Cache}
use Rattle.cache.specs.Record.{held_entries, rule_of}

-- the request over the record's parts
abbrev pub step_on : Cache → ℕ → After
step_on c p = stepped c.rule c.frames c.clock p c.map c.entries

-- the record with what came of them
abbrev pub onward : Cache → After → Cache
onward c a = record { rule = c.rule; frames = c.frames; clock = c.clock + 1; map = a.map; entries = a.entries }

-- what feeding requests to a record comes to
abbrev pub outcomes_from : Cache → List ℕ → List Outcome
outcomes_from c ps = outcomes (rule_of c) c.frames c.clock [] ps (held_entries c)
