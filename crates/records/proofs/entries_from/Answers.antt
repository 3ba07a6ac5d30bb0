-- `records::entries_from` meets its contract.
-- Assumes nothing.
use Rattle.std.proofs.Common.{rules}
use Rattle.paging.specs.Calls.{frame_limit}
use Rattle.paging.specs.Walk.{zero_entry}
use Rattle.records.specs.Records.{entries_place, entry_from}
use Rattle.records.proofs.Loops.{made_list}
use Rattle.records.proofs.entries_from.Goals as goal

pub returns : goal.returns
returns c =
    made_list _ _ 4 entry_from c.args.words.now entries_place frame_limit zero_entry c.from_fn.result c.from_fn.ensures.items (λ i x q l k. search rules)
