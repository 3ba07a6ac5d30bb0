-- `records::put_entries` meets its contract.
-- Assumes nothing.
use mathlib.Core.Path.{◌∙◌}
use Rattle.std.proofs.Common.{◌<◌, ◌≤◌, length, arith}
use Rattle.records.specs.Records.{entries_place, put_entry}
use Rattle.records.proofs.Back.{entry_layout}
use Rattle.records.proofs.Loops.{put_on, put_all}
use Rattle.records.proofs.put_entries.Goals as goal

pub loop-i-preserved : goal.loop-i-preserved
loop-i-preserved c =
    let h : c.loop-i.i < length c.args.entries.now = omega arith in (
      rw c.put_entry.ensures (entry_layout.same_length _ _ c.loop-i.words ∙ c.loop-i.invariant.0),
      rw c.put_entry.ensures (put_on 4 put_entry c.args.entries.now entries_place c.loop-i.i c.loop-i.words _ _ h c.loop-i.invariant.1),
    )

pub returns : goal.returns
returns c =
    let h : length c.args.entries.now ≤ c.loop-i.i = omega arith in
    put_all 4 put_entry c.args.entries.now entries_place c.loop-i.i c.loop-i.words _ h c.loop-i.invariant.1
