-- `records::put_map` meets its contract.
-- Assumes nothing.
use mathlib.Core.Path.{◌∙◌}
use Rattle.std.proofs.Common.{◌<◌, ◌≤◌, length, arith}
use Rattle.records.specs.Records.{map_place, put_word}
use Rattle.records.proofs.Back.{word_layout}
use Rattle.records.proofs.Loops.{put_on, put_all}
use Rattle.records.proofs.put_map.Goals as goal

pub loop-i-preserved : goal.loop-i-preserved
loop-i-preserved c =
    let h : c.loop-i.i < length c.args.map.now = omega arith in (
      rw c.put_word.ensures (word_layout.same_length _ _ c.loop-i.words ∙ c.loop-i.invariant.0),
      rw c.put_word.ensures (put_on 2 put_word c.args.map.now map_place c.loop-i.i c.loop-i.words _ _ h c.loop-i.invariant.1),
    )

pub returns : goal.returns
returns c =
    let h : length c.args.map.now ≤ c.loop-i.i = omega arith in
    put_all 2 put_word c.args.map.now map_place c.loop-i.i c.loop-i.words _ h c.loop-i.invariant.1
