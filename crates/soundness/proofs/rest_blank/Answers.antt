-- `soundness::rest_blank` meets its contract: the library's `all` is the one of the definition.
-- Assumes nothing.
use Rattle.std.proofs.Common.{◌∙◌, rules, tests}
use Rattle.std.proofs.lemmas.Iterator.{YieldsList-from_slice}
use Rattle.std.proofs.lemmas.Iterator.Search.{all_from_yields_List}
use Rattle.soundness.specs.Sound.{all_marks, blank_from}
use Rattle.soundness.proofs.All.{list_all_is}
use Rattle.soundness.proofs.rest_blank.Goals as goal

pub returns : goal.returns
unfolding blank_from
returns c =
    all_from_yields_List all_marks _ _ c.all.result c.all.ensures.ran
    (YieldsList-from_slice _ c.iter.ensures.rest) (λ x b q k. search (rules, tests))
    ∙ list_all_is all_marks c.args.rest.now
