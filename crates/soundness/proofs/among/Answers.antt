-- `soundness::among` meets its contract: what was found, or else the rest of the words, answers the whole.
-- Assumes nothing.
use Rattle.std.proofs.Common.{false, ◌∙◌, rules, tests}
use Rattle.std.proofs.lemmas.Iterator.{YieldsList-from_slice}
use Rattle.std.proofs.lemmas.Iterator.Consumers.{fold_from_yields_List}
use Rattle.soundness.proofs.Words.{either, found_among}
use Rattle.soundness.proofs.among.Goals as goal

pub returns : goal.returns
returns c =
    fold_from_yields_List _ (either c.args.p) false c.fold.result c.fold.ensures.ran
    (YieldsList-from_slice _ c.iter.ensures.rest) (λ a x b q k. search (rules, tests))
    ∙ found_among c.args.p false c.args.words.now
