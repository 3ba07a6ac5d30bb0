-- `reporting::report` meets its contract.
-- Assumes nothing.
use borrow.Author.Rules.{rules}
use Rattle.text.proofs.Putting.{wrote_whole}
use Rattle.reporting.proofs.report.Goals as goal

pub returns : goal.returns
returns c =
    let whole = wrote_whole c.new-out.ensures.place c.new-out.ensures.room c.text_of.ensures in
    search rules
