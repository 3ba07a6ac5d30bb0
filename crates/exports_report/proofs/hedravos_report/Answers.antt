-- No report is too long for the answer's word.
-- Assumes nothing.
use Rattle.std.proofs.Common.{length, arith}
use Rattle.std.proofs.lemmas.List.{length-take}
use Rattle.reporting.specs.Report.{report_of}
use Rattle.reporting.proofs.Short.{report_short}
use Rattle.exports_report.proofs.hedravos_report.Goals as goal

pub overflow_cast-bytes : goal.overflow_cast-bytes
overflow_cast-bytes c =
    omega (
      arith,
      c.report-bytes.ensures.0,
      length-take (length c.args.room.now) (report_of c.args.file.now),
      report_short c.args.file.now,
    )
