-- The report of a file is that of its first 65,536 bytes, which are all that the program reads.
-- Assumes nothing.
use Rattle.std.specs.Prelude.{Err}
use mathlib.Core.Path.{◌≡◌, sym, ap, ◌∙◌}
use mathlib.Core.List.{List}
use Prim.Native.Nat.{ℕ, ◌≤◌, ◌<◌}
use native.Mathlib.Omega.{arith}
use native.Mathlib.Decide.{dec_le}
use lib.ListN.{length, take}
use lib.Seq.{take_all}
use Rattle.paging.specs.Calls.{request_limit}
use Rattle.reading.specs.Reading.{read_of}
use Rattle.reading.proofs.Longer.{long_refusal, long_refused, reading_the_front}
use Rattle.reporting.specs.Report.{report_of}
use Rattle.reporting.proofs.Reading.{text_refused}

-- a longer file is refused, and by its front
longer : (file : List ℕ) → 65536 < length file → report_of (take 65536 file) ≡ report_of file
longer file h =
    let long : 64020 < length file = omega arith in
    let above : 64020 < 65536 = omega arith in
    let enough : 65536 ≤ length file = omega arith in
    let e : read_of file request_limit request_limit ≡ Err (long_refusal file) = long_refused file long request_limit request_limit in
    let f : read_of (take 65536 file) request_limit request_limit ≡ Err (long_refusal file) = reading_the_front file 65536 request_limit request_limit above enough ∙ e in
    sym (text_refused (take 65536 file) (long_refusal file) f) ∙ text_refused file (long_refusal file) e

-- WHAT COMES BEHIND the first 65,536 bytes of a file changes nothing in its report
pub report_of_the_front : (file : List ℕ) → report_of (take 65536 file) ≡ report_of file
report_of_the_front file = elim (dec_le (length file) 65536) [ yes h ↦ ap report_of (take_all 65536 file h) | no h ↦ longer file (omega arith) ]
