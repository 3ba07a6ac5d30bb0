-- Laws of the report of a file: what a reading into 8,000 words for each list gives it.
-- Assumes nothing.
use Rattle.std.specs.Prelude.{Ok, Err}
use mathlib.Core.Path.{◌≡◌, sym, ap, ap₂, ◌∙◌}
use mathlib.Core.List.{List}
use Prim.Native.Nat.{ℕ, ◌+◌, ◌≤◌}
use native.Mathlib.Omega.{arith}
use lib.ListN.{length, take, length-take}
use Rattle.paging.specs.Calls.{request_limit}
use Rattle.paging.specs.declared.Refusal.{Refusal}
use Rattle.words.proofs.Bytes.{length_words}
use Rattle.reading.specs.Reading.{request_count, plan_place, plan_count, file_requests, file_plan, sizes_of, read_of, ReadAnswer}
use Rattle.reading.specs.declared.Sizes.{Sizes}
use Rattle.bundle.specs.Reading.{requests_left, plan_left}
use Rattle.bundle.proofs.Laws.{read_words_lem}
use Rattle.text.specs.Lines.{refused_line}
use Rattle.reporting.specs.Report.{lines_of, text_by, report_of}

pub text_refused : (file : List ℕ) (refusal : Refusal) → read_of file request_limit request_limit ≡ Err refusal → refused_line refusal ≡ report_of file
unfolding report_of
text_refused file refusal e = sym (ap (λ (answer : ReadAnswer). text_by answer (file_requests file) (file_plan file)) e)

module _ (file : List ℕ) (sizes : Sizes) (e : read_of file request_limit request_limit ≡ Ok sizes) (requests plan : List ℕ)
    (r : length requests ≡ request_limit) (p : length plan ≡ request_limit) where
  fronts : (sizes_of file ≡ sizes)
      × (take sizes.requests (requests_left file requests (length plan)) ≡ file_requests file)
      × (take sizes.planned (plan_left file (length requests) plan) ≡ file_plan file)
  fronts = read_words_lem file requests plan sizes (rw (r, p) e)

  -- both lists are long enough for what is read from them
  pub both_fit : (sizes.requests ≤ length (requests_left file requests (length plan))) × (sizes.planned ≤ length (plan_left file (length requests) plan))
  unfolding file_requests file_plan
  both_fit =
      let (z, front, back) = fronts in
      let t : length (file_requests file) ≡ sizes.requests = length_words file 16 (request_count file) ∙ ap (λ (y : Sizes). y.requests) z in
      let k : length (file_plan file) ≡ sizes.planned = length_words file (plan_place file + 4) (plan_count file) ∙ ap (λ (y : Sizes). y.planned) z in (
        omega (arith, length-take sizes.requests (requests_left file requests (length plan)), ap length front, t),
        omega (arith, length-take sizes.planned (plan_left file (length requests) plan), ap length back, k),
      )

  -- what stands at the front of both lists gives the text
  pub text_lines : lines_of sizes (take sizes.requests (requests_left file requests (length plan))) (take sizes.planned (plan_left file (length requests) plan)) ≡ report_of file
  unfolding report_of
  text_lines =
      let (z, front, back) = fronts in
      ap₂ (lines_of sizes) front back ∙ sym (ap (λ (answer : ReadAnswer). text_by answer (file_requests file) (file_plan file)) e)
