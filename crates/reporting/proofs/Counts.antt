-- The report's numbers are counts: for an accepted file Count refuses none of the five, so no line prints a 0 that stands for a refusal.
-- Assumes nothing.
use Rattle.std.specs.Prelude.{Ok}
use mathlib.Core.Path.{◌≡◌, refl, sym, ap, ◌∙◌}
use mathlib.Core.Bool.{false}
use mathlib.Core.List.{List, ◌++◌}
use Prim.Native.Nat.{ℕ, ◌≤◌}
use lib.ListN.{length}
use borrow.Author.Tests.{le-ltb}
use Rattle.paging.specs.Rules.{rule_numbered, named}
use Rattle.paging.specs.Walk.{faults}
use Rattle.paging.specs.Calls.{request_limit, gate, unknown, outside, trace_tests, rule_tests}
use Rattle.paging.specs.declared.Rule.TheVariants.{Lru, Fifo, Min, Lru2}
use Rattle.paging.proofs.Services.{answered_open}
use Rattle.counts.specs.Counts.{count_of}
use Rattle.words.proofs.Bytes.{length_words}
use Rattle.reading.specs.Reading.{request_count, file_requests, read_of}
use Rattle.reading.specs.declared.Sizes.{Sizes}
use Rattle.reading.proofs.Chains.{OpenFile, open_file, bundle_open}
use Rattle.text.specs.Lines.{line}
use Rattle.reporting.specs.Report.{lru_word, fifo_word, min_word, lru2_word, rules_text}

module _ (file : List ℕ) (sizes : Sizes) (e : read_of file request_limit request_limit ≡ Ok sizes) where
  opened : OpenFile file request_limit request_limit
  opened = open_file file request_limit request_limit (bundle_open file request_limit request_limit sizes e).0

  counted : (rule n : ℕ) → unknown (rule_numbered rule) ≡ false → outside n ≡ false
      → count_of rule n (file_requests file) ≡ Ok (faults (named (rule_numbered rule)) n (file_requests file))
  unfolding count_of gate rule_tests trace_tests file_requests
  counted rule n known sized =
      let few : length (file_requests file) ≤ request_limit = rw (length_words file 16 (request_count file)) opened.form.requests in
      answered_open (rule_tests rule n (file_requests file)) (named (rule_numbered rule)) n (file_requests file)
      (rw (known, sized, le-ltb request_limit (length (file_requests file)) few, opened.unmarked))

  n_sized : outside sizes.n ≡ false
  n_sized = ap (λ (z : Sizes). outside z.n) (sym (bundle_open file request_limit request_limit sizes e).1) ∙ opened.frames

  m_sized : outside sizes.m ≡ false
  m_sized = ap (λ (z : Sizes). outside z.m) (sym (bundle_open file request_limit request_limit sizes e).1) ∙ opened.plan_frames

  -- ALL FIVE COUNTS of an accepted file are faults
  pub counts_are_counts : (count_of 1 sizes.n (file_requests file) ≡ Ok (faults Lru sizes.n (file_requests file)))
      × (count_of 2 sizes.n (file_requests file) ≡ Ok (faults Fifo sizes.n (file_requests file)))
      × (count_of 3 sizes.n (file_requests file) ≡ Ok (faults Min sizes.n (file_requests file)))
      × (count_of 4 sizes.n (file_requests file) ≡ Ok (faults Lru2 sizes.n (file_requests file)))
      × (count_of 3 sizes.m (file_requests file) ≡ Ok (faults Min sizes.m (file_requests file)))
  counts_are_counts = (
    counted 1 sizes.n refl n_sized,
    counted 2 sizes.n refl n_sized,
    counted 3 sizes.n refl n_sized,
    counted 4 sizes.n refl n_sized,
    counted 3 sizes.m refl m_sized,
  )

  -- and these are what its five lines say
  pub lines_say_counts : rules_text sizes (file_requests file)
      ≡ line lru_word sizes.n (faults Lru sizes.n (file_requests file))
      ++ line fifo_word sizes.n (faults Fifo sizes.n (file_requests file))
      ++ line min_word sizes.n (faults Min sizes.n (file_requests file))
      ++ line lru2_word sizes.n (faults Lru2 sizes.n (file_requests file))
      ++ line min_word sizes.m (faults Min sizes.m (file_requests file))
  lines_say_counts = let (lru, fifo, min, lru2, lesser) = counts_are_counts in rw (lru, fifo, min, lru2, lesser)
