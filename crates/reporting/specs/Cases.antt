-- Document 01's example of the report: a bundle of 84 bytes and its seven lines. Beside it the other forms of the last line, a refused file,
-- and numbers without leading zeros.
-- Assumes nothing.
use Rattle.std.specs.Prelude.{◌≡◌, refl, List, [], ◌∷◌, ◌++◌, ℕ, length}
use Rattle.paging.specs.Rules.{mark}
use Rattle.counts.specs.Counts.{count_of}
use Rattle.plans.specs.Check.{check_of}
use Rattle.bundle.specs.Bytes.{section}
use Rattle.reading.specs.Reading.{read_of, file_requests, file_plan}
use Rattle.text.specs.Decimal.{digit_at, decimal}
use Rattle.text.specs.Lines.{refused_word, at_word}
use Rattle.reporting.specs.Report.{requests_word, lru_word, fifo_word, min_word, lru2_word, claim_word, none_word, report_of}

-- n 3, m 2, requests 5 6 7 5 8 6 5 7, and a plan
abbrev bundle : List ℕ → List ℕ
bundle plan = section (3 ∷ 2 ∷ []) ++ section (5 ∷ 6 ∷ 7 ∷ 5 ∷ 8 ∷ 6 ∷ 5 ∷ 7 ∷ []) ++ section plan

-- the first six lines: requests 8, lru 3 6, fifo 3 5, min 3 5, lru2 3 6, min 2 6
abbrev counted : List ℕ
counted =
    requests_word ++ (56 ∷ 10 ∷ [])
    ++ lru_word ++ (51 ∷ 32 ∷ 54 ∷ 10 ∷ [])
    ++ fifo_word ++ (51 ∷ 32 ∷ 53 ∷ 10 ∷ [])
    ++ min_word ++ (51 ∷ 32 ∷ 53 ∷ 10 ∷ [])
    ++ lru2_word ++ (51 ∷ 32 ∷ 54 ∷ 10 ∷ [])
    ++ min_word ++ (50 ∷ 32 ∷ 54 ∷ 10 ∷ [])

-- claim 2 8
abbrev claim : List ℕ
claim = mark ∷ mark ∷ 5 ∷ 6 ∷ 7 ∷ 5 ∷ 8 ∷ 6 ∷ []

pub example : (length (bundle claim) ≡ 84) × (report_of (bundle claim) ≡ counted ++ claim_word ++ (50 ∷ 32 ∷ 56 ∷ 10 ∷ []))
unfolding section report_of read_of file_requests file_plan count_of check_of decimal digit_at
example = (refl, refl)

-- claim none
pub without_a_plan : report_of (bundle []) ≡ counted ++ claim_word ++ none_word
unfolding section report_of read_of file_requests file_plan count_of check_of decimal digit_at
without_a_plan = refl

-- claim refused 7 at 2
pub refused_plan : report_of (bundle (mark ∷ mark ∷ 9 ∷ 6 ∷ 7 ∷ 5 ∷ 8 ∷ 6 ∷ [])) ≡ counted ++ claim_word ++ refused_word ++ (55 ∷ []) ++ at_word ++ (50 ∷ 10 ∷ [])
unfolding section report_of read_of file_requests file_plan count_of check_of decimal digit_at
refused_plan = refl

-- refused 9 at 12
pub refused_file : report_of (section (3 ∷ 2 ∷ [])) ≡ refused_word ++ (57 ∷ []) ++ at_word ++ (49 ∷ 50 ∷ 10 ∷ [])
unfolding section report_of read_of file_requests file_plan count_of check_of decimal digit_at
refused_file = refl

-- 0, 10, 8000 and the largest
pub numbers : decimal 0 ++ decimal 10 ++ decimal 8000 ++ decimal mark
    ≡ (48 ∷ []) ++ (49 ∷ 48 ∷ []) ++ (56 ∷ 48 ∷ 48 ∷ 48 ∷ []) ++ (52 ∷ 50 ∷ 57 ∷ 52 ∷ 57 ∷ 54 ∷ 55 ∷ 50 ∷ 57 ∷ 53 ∷ [])
unfolding decimal digit_at
numbers = refl
