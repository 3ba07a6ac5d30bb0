-- Document 01, the report program: the text that it prints for a file, as bytes.
--
-- In order: the words of the report; its lines; the report.
-- Assumes nothing.
use Rattle.std.specs.Prelude.{List, [], ◌∷◌, ◌++◌, ℕ, eqb, Ok, Err}
use Rattle.paging.specs.Lists.{pick}
use Rattle.paging.specs.Calls.{request_limit}
use Rattle.paging.specs.Refusals.{Answer}
use Rattle.calls.specs.Answers.{answer_numbers}
use Rattle.counts.specs.Counts.{count_of}
use Rattle.plans.specs.Check.{check_of}
use Rattle.reading.specs.Reading.{read_of, file_requests, file_plan, ReadAnswer}
use Rattle.reading.specs.declared.Sizes.{Sizes}
use Rattle.text.specs.Decimal.{decimal}
use Rattle.text.specs.Lines.{pair, refused_line, line}

-- ---- the words of the report, each with the space or line feed behind it

-- "requests "
abbrev pub requests_word : List ℕ
requests_word = 114 ∷ 101 ∷ 113 ∷ 117 ∷ 101 ∷ 115 ∷ 116 ∷ 115 ∷ 32 ∷ []

-- "lru "
abbrev pub lru_word : List ℕ
lru_word = 108 ∷ 114 ∷ 117 ∷ 32 ∷ []

-- "fifo "
abbrev pub fifo_word : List ℕ
fifo_word = 102 ∷ 105 ∷ 102 ∷ 111 ∷ 32 ∷ []

-- "min "
abbrev pub min_word : List ℕ
min_word = 109 ∷ 105 ∷ 110 ∷ 32 ∷ []

-- "lru2 "
abbrev pub lru2_word : List ℕ
lru2_word = 108 ∷ 114 ∷ 117 ∷ 50 ∷ 32 ∷ []

-- "claim "
abbrev pub claim_word : List ℕ
claim_word = 99 ∷ 108 ∷ 97 ∷ 105 ∷ 109 ∷ 32 ∷ []

-- "none" and a line feed
abbrev pub none_word : List ℕ
none_word = 110 ∷ 111 ∷ 110 ∷ 101 ∷ 10 ∷ []

-- ---- the lines

-- a rule's faults, by its number
abbrev pub rule_line : List ℕ → ℕ → ℕ → List ℕ → List ℕ
rule_line name rule frames trace = line name frames (answer_numbers (count_of rule frames trace)).faults

-- what Check answers to the plan
abbrev pub claimed : ℕ → Answer → List ℕ
claimed m (Ok faults) = pair m (32 ∷ []) faults
claimed m (Err refusal) = refused_line refusal

-- the plan's line; a plan of no words is one that didn't come
abbrev pub claim_line : Sizes → List ℕ → List ℕ → List ℕ
claim_line sizes trace plan = claim_word ++ pick (eqb sizes.planned 0) none_word (claimed sizes.m (check_of sizes.m trace plan))

-- ---- the report

-- the four rules with n frames, then MIN with m
abbrev pub rules_text : Sizes → List ℕ → List ℕ
rules_text sizes trace =
    rule_line lru_word 1 sizes.n trace
    ++ rule_line fifo_word 2 sizes.n trace
    ++ rule_line min_word 3 sizes.n trace
    ++ rule_line lru2_word 4 sizes.n trace
    ++ rule_line min_word 3 sizes.m trace

abbrev pub lines_of : Sizes → List ℕ → List ℕ → List ℕ
lines_of sizes trace plan = requests_word ++ decimal sizes.requests ++ (10 ∷ []) ++ rules_text sizes trace ++ claim_line sizes trace plan

-- the whole text, or the one line of a refused file
abbrev pub text_by : ReadAnswer → List ℕ → List ℕ → List ℕ
text_by (Ok sizes) trace plan = lines_of sizes trace plan
text_by (Err refusal) trace plan = refused_line refusal

unfoldable pub report_of : List ℕ → List ℕ
report_of file = text_by (read_of file request_limit request_limit) (file_requests file) (file_plan file)
