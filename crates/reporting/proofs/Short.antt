-- No report is longer than 256 bytes: the room that the program lends is never too small.
-- Assumes nothing.
use Rattle.std.specs.Prelude.{Ok, Err}
use mathlib.Core.Bool.{Bool, true, false}
use mathlib.Core.List.{List, [], ◌∷◌, ◌++◌}
use Prim.Native.Nat.{ℕ, ◌+◌, ◌/◌, ◌%◌, ◌≤◌}
use native.Mathlib.Omega.{arith}
use native.Mathlib.Nat.{le_trans}
use lib.Dec.{eqb, ltb}
use lib.ListN.{length, length-append}
use Rattle.paging.specs.Lists.{pick}
use Rattle.paging.specs.Calls.{request_limit}
use Rattle.paging.specs.Refusals.{table, Answer}
use Rattle.paging.specs.declared.Refusal.{Refusal}
use Rattle.calls.specs.Answers.{answer_numbers}
use Rattle.counts.specs.Counts.{count_of}
use Rattle.plans.specs.Check.{check_of}
use Rattle.reading.specs.Reading.{read_of, file_requests, file_plan, ReadAnswer}
use Rattle.reading.specs.declared.Sizes.{Sizes}
use Rattle.text.specs.Decimal.{digit_at, decimal}
use Rattle.text.specs.Lines.{pair, refused_line}
use Rattle.reporting.specs.Report.{requests_word, claim_word, none_word, claimed, claim_line, rules_text, lines_of, text_by, report_of}

abbrev faults_told : ℕ → ℕ → List ℕ → ℕ
faults_told rule n trace = (answer_numbers (count_of rule n trace)).faults

joined : (xs ys : List ℕ) (a b : ℕ) → length xs ≤ a → length ys ≤ b → length (xs ++ ys) ≤ a + b
joined xs ys a b h k = omega (arith, length-append xs ys)

digit_short : (x power : ℕ) → length (digit_at x power) ≤ 1
unfolding digit_at
digit_short x power = go (ltb x power)
  where
    go : (b : Bool) → length (pick b [] ((48 + x / power % 10) ∷ [])) ≤ 1
    go true = omega arith
    go false = omega arith

decimal_short : (x : ℕ) → length (decimal x) ≤ 10
unfolding decimal
decimal_short x =
    simp length-append
    (omega (
      arith,
      digit_short x 1000000000,
      digit_short x 100000000,
      digit_short x 10000000,
      digit_short x 1000000,
      digit_short x 100000,
      digit_short x 10000,
      digit_short x 1000,
      digit_short x 100,
      digit_short x 10,
    ))

pair_short : (x : ℕ) (between : List ℕ) (y : ℕ) → length (pair x between y) ≤ 21 + length between
pair_short x between y = simp length-append (omega (arith, decimal_short x, decimal_short y))

refused_short : (refusal : Refusal) → length (refused_line refusal) ≤ 33
refused_short refusal = omega (arith, pair_short (table refusal).number (32 ∷ 97 ∷ 116 ∷ 32 ∷ []) (table refusal).place)

claimed_short : (m : ℕ) (answer : Answer) → length (claimed m answer) ≤ 33
claimed_short m (Ok faults) = omega (arith, pair_short m (32 ∷ []) faults)
claimed_short m (Err refusal) = refused_short refusal

claim_short : (sizes : Sizes) (trace plan : List ℕ) → length (claim_line sizes trace plan) ≤ 39
claim_short sizes trace plan = go (eqb sizes.planned 0)
  where
    go : (b : Bool) → length (claim_word ++ pick b none_word (claimed sizes.m (check_of sizes.m trace plan))) ≤ 39
    go true = omega arith
    go false =
        omega (arith, length-append claim_word (claimed sizes.m (check_of sizes.m trace plan)), claimed_short sizes.m (check_of sizes.m trace plan))

rules_short : (sizes : Sizes) (trace : List ℕ) → length (rules_text sizes trace) ≤ 132
rules_short sizes trace =
    simp length-append
    (omega (
      arith,
      decimal_short sizes.n,
      decimal_short sizes.m,
      decimal_short (faults_told 1 sizes.n trace),
      decimal_short (faults_told 2 sizes.n trace),
      decimal_short (faults_told 3 sizes.n trace),
      decimal_short (faults_told 4 sizes.n trace),
      decimal_short (faults_told 3 sizes.m trace),
    ))

lines_short : (sizes : Sizes) (trace plan : List ℕ) → length (lines_of sizes trace plan) ≤ 191
lines_short sizes trace plan =
    let first = requests_word ++ decimal sizes.requests ++ (10 ∷ []) in
    let f : length first ≤ 20 = simp length-append (omega (arith, decimal_short sizes.requests)) in
    joined (first ++ rules_text sizes trace) (claim_line sizes trace plan) 152 39 (joined first (rules_text sizes trace) 20 132 f (rules_short sizes trace)) (claim_short sizes trace plan)

text_short : (answer : ReadAnswer) (trace plan : List ℕ) → length (text_by answer trace plan) ≤ 256
text_short (Ok sizes) trace plan = le_trans (lines_short sizes trace plan) (omega arith)
text_short (Err refusal) trace plan = le_trans (refused_short refusal) (omega arith)

pub report_short : (file : List ℕ) → length (report_of file) ≤ 256
unfolding report_of
report_short file = text_short (read_of file request_limit request_limit) (file_requests file) (file_plan file)
