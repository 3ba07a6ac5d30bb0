-- A loop that walks a trace, counts faults and writes the plan into lent words, one word for each outcome, as far as there is room.
--
-- `Reading whole left words₀ words f i`: of the outcomes `whole` the first i are read, with f faults, and `left` are to come; the words were lent as
-- `words₀` and are now `words`. It holds for the walk of any rule, whatever state the loop keeps.
-- `Running rule n trace words₀ words f i` is the same of a rule's walk from empty: what is left is its walk on from the definition's own state at moment i.
-- Assumes nothing.
use mathlib.Core.Path.{◌≡◌, refl, sym, ap, ap₂, ◌∙◌, subst}
use mathlib.Core.List.{List, [], ◌∷◌, ◌++◌, append-nil}
use Prim.Native.Nat.{ℕ, suc, ◌+◌, ◌-◌, ◌≤◌, ◌<◌}
use native.Mathlib.Numerals.{add-one}
use native.Mathlib.Omega.{arith}
use native.Mathlib.Decide.{dec_lt}
use lib.ListN.{length, take, drop, set, length-set, take-append-drop, drop_of_length-le}
use lib.Seq.{take-suc, take-suc-set, take_all, take-nil, drop-cons, drop-set-lt, drop-drop, set_out, append_snoc}
use Rattle.paging.specs.Walk.{outcomes, fault_of, word_of, faults_in, plan_in, faults, plan, entries_at}
use Rattle.paging.specs.Services.{laid}
use Rattle.paging.specs.declared.Entry.{Entry}
use Rattle.paging.specs.declared.Rule.{Rule}
use Rattle.paging.specs.declared.Outcome.{Outcome}
use Rattle.paging.specs.declared.Outcome.TheVariants.{Hit, Loaded, Dropped}
use Rattle.paging.proofs.Frames.{outcome_at}

-- ---- one word for each outcome

pub words_length : (os : List Outcome) → length (plan_in os) ≡ length os
unfolding plan_in
words_length [] = refl
words_length (o ∷ os) = ap suc (words_length os)

pub outcomes_length : (rule : Rule) (n t : ℕ) (past ps : List ℕ) (es : List Entry) → length (outcomes rule n t past ps es) ≡ length ps
unfolding outcomes
outcomes_length rule n t past [] es = refl
outcomes_length rule n t past (p ∷ ps) es = ap suc (outcomes_length rule n (suc t) _ ps _)

-- a plan has one word for each request
pub plan_length : (rule : Rule) (n : ℕ) (trace : List ℕ) → length (plan rule n trace) ≡ length trace
unfolding plan
plan_length rule n trace = words_length (outcomes rule n 0 [] trace []) ∙ outcomes_length rule n 0 [] trace []

-- with room for all of it the list is laid whole
pub laid_whole : (list words : List ℕ) → length list ≤ length words → laid list words ≡ list ++ drop (length list) words
laid_whole list words h = ap (λ (xs : List ℕ). xs ++ drop (length list) words) (take_all (length words) list h)

pub fault_most : (o : Outcome) → fault_of o ≤ 1
fault_most Hit = omega arith
fault_most Loaded = omega arith
fault_most (Dropped p) = omega arith

-- ---- the loop

pub record Reading (whole left : List Outcome) (words₀ words : List ℕ) (f i : ℕ) : Type 0 where
  pub few : f ≤ i
  pub counted : f + faults_in left ≡ faults_in whole
  pub same_length : length words ≡ length words₀
  pub front : take i words ++ take (length words - i) (plan_in left) ≡ take (length words) (plan_in whole)
  pub back : drop i words ≡ drop i words₀

reading_starts : (whole : List Outcome) (words : List ℕ) → Reading whole whole words words 0 0
reading_starts whole words =
    let e : length words - 0 ≡ length words = omega arith in
    record { few = omega arith; counted = omega arith; same_length = refl; front = ap (λ (k : ℕ). take k (plan_in whole)) e; back = refl }

module _ (whole : List Outcome) (o : Outcome) (left : List Outcome) (words₀ words : List ℕ) (f i : ℕ) (r : Reading whole (o ∷ left) words₀ words f i) where
  front_steps : take (suc i) (set words i (word_of o)) ++ take (length words - suc i) (plan_in left) ≡ take i words ++ take (length words - i) (word_of o ∷ plan_in left)
  front_steps = elim (dec_lt i (length words)) [ yes h ↦ inside h | no h ↦ past (omega arith) ]
    where
      inside : i < length words
          → take (suc i) (set words i (word_of o)) ++ take (length words - suc i) (plan_in left) ≡ take i words ++ take (length words - i) (word_of o ∷ plan_in left)
      inside h =
          let e : length words - i ≡ suc (length words - suc i) = omega arith in
          ap (λ (xs : List ℕ). xs ++ take (length words - suc i) (plan_in left)) (take-suc-set words i (word_of o) h)
          ∙ append_snoc (take i words) (word_of o) (take (length words - suc i) (plan_in left))
          ∙ ap (λ (k : ℕ). take i words ++ take k (word_of o ∷ plan_in left)) (sym e)

      past : length words ≤ i
          → take (suc i) (set words i (word_of o)) ++ take (length words - suc i) (plan_in left) ≡ take i words ++ take (length words - i) (word_of o ∷ plan_in left)
      past h =
          let a : length words - i ≡ 0 = omega arith in
          let b : length words - suc i ≡ 0 = omega arith in
          rw (a, b, set_out words i (word_of o) h, take_all i words h, take_all (suc i) words (let k : length words ≤ suc i = omega arith in k))

  reading_steps : Reading whole left words₀ (set words i (word_of o)) (f + fault_of o) (i + 1)
  unfolding faults_in plan_in
  reading_steps =
      record {
        few = omega (arith, r.few, fault_most o);
        counted = omega (arith, r.counted);
        same_length = length-set words i (word_of o) ∙ r.same_length;
        front = rw (length-set words i (word_of o), add-one i) (front_steps ∙ r.front);
        back =
            drop-set-lt (i + 1) words i (word_of o) (omega arith)
            ∙ sym (drop-drop 1 i words)
            ∙ ap (drop 1) r.back
            ∙ drop-drop 1 i words₀;
      }

reading_ends : (whole : List Outcome) (words₀ words : List ℕ) (f i : ℕ) → Reading whole [] words₀ words f i → i ≡ length whole
    → (f ≡ faults_in whole) × (words ≡ laid (plan_in whole) words₀)
unfolding faults_in plan_in
reading_ends whole words₀ words f i r e =
    let size : length words ≡ length words₀ = r.same_length in
    let past : i ≡ length (plan_in whole) = e ∙ sym (words_length whole) in (
      omega (arith, r.counted),
      sym (take-append-drop i words)
          ∙ ap₂ (λ (xs ys : List ℕ). xs ++ ys)
          (sym (append-nil (take i words)) ∙ ap (λ (xs : List ℕ). take i words ++ xs) (sym (take-nil (length words - i))) ∙ r.front ∙ ap (λ (k : ℕ). take k (plan_in whole)) size)
          (r.back ∙ ap (λ (k : ℕ). drop k words₀) past),
    )

-- ---- the loop of a rule's walk from empty

pub record Running (rule : Rule) (n : ℕ) (trace words₀ words : List ℕ) (f i : ℕ) : Type 0 where
  pub passed : i ≤ length trace
  pub reading : Reading (outcomes rule n 0 [] trace []) (outcomes rule n i (take i trace) (drop i trace) (entries_at rule n trace i)) words₀ words f i

module _ (rule : Rule) (n : ℕ) (trace words₀ : List ℕ) where
  pub running_starts : Running rule n trace words₀ words₀ 0 0
  unfolding entries_at
  running_starts = record { passed = omega arith; reading = reading_starts (outcomes rule n 0 [] trace []) words₀ }

  module _ (words : List ℕ) (f i : ℕ) (r : Running rule n trace words₀ words f i) where
    -- the outcomes left are that of moment i and the later ones
    left : i < length trace → outcomes rule n i (take i trace) (drop i trace) (entries_at rule n trace i)
        ≡ outcome_at rule n trace i ∷ outcomes rule n (i + 1) (take (i + 1) trace) (drop (i + 1) trace) (entries_at rule n trace (i + 1))
    unfolding outcomes entries_at
    left more = rw (drop-cons trace i 0 more, add-one i, take-suc trace i 0 more)

    pub running_steps : i < length trace → (o : Outcome) → o ≡ outcome_at rule n trace i → Running rule n trace words₀ (set words i (word_of o)) (f + fault_of o) (i + 1)
    running_steps more o told =
        record {
          passed = omega arith;
          reading =
              reading_steps (outcomes rule n 0 [] trace []) o _ words₀ words f i
              (subst (λ (os : List Outcome). Reading (outcomes rule n 0 [] trace []) os words₀ words f i) (rw told (left more)) r.reading);
        }

    pub running_ends : length trace ≤ i → (f ≡ faults rule n trace) × (words ≡ laid (plan rule n trace) words₀)
    unfolding faults plan outcomes
    running_ends all =
        reading_ends (outcomes rule n 0 [] trace []) words₀ words f i
        (subst (λ (ps : List ℕ). Reading (outcomes rule n 0 [] trace []) (outcomes rule n i (take i trace) ps (entries_at rule n trace i)) words₀ words f i)
        (drop_of_length-le trace all) r.reading)
        (let e : i ≡ length (outcomes rule n 0 [] trace []) = omega (arith, r.passed, outcomes_length rule n 0 [] trace []) in e)
