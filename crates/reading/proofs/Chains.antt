-- Laws of the chain of refusals of a reading: what an open gate says of a file, each chain's part in the whole, and the answer by the gate.
-- Assumes nothing.
use Rattle.std.specs.Prelude.{Ok, Err}
use mathlib.Core.Path.{◌≡◌, refl, sym, ap, ap₂, ◌∙◌}
use mathlib.Core.Bool.{Bool, true, false}
use mathlib.Core.Logic.{◌⊎◌, inl, inr, ⊎_elim}
use mathlib.Core.List.{List, [], ◌∷◌, ◌++◌}
use Prim.Native.Nat.{ℕ, ◌+◌, ◌*◌, ◌≤◌, ◌<◌}
use native.Mathlib.Omega.{arith}
use native.Mathlib.Nat.{le_antisymm}
use lib.Dec.{eqb, ltb}
use lib.ListN.{length, get_or}
use borrow.Author.Tests.{le-ltb, eq-eqb, ltb-false, eqb-true}
use Rattle.paging.specs.Lists.{pick, not}
use Rattle.paging.specs.Calls.{frame_limit, request_limit, Test, test, gate, outside, marked, first_mark}
use Rattle.paging.specs.Refusals.{Gate}
use Rattle.paging.specs.declared.Refusal.{Refusal}
use Rattle.paging.specs.declared.Refusal.TheVariants.{MarkRequested, LentTooShort}
use Rattle.paging.proofs.Lists.{false≢true, all_at}
use Rattle.paging.proofs.Calls.{open_exactly}
use Rattle.calls.specs.Chain.{and_then, lent_gate}
use Rattle.calls.proofs.Chain.{gate_append}
use Rattle.words.specs.Bytes.{word_at, words_at}
use Rattle.reading.specs.Reading.{request_count, plan_place, plan_count, file_end, file_requests, plan_fits, head_tests, tail_tests, form_tests, size_tests, value_tests, read_tests, sizes_of, sizes_by, read_of}
use Rattle.reading.specs.declared.Sizes.{Sizes}

pick_true : (b c : Bool) → c ≡ true → pick b true c ≡ true
pick_true true c e = refl
pick_true false c e = e

-- a plan has no words, or one for each request
pub fits_either : (requests planned : ℕ) → plan_fits requests planned ≡ true → (planned ≡ 0) ⊎ (planned ≡ requests)
fits_either requests planned e = go (eqb planned 0) refl e
  where
    go : (b : Bool) → eqb planned 0 ≡ b → pick b true (eqb planned requests) ≡ true → (planned ≡ 0) ⊎ (planned ≡ requests)
    go true q e = inl (eqb-true planned 0 q)
    go false q e = inr (eqb-true planned requests e)

pub either_fits : (requests planned : ℕ) → (planned ≡ 0) ⊎ (planned ≡ requests) → plan_fits requests planned ≡ true
either_fits requests planned (inl e) = rw (eq-eqb planned 0 e)
either_fits requests planned (inr e) = pick_true (eqb planned 0) _ (eq-eqb planned requests e)

-- so it has at most as many words as there are requests
pub fits_small : (requests planned : ℕ) → plan_fits requests planned ≡ true → planned ≤ requests
fits_small requests planned e = ⊎_elim (λ a. omega arith) (λ b. omega arith) (fits_either requests planned e)

-- frames that are not refused are 1 to 256
pub inside : (n : ℕ) → outside n ≡ false → (1 ≤ n) × (n ≤ frame_limit)
inside n e = go (ltb n 1) refl e
  where
    go : (b : Bool) → ltb n 1 ≡ b → pick b true (ltb frame_limit n) ≡ false → (1 ≤ n) × (n ≤ frame_limit)
    go true q e = absurd (false≢true (sym e))
    go false q e = (ltb-false n 1 q, ltb-false frame_limit n e)

failed : (b : Bool) → not b ≡ true → b ≡ false
failed true e = absurd (false≢true e)
failed false e = refl

-- every test before an open gate is false
pub passes : (ts : List Test) (i : ℕ) → gate ts ≡ Ok tt → i < length ts → (get_or ts i (test false LentTooShort)).when ≡ false
passes ts i e h = failed _ (all_at (λ (t : Test). not t.when) (test false LentTooShort) ts ((open_exactly ts).0 e) i h)

pub is_met : (b : Bool) → not b ≡ false → b ≡ true
is_met true e = refl
is_met false e = absurd (false≢true (sym e))

-- a chain in parts: the refusal of an earlier part decides, else the last part does
module _ (xs ys : List Test) where
  pub stops : (refusal : Refusal) → gate xs ≡ Err refusal → Err refusal ≡ gate (xs ++ ys)
  stops refusal e = sym (gate_append xs ys ∙ ap (λ (g : Gate). and_then g (gate ys)) e)

  pub goes_on : gate xs ≡ Ok tt → gate ys ≡ gate (xs ++ ys)
  goes_on e = sym (gate_append xs ys ∙ ap (λ (g : Gate). and_then g (gate ys)) e)

  pub first_open : gate (xs ++ ys) ≡ Ok tt → gate xs ≡ Ok tt
  first_open e = go (gate xs) refl
    where
      go : (g : Gate) → gate xs ≡ g → gate xs ≡ Ok tt
      go (Ok tt) q = q
      go (Err refusal) q = absurd (let f : Err refusal ≡ Ok tt = stops refusal q ∙ e in let k : ◌≡◌ {A = ℕ} 0 1 = cc in omega arith)

module _ (xs ys zs : List Test) where
  pub stops_first : (refusal : Refusal) → gate xs ≡ Err refusal → Err refusal ≡ gate (xs ++ ys ++ zs)
  stops_first refusal e = stops (xs ++ ys) zs refusal (sym (stops xs ys refusal e))

  pub stops_second : (refusal : Refusal) → gate xs ≡ Ok tt → gate ys ≡ Err refusal → Err refusal ≡ gate (xs ++ ys ++ zs)
  stops_second refusal e f = stops (xs ++ ys) zs refusal (sym (goes_on xs ys e) ∙ f)

  pub goes_to_third : gate xs ≡ Ok tt → gate ys ≡ Ok tt → gate zs ≡ gate (xs ++ ys ++ zs)
  goes_to_third e f = goes_on (xs ++ ys) zs (sym (goes_on xs ys e) ∙ f)

module _ (file : List ℕ) where
  -- ---- a file in form

  module _ (o : gate (head_tests file) ≡ Ok tt) where
    pub head_there : 16 ≤ length file
    unfolding head_tests
    head_there = ltb-false (length file) 16 (passes (head_tests file) 2 o (omega arith))

    pub head_requests : request_count file ≤ request_limit
    unfolding head_tests
    head_requests = ltb-false request_limit (request_count file) (passes (head_tests file) 3 o (omega arith))

  pub form_stops : (refusal : Refusal) → gate (head_tests file) ≡ Err refusal → gate (form_tests file) ≡ Err refusal
  unfolding form_tests
  form_stops refusal e = sym (stops (head_tests file) (tail_tests file) refusal e)

  pub form_goes_on : gate (head_tests file) ≡ Ok tt → gate (form_tests file) ≡ gate (tail_tests file)
  unfolding form_tests
  form_goes_on e = sym (goes_on (head_tests file) (tail_tests file) e)

  -- ---- the values of a file in form

  abbrev mark_part : List Test
  mark_part = test (marked (file_requests file)) (MarkRequested (16 + 4 * first_mark (file_requests file))) ∷ []

  module _ (n m : ℕ) (first : n ≡ word_at file 4) (second : m ≡ word_at file 8) where
    sizes_are : gate (size_tests n m 4 8) ≡ gate (size_tests (word_at file 4) (word_at file 8) 4 8)
    sizes_are = ap₂ (λ (x y : ℕ). gate (size_tests x y 4 8)) first second

    pub value_stops : (refusal : Refusal) → gate (size_tests n m 4 8) ≡ Err refusal → gate (value_tests file) ≡ Err refusal
    unfolding value_tests
    value_stops refusal e = sym (stops (size_tests (word_at file 4) (word_at file 8) 4 8) mark_part refusal (sym sizes_are ∙ e))

    module _ (requests : ℕ) (count : requests ≡ request_count file) (o : gate (size_tests n m 4 8) ≡ Ok tt) where
      by_mark : (b : Bool) → marked (words_at file 16 requests) ≡ b
          → gate (value_tests file) ≡ pick {A = Gate} b (Err (MarkRequested (16 + 4 * first_mark (words_at file 16 requests)))) (Ok tt)
      unfolding gate value_tests file_requests
      by_mark b e =
          sym (goes_on (size_tests (word_at file 4) (word_at file 8) 4 8) mark_part (sym sizes_are ∙ o))
          ∙ ap (λ (k : ℕ). pick {A = Gate} (marked (words_at file 16 k)) (Err (MarkRequested (16 + 4 * first_mark (words_at file 16 k)))) (Ok tt)) (sym count)
          ∙ ap (λ (x : Bool). pick {A = Gate} x (Err (MarkRequested (16 + 4 * first_mark (words_at file 16 requests)))) (Ok tt)) e

      pub value_marked : marked (words_at file 16 requests) ≡ true → gate (value_tests file) ≡ Err (MarkRequested (16 + 4 * first_mark (words_at file 16 requests)))
      value_marked e = by_mark true e

      pub value_open : marked (words_at file 16 requests) ≡ false → gate (value_tests file) ≡ Ok tt
      value_open e = by_mark false e

pub ruleset form_steps = (head_there, head_requests, form_stops, form_goes_on)

pub ruleset value_steps = (value_stops, value_marked, value_open)

-- what 9, 10 and 11 leave
pub record Formed (file : List ℕ) : Type 0 where
  pub sizes : word_at file 0 ≡ 2
  pub requests : request_count file ≤ request_limit
  pub fits : plan_fits (request_count file) (plan_count file) ≡ true
  pub planned : plan_count file ≤ request_count file
  pub whole : length file ≡ file_end file

pub formed : (file : List ℕ) → gate (form_tests file) ≡ Ok tt → Formed file
unfolding form_tests
formed file o =
    let f : plan_fits (request_count file) (plan_count file) ≡ true = is_met _ (passes (form_tests file) 5 o (omega arith)) in
    record {
      sizes = eqb-true (word_at file 0) 2 (is_met _ (passes (form_tests file) 1 o (omega arith)));
      requests = ltb-false request_limit (request_count file) (passes (form_tests file) 3 o (omega arith));
      fits = f;
      planned = fits_small (request_count file) (plan_count file) f;
      whole =
          le_antisymm
          (ltb-false (file_end file) (length file) (passes (form_tests file) 7 o (omega arith)))
          (ltb-false (length file) (file_end file) (passes (form_tests file) 6 o (omega arith)));
    }

-- ---- a reading

-- refusal 6 twice, one test behind the other
lent_twice_lem : (g : Gate) (a b : Bool)
    → and_then (and_then g (pick a (Err LentTooShort) (Ok tt))) (pick b (Err LentTooShort) (Ok tt)) ≡ and_then g (pick a (Err LentTooShort) (pick b (Err LentTooShort) (Ok tt)))
lent_twice_lem (Ok tt) true b = refl
lent_twice_lem (Ok tt) false b = refl
lent_twice_lem (Err refusal) true b = refl
lent_twice_lem (Err refusal) false b = refl

-- both tests of 6
abbrev lent_parts : List ℕ → ℕ → ℕ → List Test
lent_parts file a b = test (ltb a (request_count file)) LentTooShort ∷ test (ltb b (plan_count file)) LentTooShort ∷ []

module _ (file : List ℕ) (o : gate (form_tests file) ≡ Ok tt) where
  pub form_few : request_count file ≤ request_limit
  form_few = (formed file o).requests

  pub form_whole : length file ≡ file_end file
  form_whole = (formed file o).whole

module _ (file : List ℕ) (a b : ℕ) where
  pub read_stops : (refusal : Refusal) → gate (form_tests file) ≡ Err refusal → gate (read_tests file a b) ≡ Err refusal
  unfolding read_tests
  read_stops refusal e = sym (stops_first (form_tests file) (value_tests file) (lent_parts file a b) refusal e)

  pub read_goes_on : (requests planned : ℕ) → gate (form_tests file) ≡ Ok tt → requests ≡ request_count file → planned ≡ word_at file (16 + 4 * requests)
      → gate (read_tests file a b) ≡ lent_gate (lent_gate (gate (value_tests file)) requests a) planned b
  unfolding gate read_tests
  read_goes_on requests planned e t p =
      let q : planned ≡ plan_count file = p ∙ ap (λ (k : ℕ). word_at file (16 + 4 * k)) t in
      sym (ap₂ (λ (x y : ℕ). lent_gate (lent_gate (gate (value_tests file)) x a) y b) t q
      ∙ lent_twice_lem (gate (value_tests file)) (ltb a (request_count file)) (ltb b (plan_count file))
      ∙ ap (λ (g : Gate). and_then g (gate (lent_parts file a b))) (goes_on (form_tests file) (value_tests file) e)
      ∙ sym (gate_append (form_tests file ++ value_tests file) (lent_parts file a b)))

pub ruleset read_steps = (form_few, form_whole, read_stops, read_goes_on)

-- what an open gate says of a file
pub record OpenFile (file : List ℕ) (a b : ℕ) : Type 0 where
  pub form : Formed file
  pub frames : outside (word_at file 4) ≡ false
  pub plan_frames : outside (word_at file 8) ≡ false
  pub above : ltb (word_at file 4) (word_at file 8) ≡ false
  pub unmarked : marked (file_requests file) ≡ false
  pub room : request_count file ≤ a
  pub plan_room : plan_count file ≤ b

pub open_file : (file : List ℕ) (a b : ℕ) → gate (read_tests file a b) ≡ Ok tt → OpenFile file a b
unfolding read_tests
open_file file a b o =
    record {
      form = formed file (first_open (form_tests file) (value_tests file) (first_open (form_tests file ++ value_tests file) (lent_parts file a b) o));
      frames = passes (read_tests file a b) 8 o (omega arith);
      plan_frames = passes (read_tests file a b) 9 o (omega arith);
      above = passes (read_tests file a b) 10 o (omega arith);
      unmarked = passes (read_tests file a b) 11 o (omega arith);
      room = ltb-false a (request_count file) (passes (read_tests file a b) 12 o (omega arith));
      plan_room = ltb-false b (plan_count file) (passes (read_tests file a b) 13 o (omega arith));
    }

-- and a file of which all that is so has an open gate
pub file_opens : (file : List ℕ) (a b : ℕ) → OpenFile file a b → gate (read_tests file a b) ≡ Ok tt
unfolding gate read_tests form_tests value_tests size_tests
file_opens file a b d =
    let w : length file ≡ file_end file = d.form.whole in
    let one : 4 ≤ length file = omega arith in
    let two : 16 ≤ length file = omega arith in
    let three : plan_place file + 4 ≤ length file = omega arith in
    let four : file_end file ≤ length file = omega arith in
    let five : length file ≤ file_end file = omega arith in
    rw (
      le-ltb (length file) 4 one,
      eq-eqb (word_at file 0) 2 d.form.sizes,
      le-ltb (length file) 16 two,
      le-ltb request_limit (request_count file) d.form.requests,
      le-ltb (length file) (plan_place file + 4) three,
      d.form.fits,
      le-ltb (length file) (file_end file) four,
      le-ltb (file_end file) (length file) five,
      d.frames,
      d.plan_frames,
      d.above,
      d.unmarked,
      le-ltb a (request_count file) d.room,
      le-ltb b (plan_count file) d.plan_room,
    )

-- ---- the answer

-- through an open gate come the file's sizes
pub read_open : (file : List ℕ) (a b : ℕ) → gate (read_tests file a b) ≡ Ok tt → read_of file a b ≡ Ok (sizes_of file)
unfolding read_of
read_open file a b o = ap (λ (g : Gate). sizes_by g (sizes_of file)) o

pub read_refused : (file : List ℕ) (a b : ℕ) (refusal : Refusal) → gate (read_tests file a b) ≡ Err refusal → read_of file a b ≡ Err refusal
unfolding read_of
read_refused file a b refusal e = ap (λ (g : Gate). sizes_by g (sizes_of file)) e

pub read_whole : (file : List ℕ) (a b : ℕ) → gate (read_tests file a b) ≡ Ok tt → length file ≡ file_end file
read_whole file a b o = (open_file file a b o).form.whole

pub ruleset answer_steps = (read_open, read_refused, read_whole)

-- an answer with sizes comes through an open gate, and they are the file's
pub bundle_open : (file : List ℕ) (a b : ℕ) (sizes : Sizes) → read_of file a b ≡ Ok sizes → (gate (read_tests file a b) ≡ Ok tt) × (sizes_of file ≡ sizes)
unfolding read_of
bundle_open file a b sizes e = go (gate (read_tests file a b)) refl e
  where
    go : (g : Gate) → gate (read_tests file a b) ≡ g → sizes_by g (sizes_of file) ≡ Ok sizes → (gate (read_tests file a b) ≡ Ok tt) × (sizes_of file ≡ sizes)
    go (Ok tt) q e = (q, cc)
    go (Err refusal) q e = absurd (let k : ◌≡◌ {A = ℕ} 0 1 = cc in omega arith)

-- a refusal comes through its gate
pub refused_gate : (file : List ℕ) (a b : ℕ) (refusal : Refusal) → read_of file a b ≡ Err refusal → gate (read_tests file a b) ≡ Err refusal
unfolding read_of
refused_gate file a b refusal e = go (gate (read_tests file a b)) refl e
  where
    go : (g : Gate) → gate (read_tests file a b) ≡ g → sizes_by g (sizes_of file) ≡ Err refusal → gate (read_tests file a b) ≡ Err refusal
    go (Ok tt) q e = absurd (let k : ◌≡◌ {A = ℕ} 0 1 = cc in omega arith)
    go (Err other) q e = q ∙ ap Err (cc)
