-- A file longer than every bundle is refused by its front: what comes behind its first 64,021 bytes changes nothing.
--
-- In order: the refusal of such a file; the words in the front of a file; the front is read as the whole file is.
-- Assumes nothing.
use Rattle.std.specs.Prelude.{Err}
use mathlib.Core.Path.{◌≡◌, refl, sym, ap, ◌∙◌}
use mathlib.Core.Bool.{Bool, true, false}
use mathlib.Core.List.{List}
use Prim.Native.Nat.{ℕ, ◌+◌, ◌*◌, ◌≤◌, ◌<◌}
use native.Mathlib.Omega.{arith}
use lib.Dec.{eqb, ltb}
use lib.ListN.{length, take}
use lib.Seq.{get_or-take, length-take-le}
use borrow.Author.Tests.{lt-ltb, le-ltb, ltb-false}
use Rattle.paging.specs.Lists.{pick, not}
use Rattle.paging.specs.Calls.{request_limit, gate}
use Rattle.paging.specs.Refusals.{Gate}
use Rattle.paging.specs.declared.Refusal.{Refusal}
use Rattle.paging.specs.declared.Refusal.TheVariants.{CountNotAllowed, BytesLeftOver}
use Rattle.words.specs.Bytes.{word_at}
use Rattle.reading.specs.Reading.{request_count, plan_place, plan_count, file_end, plan_fits, form_tests, sizes_of, sizes_by, read_of}
use Rattle.reading.proofs.Chains.{fits_small, read_stops}

-- ---- the refusal of a file above 64,020 bytes

-- 10 or 11, by the counts of sizes, of requests and of the plan's words
abbrev refusal_by : ℕ → ℕ → ℕ → Refusal
refusal_by sizes requests planned =
    pick (not (eqb sizes 2)) (CountNotAllowed 0)
    (pick (ltb request_limit requests) (CountNotAllowed 12)
    (pick (not (plan_fits requests planned)) (CountNotAllowed (16 + 4 * requests)) (BytesLeftOver (16 + 4 * requests + 4 + 4 * planned))))

unfoldable pub long_refusal : List ℕ → Refusal
long_refusal file = refusal_by (word_at file 0) (request_count file) (plan_count file)

module _ (file : List ℕ) (long : 64020 < length file) where
  -- what allowed counts ask for is there, so 9 is never given
  form_refused : gate (form_tests file) ≡ Err (long_refusal file)
  unfolding gate form_tests long_refusal
  form_refused = go (eqb (word_at file 0) 2) (ltb request_limit (request_count file)) (plan_fits (request_count file) (plan_count file)) refl refl refl
    where
      four : ltb (length file) 4 ≡ false
      four = le-ltb (length file) 4 (omega arith)

      sixteen : ltb (length file) 16 ≡ false
      sixteen = le-ltb (length file) 16 (omega arith)

      counted : request_count file ≤ request_limit → ltb (length file) (plan_place file + 4) ≡ false
      counted h = le-ltb (length file) (plan_place file + 4) (omega arith)

      go : (x y z : Bool) → eqb (word_at file 0) 2 ≡ x → ltb request_limit (request_count file) ≡ y → plan_fits (request_count file) (plan_count file) ≡ z
          → gate (form_tests file) ≡ Err (long_refusal file)
      go false y z p q r = rw (four, p)
      go true true z p q r = rw (four, p, sixteen, q)
      go true false false p q r = rw (four, p, sixteen, q, counted (ltb-false request_limit (request_count file) q), r)
      go true false true p q r =
          let h : request_count file ≤ request_limit = ltb-false request_limit (request_count file) q in
          let k : file_end file < length file = omega (arith, fits_small (request_count file) (plan_count file) r) in
          let l : file_end file ≤ length file = omega arith in
          rw (four, p, sixteen, q, counted h, r, le-ltb (length file) (file_end file) l, lt-ltb (file_end file) (length file) k)

  pub long_refused : (a b : ℕ) → read_of file a b ≡ Err (long_refusal file)
  unfolding read_of
  long_refused a b = ap (λ (g : Gate). sizes_by g (sizes_of file)) (read_stops file a b (long_refusal file) form_refused)

-- ---- the words in the front of a file

module _ (file : List ℕ) (k : ℕ) where
  front_word : (at : ℕ) → at + 4 ≤ k → word_at (take k file) at ≡ word_at file at
  unfolding word_at
  front_word at h =
      let a : at < k = omega arith in
      let b : at + 1 < k = omega arith in
      let c : at + 2 < k = omega arith in
      let d : at + 3 < k = omega arith in
      rw (get_or-take k file at 0 a, get_or-take k file (at + 1) 0 b, get_or-take k file (at + 2) 0 c, get_or-take k file (at + 3) 0 d)

  -- where the requests are too many, their count decides, whatever is read as the plan's
  front_refusal : 64020 < k → long_refusal (take k file) ≡ long_refusal file
  unfolding long_refusal
  front_refusal h =
      let zero : word_at (take k file) 0 ≡ word_at file 0 = front_word 0 (omega arith) in
      let twelve : request_count (take k file) ≡ request_count file = front_word 12 (omega arith) in
      rw (zero, twelve) (go (ltb request_limit (request_count file)) refl)
    where
      go : (b : Bool) → ltb request_limit (request_count file) ≡ b
          → refusal_by (word_at file 0) (request_count file) (word_at (take k file) (plan_place file)) ≡ refusal_by (word_at file 0) (request_count file) (plan_count file)
      go true q = rw q
      go false q =
          let r : request_count file ≤ request_limit = ltb-false request_limit (request_count file) q in
          ap (refusal_by (word_at file 0) (request_count file)) (front_word (plan_place file) (omega arith))

-- ---- the front is read as the whole file is

-- WHAT COMES BEHIND a front longer than every bundle changes nothing
pub reading_the_front : (file : List ℕ) (k a b : ℕ) → 64020 < k → k ≤ length file → read_of (take k file) a b ≡ read_of file a b
reading_the_front file k a b h l =
    let front : 64020 < length (take k file) = rw (length-take-le k file l) h in
    let whole : 64020 < length file = omega arith in
    long_refused (take k file) front a b ∙ ap Err (front_refusal file k h) ∙ sym (long_refused file whole a b)
