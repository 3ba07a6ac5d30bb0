-- Document 01, "Bundle file": "reading what it wrote gives the same values, and writing what was read gives the same bytes".
--
-- In order: the largest file; a written file is accepted with its values; a file that was read is written again.
-- Which files are accepted is proved in proofs/Accepted.antt, that a file has one reading in proofs/OneReading.antt.
-- Assumes nothing.
use Rattle.std.specs.Prelude.{Ok, Err}
use mathlib.Core.Path.{◌≡◌, refl, sym, ap, ap₂, ◌∙◌}
use mathlib.Core.Bool.{true, false}
use mathlib.Core.List.{List, [], ◌∷◌, ◌++◌, append-nil}
use Prim.Native.Nat.{ℕ, suc, ◌+◌, ◌*◌, ◌≤◌, ◌<◌}
use native.Mathlib.Omega.{arith}
use lib.Dec.{ltb}
use lib.ListN.{length, take, drop}
use lib.Seq.{take_at}
use borrow.Author.Tests.{le-ltb, ltb-false}
use Rattle.paging.specs.Calls.{frame_limit, request_limit, test, gate, outside, marked, trace_tests}
use Rattle.paging.specs.Refusals.{Gate}
use Rattle.paging.specs.declared.Refusal.TheVariants.{LentTooShort}
use Rattle.words.specs.Bytes.{word_at, words_at}
use Rattle.words.proofs.Bytes.{length_words}
use Rattle.reading.specs.Reading.{request_count, plan_place, plan_count, file_requests, file_plan, plan_fits, size_tests, sizes_of, read_of}
use Rattle.reading.specs.declared.Sizes.{Sizes}
use Rattle.reading.proofs.Chains.{passes, is_met, inside, first_open, OpenFile, open_file, file_opens, bundle_open}
use Rattle.bundle.specs.Bytes.{bytes_in}
use Rattle.bundle.specs.Reading.{requests_left, plan_left}
use Rattle.bundle.specs.Writing.{file_of, call_tests, write_tests, bytes_by, write_of, room_left}
use Rattle.bundle.specs.Accepted.{AllBelow}
use Rattle.bundle.proofs.Bytes.{length_bytes, bytes_append}
use Rattle.bundle.proofs.Chains.{read_done, length_file, call_requests, call_planned, write_done}
use Rattle.bundle.proofs.Back.{words_behind, words_back, bytes_back, words_append, file_words}

-- "The largest file is 64,020 bytes"
pub no_longer_file : (file : List ℕ) (a b : ℕ) (sizes : Sizes) → read_of file a b ≡ Ok sizes → length file ≤ 64020
no_longer_file file a b sizes e =
    let d : OpenFile file a b = open_file file a b (bundle_open file a b sizes e).0 in
    omega (arith, d.form.whole, d.form.requests, d.form.planned)

-- ---- reading what was written

heads : {a b c d p q r s : ℕ} {xs ys : List ℕ} → a ∷ b ∷ c ∷ d ∷ xs ≡ p ∷ q ∷ r ∷ s ∷ ys → (a ≡ p) × (b ≡ q) × (c ≡ r) × (d ≡ s) × (xs ≡ ys)
heads e = ((cc), (cc), (cc), (cc), (cc))

head_tail : {a p : ℕ} {xs ys : List ℕ} → a ∷ xs ≡ p ∷ ys → (a ≡ p) × (xs ≡ ys)
head_tail e = ((cc), (cc))

module _ (n m : ℕ) (trace plan : List ℕ) (o : gate (call_tests n m trace (length plan)) ≡ Ok tt) where
  outside_n : outside n ≡ false
  unfolding call_tests
  outside_n = passes (call_tests n m trace (length plan)) 0 o (omega arith)

  pub outside_m : outside m ≡ false
  unfolding call_tests
  outside_m = passes (call_tests n m trace (length plan)) 1 o (omega arith)

  pub m_below : ltb n m ≡ false
  unfolding call_tests
  m_below = passes (call_tests n m trace (length plan)) 2 o (omega arith)

  trace_unmarked : marked trace ≡ false
  unfolding call_tests
  trace_unmarked = passes (call_tests n m trace (length plan)) 5 o (omega arith)

  pub plan_fits_lem : plan_fits (length trace) (length plan) ≡ true
  unfolding call_tests
  plan_fits_lem = is_met _ (passes (call_tests n m trace (length plan)) 6 o (omega arith))

  small_sizes : (n < 4294967296) × (m < 4294967296)
  small_sizes =
      let h : n ≤ frame_limit = (inside n outside_n).1 in
      let k : m ≤ n = ltb-false n m m_below in
      (omega arith, omega arith)

  module _ (wt : AllBelow 4294967296 trace) (wp : AllBelow 4294967296 plan) where
    front_words : words_at (file_of n m trace plan) 0 (length (2 ∷ n ∷ m ∷ length trace ∷ trace)) ≡ 2 ∷ n ∷ m ∷ length trace ∷ trace
    front_words =
        let t : length trace ≤ request_limit = call_requests n m trace (length plan) o in
        let small : length trace < 4294967296 = omega arith in
        let two : 2 < 4294967296 = omega arith in
        rw (file_words n m trace plan)
        (words_back (2 ∷ n ∷ m ∷ length trace ∷ trace) (bytes_in (length plan ∷ plan)) (two, (small_sizes.0, (small_sizes.1, (small, wt)))))

    back_words : words_at (file_of n m trace plan) (16 + 4 * length trace) (length (length plan ∷ plan)) ≡ length plan ∷ plan
    back_words =
        let front : List ℕ = bytes_in (2 ∷ n ∷ m ∷ length trace ∷ trace) in
        let back : List ℕ = bytes_in (length plan ∷ plan) in
        let e : 16 + 4 * length trace ≡ length front + 0 = omega (arith, length_bytes (2 ∷ n ∷ m ∷ length trace ∷ trace)) in
        let small : length plan < 4294967296 = omega (arith, call_requests n m trace (length plan) o, call_planned n m trace (length plan) o) in
        ap₂ (λ (f : List ℕ) (k : ℕ). words_at f k (suc (length plan))) (file_words n m trace plan) e
        ∙ words_behind front back 0 (suc (length plan))
        ∙ ap (λ (f : List ℕ). words_at f 0 (suc (length plan))) (sym (append-nil back))
        ∙ words_back (length plan ∷ plan) [] (small, wp)

    -- what stands in a written file
    pub front_parts : (word_at (file_of n m trace plan) 0 ≡ 2) × (word_at (file_of n m trace plan) 4 ≡ n) × (word_at (file_of n m trace plan) 8 ≡ m)
        × (request_count (file_of n m trace plan) ≡ length trace) × (words_at (file_of n m trace plan) 16 (length trace) ≡ trace)
    unfolding words_at
    front_parts = heads front_words

    back_parts : (word_at (file_of n m trace plan) (16 + 4 * length trace) ≡ length plan) × (words_at (file_of n m trace plan) (16 + 4 * length trace + 4) (length plan) ≡ plan)
    unfolding words_at
    back_parts = head_tail back_words

    same_count : plan_count (file_of n m trace plan) ≡ length plan
    same_count = ap (λ (k : ℕ). word_at (file_of n m trace plan) (16 + 4 * k)) front_parts.3 ∙ back_parts.0

    pub same_requests : file_requests (file_of n m trace plan) ≡ trace
    unfolding file_requests
    same_requests = ap (words_at (file_of n m trace plan) 16) front_parts.3 ∙ front_parts.4

    pub same_plan : file_plan (file_of n m trace plan) ≡ plan
    unfolding file_plan
    same_plan = ap₂ (λ (t k : ℕ). words_at (file_of n m trace plan) (16 + 4 * t + 4) k) front_parts.3 same_count ∙ back_parts.1

    pub written_accepted : (a b : ℕ) → length trace ≤ a → length plan ≤ b → OpenFile (file_of n m trace plan) a b
    written_accepted a b ha hb =
        let t : request_count (file_of n m trace plan) ≡ length trace = front_parts.3 in
        let p : plan_count (file_of n m trace plan) ≡ length plan = same_count in
        let l : length (file_of n m trace plan) ≡ 16 + 4 * length trace + 4 + 4 * length plan = length_file n m trace plan in
        let r : length trace ≤ request_limit = call_requests n m trace (length plan) o in
        let k : length plan ≤ length trace = call_planned n m trace (length plan) o in
        record {
          form =
              record {
                sizes = front_parts.0;
                requests = omega arith;
                fits = ap₂ plan_fits t p ∙ plan_fits_lem;
                planned = omega arith;
                whole = omega arith;
              };
          frames = ap outside front_parts.1 ∙ outside_n;
          plan_frames = ap outside front_parts.2 ∙ outside_m;
          above = ap₂ ltb front_parts.1 front_parts.2 ∙ m_below;
          unmarked = ap marked same_requests ∙ trace_unmarked;
          room = omega arith;
          plan_room = omega arith;
        }

    pub written_sizes : sizes_of (file_of n m trace plan) ≡ record { n = n; m = m; requests = length trace; planned = length plan }
    written_sizes = rw (front_parts.1, front_parts.2, front_parts.3, back_parts.0)

    read_back : (requests lent : List ℕ) → length trace ≤ length requests → length plan ≤ length lent
        → (read_of (file_of n m trace plan) (length requests) (length lent) ≡ Ok (record { n = n; m = m; requests = length trace; planned = length plan }))
        × (requests_left (file_of n m trace plan) requests (length lent) ≡ trace ++ drop (length trace) requests)
        × (plan_left (file_of n m trace plan) (length requests) lent ≡ plan ++ drop (length plan) lent)
    unfolding file_requests file_plan
    read_back requests lent ha hb =
        let g = file_opens (file_of n m trace plan) (length requests) (length lent) (written_accepted (length requests) (length lent) ha hb) in
        let d = read_done (file_of n m trace plan) requests lent g in (
          sym d.0 ∙ ap Ok written_sizes,
          sym d.1 ∙ ap₂ (λ (ws : List ℕ) (t : ℕ). ws ++ drop t requests) same_requests front_parts.3,
          sym d.2 ∙ ap₂ (λ (ws : List ℕ) (t : ℕ). ws ++ drop t lent) same_plan same_count,
        )

-- an answer with bytes comes through an open gate, and they are the file's
bytes_open : (n m k : ℕ) (trace plan : List ℕ) (room : ℕ) → write_of n m trace plan room ≡ Ok k
    → (gate (write_tests n m trace plan room) ≡ Ok tt) × (length (file_of n m trace plan) ≡ k)
unfolding write_of
bytes_open n m k trace plan room e = go (gate (write_tests n m trace plan room)) refl e
  where
    go : (g : Gate) → gate (write_tests n m trace plan room) ≡ g → bytes_by g (length (file_of n m trace plan)) ≡ Ok k
        → (gate (write_tests n m trace plan room) ≡ Ok tt) × (length (file_of n m trace plan) ≡ k)
    go (Ok tt) q e = (q, cc)
    go (Err refusal) q e = absurd (let z : ◌≡◌ {A = ℕ} 0 1 = cc in omega arith)

-- where a writing is not refused, the call is in order and the room is large enough
room_open : (n m : ℕ) (trace plan : List ℕ) (room : ℕ) → gate (write_tests n m trace plan room) ≡ Ok tt
    → (gate (call_tests n m trace (length plan)) ≡ Ok tt) × (length (file_of n m trace plan) ≤ room)
unfolding write_tests
room_open n m trace plan room o = (
  first_open (call_tests n m trace (length plan)) (test (ltb room (length (file_of n m trace plan))) LentTooShort ∷ []) o,
  ltb-false room (length (file_of n m trace plan)) (passes (write_tests n m trace plan room) 7 o (omega arith)),
)

-- where a writing is not refused, the call is in order and the first k bytes of the room are its file
pub written_file : (n m k : ℕ) (trace plan room file : List ℕ) → write_of n m trace plan (length room) ≡ Ok k → take k (room_left n m trace plan room) ≡ file
    → (gate (call_tests n m trace (length plan)) ≡ Ok tt) × (file ≡ file_of n m trace plan)
written_file n m k trace plan room file e f =
    let (g, l) = bytes_open n m k trace plan (length room) e in
    let (o, h) = room_open n m trace plan (length room) g in (
      o,
      sym f
          ∙ ap (take k) (sym (write_done n m trace plan room o h).1)
          ∙ take_at (file_of n m trace plan) (drop (length (file_of n m trace plan)) room) k l,
    )

-- "reading what it wrote gives the same values": the first k bytes of the room, for words of 32 bits and lists with room for both sections
pub reading_what_was_written : (n m k : ℕ) (trace plan room file requests lent : List ℕ) → AllBelow 4294967296 trace → AllBelow 4294967296 plan
    → write_of n m trace plan (length room) ≡ Ok k → take k (room_left n m trace plan room) ≡ file
    → length trace ≤ length requests → length plan ≤ length lent
    → (read_of file (length requests) (length lent) ≡ Ok (record { n = n; m = m; requests = length trace; planned = length plan }))
    × (requests_left file requests (length lent) ≡ trace ++ drop (length trace) requests)
    × (plan_left file (length requests) lent ≡ plan ++ drop (length plan) lent)
reading_what_was_written n m k trace plan room file requests lent wt wp e f ha hb =
    let (o, same) = written_file n m k trace plan room file e f in rw same (read_back n m trace plan o wt wp requests lent ha hb)

-- ---- writing what was read

module _ (file : List ℕ) (a b : ℕ) (d : OpenFile file a b) where
  pub again_open : gate (call_tests (word_at file 4) (word_at file 8) (file_requests file) (length (file_plan file))) ≡ Ok tt
  unfolding gate call_tests size_tests trace_tests file_requests file_plan
  again_open =
      let t : length (file_requests file) ≡ request_count file = length_words file 16 (request_count file) in
      let p : length (file_plan file) ≡ plan_count file = length_words file (plan_place file + 4) (plan_count file) in
      let r : length (file_requests file) ≤ request_limit = rw t d.form.requests in
      let f : plan_fits (length (file_requests file)) (length (file_plan file)) ≡ true = ap₂ plan_fits t p ∙ d.form.fits in
      rw (d.frames, d.plan_frames, d.above, le-ltb request_limit (length (file_requests file)) r, d.unmarked, f)

  all_words : word_at file 0 ∷ word_at file 4 ∷ word_at file 8 ∷ request_count file ∷ file_requests file ++ (plan_count file ∷ file_plan file)
      ≡ words_at file 0 (suc (suc (suc (suc (request_count file)))) + suc (plan_count file))
  unfolding words_at file_requests file_plan
  all_words =
      let e : plan_place file ≡ 0 + 4 * suc (suc (suc (suc (request_count file)))) = omega arith in
      ap (λ (k : ℕ). words_at file 0 (suc (suc (suc (suc (request_count file))))) ++ words_at file k (suc (plan_count file))) e
      ∙ sym (words_append file 0 (suc (suc (suc (suc (request_count file))))) (suc (plan_count file)))

  pub same_bytes : AllBelow 256 file → file_of (word_at file 4) (word_at file 8) (file_requests file) (file_plan file) ≡ file
  unfolding file_requests file_plan
  same_bytes s =
      let l : length file ≡ 4 * (suc (suc (suc (suc (request_count file)))) + suc (plan_count file)) = omega (arith, d.form.whole) in
      file_words (word_at file 4) (word_at file 8) (file_requests file) (file_plan file)
      ∙ ap₂ (λ (i j : ℕ). bytes_in (2 ∷ word_at file 4 ∷ word_at file 8 ∷ i ∷ file_requests file) ++ bytes_in (j ∷ file_plan file))
      (length_words file 16 (request_count file))
      (length_words file (plan_place file + 4) (plan_count file))
      ∙ ap (λ (z : ℕ). bytes_in (z ∷ word_at file 4 ∷ word_at file 8 ∷ request_count file ∷ file_requests file) ++ bytes_in (plan_count file ∷ file_plan file)) (sym d.form.sizes)
      ∙ sym (bytes_append (word_at file 0 ∷ word_at file 4 ∷ word_at file 8 ∷ request_count file ∷ file_requests file) (plan_count file ∷ file_plan file))
      ∙ ap bytes_in all_words
      ∙ bytes_back (suc (suc (suc (suc (request_count file)))) + suc (plan_count file)) file s l

-- where a reading is not refused, the sizes are the file's, and so are the words in front of both lists
pub read_words_lem : (file requests lent : List ℕ) (sizes : Sizes) → read_of file (length requests) (length lent) ≡ Ok sizes
    → (sizes_of file ≡ sizes)
    × (take sizes.requests (requests_left file requests (length lent)) ≡ file_requests file)
    × (take sizes.planned (plan_left file (length requests) lent) ≡ file_plan file)
unfolding file_requests file_plan
read_words_lem file requests lent sizes e =
    let (o, z) = bundle_open file (length requests) (length lent) sizes e in
    let done = read_done file requests lent o in (
      z,
      ap (λ (y : Sizes). take y.requests (requests_left file requests (length lent))) (sym z)
          ∙ ap (take (request_count file)) (sym done.1)
          ∙ take_at (words_at file 16 (request_count file)) (drop (request_count file) requests) (request_count file) (length_words file 16 (request_count file)),
      ap (λ (y : Sizes). take y.planned (plan_left file (length requests) lent)) (sym z)
          ∙ ap (take (plan_count file)) (sym done.2)
          ∙ take_at (words_at file (plan_place file + 4) (plan_count file)) (drop (plan_count file) lent) (plan_count file) (length_words file (plan_place file + 4) (plan_count file)),
    )

-- "writing what was read gives the same bytes": for every accepted file, its values written into a room that is large enough
pub writing_what_was_read : (file requests lent room : List ℕ) (sizes : Sizes) (trace plan : List ℕ) → AllBelow 256 file
    → read_of file (length requests) (length lent) ≡ Ok sizes
    → take sizes.requests (requests_left file requests (length lent)) ≡ trace
    → take sizes.planned (plan_left file (length requests) lent) ≡ plan
    → length file ≤ length room
    → (write_of sizes.n sizes.m trace plan (length room) ≡ Ok (length file))
    × (room_left sizes.n sizes.m trace plan room ≡ file ++ drop (length file) room)
writing_what_was_read file requests lent room sizes trace plan s e f g h =
    let d = open_file file (length requests) (length lent) (bundle_open file (length requests) (length lent) sizes e).0 in
    let (z, there, then) = read_words_lem file requests lent sizes e in
    let t : trace ≡ file_requests file = sym f ∙ there in
    let p : plan ≡ file_plan file = sym g ∙ then in
    let same = same_bytes file (length requests) (length lent) d s in
    let w =
    write_done (word_at file 4) (word_at file 8) (file_requests file) (file_plan file) room (again_open file (length requests) (length lent) d)
    (rw (ap length same) h)
    in
    rw (← z, t, p) (
      sym w.0 ∙ ap (λ (x : List ℕ). Ok (length x)) same,
      sym w.1 ∙ ap (λ (x : List ℕ). x ++ drop (length x) room) same,
    )
