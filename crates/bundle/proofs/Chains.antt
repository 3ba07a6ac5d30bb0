-- Laws of reading and writing by the gate: what each leaves, and what an open gate says of a call.
-- Assumes nothing.
use Rattle.std.specs.Prelude.{Ok, Err}
use borrow.Rule.Slice.PartMut.{mid_of, put_mid}
use mathlib.Core.Path.{◌≡◌, refl, sym, ap, subst, ◌∙◌}
use mathlib.Core.Bool.{Bool, true, false}
use mathlib.Core.List.{List, [], ◌∷◌, ◌++◌}
use Prim.Native.Nat.{ℕ, ◌+◌, ◌*◌, ◌-◌, ◌≤◌, ◌<◌}
use native.Mathlib.Omega.{arith}
use lib.Dec.{ltb}
use lib.ListN.{length, drop, length-append}
use borrow.Author.Tests.{lt-ltb, le-ltb, ltb-false}
use Rattle.paging.specs.Lists.{pick, not}
use Rattle.paging.specs.Calls.{request_limit, Test, test, gate, trace_tests}
use Rattle.paging.specs.Services.{laid, left_by}
use Rattle.paging.specs.Refusals.{Gate}
use Rattle.paging.specs.declared.Refusal.{Refusal}
use Rattle.paging.specs.declared.Refusal.TheVariants.{LentTooShort, CountNotAllowed}
use Rattle.paging.proofs.Writing.{laid_whole}
use Rattle.words.specs.Bytes.{words_at}
use Rattle.words.specs.Places.{section_over}
use Rattle.words.proofs.Places.{over_whole}
use Rattle.reading.specs.Reading.{request_count, plan_place, plan_count, file_end, file_requests, file_plan, plan_fits, size_tests, read_tests, sizes_of, sizes_by, read_of}
use Rattle.reading.specs.declared.Sizes.{Sizes}
use Rattle.reading.proofs.Chains.{refused_gate, fits_small, passes, is_met, stops, goes_on, stops_first, stops_second, goes_to_third, first_open, open_file, bundle_open}
use Rattle.bundle.specs.Bytes.{section}
use Rattle.bundle.specs.Reading.{requests_left, plan_left}
use Rattle.bundle.specs.Writing.{file_of, call_tests, write_tests, bytes_by, write_of, room_left}
use Rattle.bundle.proofs.Bytes.{length_section, laid_words, laid_behind}

-- ---- a reading

module _ (file requests plan : List ℕ) where
  pub read_refused : (refusal : Refusal) → gate (read_tests file (length requests) (length plan)) ≡ Err refusal
      → (requests ≡ requests_left file requests (length plan)) × (plan ≡ plan_left file (length requests) plan)
  unfolding requests_left plan_left
  read_refused refusal e = (sym (ap (λ (g : Gate). left_by g (file_requests file) requests) e), sym (ap (λ (g : Gate). left_by g (file_plan file) plan) e))

  pub read_done : gate (read_tests file (length requests) (length plan)) ≡ Ok tt
      → (Ok (sizes_of file) ≡ read_of file (length requests) (length plan))
      × (words_at file 16 (request_count file) ++ drop (request_count file) requests ≡ requests_left file requests (length plan))
      × (words_at file (plan_place file + 4) (plan_count file) ++ drop (plan_count file) plan ≡ plan_left file (length requests) plan)
  unfolding read_of requests_left plan_left file_requests file_plan
  read_done o =
      let d = open_file file (length requests) (length plan) o in (
        sym (ap (λ (g : Gate). sizes_by g (sizes_of file)) o),
        sym (ap (λ (g : Gate). left_by g (file_requests file) requests) o ∙ laid_words file 16 (request_count file) requests d.room),
        sym (ap (λ (g : Gate). left_by g (file_plan file) plan) o ∙ laid_words file (plan_place file + 4) (plan_count file) plan d.plan_room),
      )

  -- where a reading answers sizes, copying so many words of both sections gives what it leaves
  pub sections_read : (sizes : Sizes) → read_of file (length requests) (length plan) ≡ Ok sizes
      → (section_over file 16 sizes.requests requests ≡ requests_left file requests (length plan))
      × (section_over file (16 + 4 * sizes.requests + 4) sizes.planned plan ≡ plan_left file (length requests) plan)
  sections_read sizes e =
      let (o, z) = bundle_open file (length requests) (length plan) sizes e in
      let d = open_file file (length requests) (length plan) o in
      let left = read_done o in
      let whole : length file ≡ file_end file = d.form.whole in
      let front : 16 + 4 * request_count file ≤ length file = omega arith in
      let back : plan_place file + 4 + 4 * plan_count file ≤ length file = omega arith in
      subst
      (λ (y : Sizes). (section_over file 16 y.requests requests ≡ requests_left file requests (length plan))
      × (section_over file (16 + 4 * y.requests + 4) y.planned plan ≡ plan_left file (length requests) plan))
      z (
        over_whole file 16 (request_count file) requests front d.room ∙ left.1,
        over_whole file (plan_place file + 4) (plan_count file) plan back d.plan_room ∙ left.2,
      )

module _ (file requests plan : List ℕ) (refusal : Refusal) (e : read_of file (length requests) (length plan) ≡ Err refusal) where
  refused_both : (requests ≡ requests_left file requests (length plan)) × (plan ≡ plan_left file (length requests) plan)
  refused_both = read_refused file requests plan refusal (refused_gate file (length requests) (length plan) refusal e)

  pub requests_stay : requests_left file requests (length plan) ≡ requests
  requests_stay = sym refused_both.0

  pub plan_stays : plan_left file (length requests) plan ≡ plan
  plan_stays = sym refused_both.1

module _ (file requests plan : List ℕ) (sizes : Sizes) (e : read_of file (length requests) (length plan) ≡ Ok sizes) where
  pub requests_read : section_over file 16 sizes.requests requests ≡ requests_left file requests (length plan)
  requests_read = (sections_read file requests plan sizes e).0

  pub plan_read : section_over file (16 + 4 * sizes.requests + 4) sizes.planned plan ≡ plan_left file (length requests) plan
  plan_read = (sections_read file requests plan sizes e).1

pub ruleset read_steps = (requests_stay, plan_stays, requests_read, plan_read)

-- ---- a writing

pub length_file : (n m : ℕ) (trace plan : List ℕ) → length (file_of n m trace plan) ≡ 16 + 4 * length trace + 4 + 4 * length plan
unfolding file_of
length_file n m trace plan =
    omega (
      arith,
      length-append (section (n ∷ m ∷ []) ++ section trace) (section plan),
      length-append (section (n ∷ m ∷ [])) (section trace),
      length_section (n ∷ m ∷ []),
      length_section trace,
      length_section plan,
    )

module _ (n m : ℕ) (trace : List ℕ) (planned : ℕ) where
  abbrev count_part : List Test
  count_part = test (not (plan_fits (length trace) planned)) (CountNotAllowed 0) ∷ []

  pub call_sizes_stop : (refusal : Refusal) → gate (size_tests n m 0 0) ≡ Err refusal → gate (call_tests n m trace planned) ≡ Err refusal
  unfolding call_tests
  call_sizes_stop refusal e = sym (stops_first (size_tests n m 0 0) (trace_tests n trace) count_part refusal e)

  pub call_trace_stops : (refusal : Refusal) → gate (size_tests n m 0 0) ≡ Ok tt → gate (trace_tests n trace) ≡ Err refusal
      → gate (call_tests n m trace planned) ≡ Err refusal
  unfolding call_tests
  call_trace_stops refusal e f = sym (stops_second (size_tests n m 0 0) (trace_tests n trace) count_part refusal e f)

  module _ (e : gate (size_tests n m 0 0) ≡ Ok tt) (f : gate (trace_tests n trace) ≡ Ok tt) where
    by_count : (b : Bool) → plan_fits (length trace) planned ≡ b → gate (call_tests n m trace planned) ≡ pick {A = Gate} (not b) (Err (CountNotAllowed 0)) (Ok tt)
    unfolding gate call_tests
    by_count b q =
        sym (goes_to_third (size_tests n m 0 0) (trace_tests n trace) count_part e f)
        ∙ ap (λ (x : Bool). pick {A = Gate} (not x) (Err (CountNotAllowed 0)) (Ok tt)) q

    pub call_counted : plan_fits (length trace) planned ≡ false → gate (call_tests n m trace planned) ≡ Err (CountNotAllowed 0)
    call_counted q = by_count false q

    pub call_opens : plan_fits (length trace) planned ≡ true → gate (call_tests n m trace planned) ≡ Ok tt
    call_opens q = by_count true q

  module _ (o : gate (call_tests n m trace planned) ≡ Ok tt) where
    pub call_trace : gate (trace_tests n trace) ≡ Ok tt
    unfolding call_tests
    call_trace =
        let both : gate (size_tests n m 0 0 ++ trace_tests n trace) ≡ Ok tt = first_open (size_tests n m 0 0 ++ trace_tests n trace) count_part o in
        goes_on (size_tests n m 0 0) (trace_tests n trace) (first_open (size_tests n m 0 0) (trace_tests n trace) both) ∙ both

    pub call_requests : length trace ≤ request_limit
    unfolding call_tests
    call_requests = ltb-false request_limit (length trace) (passes (call_tests n m trace planned) 4 o (omega arith))

    pub call_planned : planned ≤ length trace
    unfolding call_tests
    call_planned = fits_small (length trace) planned (is_met _ (passes (call_tests n m trace planned) 6 o (omega arith)))

pub ruleset call_steps = (call_sizes_stop, call_trace_stops, call_counted, call_opens)

module _ (n m : ℕ) (trace plan room : List ℕ) where
  abbrev room_part : List Test
  room_part = test (ltb (length room) (length (file_of n m trace plan))) LentTooShort ∷ []

  -- a refused writing leaves the room as it was
  refused_by : (refusal : Refusal) → gate (write_tests n m trace plan (length room)) ≡ Err refusal
      → (Err refusal ≡ write_of n m trace plan (length room)) × (room ≡ room_left n m trace plan room)
  unfolding write_of room_left
  refused_by refusal e = (
    sym (ap (λ (g : Gate). bytes_by g (length (file_of n m trace plan))) e),
    sym (ap (λ (g : Gate). left_by g (file_of n m trace plan) room) e),
  )

  pub write_refused : (refusal : Refusal) → gate (call_tests n m trace (length plan)) ≡ Err refusal
      → (Err refusal ≡ write_of n m trace plan (length room)) × (room ≡ room_left n m trace plan room)
  unfolding write_tests
  write_refused refusal e = refused_by refusal (sym (stops (call_tests n m trace (length plan)) room_part refusal e))

  module _ (o : gate (call_tests n m trace (length plan)) ≡ Ok tt) where
    pub write_short : length room < length (file_of n m trace plan)
        → (Err LentTooShort ≡ write_of n m trace plan (length room)) × (room ≡ room_left n m trace plan room)
    unfolding gate write_tests
    write_short h = refused_by LentTooShort (sym (goes_on (call_tests n m trace (length plan)) room_part o) ∙ rw (lt-ltb _ _ h))

    pub write_done : length (file_of n m trace plan) ≤ length room
        → (Ok (length (file_of n m trace plan)) ≡ write_of n m trace plan (length room))
        × (file_of n m trace plan ++ drop (length (file_of n m trace plan)) room ≡ room_left n m trace plan room)
    unfolding gate write_tests write_of room_left
    write_done h =
        let e : gate (write_tests n m trace plan (length room)) ≡ Ok tt =
        sym (goes_on (call_tests n m trace (length plan)) room_part o) ∙ rw (le-ltb _ _ h)
        in (
          sym (ap (λ (g : Gate). bytes_by g (length (file_of n m trace plan))) e),
          sym (ap (λ (g : Gate). left_by g (file_of n m trace plan) room) e ∙ laid_whole (file_of n m trace plan) room h),
        )

  -- three sections one behind the other are the file; r and q are the room after one and after two of them
  pub three_sections : (r new q last : List ℕ) → length (file_of n m trace plan) ≤ length room → r ≡ laid (section (n ∷ m ∷ [])) room
      → new ≡ laid (section trace) (mid_of 12 (length r - 12) r) → q ≡ put_mid 12 (length r - 12) r new
      → last ≡ laid (section plan) (mid_of (16 + 4 * length trace) (length q - (16 + 4 * length trace)) q)
      → put_mid (16 + 4 * length trace) (length q - (16 + 4 * length trace)) q last ≡ laid (file_of n m trace plan) room
  unfolding file_of
  three_sections r new q last h one two is three =
      let sizes = n ∷ m ∷ [] in
      let l = length_file n m trace plan in
      let a : 12 ≡ length (section sizes) = omega (arith, length_section sizes) in
      let b : 16 + 4 * length trace ≡ length (section sizes ++ section trace) =
      omega (arith, length-append (section sizes) (section trace), length_section sizes, length_section trace)
      in
      let d : 12 + length (section trace) ≤ length room = omega (arith, length_section trace) in
      let e : 16 + 4 * length trace + length (section plan) ≤ length room = omega (arith, length_section plan) in
      laid_behind (16 + 4 * length trace) (section sizes ++ section trace) (section plan) room q last b e (is ∙ laid_behind 12 (section sizes) (section trace) room r new a d one two) three

-- ---- what `write` asks for, goal by goal

module _ (n m : ℕ) (trace plan room : List ℕ) where
  pub refused_answer : (refusal : Refusal) → gate (call_tests n m trace (length plan)) ≡ Err refusal → write_of n m trace plan (length room) ≡ Err refusal
  refused_answer refusal e = sym (write_refused n m trace plan room refusal e).0

  pub refused_room : (refusal : Refusal) → gate (call_tests n m trace (length plan)) ≡ Err refusal → room_left n m trace plan room ≡ room
  refused_room refusal e = sym (write_refused n m trace plan room refusal e).1

  module _ (o : gate (call_tests n m trace (length plan)) ≡ Ok tt) where
    pub short_answer : length room < 16 + 4 * length trace + 4 + 4 * length plan → write_of n m trace plan (length room) ≡ Err LentTooShort
    short_answer h = sym (write_short n m trace plan room o (omega (arith, length_file n m trace plan))).0

    pub short_room : length room < 16 + 4 * length trace + 4 + 4 * length plan → room_left n m trace plan room ≡ room
    short_room h = sym (write_short n m trace plan room o (omega (arith, length_file n m trace plan))).1

    module _ (h : 16 + 4 * length trace + 4 + 4 * length plan ≤ length room) where
      pub done_answer : write_of n m trace plan (length room) ≡ Ok (16 + 4 * length trace + 4 + 4 * length plan)
      done_answer = sym (write_done n m trace plan room o (omega (arith, length_file n m trace plan))).0 ∙ ap Ok (length_file n m trace plan)

      pub done_room : (r new last : List ℕ) → r ≡ laid (section (n ∷ m ∷ [])) room → new ≡ laid (section trace) (mid_of 12 (length r - 12) r)
          → last ≡ laid (section plan) (mid_of (16 + 4 * length trace) (length (put_mid 12 (length r - 12) r new) - (16 + 4 * length trace)) (put_mid 12 (length r - 12) r new))
          → put_mid (16 + 4 * length trace) (length (put_mid 12 (length r - 12) r new) - (16 + 4 * length trace)) (put_mid 12 (length r - 12) r new) last ≡ room_left n m trace plan room
      done_room r new last one two three =
          let whole : length (file_of n m trace plan) ≤ length room = omega (arith, length_file n m trace plan) in
          three_sections n m trace plan room r new (put_mid 12 (length r - 12) r new) last whole one two refl three
          ∙ laid_whole (file_of n m trace plan) room whole
          ∙ (write_done n m trace plan room o whole).1

pub ruleset write_steps = (call_requests, call_planned, refused_answer, refused_room, short_answer, short_room, done_answer, done_room)
