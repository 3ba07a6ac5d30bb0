-- Document 01, "Bundle file": which files are accepted, and which values a writing takes.
-- Assumes nothing.
use Rattle.std.specs.Prelude.{Ok}
use mathlib.Core.Path.{◌≡◌, sym, ap, ap₂, subst, ◌∙◌}
use mathlib.Core.Bool.{true}
use mathlib.Core.Logic.{◌↔◌}
use mathlib.Core.List.{List}
use Prim.Native.Nat.{ℕ, ◌+◌, ◌≤◌}
use native.Mathlib.Omega.{arith}
use lib.ListN.{length}
use borrow.Author.Tests.{le-ltb, ltb-false}
use Rattle.paging.specs.Calls.{frame_limit, gate, trace_tests}
use Rattle.calls.proofs.Chain.{trace_open}
use Rattle.words.proofs.Bytes.{length_words}
use Rattle.reading.specs.Reading.{request_count, plan_place, plan_count, file_requests, file_plan, plan_fits, size_tests, sizes_of, read_of}
use Rattle.reading.specs.declared.Sizes.{Sizes}
use Rattle.reading.proofs.Chains.{inside, fits_either, either_fits, open_file, file_opens, read_open, bundle_open}
use Rattle.bundle.specs.Writing.{file_of, call_tests}
use Rattle.bundle.specs.Accepted.{AllBelow, ValuesInOrder, AcceptedFile}
use Rattle.bundle.proofs.Chains.{call_trace, call_opens}
use Rattle.bundle.proofs.Back.{words_small}
use Rattle.bundle.proofs.Laws.{outside_m, m_below, plan_fits_lem, written_accepted, written_sizes, again_open, same_bytes}

module _ (n m : ℕ) (trace plan : List ℕ) where
  sizes_open : ValuesInOrder n m trace plan → gate (size_tests n m 0 0) ≡ Ok tt
  unfolding gate size_tests
  sizes_open v =
      let few : m ≤ frame_limit = omega (arith, v.plan_frames, v.call.frames) in
      rw (le-ltb n 1 v.call.one_frame, le-ltb frame_limit n v.call.frames, le-ltb m 1 v.one_frame, le-ltb frame_limit m few, le-ltb n m v.plan_frames)

  -- 2, 12, 3, 4 and 10 of a writing are given exactly when the values are not in order
  pub call_in_order : (gate (call_tests n m trace (length plan)) ≡ Ok tt) ↔ ValuesInOrder n m trace plan
  call_in_order = (there, back)
    where
      there : gate (call_tests n m trace (length plan)) ≡ Ok tt → ValuesInOrder n m trace plan
      there o =
          record {
            call = (trace_open n trace).0 (call_trace n m trace (length plan) o);
            one_frame = (inside m (outside_m n m trace plan o)).0;
            plan_frames = ltb-false n m (m_below n m trace plan o);
            planned = fits_either (length trace) (length plan) (plan_fits_lem n m trace plan o);
          }

      back : ValuesInOrder n m trace plan → gate (call_tests n m trace (length plan)) ≡ Ok tt
      back v =
          let t : gate (trace_tests n trace) ≡ Ok tt = (trace_open n trace).1 v.call in
          let f : plan_fits (length trace) (length plan) ≡ true = either_fits (length trace) (length plan) v.planned in
          call_opens n m trace (length plan) (sizes_open v) t f

-- A FILE IS ACCEPTED, with these sizes, exactly when its bytes are the file of values in order and both lists have room
pub accepted_file : (file : List ℕ) (a b : ℕ) (sizes : Sizes) → AllBelow 256 file → (read_of file a b ≡ Ok sizes) ↔ AcceptedFile file a b sizes
unfolding file_requests file_plan
accepted_file file a b sizes s = (there, back)
  where
    there : read_of file a b ≡ Ok sizes → AcceptedFile file a b sizes
    there e =
        let (o, z) = bundle_open file a b sizes e in
        let d = open_file file a b o in
        let t : length (file_requests file) ≡ request_count file = length_words file 16 (request_count file) in
        let p : length (file_plan file) ≡ plan_count file = length_words file (plan_place file + 4) (plan_count file) in
        subst (λ (y : Sizes). AcceptedFile file a b y) z
        (record {
          trace = file_requests file;
          plan = file_plan file;
          in_order = (call_in_order _ _ _ _).0 (again_open file a b d);
          words = (words_small file s 16 (request_count file), words_small file s (plan_place file + 4) (plan_count file));
          bytes = sym (same_bytes file a b d s);
          requests = sym t;
          planned = sym p;
          room = omega (arith, t, d.room);
          plan_room = omega (arith, p, d.plan_room);
        })

    back : AcceptedFile file a b sizes → read_of file a b ≡ Ok sizes
    back f =
        let o = (call_in_order sizes.n sizes.m f.trace f.plan).1 f.in_order in
        let made = written_accepted sizes.n sizes.m f.trace f.plan o f.words.0 f.words.1 a b f.room f.plan_room in
        let same : sizes_of (file_of sizes.n sizes.m f.trace f.plan) ≡ sizes =
        written_sizes sizes.n sizes.m f.trace f.plan o f.words.0 f.words.1
        ∙ ap₂ (λ (t p : ℕ). record { n = sizes.n; m = sizes.m; requests = t; planned = p }) (sym f.requests) (sym f.planned)
        in
        ap (λ (bytes : List ℕ). read_of bytes a b) f.bytes
        ∙ read_open (file_of sizes.n sizes.m f.trace f.plan) a b (file_opens _ a b made)
        ∙ ap Ok same
