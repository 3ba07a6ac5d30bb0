-- A file has one reading: only one n, m, trace and plan make it, and what reading it answers and copies is the same whatever was lent, apart from refusal 6.
--
-- In order: two writings that make the same file; two readings of one file.
-- Assumes nothing.
use Rattle.std.specs.Prelude.{Ok, Err}
use mathlib.Core.Path.{◌≡◌, refl, sym, ap, subst, ◌∙◌}
use mathlib.Core.Bool.{Bool, true, false}
use mathlib.Core.List.{List, [], ◌∷◌, ◌++◌}
use Prim.Native.Nat.{ℕ, ◌≤◌}
use lib.Dec.{ltb}
use lib.ListN.{length, take}
use Rattle.paging.specs.Calls.{Test, test, gate}
use Rattle.paging.specs.Refusals.{Gate}
use Rattle.paging.specs.declared.Refusal.TheVariants.{LentTooShort}
use Rattle.calls.specs.Chain.{and_then}
use Rattle.calls.proofs.Chain.{gate_append}
use Rattle.words.specs.Bytes.{word_at}
use Rattle.reading.specs.Reading.{request_count, plan_count, file_requests, file_plan, form_tests, value_tests, read_tests, sizes_of, sizes_by, read_of}
use Rattle.reading.specs.declared.Sizes.{Sizes}
use Rattle.reading.proofs.Chains.{OpenFile, open_file, file_opens, bundle_open}
use Rattle.bundle.specs.Reading.{requests_left, plan_left}
use Rattle.bundle.specs.Writing.{file_of, call_tests, write_of, room_left}
use Rattle.bundle.specs.Accepted.{AllBelow}
use Rattle.bundle.proofs.Chains.{read_done}
use Rattle.bundle.proofs.Laws.{front_parts, same_requests, same_plan, written_file, read_words_lem}

-- ---- two writings that make the same file

-- TWO CALLS IN ORDER that make the same file are of the same values
pub one_bundle : (n m n' m' : ℕ) (trace plan trace' plan' : List ℕ)
    → gate (call_tests n m trace (length plan)) ≡ Ok tt → AllBelow 4294967296 trace → AllBelow 4294967296 plan
    → gate (call_tests n' m' trace' (length plan')) ≡ Ok tt → AllBelow 4294967296 trace' → AllBelow 4294967296 plan'
    → file_of n m trace plan ≡ file_of n' m' trace' plan'
    → (n ≡ n') × (m ≡ m') × (trace ≡ trace') × (plan ≡ plan')
one_bundle n m n' m' trace plan trace' plan' o wt wp o' wt' wp' e =
    let a = front_parts n m trace plan o wt wp in
    let b = front_parts n' m' trace' plan' o' wt' wp' in (
      sym a.1 ∙ ap (λ (f : List ℕ). word_at f 4) e ∙ b.1,
      sym a.2 ∙ ap (λ (f : List ℕ). word_at f 8) e ∙ b.2,
      sym (same_requests n m trace plan o wt wp) ∙ ap file_requests e ∙ same_requests n' m' trace' plan' o' wt' wp',
      sym (same_plan n m trace plan o wt wp) ∙ ap file_plan e ∙ same_plan n' m' trace' plan' o' wt' wp',
    )

-- so are two writings that are not refused and leave the same bytes
pub one_writing : (n m k n' m' k' : ℕ) (trace plan room trace' plan' room' file : List ℕ)
    → AllBelow 4294967296 trace → AllBelow 4294967296 plan → AllBelow 4294967296 trace' → AllBelow 4294967296 plan'
    → write_of n m trace plan (length room) ≡ Ok k → take k (room_left n m trace plan room) ≡ file
    → write_of n' m' trace' plan' (length room') ≡ Ok k' → take k' (room_left n' m' trace' plan' room') ≡ file
    → (n ≡ n') × (m ≡ m') × (trace ≡ trace') × (plan ≡ plan')
one_writing n m k n' m' k' trace plan room trace' plan' room' file wt wp wt' wp' e f e' f' =
    let (o, same) = written_file n m k trace plan room file e f in
    let (o', same') = written_file n' m' k' trace' plan' room' file e' f' in
    one_bundle n m n' m' trace plan trace' plan' o wt wp o' wt' wp' (sym same ∙ same')

-- ---- two readings of one file

-- both tests of 6
abbrev lent_twice : Bool → Bool → List Test
lent_twice x y = test x LentTooShort ∷ test y LentTooShort ∷ []

-- an answer other than refusal 6 is that of the tests before it, which know nothing of what was lent
before_six : (file : List ℕ) (a b : ℕ) → (read_of file a b ≡ Err LentTooShort → ⊥)
    → read_of file a b ≡ sizes_by (gate (form_tests file ++ value_tests file)) (sizes_of file)
unfolding read_of read_tests gate
before_six file a b other =
    let e = ap (λ (g : Gate). sizes_by g (sizes_of file)) (gate_append (form_tests file ++ value_tests file) (lent_twice (ltb a (request_count file)) (ltb b (plan_count file)))) in
    e ∙ go (gate (form_tests file ++ value_tests file)) (ltb a (request_count file)) (ltb b (plan_count file)) (λ q. other (e ∙ q))
  where
    go : (g : Gate) (x y : Bool) → (sizes_by (and_then g (gate (lent_twice x y))) (sizes_of file) ≡ Err LentTooShort → ⊥)
        → sizes_by (and_then g (gate (lent_twice x y))) (sizes_of file) ≡ sizes_by g (sizes_of file)
    go (Ok tt) true y other = absurd (other refl)
    go (Ok tt) false true other = absurd (other refl)
    go (Ok tt) false false other = refl
    go (Err refusal) true y other = refl
    go (Err refusal) false y other = refl

-- APART FROM REFUSAL 6, two readings of one file answer the same, whatever was lent
pub one_answer : (file : List ℕ) (a b a' b' : ℕ) → (read_of file a b ≡ Err LentTooShort → ⊥) → (read_of file a' b' ≡ Err LentTooShort → ⊥)
    → read_of file a b ≡ read_of file a' b'
one_answer file a b a' b' other other' = before_six file a b other ∙ sym (before_six file a' b' other')

-- where one reading is not refused, any other with room for both sections answers the same sizes and puts the same words in front
pub one_reading : (file requests lent requests' lent' : List ℕ) (sizes : Sizes) → read_of file (length requests) (length lent) ≡ Ok sizes
    → sizes.requests ≤ length requests' → sizes.planned ≤ length lent'
    → (read_of file (length requests') (length lent') ≡ Ok sizes)
    × (take sizes.requests (requests_left file requests' (length lent')) ≡ take sizes.requests (requests_left file requests (length lent)))
    × (take sizes.planned (plan_left file (length requests') lent') ≡ take sizes.planned (plan_left file (length requests) lent))
one_reading file requests lent requests' lent' sizes e room plan_room =
    let (z, there, then) = read_words_lem file requests lent sizes e in
    let d = open_file file (length requests) (length lent) (bundle_open file (length requests) (length lent) sizes e).0 in
    let d' : OpenFile file (length requests') (length lent') =
    record {
      form = d.form;
      frames = d.frames;
      plan_frames = d.plan_frames;
      above = d.above;
      unmarked = d.unmarked;
      room = subst (λ (y : Sizes). y.requests ≤ length requests') (sym z) room;
      plan_room = subst (λ (y : Sizes). y.planned ≤ length lent') (sym z) plan_room;
    }
    in
    let e' : read_of file (length requests') (length lent') ≡ Ok sizes =
    sym (read_done file requests' lent' (file_opens file (length requests') (length lent') d')).0 ∙ ap Ok z
    in
    let (z', there', then') = read_words_lem file requests' lent' sizes e' in (e', there' ∙ sym there, then' ∙ sym then)
