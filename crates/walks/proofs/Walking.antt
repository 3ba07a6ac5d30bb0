-- One request of a rule's walk over the pages held, for any rule: a hit, a load with room, a load in place of another. The loop of such a walk.
--
-- In order: what a request does to each entry; the frame for its page is the definition's; its page put there; what that does to the definition's entries; the loop.
-- Assumes nothing.
use Rattle.std.specs.Prelude.{Some, None}
use mathlib.Core.Path.{◌≡◌, refl, sym, ap, ◌∙◌}
use mathlib.Core.Logic.{◌⊎◌, inl, inr}
use mathlib.Core.Bool.{Bool, true, false}
use mathlib.Core.List.{List, [], ◌∷◌, ◌++◌}
use Prim.Native.Nat.{ℕ, suc, ◌+◌, ◌≤◌, ◌<◌}
use native.Mathlib.Numerals.{add-one}
use native.Mathlib.Omega.{arith}
use lib.Dec.{ltb}
use lib.ListN.{length, get_or, set, length-set}
use lib.Seq.{get_or-set_same, get_or-set_other, get_or-append_seam}
use borrow.Author.Tests.{lt-ltb, le-ltb, ltb-false}
use Rattle.paging.specs.Lists.{pick, place_of}
use Rattle.paging.specs.Rules.{chosen}
use Rattle.paging.specs.Walk.{zero_entry, entry_at, pages, loaded_at, renewed, outcome, next, fault_of, word_of, faults, plan, sees_at, entries_at}
use Rattle.paging.specs.Calls.{frame_limit}
use Rattle.paging.specs.Services.{laid}
use Rattle.paging.specs.Held.{Found, found, if_held, frame_after}
use Rattle.paging.specs.declared.Entry.{Entry}
use Rattle.paging.specs.declared.Frame.{Frame}
use Rattle.paging.specs.declared.Rule.{Rule}
use Rattle.paging.specs.declared.Outcome.{Outcome}
use Rattle.paging.specs.declared.Outcome.TheVariants.{Hit, Loaded}
use Rattle.paging.proofs.Lists.{length_snoc, get_or_snoc_old}
use Rattle.paging.proofs.Choice.{chosen_below}
use Rattle.paging.proofs.Held.{found_there, found_nowhere}
use Rattle.paging.proofs.Frames.{pages_length, pages_at, mem_pages, held_frame, Ways, ways, outcome_hit, outcome_room, outcome_full, next_hit, next_room, next_full, pages_after, held_at_most}
use Rattle.paging.proofs.Writing.{Running, running_starts, running_steps, running_ends, fault_most}
use Rattle.held.specs.Placing.{put_outcome, put_pages}
use Rattle.held.proofs.Placing.{Going, put_fits, put_after, put_told}
use Rattle.walks.specs.Tied.{held_before, choice_at, seat_at, told_at, Within}

-- a page put into a frame faults at most once
pub put_most : (p f : ℕ) (held : List ℕ) (fault : ℕ) → fault ≡ fault_of (put_outcome p f held) → fault ≤ 1
put_most p f held fault e = rw e (fault_most (put_outcome p f held))

-- ---- what a request does to each entry

-- a request of page p at moment t in n frames, with these entries before it and after it: its outcome, and the frame of its page then
abbrev pub Way : ℕ → ℕ → ℕ → ℕ → Outcome → ℕ → List Entry → List Entry → Type 0
Way n t p choice o f es es' =
    ((o ≡ Hit) × (f < length es) × ((entry_at es f).page.0 ≡ p) × (es' ≡ set es f (renewed t (entry_at es f))))
    ⊎ ((o ≡ Loaded) × (length es < n) × (f ≡ length es) × (es' ≡ es ++ (loaded_at t p ∷ [])))
    ⊎ ((fault_of o ≡ 1) × (n ≤ length es) × (f ≡ choice) × (f < length es) × (es' ≡ set es f (loaded_at t p)))

-- what it does to each entry
pub record Served (t p : ℕ) (o : Outcome) (f : ℕ) (es es' : List Entry) : Type 0 where
  pub inside : f < length es'
  pub grows : length es ≤ length es'
  pub page : (entry_at es' f).page.0 ≡ p
  pub own : ((o ≡ Hit) × (f < length es) × (entry_at es' f ≡ renewed t (entry_at es f))) ⊎ ((fault_of o ≡ 1) × (entry_at es' f ≡ loaded_at t p))
  pub others : (j : ℕ) → j < length es' → (j ≡ f → ⊥) → (j < length es) × (entry_at es' j ≡ entry_at es j)

pub way_serves : (n t p choice : ℕ) (o : Outcome) (f : ℕ) (es es' : List Entry) → Way n t p choice o f es es' → Served t p o f es es'
way_serves n t p choice o f es es' (inl (e, h, there, is)) =
    let size : length (set es f (renewed t (entry_at es f))) ≡ length es = length-set es f (renewed t (entry_at es f)) in
    let own : entry_at (set es f (renewed t (entry_at es f))) f ≡ renewed t (entry_at es f) = get_or-set_same es f (renewed t (entry_at es f)) zero_entry h in
    rw is
    record {
      inside = omega arith;
      grows = omega arith;
      page = ap (λ (d : Entry). d.page.0) own ∙ there;
      own = inl (e, h, own);
      others = λ j k d. (omega arith, get_or-set_other es f j (renewed t (entry_at es f)) zero_entry d);
    }
way_serves n t p choice o f es es' (inr (inl (e, h, at, is))) =
    let size : length (es ++ (loaded_at t p ∷ [])) ≡ suc (length es) = length_snoc zero_entry es (loaded_at t p) in
    let own : entry_at (es ++ (loaded_at t p ∷ [])) f ≡ loaded_at t p = ap (entry_at (es ++ (loaded_at t p ∷ []))) at ∙ get_or-append_seam es (loaded_at t p) [] zero_entry in
    rw is
    record {
      inside = omega arith;
      grows = omega arith;
      page = ap (λ (d : Entry). d.page.0) own;
      own = inr (ap fault_of e, own);
      others = λ j k d. (omega arith, get_or_snoc_old zero_entry es (loaded_at t p) j (omega arith));
    }
way_serves n t p choice o f es es' (inr (inr (e, h, at, l, is))) =
    let size : length (set es f (loaded_at t p)) ≡ length es = length-set es f (loaded_at t p) in
    let own : entry_at (set es f (loaded_at t p)) f ≡ loaded_at t p = get_or-set_same es f (loaded_at t p) zero_entry l in
    rw is
    record {
      inside = omega arith;
      grows = omega arith;
      page = ap (λ (d : Entry). d.page.0) own;
      own = inr (e, own);
      others = λ j k d. (omega arith, get_or-set_other es f j (loaded_at t p) zero_entry d);
    }

module _ (rule : Rule) (n : ℕ) (trace : List ℕ) (t : ℕ) where
  abbrev p : ℕ
  p = get_or trace t 0

  abbrev es : List Entry
  es = entries_at rule n trace t

  abbrev choice : ℕ
  choice = chosen rule (sees_at trace t) (entries_at rule n trace t)

  abbrev before : List ℕ
  before = pages (entries_at rule n trace t)

  pub size : length (held_before rule n trace t) ≡ length (entries_at rule n trace t)
  unfolding held_before
  size = pages_length es

  pub few : length (held_before rule n trace t) ≤ n
  few = omega (arith, size, held_at_most rule n trace t)

  -- ---- the frame for its page, in its three ways

  module _ (held : List ℕ) (same : held ≡ held_before rule n trace t) where
    pub seat_own : (frame : Frame) → found p held ≡ Some frame → frame.0 ≡ seat_at rule n trace t
    unfolding seat_at frame_after
    seat_own frame e = let k : found p (held_before rule n trace t) ≡ Some frame = rw (← same) e in rw k refl

    pub seat_free : found p held ≡ None → length held < n → length held ≡ seat_at rule n trace t
    unfolding seat_at frame_after
    seat_free e h =
        let k : found p (held_before rule n trace t) ≡ None = rw (← same) e in
        let l : length (held_before rule n trace t) < n = rw (← same) h in
        rw (k, lt-ltb (length (held_before rule n trace t)) n l, same) refl

    pub seat_other : found p held ≡ None → n ≤ length held → (goes : ℕ) → goes ≡ choice_at rule n trace t → goes ≡ seat_at rule n trace t
    unfolding seat_at frame_after
    seat_other e h goes is =
        let k : found p (held_before rule n trace t) ≡ None = rw (← same) e in
        let l : n ≤ length (held_before rule n trace t) = rw (← same) h in
        rw (k, le-ltb (length (held_before rule n trace t)) n l) is

    -- so the frame that a walk takes is the definition's, where it knows which page goes in a full cache
    pub seat_is : (goes : ℕ) → (n ≤ length held → goes ≡ choice_at rule n trace t)
        → frame_after n p (Some (record { 0 = goes })) held ≡ seat_at rule n trace t
    unfolding frame_after seat_at
    seat_is goes knows =
        let e : length held ≡ length (held_before rule n trace t) = ap length same in
        rw same (go (found p (held_before rule n trace t)) (ltb (length (held_before rule n trace t)) n) refl e)
      where
        go : (a : Found) (b : Bool) → ltb (length (held_before rule n trace t)) n ≡ b → length held ≡ length (held_before rule n trace t)
            → if_held a (λ (f : ℕ). f) (pick b (length (held_before rule n trace t)) goes)
            ≡ if_held a (λ (f : ℕ). f) (pick b (length (held_before rule n trace t)) (choice_at rule n trace t))
        go (Some f) b e l = refl
        go None true e l = refl
        go None false e l = knows (omega (arith, ltb-false (length (held_before rule n trace t)) n e, l))

    -- and then it is in use
    pub goes_in : 1 ≤ n → (goes : ℕ) → (n ≤ length held → goes ≡ choice_at rule n trace t) → n ≤ length held → goes < length held
    unfolding choice_at held_before
    goes_in some goes knows full =
        let l : length held ≡ length es = ap length same ∙ pages_length es in
        omega (arith, knows full, l, chosen_below rule (sees_at trace t) es (omega (arith, l)))

  module _ (some : 1 ≤ n) (frame : Frame) (is : frame.0 ≡ seat_at rule n trace t) where
    abbrev pub f : ℕ
    f = frame.0

    -- ---- its page put there

    going : Going n p (Some (record { 0 = choice })) before
    going out full =
        let l : length before ≡ length es = pages_length es in
        (choice, refl, omega (arith, chosen_below rule (sees_at trace t) es (omega arith)))

    is_before : f ≡ frame_after n p (Some (record { 0 = choice })) before
    unfolding seat_at choice_at held_before
    is_before = is

    -- what `put` asks for
    pub seat_fits : (f ≤ length (held_before rule n trace t)) × ((found p (held_before rule n trace t) ≡ Some frame) ⊎ (found p (held_before rule n trace t) ≡ None))
    unfolding held_before
    seat_fits = put_fits p frame before n _ going is_before

    seat_told : put_outcome p f (held_before rule n trace t) ≡ told_at rule n trace t
    unfolding outcome told_at held_before
    seat_told = put_told p frame before n _ going is_before ∙ rw (pages_length es, pages_at es choice)

    entries_on : entries_at rule n trace (t + 1) ≡ next rule n t p (sees_at trace t) es
    unfolding entries_at
    entries_on = rw (add-one t)

    seat_held : put_pages p f (held_before rule n trace t) ≡ held_before rule n trace (t + 1)
    unfolding held_before
    seat_held = put_after p frame before n _ going is_before ∙ sym (ap pages entries_on ∙ pages_after rule n t p (sees_at trace t) es)

    -- ---- what that does to the entries

    pub seat_way : Way n t p choice (told_at rule n trace t) f es (entries_at rule n trace (t + 1))
    unfolding seat_at frame_after choice_at held_before told_at
    seat_way = rw entries_on (go (ways n p es))
      where
        go : Ways n p es → Way n t p choice (told_at rule n trace t) f es (next rule n t p (sees_at trace t) es)
        go (inl q) =
            let at : f ≡ place_of p (pages es) = is ∙ rw (found_there p (pages es) (mem_pages p es ∙ q)) refl in
            inl (
              outcome_hit rule n t p (sees_at trace t) es q,
              rw at (held_frame p es q).0,
              rw at (held_frame p es q).1,
              rw at (next_hit rule n t p (sees_at trace t) es q),
            )
        go (inr (inl (q, h))) =
            let l : length (pages es) ≡ length es = pages_length es in
            inr
            (inl (
              outcome_room rule n t p (sees_at trace t) es q h,
              h,
              is ∙ rw (found_nowhere p (pages es) (mem_pages p es ∙ q), l, lt-ltb (length es) n h) refl,
              next_room rule n t p (sees_at trace t) es q h,
            ))
        go (inr (inr (q, h))) =
            let l : length (pages es) ≡ length es = pages_length es in
            let at : f ≡ choice = is ∙ rw (found_nowhere p (pages es) (mem_pages p es ∙ q), l, le-ltb (length es) n h) refl in
            inr
            (inr (
              ap fault_of (outcome_full rule n t p (sees_at trace t) es q h),
              h,
              at,
              omega (arith, chosen_below rule (sees_at trace t) es (omega arith)),
              next_full rule n t p (sees_at trace t) es q h ∙ ap (λ (i : ℕ). set es i (loaded_at t p)) (sym at),
            ))

    pub seat_serves : Served t p (told_at rule n trace t) f es (entries_at rule n trace (t + 1))
    seat_serves = way_serves n t p choice (told_at rule n trace t) f es (entries_at rule n trace (t + 1)) seat_way

    pub seat_low : f < n
    seat_low = omega (arith, seat_serves.inside, held_at_most rule n trace (t + 1))

-- ---- the loop

-- just before the request of moment i: what is read so far, and the pages held
pub record Walk (rule : Rule) (n : ℕ) (trace words₀ words held : List ℕ) (faults i : ℕ) : Type 0 where
  pub running : Running rule n trace words₀ words faults i
  pub same : held ≡ held_before rule n trace i

module _ (rule : Rule) (n : ℕ) (trace words₀ : List ℕ) where
  pub walk_starts : Walk rule n trace words₀ words₀ [] 0 0
  unfolding held_before entries_at
  walk_starts = record { running = running_starts rule n trace words₀; same = refl }

  module _ (words held : List ℕ) (fs i : ℕ) (w : Walk rule n trace words₀ words held fs i) where
    -- what `put` asks for
    pub walk_fits : Within n trace i → (frame : Frame) → frame.0 ≡ seat_at rule n trace i
        → (frame.0 ≤ length held) × (frame.0 < frame_limit) × ((found (get_or trace i 0) held ≡ Some frame) ⊎ (found (get_or trace i 0) held ≡ None))
    walk_fits x frame is =
        let fits = seat_fits rule n trace i x.some frame is in
        rw w.same (fits.0, omega (arith, seat_low rule n trace i x.some frame is, x.frames), fits.1)

    -- its page is put into the frame, and the outcome read, in the code's own numbers
    module _
        (some : 1 ≤ n) (more : i < length trace) (frame : Frame) (is : frame.0 ≡ seat_at rule n trace i)
        (o : Outcome) (told : o ≡ put_outcome (get_or trace i 0) frame.0 held)
      where
        pub walk_told : o ≡ told_at rule n trace i
        walk_told = told ∙ ap (put_outcome (get_or trace i 0) frame.0) w.same ∙ seat_told rule n trace i some frame is

        pub walk_steps : (held' : List ℕ) → held' ≡ put_pages (get_or trace i 0) frame.0 held
            → (words' : List ℕ) → words' ≡ set words i (word_of o) → (fault : ℕ) → fault ≡ fault_of o
            → Walk rule n trace words₀ words' held' (fs + fault) (i + 1)
        unfolding told_at
        walk_steps held' e words' a fault b =
            rw (a, b)
            record {
              running = running_steps rule n trace words₀ words fs i w.running more o walk_told;
              same = e ∙ ap (put_pages (get_or trace i 0) frame.0) w.same ∙ seat_held rule n trace i some frame is;
            }

    -- so far there are no more faults than requests
    pub walk_few : fs ≤ i
    walk_few = w.running.reading.few

    pub walk_ends : length trace ≤ i → (fs ≡ faults rule n trace) × (words ≡ laid (plan rule n trace) words₀)
    walk_ends all = running_ends rule n trace words₀ words fs i w.running all

-- the limits of frames and requests are not asked for: so of any walk
pub told_of_any : (rule : Rule) (n : ℕ) (trace words₀ words held : List ℕ) (fs i : ℕ) → Walk rule n trace words₀ words held fs i
    → 1 ≤ n → i < length trace → (frame : Frame) → frame.0 ≡ seat_at rule n trace i
    → (o : Outcome) → o ≡ put_outcome (get_or trace i 0) frame.0 held → o ≡ told_at rule n trace i
told_of_any rule n trace words₀ words held fs i w some more frame is o told =
    walk_told rule n trace words₀ words held fs i w some more frame is o told
