-- Laws of the service Better of two: the verdict names the accepted plan with the fewest faults, and the words are that plan's.
--
-- In order: two answers; the verdict; the words; the two plans swapped; no requests.
-- Assumes nothing.
use Rattle.std.specs.Prelude.{Ok, Err}
use mathlib.Core.Path.{◌≡◌, refl, ap, ◌∙◌}
use mathlib.Core.Bool.{Bool, true, false}
use mathlib.Core.List.{List, []}
use Prim.Native.Nat.{ℕ, ◌≤◌, ◌<◌}
use native.Mathlib.Omega.{arith}
use native.Mathlib.Decide.{ℕ_discrete}
use lib.Dec.{leb}
use lib.ListN.{length, take}
use borrow.Author.Tests.{leb-true, leb-false, le-leb, lt-leb}
use Rattle.paging.specs.Lists.{pick}
use Rattle.paging.specs.Plans.{check}
use Rattle.paging.specs.Calls.{frame_limit, gate, trace_tests, lent_tests}
use Rattle.paging.specs.Refusals.{Answer}
use Rattle.paging.specs.declared.Refusal.{Refusal}
use Rattle.paging.specs.Meanings.{InOrder}
use Rattle.calls.proofs.Chain.{gate_append}
use Rattle.plans.specs.Check.{check_of}
use Rattle.judge.specs.declared.BetterPlan.TheVariants.{First, Second}
use Rattle.judge.specs.Better.{Verdict, fewer, better_of, better_words}
use Rattle.judge.proofs.Accepted.{check_decides, accepted_open, front_decides}

-- ---- two answers

-- the first is named: it is accepted, and the second has no fewer faults
abbrev FirstOf : Answer → Answer → ℕ → Type 0
FirstOf a b f = (a ≡ Ok f) × ((g : ℕ) → b ≡ Ok g → f ≤ g)

-- the second is named: it is accepted, and the first has more faults
abbrev SecondOf : Answer → Answer → ℕ → Type 0
SecondOf a b g = (b ≡ Ok g) × ((f : ℕ) → a ≡ Ok f → g < f)

first_of : (a b : Answer) (f : ℕ) → fewer a b ≡ Ok (First f) → FirstOf a b f
first_of (Ok x) (Ok y) f e = go (leb x y) refl e
  where
    go : (c : Bool) → leb x y ≡ c → pick {A = Verdict} c (Ok (First x)) (Ok (Second y)) ≡ Ok (First f) → FirstOf (Ok x) (Ok y) f
    go true q e = let k : x ≡ f = cc in (ap Ok k, λ g h. let z : y ≡ g = cc in omega (arith, leb-true x y q))
    go false q e = absurd (let k : ◌≡◌ {A = ℕ} 0 1 = cc in omega arith)
first_of (Ok x) (Err s) f e = let k : x ≡ f = cc in (ap Ok k, λ g h. absurd (let z : ◌≡◌ {A = ℕ} 0 1 = cc in omega arith))
first_of (Err r) (Ok y) f e = absurd (let k : ◌≡◌ {A = ℕ} 0 1 = cc in omega arith)
first_of (Err r) (Err s) f e = absurd (let k : ◌≡◌ {A = ℕ} 0 1 = cc in omega arith)

second_of : (a b : Answer) (g : ℕ) → fewer a b ≡ Ok (Second g) → SecondOf a b g
second_of (Ok x) (Ok y) g e = go (leb x y) refl e
  where
    go : (c : Bool) → leb x y ≡ c → pick {A = Verdict} c (Ok (First x)) (Ok (Second y)) ≡ Ok (Second g) → SecondOf (Ok x) (Ok y) g
    go true q e = absurd (let k : ◌≡◌ {A = ℕ} 0 1 = cc in omega arith)
    go false q e = let k : y ≡ g = cc in (ap Ok k, λ f h. let z : x ≡ f = cc in omega (arith, leb-false x y q))
second_of (Ok x) (Err s) g e = absurd (let k : ◌≡◌ {A = ℕ} 0 1 = cc in omega arith)
second_of (Err r) (Ok y) g e = let k : y ≡ g = cc in (ap Ok k, λ f h. absurd (let z : ◌≡◌ {A = ℕ} 0 1 = cc in omega arith))
second_of (Err r) (Err s) g e = absurd (let k : ◌≡◌ {A = ℕ} 0 1 = cc in omega arith)

neither_of : (a b : Answer) (r : Refusal) → fewer a b ≡ Err r → (a ≡ Err r) × ((g : ℕ) → b ≡ Ok g → ⊥)
neither_of (Ok x) (Ok y) r e = go (leb x y) e
  where
    go : (c : Bool) → pick {A = Verdict} c (Ok (First x)) (Ok (Second y)) ≡ Err r → (◌≡◌ {A = Answer} (Ok x) (Err r)) × ((g : ℕ) → ◌≡◌ {A = Answer} (Ok y) (Ok g) → ⊥)
    go true e = absurd (let k : ◌≡◌ {A = ℕ} 0 1 = cc in omega arith)
    go false e = absurd (let k : ◌≡◌ {A = ℕ} 0 1 = cc in omega arith)
neither_of (Ok x) (Err s) r e = absurd (let k : ◌≡◌ {A = ℕ} 0 1 = cc in omega arith)
neither_of (Err q) (Ok y) r e = absurd (let k : ◌≡◌ {A = ℕ} 0 1 = cc in omega arith)
neither_of (Err q) (Err s) r e = let k : q ≡ r = cc in (ap Err k, λ g h. let z : ◌≡◌ {A = ℕ} 0 1 = cc in omega arith)

-- swapped, with the named one's count not that of the other
swap_of : (a b : Answer) (f : ℕ) → a ≡ Ok f → ((g : ℕ) → b ≡ Ok g → f < g) → fewer b a ≡ Ok (Second f)
swap_of a (Ok g) f e h = rw (e, lt-leb g f (h g refl))
swap_of a (Err s) f e h = rw e

swap_back : (a b : Answer) (g : ℕ) → b ≡ Ok g → ((f : ℕ) → a ≡ Ok f → g ≤ f) → fewer b a ≡ Ok (First g)
swap_back (Ok f) b g e h = rw (e, le-leb g f (h f refl))
swap_back (Err r) b g e h = rw e

module _ (m : ℕ) (trace first second : List ℕ) where
  -- ---- the verdict

  -- THE VERDICT'S PLAN NEVER HAS MORE FAULTS THAN THE OTHER ACCEPTED ONE: the first is named with its own count, and the second has no fewer
  pub first_named : (f : ℕ) → better_of m trace first second ≡ Ok (First f) → (check_of m trace first ≡ Ok f) × ((g : ℕ) → check_of m trace second ≡ Ok g → f ≤ g)
  unfolding better_of
  first_named f e = first_of (check_of m trace first) (check_of m trace second) f e

  -- the second is named with its own count only where the first has more
  pub second_named : (g : ℕ) → better_of m trace first second ≡ Ok (Second g) → (check_of m trace second ≡ Ok g) × ((f : ℕ) → check_of m trace first ≡ Ok f → g < f)
  unfolding better_of
  second_named g e = second_of (check_of m trace first) (check_of m trace second) g e

  -- neither is named: the first plan's refusal, and the second isn't accepted
  pub neither_named : (r : Refusal) → better_of m trace first second ≡ Err r → (check_of m trace first ≡ Err r) × ((g : ℕ) → check_of m trace second ≡ Ok g → ⊥)
  unfolding better_of
  neither_named r e = neither_of (check_of m trace first) (check_of m trace second) r e

  -- 2, 3 or 4 first
  pub trace_refused : (r : Refusal) → gate (trace_tests m trace) ≡ Err r → better_of m trace first second ≡ Err r
  unfolding better_of check_of
  trace_refused r e = rw (gate_append (trace_tests m trace) (lent_tests trace first), gate_append (trace_tests m trace) (lent_tests trace second), e)

  -- ---- THE WORDS ARE THOSE OF THE VERDICT'S PLAN, and are accepted with the verdict's count

  pub words_first : (f : ℕ) → better_of m trace first second ≡ Ok (First f)
      → (length trace ≤ length first)
      × (better_words m trace first second ≡ take (length trace) first)
      × (check_of m trace (better_words m trace first second) ≡ Ok f)
  unfolding better_words
  words_first f e =
      let a = (first_named f e).0 in
      let l = (accepted_open m trace first f a).1 in
      (l, rw e, rw e (front_decides m trace first ∙ a))

  pub words_second : (g : ℕ) → better_of m trace first second ≡ Ok (Second g)
      → (length trace ≤ length second)
      × (better_words m trace first second ≡ take (length trace) second)
      × (check_of m trace (better_words m trace first second) ≡ Ok g)
  unfolding better_words
  words_second g e =
      let a = (second_named g e).0 in
      let l = (accepted_open m trace second g a).1 in
      (l, rw e, rw e (front_decides m trace second ∙ a))

  -- ---- THE TWO PLANS SWAPPED: the same plan is named again, except where the counts are equal or both are refused

  pub swap_first : (f : ℕ) → better_of m trace first second ≡ Ok (First f) → (check_of m trace second ≡ Ok f → ⊥) → better_of m trace second first ≡ Ok (Second f)
  unfolding better_of
  swap_first f e differ =
      let (a, h) = first_named f e in
      swap_of (check_of m trace first) (check_of m trace second) f a
      (λ g k. elim (ℕ_discrete g f) [ yes q ↦ absurd (differ (k ∙ ap Ok q)) | no q ↦ omega (arith, h g k) ])

  pub swap_second : (g : ℕ) → better_of m trace first second ≡ Ok (Second g) → better_of m trace second first ≡ Ok (First g)
  unfolding better_of
  swap_second g e =
      let (a, h) = second_named g e in swap_back (check_of m trace first) (check_of m trace second) g a (λ f k. omega (arith, h f k))

-- ---- no requests: no plan can be refused, so the first is named with 0 faults

pub nothing_requested : (m : ℕ) (first second : List ℕ) → 1 ≤ m → m ≤ frame_limit → better_of m [] first second ≡ Ok (First 0)
unfolding better_of check
nothing_requested m first second l u =
    let o : InOrder m [] = record { one_frame = l; frames = u; requests = omega arith; pages = λ t h e. absurd (omega arith) } in
    rw (check_decides m [] first o (omega arith), check_decides m [] second o (omega arith))
