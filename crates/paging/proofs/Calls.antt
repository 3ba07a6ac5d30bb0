-- Laws of the table of refusals, the rules' numbers and the chain of tests.
-- Assumes nothing.
use Rattle.std.specs.Prelude.{Ok, Err}
use mathlib.Core.Path.{◌≡◌, refl}
use mathlib.Core.Logic.{◌⊎◌, inl, inr, ◌↔◌}
use mathlib.Core.Bool.{Bool, true, false}
use mathlib.Core.List.{List, [], ◌∷◌, ◌++◌, map}
use Prim.Native.Nat.{ℕ, ◌<◌}
use native.Mathlib.Omega.{arith}
use lib.Dec.{eqb}
use lib.ListN.{length, get_or}
use borrow.Author.Tests.{ne_eqb, eqb-true, eq-eqb}
use Rattle.paging.specs.Lists.{pick, all, not}
use Rattle.paging.specs.Refusals.{table}
use Rattle.paging.specs.Rules.{mark, rule_numbered}
use Rattle.paging.specs.Calls.{Test, gate, marked, first_mark}
use Rattle.paging.specs.declared.Rule.TheVariants.{Lru, Fifo, Min, Lru2}
use Rattle.paging.specs.declared.Refusal.{Refusal}
use Rattle.paging.specs.declared.Refusal.TheVariants.{UnknownRule, FramesOutside, TraceTooLong, MarkRequested, UnsoundRecord, LentTooShort, PlanBroken, ClockFull, FileCut, CountNotAllowed, BytesLeftOver, PlanAboveCache}
use Rattle.paging.proofs.Lists.{false≢true, any_index, index_passes, index_first, none_at, at_none}

-- ---- the table

-- twelve cases, twelve numbers, whatever the places
pub twelve_numbers : (at : ℕ)
    → map (λ (r : Refusal). (table r).number)
    (UnknownRule ∷ FramesOutside at ∷ TraceTooLong ∷ MarkRequested at ∷ UnsoundRecord ∷ LentTooShort
    ∷ PlanBroken at ∷ ClockFull ∷ FileCut at ∷ CountNotAllowed at ∷ BytesLeftOver at ∷ PlanAboveCache ∷ [])
    ≡ 1 ∷ 2 ∷ 3 ∷ 4 ∷ 5 ∷ 6 ∷ 7 ∷ 8 ∷ 9 ∷ 10 ∷ 11 ∷ 12 ∷ []
twelve_numbers at = refl

-- ---- the rules' numbers

pub four_rules : map rule_numbered (1 ∷ 2 ∷ 3 ∷ 4 ∷ []) ≡ Ok Lru ∷ Ok Fifo ∷ Ok Min ∷ Ok Lru2 ∷ []
four_rules = refl

pub no_other_rule : (number : ℕ) → (number ≡ 0) ⊎ (4 < number) → rule_numbered number ≡ (Err UnknownRule)
no_other_rule number (inl e) = rw e
no_other_rule number (inr h) =
    rw (ne_eqb number 1 (λ e. omega arith), ne_eqb number 2 (λ e. omega arith), ne_eqb number 3 (λ e. omega arith), ne_eqb number 4 (λ e. omega arith))

-- ---- the chain

-- the gate is open exactly when no test is true
pub open_exactly : (ts : List Test) → (gate ts ≡ Ok tt) ↔ (all (λ (t : Test). not t.when) ts ≡ true)
unfolding gate all
open_exactly [] = ((λ e. refl), λ e. refl)
open_exactly (t ∷ ts) = go t.when (open_exactly ts)
  where
    go : (b : Bool) → ((gate ts ≡ Ok tt) ↔ (all (λ (t : Test). not t.when) ts ≡ true))
        → (pick b (Err t.say) (gate ts) ≡ Ok tt) ↔ (pick (not b) (all (λ (t : Test). not t.when) ts) false ≡ true)
    go true ih = ((λ e. absurd (let k : ◌≡◌ {A = ℕ} 0 1 = cc in omega arith)), λ e. absurd (false≢true e))
    go false ih = ih

-- the first test that is true decides, whatever comes after it
pub first_decides : (before : List Test) (t : Test) (after : List Test) → gate before ≡ Ok tt → t.when ≡ true → gate (before ++ t ∷ after) ≡ Err t.say
unfolding gate
first_decides [] t after e h = rw h
first_decides (s ∷ before) t after e h = go s.when e (first_decides before t after)
  where
    go : (b : Bool) → pick b (Err s.say) (gate before) ≡ Ok tt → (gate before ≡ Ok tt → t.when ≡ true → gate (before ++ t ∷ after) ≡ Err t.say)
        → pick b (Err s.say) (gate (before ++ t ∷ after)) ≡ Err t.say
    go true e ih = absurd (let k : ◌≡◌ {A = ℕ} 0 1 = cc in omega arith)
    go false e ih = ih e h

-- ---- the mark among the requests

-- the place told is a request for the mark, and the first
pub first_mark_lem : (trace : List ℕ) → marked trace ≡ true
    → (first_mark trace < length trace) × (get_or trace (first_mark trace) 0 ≡ mark) × ((t : ℕ) → t < first_mark trace → get_or trace t 0 ≡ mark → ⊥)
unfolding marked first_mark
first_mark_lem trace e =
    let h : first_mark trace < length trace = any_index (λ (p : ℕ). eqb p mark) 0 trace e in (
      h,
      eqb-true _ _ (index_passes (λ (p : ℕ). eqb p mark) 0 trace h),
      λ t k x. index_first (λ (p : ℕ). eqb p mark) 0 trace t k (eq-eqb _ _ x),
    )

-- where no place is told, no request is the mark
pub no_mark : (trace : List ℕ) → marked trace ≡ false → (t : ℕ) → t < length trace → get_or trace t 0 ≡ mark → ⊥
unfolding marked
no_mark trace e t h x = none_at (λ (p : ℕ). eqb p mark) 0 trace e t h (eq-eqb _ _ x)

pub none_marked : (trace : List ℕ) → ((t : ℕ) → t < length trace → get_or trace t 0 ≡ mark → ⊥) → marked trace ≡ false
unfolding marked
none_marked trace none = at_none (λ (p : ℕ). eqb p mark) 0 trace (λ t h x. none t h (eqb-true _ _ x))
