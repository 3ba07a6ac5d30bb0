-- Laws of the chain of refusals.
--
-- In order: a chain in two parts; refusal 6 behind any chain; refusal 4 by the place of the mark; what an open gate says of a call.
-- Assumes nothing.
use Rattle.std.specs.Prelude.{Ok, Err}
use mathlib.Core.Path.{◌≡◌, refl, sym, ◌∙◌}
use mathlib.Core.Logic.{⊎_elim, ◌↔◌}
use mathlib.Core.Bool.{Bool, true, false}
use mathlib.Core.List.{List, [], ◌∷◌, ◌++◌}
use Prim.Native.Nat.{ℕ, ◌≤◌, ◌<◌}
use native.Mathlib.Omega.{arith}
use lib.Dec.{ltb}
use lib.ListN.{length}
use borrow.Author.Tests.{le-ltb, ltb-false}
use Rattle.paging.specs.Lists.{pick, mem, place_of}
use Rattle.paging.specs.Rules.{mark}
use Rattle.paging.specs.Calls.{frame_limit, request_limit, Test, gate, outside, marked, first_mark, trace_tests, lent_tests}
use Rattle.paging.specs.Meanings.{InOrder}
use Rattle.paging.specs.Refusals.{Gate}
use Rattle.paging.specs.declared.Refusal.{Refusal}
use Rattle.paging.specs.declared.Refusal.TheVariants.{MarkRequested}
use Rattle.paging.proofs.Lists.{true≢false, bool_cases}
use Rattle.paging.proofs.Held.{place_out}
use Rattle.paging.proofs.Calls.{first_mark_lem, no_mark}
use Rattle.calls.specs.Chain.{and_then, lent_gate}
use Rattle.calls.proofs.Search.{found_mem}

-- a chain in two parts: the first part's refusal decides, else the second part
pub gate_append : (xs ys : List Test) → gate (xs ++ ys) ≡ and_then (gate xs) (gate ys)
unfolding gate
gate_append [] ys = refl
gate_append (t ∷ xs) ys = go t.when (gate_append xs ys)
  where
    go : (b : Bool) → gate (xs ++ ys) ≡ and_then (gate xs) (gate ys)
        → pick b (Err t.say) (gate (xs ++ ys)) ≡ and_then (pick b (Err t.say) (gate xs)) (gate ys)
    go true ih = refl
    go false ih = ih

-- refusal 6 behind any chain
pub gate_lent : (xs : List Test) (trace words : List ℕ)
    → lent_gate (gate xs) (length trace) (length words) ≡ gate (xs ++ lent_tests trace words)
unfolding gate lent_tests
gate_lent xs trace words = sym (gate_append xs (lent_tests trace words))

-- refusal 4, where 2 and 3 aren't given: by the place of the mark among the requests
module _ (n : ℕ) (trace : List ℕ) (sized : outside n ≡ false) (short : length trace ≤ request_limit) where
  pub gate_marked : place_of mark trace < length trace → gate (trace_tests n trace) ≡ Err (MarkRequested (place_of mark trace))
  unfolding gate trace_tests place_of mem
  gate_marked h = rw (sized, le-ltb _ _ short, found_mem mark trace h)

  pub gate_open : length trace ≤ place_of mark trace → gate (trace_tests n trace) ≡ Ok tt
  unfolding gate trace_tests place_of mem
  gate_open h = rw (sized, le-ltb _ _ short, place_out mark trace h)

-- ---- what an open gate says of a call

-- an open gate before which a test stands: the test is false, and the rest is open
open_behind : (b : Bool) (refusal : Refusal) (rest : Gate) → pick b (Err refusal) rest ≡ Ok tt → (b ≡ false) × (rest ≡ Ok tt)
open_behind true refusal rest e = absurd (let k : ◌≡◌ {A = ℕ} 0 1 = cc in omega arith)
open_behind false refusal rest e = (refl, e)

neither : (a b : Bool) → pick a true b ≡ false → (a ≡ false) × (b ≡ false)
neither true b e = absurd (true≢false e)
neither false b e = (refl, e)

module _ (n : ℕ) (trace : List ℕ) where
  -- refusals 2, 3 and 4 are given exactly when the call is not in order
  pub trace_open : (gate (trace_tests n trace) ≡ Ok tt) ↔ InOrder n trace
  unfolding gate trace_tests
  trace_open = (there, back)
    where
      there : gate (trace_tests n trace) ≡ Ok tt → InOrder n trace
      there e =
          let (a, e1) = open_behind (outside n) _ _ e in
          let (b, e2) = open_behind (ltb request_limit (length trace)) _ _ e1 in
          let (m, e3) = open_behind (marked trace) _ _ e2 in
          let (l, u) = neither (ltb n 1) (ltb frame_limit n) a in
          record { one_frame = ltb-false n 1 l; frames = ltb-false frame_limit n u; requests = ltb-false _ _ b; pages = no_mark trace m }

      back : InOrder n trace → gate (trace_tests n trace) ≡ Ok tt
      back o =
          let m : marked trace ≡ false =
          ⊎_elim (λ e. let (h, g, f) = first_mark_lem trace e in absurd (o.pages (first_mark trace) h g)) (λ e. e) (bool_cases (marked trace))
          in rw (le-ltb n 1 o.one_frame, le-ltb frame_limit n o.frames, le-ltb _ _ o.requests, m)

-- and 6 exactly when the lent words are fewer than the requests
pub lent_open : (xs : List Test) (trace words : List ℕ)
    → (gate (xs ++ lent_tests trace words) ≡ Ok tt) ↔ ((gate xs ≡ Ok tt) × (length trace ≤ length words))
unfolding gate lent_tests
lent_open xs trace words = ((λ e. there (gate xs) (sym (gate_append xs (lent_tests trace words)) ∙ e)), back)
  where
    there : (g : Gate) → and_then g (gate (lent_tests trace words)) ≡ Ok tt → (g ≡ Ok tt) × (length trace ≤ length words)
    there (Ok tt) e = (refl, ltb-false (length words) (length trace) (open_behind (ltb (length words) (length trace)) _ _ e).0)
    there (Err refusal) e = absurd (let k : ◌≡◌ {A = ℕ} 0 1 = cc in omega arith)

    back : (gate xs ≡ Ok tt) × (length trace ≤ length words) → gate (xs ++ lent_tests trace words) ≡ Ok tt
    back (e, h) = gate_append xs (lent_tests trace words) ∙ rw (e, le-ltb _ _ h)
