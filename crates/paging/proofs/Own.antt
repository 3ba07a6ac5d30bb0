-- Demand 2: "each rule's own evictions are accepted as a plan with the same count." For all four rules at once, any n from 1, any trace.
--
-- The two walks go side by side: what the checker holds is, frame by frame, the pages that the rule holds.
-- Assumes nothing.
use Rattle.std.specs.Prelude.{Ok}
use mathlib.Core.Path.{◌≡◌, sym, ap, ◌∙◌}
use mathlib.Core.Logic.{inl, inr}
use mathlib.Core.Bool.{true, false}
use mathlib.Core.List.{List, [], ◌∷◌, ◌++◌}
use Prim.Native.Nat.{ℕ, suc, ◌+◌, ◌≤◌, ◌<◌}
use native.Mathlib.Omega.{arith}
use lib.ListN.{length}
use borrow.Author.Tests.{lt-ltb, le-ltb}
use Rattle.paging.specs.Lists.{mem, place_of}
use Rattle.paging.specs.Rules.{Sees, between, chosen}
use Rattle.paging.specs.Walk.{holds, entry_at, pages, outcome, next, outcomes, fault_of, word_of, faults_in, plan_in, faults, plan}
use Rattle.paging.specs.Plans.{judged, after, absent, check_from, check}
use Rattle.paging.specs.Meanings.{Apart}
use Rattle.paging.specs.declared.Entry.{Entry}
use Rattle.paging.specs.declared.Rule.{Rule}
use Rattle.paging.specs.declared.Outcome.TheVariants.{Hit, Loaded, Dropped}
use Rattle.paging.proofs.Choice.{chosen_below}
use Rattle.paging.proofs.Held.{in_mem, place_is, apart_nil}
use Rattle.paging.proofs.Frames.{pages_length, pages_at, mem_pages, Ways, ways, outcome_hit, outcome_room, outcome_full, pages_hit, pages_room, pages_full, next_apart}

-- ---- one request

-- the rule's own word keeps the plan rule, counts as the request does, and leaves the checker with the rule's pages
record Agrees (rule : Rule) (n t p : ℕ) (sees : Sees) (es : List Entry) : Type 0 where
  keeps : judged n t (pages es) p (word_of (outcome rule n p sees es)) ≡ Ok tt
  counts : absent p (pages es) ≡ fault_of (outcome rule n p sees es)
  leaves : after n (pages es) p (word_of (outcome rule n p sees es)) ≡ pages (next rule n t p sees es)

module _ (rule : Rule) (n t p : ℕ) (sees : Sees) (es : List Entry) (some : 1 ≤ n) (apart : Apart (pages es)) where
  agrees : Agrees rule n t p sees es
  unfolding judged after
  agrees = go (ways n p es)
    where
      hit : holds p es ≡ true → Agrees rule n t p sees es
      hit q =
          let o : outcome rule n p sees es ≡ Hit = outcome_hit rule n t p sees es q in
          let m : mem p (pages es) ≡ true = mem_pages p es ∙ q in
          record { keeps = rw (o, m); counts = rw (o, m); leaves = rw (o, m, pages_hit rule n t p sees es q) }

      room : holds p es ≡ false → length es < n → Agrees rule n t p sees es
      room q h =
          let o : outcome rule n p sees es ≡ Loaded = outcome_room rule n t p sees es q h in
          let m : mem p (pages es) ≡ false = mem_pages p es ∙ q in
          let l : length (pages es) < n = omega (arith, pages_length es) in
          record {
            keeps = rw (o, m, lt-ltb (length (pages es)) n l);
            counts = rw (o, m);
            leaves = rw (o, m, lt-ltb (length (pages es)) n l, pages_room rule n t p sees es q h);
          }

      full : holds p es ≡ false → n ≤ length es → Agrees rule n t p sees es
      full q h =
          let f : ℕ = chosen rule sees es in
          let o : outcome rule n p sees es ≡ Dropped (entry_at es f).page = outcome_full rule n t p sees es q h in
          let m : mem p (pages es) ≡ false = mem_pages p es ∙ q in
          let l : n ≤ length (pages es) = omega (arith, pages_length es) in
          let k : f < length (pages es) = omega (arith, pages_length es, chosen_below rule sees es (omega arith)) in
          let w : mem (entry_at es f).page.0 (pages es) ≡ true = in_mem _ (pages es) (f, k, pages_at es f) in
          let at : place_of (entry_at es f).page.0 (pages es) ≡ f = ap (λ (x : ℕ). place_of x (pages es)) (sym (pages_at es f)) ∙ place_is (pages es) apart f k in
          record {
            keeps = rw (o, m, le-ltb (length (pages es)) n l, w);
            counts = rw (o, m);
            leaves = rw (o, m, w, le-ltb (length (pages es)) n l, at, pages_full rule n t p sees es q h);
          }

      go : Ways n p es → Agrees rule n t p sees es
      go (inl q) = hit q
      go (inr (inl (q, h))) = room q h
      go (inr (inr (q, h))) = full q h

-- ---- the walks

own_from : (rule : Rule) (n : ℕ) → 1 ≤ n → (past ps : List ℕ) (t f : ℕ) (es : List Entry) → Apart (pages es)
    → check_from n t f (pages es) ps (plan_in (outcomes rule n t past ps es)) ≡ Ok (f + faults_in (outcomes rule n t past ps es))
unfolding check_from plan_in outcomes faults_in
own_from rule n some past [] t f es apart = ap Ok (omega arith)
own_from rule n some past (p ∷ ps) t f es apart =
    let sees : Sees = between past ps in
    let a : Agrees rule n t p sees es = agrees rule n t p sees es some apart in
    rw (a.keeps, a.counts, a.leaves)
    (own_from rule n some (past ++ (p ∷ [])) ps (suc t) (f + fault_of (outcome rule n p sees es)) (next rule n t p sees es) (next_apart rule n t p sees es apart)
    ∙ ap Ok (omega arith))

-- DEMAND 2, its last sentence
pub own_plan_accepted : (rule : Rule) (n : ℕ) (trace : List ℕ) → 1 ≤ n → check n trace (plan rule n trace) ≡ Ok (faults rule n trace)
unfolding check plan faults
own_plan_accepted rule n trace some = own_from rule n some [] trace 0 0 [] apart_nil ∙ ap Ok (omega arith)
