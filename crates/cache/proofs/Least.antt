-- The least key is the entry that the rule drops, for entries in order.
-- Assumes nothing.
use mathlib.Core.Path.{◌≡◌, refl, sym, subst}
use mathlib.Core.Logic.{◌⊎◌, inl, inr, ⊎_elim}
use mathlib.Core.Bool.{Bool, true, false}
use mathlib.Core.List.{List}
use Prim.Native.Nat.{ℕ, ◌+◌, ◌≤◌, ◌<◌}
use native.Mathlib.Omega.{arith}
use lib.Dec.{leb}
use lib.ListN.{length}
use borrow.Author.Tests.{le-leb, tests}
use Rattle.paging.specs.Lists.{pick, both, implies, any, all, index_of}
use Rattle.paging.specs.Rules.{no_requests, once, lru2_drops, drops, chosen, rule_numbered, named}
use Rattle.paging.specs.Walk.{zero_entry, entry_at}
use Rattle.paging.specs.Calls.{request_limit}
use Rattle.paging.specs.declared.Entry.{Entry}
use Rattle.paging.specs.declared.Rule.TheVariants.{Min}
use Rattle.paging.proofs.Lists.{bool_cases, both_true, implies_true, any_index, index_passes, none_at, at_all}
use Rattle.entries.specs.Devices.Search.{key_of, least_frame}
use Rattle.entries.proofs.Search.{least_inside, least_least}
use Rattle.soundness.specs.Sound.{feedable, Orderly}
use Rattle.soundness.proofs.Orderly.{chosen_is}

-- ---- the rules that can be fed

feed_cases : (rule : ℕ) → feedable rule ≡ true → (rule ≡ 1) ⊎ (rule ≡ 2) ⊎ (rule ≡ 4)
feed_cases rule e = grind (arith, tests)

-- MIN is none of them
pub not_min : (rule : ℕ) → feedable rule ≡ true → named (rule_numbered rule) ≡ Min → ⊥
not_min rule feeds e = go (feed_cases rule feeds)
  where
    go : (rule ≡ 1) ⊎ (rule ≡ 2) ⊎ (rule ≡ 4) → ⊥
    go (inl x) = cc
    go (inr (inl x)) = cc
    go (inr (inr x)) = cc

-- ---- an entry with the least key

module _ (clock : ℕ) (es : List Entry) (sound : Orderly clock es) (limit : clock ≤ request_limit) (i : ℕ) (inside : i < length es) where
  -- the key of frame i is no larger than any other
  abbrev LeastBy : (Entry → ℕ) → Type 0
  LeastBy key = (j : ℕ) → j < length es → key (entry_at es i) ≤ key (entry_at es j)

  all_least : (key : Entry → ℕ) → LeastBy key → all (λ (d : Entry). leb (key (entry_at es i)) (key d)) es ≡ true
  all_least key least = at_all (λ (d : Entry). leb (key (entry_at es i)) (key d)) zero_entry es (λ j h. le-leb _ _ (least j h))

  abbrev lru2_key : Entry → ℕ
  lru2_key e = pick (once e) e.last.0 (request_limit + e.earlier.0)

  lru2_least : LeastBy lru2_key → lru2_drops es (entry_at es i) ≡ true
  unfolding lru2_drops
  lru2_least least = go (any once es) refl
    where
      by_last : Entry → Bool
      by_last d = implies (once d) (leb (entry_at es i).last.0 d.last.0)

      key_once : (j : ℕ) → once (entry_at es j) ≡ true → lru2_key (entry_at es j) ≡ (entry_at es j).last.0
      key_once j o = rw o

      key_more : (j : ℕ) → once (entry_at es j) ≡ false → lru2_key (entry_at es j) ≡ request_limit + (entry_at es j).earlier.0
      key_more j o = rw o

      -- where some entry is used once only, so is the least
      seldom : any once es ≡ true → once (entry_at es i) ≡ true
      seldom q =
          let k : ℕ = index_of once es in
          let h : k < length es = any_index once zero_entry es q in
          let o : once (entry_at es k) ≡ true = index_passes once zero_entry es h in
          ⊎_elim (λ x. x)
          (λ x. absurd (omega (arith, least k h, key_once k o, key_more i x, (sound.in_time_lem k h).last_clock)))
          (bool_cases (once (entry_at es i)))

      often : any once es ≡ false → (j : ℕ) → j < length es → once (entry_at es j) ≡ false
      often q j h = ⊎_elim (λ x. absurd (none_at once zero_entry es q j h x)) (λ x. x) (bool_cases (once (entry_at es j)))

      go : (b : Bool) → any once es ≡ b
          → pick b (both (once (entry_at es i)) (all by_last es)) (all (λ (d : Entry). leb (entry_at es i).earlier.0 d.earlier.0) es) ≡ true
      go true q =
          both_true (once (entry_at es i)) (all by_last es) (seldom q)
          (at_all by_last zero_entry es
          (λ j h. implies_true (once (entry_at es j)) (leb (entry_at es i).last.0 (entry_at es j).last.0)
          (λ o. le-leb _ _ (let l : (entry_at es i).last.0 ≤ (entry_at es j).last.0 = omega (arith, least j h, key_once i (seldom q), key_once j o) in l))))
      go false q =
          all_least (λ (e : Entry). e.earlier.0) (λ j h. omega (arith, least j h, key_more i (often q i inside), key_more j (often q j h)))

  -- is the one that the rule drops
  key_chosen : (rule : ℕ) → feedable rule ≡ true → LeastBy (key_of rule) → chosen (named (rule_numbered rule)) no_requests es ≡ i
  unfolding drops
  key_chosen rule feeds least = chosen_is clock es sound (named (rule_numbered rule)) no_requests (not_min rule feeds) i inside (go (feed_cases rule feeds))
    where
      least_by : (number : ℕ) → rule ≡ number → LeastBy (key_of number)
      least_by number x = subst (λ (r : ℕ). LeastBy (key_of r)) x least

      go : (rule ≡ 1) ⊎ (rule ≡ 2) ⊎ (rule ≡ 4) → drops (named (rule_numbered rule)) no_requests es (entry_at es i) ≡ true
      go (inl x) = rw x (all_least (λ (e : Entry). e.last.0) (least_by 1 x))
      go (inr (inl x)) = rw x (all_least (λ (e : Entry). e.loaded.0) (least_by 2 x))
      go (inr (inr x)) = rw x (lru2_least (least_by 4 x))

-- THE FRAME WITH THE LEAST KEY is the one whose page the rule drops
pub least_chosen : (clock rule : ℕ) (es : List Entry) → Orderly clock es → clock ≤ request_limit → feedable rule ≡ true → 0 < length es
    → least_frame rule es ≡ chosen (named (rule_numbered rule)) no_requests es
least_chosen clock rule es sound limit feeds some =
    sym (key_chosen clock es sound limit (least_frame rule es) (least_inside rule es some) rule feeds (least_least rule es some))
