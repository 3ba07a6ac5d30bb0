-- The moments seen, as the code keeps them, and the walk over the entries in use: it answers the conditions on them.
-- Assumes nothing.
use mathlib.Core.Path.{◌≡◌, refl, sym, ap, ◌∙◌}
use mathlib.Core.Bool.{Bool, true, false}
use mathlib.Core.List.{List, [], ◌∷◌}
use Prim.Native.Nat.{ℕ, zero, suc, ◌+◌, ◌≤◌, ◌<◌}
use native.Mathlib.Omega.{arith}
use native.Mathlib.Decide.{ℕ_discrete}
use native.Mathlib.Numerals.{add-one}
use lib.Dec.{eqb, ltb, leb}
use lib.ListN.{length, get_or, set, drop, replicate, drop_of_length-le, length-set, length-replicate}
use lib.Seq.{get_or-set_same, get_or-set_other, drop-cons}
use borrow.Author.Tests.{leb-true, ltb-true, eqb-true, eqb-false, eq-eqb, ne_eqb}
use Rattle.paging.specs.Lists.{pick, not, both, any, all, mem}
use Rattle.paging.specs.Rules.{mark, once}
use Rattle.paging.specs.Walk.{zero_entry, entry_at}
use Rattle.paging.specs.Calls.{request_limit}
use Rattle.paging.specs.declared.Entry.{Entry}
use Rattle.paging.proofs.Lists.{both_first, both_second}
use Rattle.soundness.specs.Sound.{pairwise, met, is_page, in_order, earlier_fits, moments, moments_differ, entry_conditions}
use Rattle.soundness.specs.Devices.Scan.{entry_ok, Below, unseen, noting, noted}
use Rattle.soundness.proofs.All.{not_either, all_same, all_true, all_both, apart_swap}

-- ---- the set of the moments seen

abbrev Under : ℕ → List ℕ → Type 0
Under n [] = Unit {0}
Under n (m ∷ ms) = (m < n) × Under n ms

under_moments : (n : ℕ) (e : Entry) → Below n e → Under n (moments e)
under_moments n e b = go (once e) refl
  where
    go : (o : Bool) → once e ≡ o → Under n (e.loaded.0 ∷ e.last.0 ∷ pick o [] (e.earlier.0 ∷ []))
    go true q = (b.loaded, (b.last, tt))
    go false q = (b.loaded, (b.last, (b.earlier (eqb-false _ _ q), tt)))

length_noting : (seen : List Bool) (ms : List ℕ) → length (noting seen ms) ≡ length seen
unfolding noting
length_noting seen [] = refl
length_noting seen (m ∷ ms) = length_noting (set seen m true) ms ∙ length-set seen m true

length_noted : (seen : List Bool) (e : Entry) → length (noted seen e) ≡ length seen
unfolding noted
length_noted seen e = length_noting seen (moments e)

set_at : (seen : List Bool) (m x : ℕ) → m < length seen → get_or (set seen m true) x false ≡ pick (eqb m x) true (get_or seen x false)
set_at seen m x h =
    elim (ℕ_discrete x m) [
      | yes e ↦ rw (e, eq-eqb m m refl) (get_or-set_same seen m true false h)
      | no e ↦ rw (ne_eqb m x (λ k. e (sym k))) (get_or-set_other seen m x true false e)
    ]

noting_at : (seen : List Bool) (ms : List ℕ) (x : ℕ) → Under (length seen) ms
    → get_or (noting seen ms) x false ≡ pick (mem x ms) true (get_or seen x false)
unfolding noting mem any
noting_at seen [] x u = refl
noting_at seen (m ∷ ms) x (h, u) =
    noting_at (set seen m true) ms x (rw (length-set seen m true) u) ∙ rw (set_at seen m x h) (go (eqb m x) (mem x ms))
  where
    go : (a b : Bool) → pick b true (pick a true (get_or seen x false)) ≡ pick (pick a true b) true (get_or seen x false)
    go true true = refl
    go true false = refl
    go false b = refl

-- an entry's moments are unseen after those of e: they differ from those of e, and were unseen before
unseen_noted : (seen : List Bool) (e d : Entry) → Below (length seen) e → unseen (noted seen e) d ≡ both (moments_differ e d) (unseen seen d)
unfolding unseen noted moments_differ
unseen_noted seen e d b =
    all_same (λ (m : ℕ). not (get_or (noting seen (moments e)) m false)) (λ (m : ℕ). both (not (mem m (moments e))) (not (get_or seen m false)))
    (λ m. rw (noting_at seen (moments e) m (under_moments (length seen) e b)) (not_either (mem m (moments e)) (get_or seen m false))) (moments d)
    ∙ all_both (λ (m : ℕ). not (mem m (moments e))) (λ (m : ℕ). not (get_or seen m false)) (moments d)
    ∙ ap (λ (r : Bool). both r (all (λ (m : ℕ). not (get_or seen m false)) (moments d))) (apart_swap (moments d) (moments e))

unseen_at_first : (n : ℕ) (es : List Entry) → all (unseen (replicate n false)) es ≡ true
unfolding unseen
unseen_at_first n es = all_same (unseen (replicate n false)) (λ (e : Entry). true) one es ∙ all_true es
  where
    none : (n m : ℕ) → get_or (replicate n false) m false ≡ false
    none zero m = refl
    none (suc n) zero = refl
    none (suc n) (suc m) = none n m

    one : (e : Entry) → unseen (replicate n false) e ≡ true
    one e =
        all_same (λ (m : ℕ). not (get_or (replicate n false) m false)) (λ (m : ℕ). true) (λ m. rw (none n m)) (moments e)
        ∙ all_true (moments e)

-- ---- the walk over the entries

-- an entry that fits by itself has its moments below the clock
pub fits_below : (clock n : ℕ) (e : Entry) → clock ≤ n → entry_ok clock e ≡ true → Below n e
fits_below clock n e h k =
    let o : both (in_order clock e) (earlier_fits e) ≡ true = both_second (not (eqb e.page.0 mark)) (both (in_order clock e) (earlier_fits e)) k in
    let i : in_order clock e ≡ true = both_first (in_order clock e) (earlier_fits e) o in
    let l : e.loaded.0 ≤ e.last.0 = leb-true _ _ (both_first (leb e.loaded.0 e.last.0) (ltb e.last.0 clock) i) in
    let a : e.last.0 < n = omega (arith, ltb-true e.last.0 clock (both_second (leb e.loaded.0 e.last.0) (ltb e.last.0 clock) i)) in
    record {
      loaded = omega arith;
      last = a;
      earlier = go (eqb e.loaded.0 e.last.0) (both_second (in_order clock e) (earlier_fits e) o) a;
    }
  where
    go : (b : Bool)
        → pick b (eqb e.earlier.0 mark) (both (leb e.loaded.0 e.earlier.0) (ltb e.earlier.0 e.last.0)) ≡ true
        → e.last.0 < n → (e.earlier.0 ≡ mark → ⊥) → e.earlier.0 < n
    go true q a m = absurd (m (eqb-true _ _ q))
    go false q a m = omega (arith, ltb-true e.earlier.0 e.last.0 (both_second (leb e.loaded.0 e.earlier.0) (ltb e.earlier.0 e.last.0) q))

-- from the moments seen on
unfoldable pub scan : ℕ → List Bool → List Entry → Bool
scan clock seen [] = true
scan clock seen (e ∷ es) = both (entry_ok clock e) (both (unseen seen e) (scan clock (noted seen e) es))

scan_is : (clock : ℕ) (seen : List Bool) (es : List Entry) → clock ≤ length seen
    → scan clock seen es ≡ both (all (entry_ok clock) es) (both (all (unseen seen) es) (pairwise moments_differ es))
unfolding scan all pairwise
scan_is clock seen [] h = refl
scan_is clock seen (e ∷ es) h = go (entry_ok clock e) refl (scan_is clock (noted seen e) es (rw (length_noted seen e) h))
  where
    order : (u o m a p : Bool) → both u (both o (both (both m a) p)) ≡ both o (both (both u a) (both m p))
    order true true true a p = refl
    order true true false true p = refl
    order true true false false p = refl
    order true false m a p = refl
    order false true m a p = refl
    order false false m a p = refl

    go : (b : Bool) → entry_ok clock e ≡ b
        → scan clock (noted seen e) es ≡ both (all (entry_ok clock) es) (both (all (unseen (noted seen e)) es) (pairwise moments_differ es))
        → both b (both (unseen seen e) (scan clock (noted seen e) es))
        ≡ both (pick b (all (entry_ok clock) es) false)
        (both (pick (unseen seen e) (all (unseen seen) es) false) (both (all (moments_differ e) es) (pairwise moments_differ es)))
    go true q ih =
        let below : Below (length seen) e = fits_below clock (length seen) e h q in
        let later : all (unseen (noted seen e)) es ≡ both (all (moments_differ e) es) (all (unseen seen) es) =
        all_same _ _ (λ d. unseen_noted seen e d below) es ∙ all_both (moments_differ e) (unseen seen) es in
        rw (ih, later) (order (unseen seen e) (all (entry_ok clock) es) (all (moments_differ e) es) (all (unseen seen) es) (pairwise moments_differ es))
    go false q ih = refl

-- one entry, then the rest
pub scan_on : (clock : ℕ) (seen : List Bool) (es : List Entry) (i : ℕ) → i < length es
    → scan clock seen (drop i es)
    ≡ both (entry_ok clock (entry_at es i)) (both (unseen seen (entry_at es i)) (scan clock (noted seen (entry_at es i)) (drop (i + 1) es)))
unfolding scan
scan_on clock seen es i h = rw (drop-cons es i zero_entry h, add-one i)

pub scan_end : (clock : ℕ) (seen : List Bool) (es : List Entry) (i : ℕ) → length es ≤ i → scan clock seen (drop i es) ≡ true
unfolding scan
scan_end clock seen es i h = rw (drop_of_length-le es h)

-- the whole walk, which starts with no moment seen
pub scan_entries : (clock : ℕ) (es : List Entry) → clock ≤ request_limit → scan clock (replicate request_limit false) es ≡ met (entry_conditions clock es)
unfolding entry_conditions
scan_entries clock es h =
    scan_is clock (replicate request_limit false) es (rw (length-replicate request_limit false) h)
    ∙ rw (unseen_at_first request_limit es, all_both is_page in_time es, all_both (in_order clock) earlier_fits es)
    (four (all is_page es) (all (in_order clock) es) (all earlier_fits es) (pairwise moments_differ es))
  where
    in_time : Entry → Bool
    in_time e = both (in_order clock e) (earlier_fits e)

    four : (a b d p : Bool) → both (both a (both b d)) p ≡ all (λ (b : Bool). b) (a ∷ b ∷ d ∷ p ∷ [])
    four true true true true = refl
    four true true true false = refl
    four true true false p = refl
    four true false d p = refl
    four false b d p = refl
