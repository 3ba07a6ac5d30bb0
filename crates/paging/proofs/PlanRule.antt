-- A plan is accepted exactly when each of its entries keeps the plan rule, entry by entry in document 01's three sentences,
-- and then its count is the number of requests that found their page absent; otherwise the answer names the first entry that does not.
--
-- The sentences are `Keeps` of specs/Meanings.antt. In order: one entry; the check against them; the laws; what is held after a request.
-- Assumes nothing.
use Rattle.std.specs.Prelude.{Ok, Err}
use mathlib.Core.Path.{◌≡◌, refl, sym, ap, ◌∙◌, subst}
use mathlib.Core.Logic.{◌⊎◌, inl, inr, ◌↔◌}
use mathlib.Core.Bool.{Bool, true, false}
use mathlib.Core.List.{List, [], ◌∷◌, ◌++◌}
use Prim.Native.Nat.{ℕ, zero, suc, ◌+◌, ◌≤◌, ◌<◌}
use native.Mathlib.Omega.{arith}
use native.Mathlib.Decide.{ℕ_discrete}
use lib.Dec.{eqb, ltb}
use lib.ListN.{length, get_or, set, drop, drop_of_length-le}
use lib.Seq.{drop-cons, set_out}
use borrow.Author.Tests.{eqb-true, eqb-false, lt-ltb, le-ltb, ltb-true, ltb-false}
use Rattle.paging.specs.Rules.{mark}
use Rattle.paging.specs.Lists.{mem, place_of}
use Rattle.paging.specs.Plans.{judged, after, absent, through, check_from, check, held_at}
use Rattle.paging.specs.Meanings.{In, Apart, Keeps, KeepsAt, absences}
use Rattle.paging.specs.Refusals.{Gate, Answer}
use Rattle.paging.specs.declared.Refusal.{Refusal}
use Rattle.paging.specs.declared.Refusal.TheVariants.{PlanBroken}
use Rattle.paging.proofs.Held.{in_mem, mem_in, not_in, absent_in, absent_place, mem_place, apart_nil, apart_snoc, apart_set, snoc_in, set_in}

-- ---- one entry

module _ (m t : ℕ) (held : List ℕ) (p w : ℕ) where
  -- an entry is passed or told as broken, as it keeps the three sentences or not
  pub judged_is : ((judged m t held p w ≡ Ok tt) × Keeps m held p w) ⊎ ((judged m t held p w ≡ Err (PlanBroken t)) × (Keeps m held p w → ⊥))
  unfolding judged
  judged_is = go (mem p held) (ltb (length held) m) (eqb w mark) (mem w held) refl refl refl refl
    where
      go : (a b c d : Bool) → mem p held ≡ a → ltb (length held) m ≡ b → eqb w mark ≡ c → mem w held ≡ d
          → ((judged m t held p w ≡ Ok tt) × Keeps m held p w) ⊎ ((judged m t held p w ≡ Err (PlanBroken t)) × (Keeps m held p w → ⊥))
      go true b true d p1 p2 p3 p4 =
          inl (rw (p1, p3), record { on_a_hit = λ i. eqb-true _ _ p3; with_room = λ o h. eqb-true _ _ p3; when_full = λ o h. absurd (o (mem_in p held p1)) })
      go true b false d p1 p2 p3 p4 = inr (rw (p1, p3), λ k. eqb-false _ _ p3 (k.on_a_hit (mem_in p held p1)))
      go false true true d p1 p2 p3 p4 =
          inl (
            rw (p1, p2, p3),
            record { on_a_hit = λ i. eqb-true _ _ p3; with_room = λ o h. eqb-true _ _ p3; when_full = λ o h. absurd (omega (arith, ltb-true (length held) m p2)) },
          )
      go false true false d p1 p2 p3 p4 = inr (rw (p1, p2, p3), λ k. eqb-false _ _ p3 (k.with_room (absent_in p held p1) (ltb-true _ _ p2)))
      go false false c true p1 p2 p3 p4 =
          inl (
            rw (p1, p2, p4),
            record {
              on_a_hit = λ i. absurd (absent_in p held p1 i);
              with_room = λ o h. absurd (omega (arith, ltb-false (length held) m p2));
              when_full = λ o h. mem_in w held p4;
            },
          )
      go false false c false p1 p2 p3 p4 = inr (rw (p1, p2, p4), λ k. absent_in w held p4 (k.when_full (absent_in p held p1) (ltb-false _ _ p2)))

-- ---- the check, from a moment on

module _ (m : ℕ) (trace words : List ℕ) where
  -- accepted with its absences; or the first entry that breaks the rule
  abbrev Judgement : ℕ → ℕ → ℕ → Answer → Type 0
  Judgement t k f answer =
      (((j : ℕ) → t ≤ j → j < t + k → KeepsAt m trace words j) × (answer ≡ Ok (f + absences m trace words t k)))
      ⊎ ((s : ℕ) × (t ≤ s) × (s < t + k) × ((j : ℕ) → t ≤ j → j < s → KeepsAt m trace words j) × (KeepsAt m trace words s → ⊥) × (answer ≡ Err (PlanBroken s)))

  -- one request of the check
  check_step : (t f : ℕ) → t < length trace → length trace ≤ length words
      → check_from m t f (held_at m trace words t) (drop t trace) (drop t words)
      ≡ through (judged m t (held_at m trace words t) (get_or trace t 0) (get_or words t 0))
      (check_from m (suc t) (f + absent (get_or trace t 0) (held_at m trace words t)) (held_at m trace words (suc t)) (drop (suc t) trace) (drop (suc t) words))
  unfolding check_from held_at
  check_step t f h l = rw (drop-cons trace t 0 h, drop-cons words t 0 (omega arith))

  verdict : (k t f : ℕ) → t + k ≡ length trace → length trace ≤ length words
      → Judgement t k f (check_from m t f (held_at m trace words t) (drop t trace) (drop t words))
  unfolding check_from absences
  verdict zero t f h l =
      inl ((λ j a b. absurd (omega arith)), rw (drop_of_length-le trace (let x : length trace ≤ t = omega arith in x)) (ap Ok (omega arith)))
  verdict (suc k) t f h l =
      go (judged_is m t (held_at m trace words t) (get_or trace t 0) (get_or words t 0))
      (verdict k (suc t) (f + absent (get_or trace t 0) (held_at m trace words t)) (omega arith) l)
    where
      rest : Answer
      rest = check_from m (suc t) (f + absent (get_or trace t 0) (held_at m trace words t)) (held_at m trace words (suc t)) (drop (suc t) trace) (drop (suc t) words)

      verdict_now : Gate
      verdict_now = judged m t (held_at m trace words t) (get_or trace t 0) (get_or words t 0)

      step : check_from m t f (held_at m trace words t) (drop t trace) (drop t words) ≡ through verdict_now rest
      step = check_step t f (omega arith) l

      -- the entry of moment t, then those from the next on
      more : (s : ℕ) → KeepsAt m trace words t → ((j : ℕ) → suc t ≤ j → j < s → KeepsAt m trace words j) → (j : ℕ) → t ≤ j → j < s → KeepsAt m trace words j
      more s now then j a b = elim (ℕ_discrete j t) [ yes e ↦ subst (KeepsAt m trace words) (sym e) now | no e ↦ then j (omega arith) b ]

      go : ((verdict_now ≡ Ok tt) × KeepsAt m trace words t) ⊎ ((verdict_now ≡ Err (PlanBroken t)) × (KeepsAt m trace words t → ⊥))
          → Judgement (suc t) k (f + absent (get_or trace t 0) (held_at m trace words t)) rest
          → Judgement t (suc k) f (check_from m t f (held_at m trace words t) (drop t trace) (drop t words))
      go (inl (o, now)) (inl (then, e)) =
          inl (more (t + suc k) now (λ j a b. then j a (omega arith)), step ∙ ap (λ (g : Gate). through g rest) o ∙ e ∙ ap Ok (omega arith))
      go (inl (o, now)) (inr (s, a, b, then, bad, e)) =
          inr (s, omega arith, omega arith, more s now then, bad, step ∙ ap (λ (g : Gate). through g rest) o ∙ e)
      go (inr (o, bad)) v = inr (t, omega arith, omega arith, (λ j a b. absurd (omega arith)), bad, step ∙ ap (λ (g : Gate). through g rest) o)

-- ---- THE PLAN RULE

-- with T words at least
module _ (m : ℕ) (trace words : List ℕ) (enough : length trace ≤ length words) where
  judgement : Judgement m trace words 0 (length trace) 0 (check m trace words)
  unfolding check held_at
  judgement = verdict m trace words (length trace) 0 0 (omega arith) enough

  -- accepted exactly when each entry keeps the rule
  pub accepted_exactly : ((g : ℕ) × (check m trace words ≡ Ok g)) ↔ ((t : ℕ) → t < length trace → KeepsAt m trace words t)
  accepted_exactly = ((λ a. go judgement a.0 a.1), λ keep. back judgement keep)
    where
      go : Judgement m trace words 0 (length trace) 0 (check m trace words)
          → (g : ℕ) → check m trace words ≡ Ok g → (t : ℕ) → t < length trace → KeepsAt m trace words t
      go (inl (keep, e)) g a t h = keep t (omega arith) (omega arith)
      go (inr (s, x, y, z, bad, e)) g a t h = absurd (let k : ◌≡◌ {A = ℕ} 0 1 = cc in omega arith)

      back : Judgement m trace words 0 (length trace) 0 (check m trace words) → ((t : ℕ) → t < length trace → KeepsAt m trace words t)
          → (g : ℕ) × (check m trace words ≡ Ok g)
      back (inl (k, e)) keep = (0 + absences m trace words 0 (length trace), e)
      back (inr (s, x, y, z, bad, e)) keep = absurd (bad (keep s (omega arith)))

  -- and then the count is the number of requests that found their page absent
  pub accepted_count : (g : ℕ) → check m trace words ≡ Ok g → g ≡ absences m trace words 0 (length trace)
  accepted_count g a = go judgement
    where
      go : Judgement m trace words 0 (length trace) 0 (check m trace words) → g ≡ absences m trace words 0 (length trace)
      go (inl (keep, e)) = let k : g ≡ 0 + absences m trace words 0 (length trace) = cc in omega arith
      go (inr (s, x, y, z, bad, e)) = absurd (let k : ◌≡◌ {A = ℕ} 0 1 = cc in omega arith)

  -- a refusal names the first entry that breaks the rule
  pub refused_first : (r : Refusal) → check m trace words ≡ Err r
      → (s : ℕ) × (r ≡ PlanBroken s) × (s < length trace) × (KeepsAt m trace words s → ⊥) × ((t : ℕ) → t < s → KeepsAt m trace words t)
  refused_first r a = go judgement
    where
      go : Judgement m trace words 0 (length trace) 0 (check m trace words)
          → (s : ℕ) × (r ≡ PlanBroken s) × (s < length trace) × (KeepsAt m trace words s → ⊥) × ((t : ℕ) → t < s → KeepsAt m trace words t)
      go (inl (keep, e)) = absurd (let k : ◌≡◌ {A = ℕ} 0 1 = cc in omega arith)
      go (inr (s, x, y, z, bad, e)) = (s, (cc), omega arith, bad, λ t h. z t (omega arith) h)

-- ---- what is held after a request

module _ (m : ℕ) (held : List ℕ) (p w : ℕ) where
  -- a hit leaves all as it was
  pub after_hit : mem p held ≡ true → after m held p w ≡ held
  unfolding after
  after_hit q = rw q

  pub after_room : mem p held ≡ false → length held < m → after m held p w ≡ held ++ (p ∷ [])
  unfolding after
  after_room q h = rw (q, lt-ltb _ _ h)

  pub after_full : mem p held ≡ false → m ≤ length held → after m held p w ≡ set held (place_of w held) p
  unfolding after
  after_full q h = go (mem w held) refl
    where
      go : (b : Bool) → mem w held ≡ b → after m held p w ≡ set held (place_of w held) p
      go true e = rw (q, le-ltb _ _ h, e)
      go false e = rw (q, le-ltb _ _ h, e) (sym (set_out held (place_of w held) p (absent_place w held e)))

  -- no page stands in two frames
  pub after_apart : Apart held → Apart (after m held p w)
  after_apart a = go (mem p held) (ltb (length held) m) refl refl
    where
      go : (b c : Bool) → mem p held ≡ b → ltb (length held) m ≡ c → Apart (after m held p w)
      go true c q r = rw (after_hit q) a
      go false true q r = rw (after_room q (ltb-true _ _ r)) (apart_snoc held p a (absent_in p held q))
      go false false q r = rw (after_full q (ltb-false _ _ r)) (apart_set held (place_of w held) p a (absent_in p held q))

  -- with room the page comes in, and all others stay
  pub who_after_room : (In p held → ⊥) → length held < m → (x : ℕ) → In x (after m held p w) ↔ ((x ≡ p) ⊎ In x held)
  who_after_room out h x = rw (after_room (not_in p held out) h) (snoc_in held p x)

  -- in a full cache the page comes in, the entry's page goes, and all others stay
  pub who_after_full : Apart held → (In p held → ⊥) → m ≤ length held → In w held
      → (x : ℕ) → In x (after m held p w) ↔ ((x ≡ p) ⊎ (In x held × (x ≡ w → ⊥)))
  who_after_full a out h i x =
      let (k, e) = mem_place w held (in_mem w held i) in
      rw (after_full (not_in p held out) h) (rw e at (set_in held (place_of w held) p x a k))

pub held_apart : (m : ℕ) (trace words : List ℕ) (t : ℕ) → Apart (held_at m trace words t)
unfolding held_at
held_apart m trace words zero = apart_nil
held_apart m trace words (suc t) = after_apart m (held_at m trace words t) (get_or trace t 0) (get_or words t 0) (held_apart m trace words t)

-- ---- words past the trace are not read

check_extra_from : (m : ℕ) (ps ws extra : List ℕ) (t f : ℕ) (held : List ℕ) → length ws ≡ length ps
    → check_from m t f held ps (ws ++ extra) ≡ check_from m t f held ps ws
unfolding check_from
check_extra_from m [] ws extra t f held e = refl
check_extra_from m (p ∷ ps) [] extra t f held e = absurd (omega arith)
check_extra_from m (p ∷ ps) (w ∷ ws) extra t f held e =
    ap (through (judged m t held p w)) (check_extra_from m ps ws extra (suc t) (f + absent p held) (after m held p w) (omega arith))

pub check_extra : (m : ℕ) (trace words extra : List ℕ) → length words ≡ length trace → check m trace (words ++ extra) ≡ check m trace words
unfolding check
check_extra m trace words extra e = check_extra_from m trace words extra 0 0 [] e
