-- The plan's side: an accepted plan cannot serve more pages than it held and faulted on.
--
-- A cover is a list of pages, among which are all that the plan holds. A request lengthens it by one page if the plan faults, and not otherwise; the page
-- requested and the pages held after it are again among the cover. In order: laws of one entry of a plan; the check, one request at a time; the cover.
-- Assumes nothing.
use Rattle.std.specs.Prelude.{Some, None, Ok, Err}
use mathlib.Core.Path.{◌≡◌, refl}
use mathlib.Core.Bool.{Bool, true, false}
use mathlib.Core.List.{List, [], ◌∷◌, ◌++◌}
use Prim.Native.Nat.{ℕ, suc, ◌+◌, ◌≤◌, ◌<◌}
use native.Mathlib.Omega.{arith}
use native.Mathlib.Decide.{dec_lt}
use lib.Dec.{ltb}
use lib.ListN.{length, set, length-set}
use lib.Seq.{get_or-set_same}
use borrow.Author.Tests.{le-ltb, ltb-true, ltb-false}
use Rattle.paging.specs.Lists.{pick, mem, place_of}
use Rattle.paging.specs.Held.{if_held, Found}
use Rattle.paging.specs.Plans.{judged, after, absent, through, check_from}
use Rattle.paging.specs.Refusals.{Gate}
use Rattle.paging.specs.declared.Refusal.{Refusal}
use Rattle.paging.specs.declared.Refusal.TheVariants.{LentTooShort, PlanBroken}
use Rattle.paging.proofs.Lists.{length_snoc}
use Rattle.paging.proofs.Held.{mem_place, mem_in, found_there, found_nowhere}
use Rattle.paging.proofs.PlanRule.{after_hit, after_room, after_full}
use Rattle.bounds.proofs.Pigeonhole.{same, times, Among, Within, same_self, times_snoc, times_set, in_among}

pub refused_faults : (r : Refusal) (g : ℕ) → Err r ≡ Ok g → ⊥
refused_faults r g e = let k : ◌≡◌ {A = ℕ} 0 1 = cc in omega arith

module _ (m p w : ℕ) (held : List ℕ) where
  -- ---- one entry, w, for the request of page p in m frames

  -- in a full cache an accepted entry is a held page
  judged_full : (t : ℕ) → mem p held ≡ false → m ≤ length held → judged m t held p w ≡ Ok tt → mem w held ≡ true
  unfolding judged
  judged_full t q h e = go (mem w held) (rw (q, le-ltb (length held) m h) at e)
    where
      go : (b : Bool) → if_held {A = Gate} (pick {A = Found} b (Some (record { 0 = place_of w held })) None) (λ (f : ℕ). Ok tt) (Err (PlanBroken t)) ≡ Ok tt → b ≡ true
      go true e = refl
      go false e = absurd (let k : ◌≡◌ {A = ℕ} 0 1 = cc in omega arith)

module _ (m : ℕ) where
  -- ---- the check, one request at a time

  -- the first entry keeps the plan rule, and the rest is accepted
  pub check_step : (t f p w : ℕ) (held ps ws : List ℕ) (g : ℕ) → check_from m t f held (p ∷ ps) (w ∷ ws) ≡ Ok g
      → (judged m t held p w ≡ Ok tt) × (check_from m (suc t) (f + absent p held) (after m held p w) ps ws ≡ Ok g)
  unfolding check_from
  check_step t f p w held ps ws g e = go (judged m t held p w) e
    where
      go : (x : Gate) → through x (check_from m (suc t) (f + absent p held) (after m held p w) ps ws) ≡ Ok g
          → (x ≡ Ok tt) × (check_from m (suc t) (f + absent p held) (after m held p w) ps ws ≡ Ok g)
      go (Ok tt) e = (refl, e)
      go (Err r) e = absurd (refused_faults r g e)

  -- the faults so far are among all of them
  pub check_rises : (ps ws held : List ℕ) (t f g : ℕ) → check_from m t f held ps ws ≡ Ok g → f ≤ g
  unfolding check_from
  check_rises [] ws held t f g e = let q : f ≡ g = cc in omega arith
  check_rises (p ∷ ps) [] held t f g e = absurd (refused_faults LentTooShort g e)
  check_rises (p ∷ ps) (w ∷ ws) held t f g e =
      omega (arith, check_rises ps ws (after m held p w) (suc t) (f + absent p held) g (check_step t f p w held ps ws g e).1)

  -- ---- the cover

  -- the request of page p, the pages held before it and now; a cover before it, and the one after it
  pub record Served (p : ℕ) (held now cov : List ℕ) : Type 0 where
    pub cover : List ℕ
    pub grown : length cover ≡ length cov + absent p held
    pub wider : Within cov cover
    pub asked : Among p cover
    pub kept : Within now cover
    pub fits : length now ≤ m
    pub loaded : Among p now

  -- a hit changes nothing
  served_hit : (p : ℕ) (held cov : List ℕ) → mem p held ≡ true → length held ≤ m → Within held cov → Served p held held cov
  served_hit p held cov q fits within =
      let h : Among p held = in_among p held (mem_in p held q) in
      record { cover = cov; grown = rw (found_there p held q) (omega arith); wider = λ z k. k; asked = within p h; kept = within; fits = fits; loaded = h }

  -- at a fault the page is put among those held, with or without another going
  served_fault : (p : ℕ) (held now cov : List ℕ) → mem p held ≡ false → Within held cov
      → ((z : ℕ) → times z now ≤ times z held + same z p) → length now ≤ m → Among p now → Served p held now cov
  unfolding times
  served_fault p held now cov q within new fits loaded = record {
    cover = p ∷ cov;
    grown = rw (found_nowhere p held q) (omega arith);
    wider = λ z h. omega arith;
    asked = omega (arith, same_self p);
    kept = λ z h. elim (dec_lt 0 (times z held)) [ yes k ↦ omega (arith, within z k) | no k ↦ omega (arith, new z) ];
    fits = fits;
    loaded = loaded;
  }

  -- each request of an accepted plan
  pub served : (t p w : ℕ) (held cov : List ℕ) → judged m t held p w ≡ Ok tt → length held ≤ m → Within held cov
      → Served p held (after m held p w) cov
  served t p w held cov lawful fits within = go (mem p held) (ltb (length held) m) refl refl
    where
      stored : (i : ℕ) → i < length held → Among p (set held i p)
      stored i h = in_among p (set held i p) (i, omega (arith, length-set held i p), get_or-set_same held i p 0 h)

      go : (a b : Bool) → mem p held ≡ a → ltb (length held) m ≡ b → Served p held (after m held p w) cov
      go true b q r = rw (after_hit m held p w q) (served_hit p held cov q fits within)
      go false true q r =
          rw (after_room m held p w q (ltb-true _ _ r))
          (served_fault p held (held ++ (p ∷ [])) cov q within
          (λ z. omega (arith, times_snoc z held p))
          (omega (arith, length_snoc 0 held p, ltb-true (length held) m r))
          (omega (arith, times_snoc p held p, same_self p)))
      go false false q r =
          let full : m ≤ length held = ltb-false _ _ r in
          rw (after_full m held p w q full)
          (served_fault p held (set held (place_of w held) p) cov q within
          (λ z. times_set z held (place_of w held) p)
          (omega (arith, length-set held (place_of w held) p))
          (stored (place_of w held) (mem_place w held (judged_full m p w held t q full lawful)).0))
