-- What the test of soundness means: document 01's conditions, said of numbers (`SoundParts`), hold exactly when it answers true.
-- Assumes nothing.
use mathlib.Core.Path.{◌≡◌, refl, sym, ap, ◌∙◌}
use mathlib.Core.Logic.{◌⊎◌, inl, inr}
use mathlib.Core.Bool.{Bool, true, false}
use mathlib.Core.List.{List}
use Prim.Native.Nat.{ℕ, ◌≤◌, ◌<◌}
use native.Mathlib.Omega.{arith}
use native.Mathlib.Decide.{dec_lt, ℕ_discrete}
use lib.Dec.{eqb, ltb, leb}
use lib.ListN.{length, get_or, take}
use borrow.Author.Tests.{ltb-true, ltb-false, leb-true, eqb-true, eqb-false, lt-ltb, le-ltb, le-leb, eq-eqb, ne_eqb}
use Rattle.paging.specs.Lists.{pick, not, both, all, mem}
use Rattle.paging.specs.Rules.{mark}
use Rattle.paging.specs.Walk.{zero_entry, entry_at, pages}
use Rattle.paging.specs.Calls.{frame_limit, outside}
use Rattle.paging.specs.declared.Entry.{Entry}
use Rattle.paging.proofs.Lists.{false≢true, both_first, both_second, both_true, all_at, at_all}
use Rattle.paging.specs.Meanings.{In, Apart}
use Rattle.paging.proofs.Held.{in_mem, not_in}
use Rattle.paging.proofs.Frames.{pages_length, pages_at}
use Rattle.soundness.specs.Sound.{pairwise, is_page, in_order, earlier_fits, pages_differ, moments, moments_differ, conditions, sound_parts, InTime, SoundParts}
use Rattle.soundness.proofs.Pairs.{pairs_at, at_pairs}

-- ---- each condition

not_of : (b : Bool) → not b ≡ true → b ≡ false
not_of true e = absurd (false≢true e)
not_of false e = refl

pub of_not : (b : Bool) → b ≡ false → not b ≡ true
of_not b e = rw e

pub inside : (n : ℕ) → not (outside n) ≡ true → (1 ≤ n) × (n ≤ frame_limit)
inside n = go (ltb n 1) refl
  where
    go : (b : Bool) → ltb n 1 ≡ b → not (pick b true (ltb frame_limit n)) ≡ true → (1 ≤ n) × (n ≤ frame_limit)
    go true q e = absurd (false≢true e)
    go false q e = (ltb-false _ _ q, ltb-false _ _ (not_of _ e))

is_inside : (n : ℕ) → 1 ≤ n → n ≤ frame_limit → not (outside n) ≡ true
is_inside n h k = rw (le-ltb n 1 h, le-ltb frame_limit n k)

pub is_outside : (n : ℕ) → (n < 1) ⊎ (frame_limit < n) → outside n ≡ true
is_outside n (inl h) = rw (lt-ltb n 1 h)
is_outside n (inr h) = go (ltb n 1)
  where
    go : (b : Bool) → pick b true (ltb frame_limit n) ≡ true
    go true = refl
    go false = lt-ltb frame_limit n h

apart_of : (es : List Entry) → pairwise pages_differ es ≡ true → Apart (pages es)
apart_of es e i j h k x =
    elim (ℕ_discrete i j) [
      | yes s ↦ s
      | no s ↦
          absurd (elim (dec_lt i j)
          [ yes l ↦ clash i j l (omega (arith, pages_length es)) x | no l ↦ clash j i (omega arith) (omega (arith, pages_length es)) (sym x) ])
    ]
  where
    clash : (a b : ℕ) → a < b → b < length es → get_or (pages es) a 0 ≡ get_or (pages es) b 0 → ⊥
    clash a b l m y =
        eqb-false _ _ (not_of _ (pairs_at pages_differ zero_entry es e a b l m)) (sym (pages_at es a) ∙ y ∙ pages_at es b)

of_apart : (es : List Entry) → Apart (pages es) → pairwise pages_differ es ≡ true
of_apart es a =
    at_pairs pages_differ zero_entry es
    (λ i j h k.
    of_not _ (ne_eqb _ _ (λ x.
    let e : i ≡ j = a i j (omega (arith, pages_length es)) (omega (arith, pages_length es)) (pages_at es i ∙ x ∙ sym (pages_at es j)) in omega arith)))

in_time_of : (clock : ℕ) (e : Entry) → in_order clock e ≡ true → earlier_fits e ≡ true → InTime clock e
in_time_of clock e a b =
    record {
      loaded_last = leb-true _ _ (both_first (leb e.loaded.0 e.last.0) (ltb e.last.0 clock) a);
      last_clock = ltb-true _ _ (both_second (leb e.loaded.0 e.last.0) (ltb e.last.0 clock) a);
      earlier_fits_lem = go (eqb e.loaded.0 e.last.0) refl b;
    }
  where
    go : (q : Bool) → eqb e.loaded.0 e.last.0 ≡ q
        → pick q (eqb e.earlier.0 mark) (both (leb e.loaded.0 e.earlier.0) (ltb e.earlier.0 e.last.0)) ≡ true
        → ((e.loaded.0 ≡ e.last.0) × (e.earlier.0 ≡ mark)) ⊎ ((e.loaded.0 ≤ e.earlier.0) × (e.earlier.0 < e.last.0))
    go true q b = inl (eqb-true _ _ q, eqb-true _ _ b)
    go false q b =
        inr (
          leb-true _ _ (both_first (leb e.loaded.0 e.earlier.0) (ltb e.earlier.0 e.last.0) b),
          ltb-true _ _ (both_second (leb e.loaded.0 e.earlier.0) (ltb e.earlier.0 e.last.0) b),
        )

in_order_from : (clock : ℕ) (e : Entry) → InTime clock e → in_order clock e ≡ true
in_order_from clock e w = both_true _ _ (le-leb _ _ w.loaded_last) (lt-ltb _ _ w.last_clock)

earlier_from : (clock : ℕ) (e : Entry) → InTime clock e → earlier_fits e ≡ true
earlier_from clock e w = go w.earlier_fits_lem
  where
    go : ((e.loaded.0 ≡ e.last.0) × (e.earlier.0 ≡ mark)) ⊎ ((e.loaded.0 ≤ e.earlier.0) × (e.earlier.0 < e.last.0)) → earlier_fits e ≡ true
    go (inl (x, y)) = rw (eq-eqb e.loaded.0 e.last.0 x, eq-eqb e.earlier.0 mark y)
    go (inr (x, y)) =
        let d : e.loaded.0 ≡ e.last.0 → ⊥ = λ z. omega arith in
        rw (ne_eqb e.loaded.0 e.last.0 d, le-leb e.loaded.0 e.earlier.0 x, lt-ltb e.earlier.0 e.last.0 y)

differ_of : (d e : Entry) → moments_differ d e ≡ true → (m : ℕ) → In m (moments d) → In m (moments e) → ⊥
unfolding moments_differ
differ_of d e q m (i, h, x) b =
    let n : not (mem (get_or (moments d) i 0) (moments e)) ≡ true = all_at (λ (m : ℕ). not (mem m (moments e))) 0 (moments d) q i h in
    false≢true (sym (not_of _ n) ∙ ap (λ (y : ℕ). mem y (moments e)) x ∙ in_mem m (moments e) b)

of_differ : (d e : Entry) → ((m : ℕ) → In m (moments d) → In m (moments e) → ⊥) → moments_differ d e ≡ true
unfolding moments_differ
of_differ d e f =
    at_all (λ (m : ℕ). not (mem m (moments e))) 0 (moments d)
    (λ i h. of_not _ (not_in (get_or (moments d) i 0) (moments e) (f (get_or (moments d) i 0) (i, h, refl))))

moments_of : (es : List Entry) → pairwise moments_differ es ≡ true
    → (i j : ℕ) → i < length es → j < length es → (m : ℕ) → In m (moments (entry_at es i)) → In m (moments (entry_at es j)) → i ≡ j
moments_of es e i j h k m a b =
    elim (ℕ_discrete i j) [
      | yes s ↦ s
      | no s ↦
          absurd (elim (dec_lt i j) [
            | yes l ↦ differ_of _ _ (pairs_at moments_differ zero_entry es e i j l k) m a b
            | no l ↦ differ_of _ _ (pairs_at moments_differ zero_entry es e j i (omega arith) h) m b a
          ])
    ]

of_moments : (es : List Entry)
    → ((i j : ℕ) → i < length es → j < length es → (m : ℕ) → In m (moments (entry_at es i)) → In m (moments (entry_at es j)) → i ≡ j)
    → pairwise moments_differ es ≡ true
of_moments es f =
    at_pairs moments_differ zero_entry es
    (λ i j h k. of_differ (entry_at es i) (entry_at es j) (λ m a b. let e : i ≡ j = f i j (omega arith) k m a b in omega arith))

-- ---- the test and its meaning

module _ (rule frames clock held : ℕ) (entries : List Entry) where
  es : List Entry
  es = take held entries

  pub met_means : sound_parts rule frames clock held entries ≡ true → SoundParts rule frames clock held entries
  unfolding sound_parts es
  met_means e =
      let framed : not (outside frames) ≡ true = at 1 (omega arith) in
      let paged : all is_page es ≡ true = at 6 (omega arith) in
      let order : all (in_order clock) es ≡ true = at 7 (omega arith) in
      let fits : all earlier_fits es ≡ true = at 8 (omega arith) in
      record {
        feeds = at 0 (omega arith);
        frames_some = (inside frames framed).0;
        frames_most = (inside frames framed).1;
        clock_most = leb-true _ _ (at 2 (omega arith));
        held_frames = leb-true _ _ (at 3 (omega arith));
        held_clock = leb-true _ _ (at 4 (omega arith));
        orderly =
            record {
              apart = apart_of es (at 5 (omega arith));
              unmarked = λ i h x. eqb-false _ _ (not_of _ (all_at is_page zero_entry es paged i h)) x;
              in_time_lem = λ i h. in_time_of clock (entry_at es i) (all_at (in_order clock) zero_entry es order i h) (all_at earlier_fits zero_entry es fits i h);
              moments_apart = moments_of es (at 9 (omega arith));
            };
        blank_after = at 10 (omega arith);
      }
    where
      at : (k : ℕ) → k < 11 → get_or (conditions rule frames clock held entries) k false ≡ true
      at = all_at (λ (b : Bool). b) false (conditions rule frames clock held entries) e

  pub means_met : SoundParts rule frames clock held entries → sound_parts rule frames clock held entries ≡ true
  unfolding sound_parts es
  means_met s =
      both_true _ _ s.feeds
      (both_true _ _ (is_inside frames s.frames_some s.frames_most)
      (both_true _ _ (le-leb _ _ s.clock_most)
      (both_true _ _ (le-leb _ _ s.held_frames)
      (both_true _ _ (le-leb _ _ s.held_clock)
      (both_true _ _ (of_apart es s.orderly.apart)
      (both_true _ _ (at_all is_page zero_entry es (λ i h. of_not _ (ne_eqb _ _ (s.orderly.unmarked i h))))
      (both_true _ _ (at_all (in_order clock) zero_entry es (λ i h. in_order_from clock (entry_at es i) (s.orderly.in_time_lem i h)))
      (both_true _ _ (at_all earlier_fits zero_entry es (λ i h. earlier_from clock (entry_at es i) (s.orderly.in_time_lem i h)))
      (both_true _ _ (of_moments es s.orderly.moments_apart)
      (both_true _ _ s.blank_after refl))))))))))
