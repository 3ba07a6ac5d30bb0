-- Entries in order (`Orderly`), as a sound record has them: one request keeps them so, and the page that a rule drops is unique.
--
-- In order: the moments of an entry; one request; the page that a rule drops.
-- Assumes nothing.
use mathlib.Core.Path.{◌≡◌, refl, sym, ap, ◌∙◌, subst}
use mathlib.Core.Logic.{◌⊎◌, inl, inr, ⊎_elim}
use mathlib.Core.Bool.{Bool, true, false}
use mathlib.Core.List.{List, [], ◌∷◌}
use Prim.Native.Nat.{ℕ, zero, suc, ◌≤◌, ◌<◌}
use native.Mathlib.Omega.{arith}
use lib.Dec.{leb}
use lib.ListN.{length, get_or}
use borrow.Author.Tests.{leb-true, eqb-false}
use Rattle.paging.specs.Lists.{pick, both, implies, any, all}
use Rattle.paging.specs.Rules.{mark, Sees, once, lru_drops, fifo_drops, lru2_drops, drops, chosen}
use Rattle.paging.specs.Walk.{zero_entry, entry_at, loaded_at, renewed, next}
use Rattle.paging.specs.declared.Entry.{Entry}
use Rattle.paging.specs.declared.Rule.{Rule}
use Rattle.paging.specs.declared.Rule.TheVariants.{Lru, Fifo, Min, Lru2}
use Rattle.paging.proofs.Lists.{true≢false, bool_cases, both_first, both_second, implied, all_at, none_at, index_is}
use Rattle.paging.specs.Meanings.{In}
use Rattle.paging.proofs.Frames.{pages_length, pages_at, Became, next_entry, next_apart}
use Rattle.soundness.specs.Sound.{moments, InTime, Orderly}

-- ---- the moments of an entry

at_loaded : (e : Entry) → In e.loaded.0 (moments e)
at_loaded e = (0, omega arith, refl)

at_last : (e : Entry) → In e.last.0 (moments e)
at_last e = (1, omega arith, refl)

at_earlier : (e : Entry) → once e ≡ false → In e.earlier.0 (moments e)
at_earlier e o =
    subst (λ (b : Bool). In e.earlier.0 (e.loaded.0 ∷ e.last.0 ∷ pick b [] (e.earlier.0 ∷ []))) (sym o) (2, omega arith, refl)

moment_cases : (e : Entry) (m : ℕ) → In m (moments e) → (m ≡ e.loaded.0) ⊎ (m ≡ e.last.0) ⊎ ((once e ≡ false) × (m ≡ e.earlier.0))
moment_cases e m = go (once e) refl
  where
    third : (o : once e ≡ false) (i : ℕ) → i < 3 → get_or (e.loaded.0 ∷ e.last.0 ∷ e.earlier.0 ∷ []) i 0 ≡ m
        → (m ≡ e.loaded.0) ⊎ (m ≡ e.last.0) ⊎ ((once e ≡ false) × (m ≡ e.earlier.0))
    third o zero h x = inl (sym x)
    third o (suc zero) h x = inr (inl (sym x))
    third o (suc (suc zero)) h x = inr (inr (o, sym x))
    third o (suc (suc (suc i))) h x = absurd (omega arith)

    second : (i : ℕ) → i < 2 → get_or (e.loaded.0 ∷ e.last.0 ∷ []) i 0 ≡ m
        → (m ≡ e.loaded.0) ⊎ (m ≡ e.last.0) ⊎ ((once e ≡ false) × (m ≡ e.earlier.0))
    second zero h x = inl (sym x)
    second (suc zero) h x = inr (inl (sym x))
    second (suc (suc i)) h x = absurd (omega arith)

    go : (b : Bool) → once e ≡ b → In m (e.loaded.0 ∷ e.last.0 ∷ pick b [] (e.earlier.0 ∷ []))
        → (m ≡ e.loaded.0) ⊎ (m ≡ e.last.0) ⊎ ((once e ≡ false) × (m ≡ e.earlier.0))
    go true q (i, h, x) = second i h x
    go false q (i, h, x) = third q i h x

-- all moments of an entry are below the clock
moment_below : (clock : ℕ) (e : Entry) (m : ℕ) → InTime clock e → In m (moments e) → m < clock
moment_below clock e m w a = go (moment_cases e m a)
  where
    go : (m ≡ e.loaded.0) ⊎ (m ≡ e.last.0) ⊎ ((once e ≡ false) × (m ≡ e.earlier.0)) → m < clock
    go (inl x) = omega (arith, w.loaded_last, w.last_clock)
    go (inr (inl x)) = omega (arith, w.last_clock)
    go (inr (inr (o, x))) = ⊎_elim (λ y. absurd (eqb-false _ _ o y.1)) (λ y. omega (arith, w.last_clock)) w.earlier_fits_lem

-- ---- one request

module _ (rule : Rule) (n t p : ℕ) (sees : Sees) (es : List Entry) (sound : Orderly t es) (page : p ≡ mark → ⊥) where
  after : List Entry
  after = next rule n t p sees es

  became : (i : ℕ) → i < length after → Became t p es i (entry_at after i)
  unfolding after
  became = next_entry rule n t p sees es sound.apart

  next_unmarked : (i : ℕ) → i < length after → (entry_at after i).page.0 ≡ mark → ⊥
  next_unmarked i h x = go (became i h)
    where
      go : Became t p es i (entry_at after i) → ⊥
      go (inl (q, e)) = page (sym (ap (λ (d : Entry). d.page.0) e) ∙ x)
      go (inr (inl (q, k, g, e))) = sound.unmarked i k (sym (ap (λ (d : Entry). d.page.0) e) ∙ x)
      go (inr (inr (k, g, e))) = sound.unmarked i k (sym (ap (λ (d : Entry). d.page.0) e) ∙ x)

  next_in_time : (i : ℕ) → i < length after → InTime (suc t) (entry_at after i)
  next_in_time i h = go (became i h)
    where
      go : Became t p es i (entry_at after i) → InTime (suc t) (entry_at after i)
      go (inl (q, e)) = rw e (record { loaded_last = omega arith; last_clock = omega arith; earlier_fits_lem = inl (refl, refl) })
      go (inr (inl (q, k, g, e))) =
          let w : InTime t (entry_at es i) = sound.in_time_lem i k in
          rw e (record { loaded_last = omega arith; last_clock = omega arith; earlier_fits_lem = inr (w.loaded_last, w.last_clock) })
      go (inr (inr (k, g, e))) =
          let w : InTime t (entry_at es i) = sound.in_time_lem i k in
          rw e (record { loaded_last = w.loaded_last; last_clock = omega (arith, w.last_clock); earlier_fits_lem = w.earlier_fits_lem })

  -- a moment after the request is the clock, and of the requested page, or stood in the same frame before
  moment_from : (i : ℕ) → i < length after → (m : ℕ) → In m (moments (entry_at after i))
      → ((m ≡ t) × ((entry_at after i).page.0 ≡ p)) ⊎ ((m < t) × (i < length es) × In m (moments (entry_at es i)))
  moment_from i h m a = go (became i h)
    where
      d : Entry
      d = entry_at es i

      page_is : (x : Entry) → entry_at after i ≡ x → x.page.0 ≡ p → (entry_at after i).page.0 ≡ p
      page_is x e g = ap (λ (y : Entry). y.page.0) e ∙ g

      moved : (x : Entry) → entry_at after i ≡ x → (m ≡ x.loaded.0) ⊎ (m ≡ x.last.0) ⊎ ((once x ≡ false) × (m ≡ x.earlier.0))
      moved x e = moment_cases x m (subst (λ (y : Entry). In m (moments y)) e a)

      old : i < length es → In m (moments d) → ((m ≡ t) × ((entry_at after i).page.0 ≡ p)) ⊎ ((m < t) × (i < length es) × In m (moments d))
      old k b = inr (moment_below t d m (sound.in_time_lem i k) b, k, b)

      load : entry_at after i ≡ loaded_at t p → (m ≡ t) ⊎ (m ≡ t) ⊎ ((true ≡ false) × (m ≡ mark))
          → ((m ≡ t) × ((entry_at after i).page.0 ≡ p)) ⊎ ((m < t) × (i < length es) × In m (moments d))
      load e (inl x) = inl (x, page_is (loaded_at t p) e refl)
      load e (inr (inl x)) = inl (x, page_is (loaded_at t p) e refl)
      load e (inr (inr (o, x))) = absurd (true≢false o)

      renew : i < length es → d.page.0 ≡ p → entry_at after i ≡ renewed t d → (m ≡ d.loaded.0) ⊎ (m ≡ t) ⊎ ((once (renewed t d) ≡ false) × (m ≡ d.last.0))
          → ((m ≡ t) × ((entry_at after i).page.0 ≡ p)) ⊎ ((m < t) × (i < length es) × In m (moments d))
      renew k g e (inl x) = old k (subst (λ (y : ℕ). In y (moments d)) (sym x) (at_loaded d))
      renew k g e (inr (inl x)) = inl (x, page_is (renewed t d) e g)
      renew k g e (inr (inr (o, x))) = old k (subst (λ (y : ℕ). In y (moments d)) (sym x) (at_last d))

      go : Became t p es i (entry_at after i) → ((m ≡ t) × ((entry_at after i).page.0 ≡ p)) ⊎ ((m < t) × (i < length es) × In m (moments d))
      go (inl (q, e)) = load e (moved (loaded_at t p) e)
      go (inr (inl (q, k, g, e))) = renew k g e (moved (renewed t d) e)
      go (inr (inr (k, g, e))) = old k (subst (λ (y : Entry). In m (moments y)) e a)

  -- ONE REQUEST keeps entries in order
  pub next_orderly : Orderly (suc t) (next rule n t p sees es)
  unfolding after
  next_orderly =
      record {
        apart = next_apart rule n t p sees es sound.apart;
        unmarked = next_unmarked;
        in_time_lem = next_in_time;
        moments_apart = λ i j h k m a b. go i j h k m (moment_from i h m a) (moment_from j k m b);
      }
    where
      go : (i j : ℕ) → i < length after → j < length after → (m : ℕ)
          → ((m ≡ t) × ((entry_at after i).page.0 ≡ p)) ⊎ ((m < t) × (i < length es) × In m (moments (entry_at es i)))
          → ((m ≡ t) × ((entry_at after j).page.0 ≡ p)) ⊎ ((m < t) × (j < length es) × In m (moments (entry_at es j))) → i ≡ j
      go i j h k m (inl (x, u)) (inl (y, v)) =
          next_apart rule n t p sees es sound.apart i j (omega (arith, pages_length after)) (omega (arith, pages_length after))
          (pages_at after i ∙ u ∙ sym v ∙ sym (pages_at after j))
      go i j h k m (inl (x, u)) (inr (y, l, b)) = absurd (omega arith)
      go i j h k m (inr (x, l, a)) (inl (y, v)) = absurd (omega arith)
      go i j h k m (inr (x, l, a)) (inr (y, o, b)) = sound.moments_apart i j l o m a b

-- ---- the page that a rule drops is unique

module _ (clock : ℕ) (es : List Entry) (sound : Orderly clock es) where
  same_moment : (i j m : ℕ) → i < length es → j < length es → In m (moments (entry_at es i)) → (k : ℕ) → In k (moments (entry_at es j)) → m ≤ k → k ≤ m → i ≡ j
  same_moment i j m h l a k b x y = sound.moments_apart i j h l m a (subst (λ (z : ℕ). In z (moments (entry_at es j))) (let e : k ≡ m = omega arith in e) b)

  lru2_one : (i j : ℕ) → i < length es → j < length es → lru2_drops es (entry_at es i) ≡ true → lru2_drops es (entry_at es j) ≡ true → i ≡ j
  unfolding lru2_drops
  lru2_one i j h k = go (any once es) refl
    where
      by_last : Entry → Entry → Bool
      by_last e d = implies (once d) (leb e.last.0 d.last.0)

      by_earlier : Entry → Entry → Bool
      by_earlier e d = leb e.earlier.0 d.earlier.0

      seldom : (f : ℕ) → both (once (entry_at es f)) (all (by_last (entry_at es f)) es) ≡ true → once (entry_at es f) ≡ true
      seldom f a = both_first (once (entry_at es f)) (all (by_last (entry_at es f)) es) a

      sooner : (f g : ℕ) → g < length es → both (once (entry_at es f)) (all (by_last (entry_at es f)) es) ≡ true
          → once (entry_at es g) ≡ true → (entry_at es f).last.0 ≤ (entry_at es g).last.0
      sooner f g l a o =
          leb-true _ _
          (implied (once (entry_at es g)) (leb (entry_at es f).last.0 (entry_at es g).last.0)
          (all_at (by_last (entry_at es f)) zero_entry es (both_second (once (entry_at es f)) (all (by_last (entry_at es f)) es) a) g l) o)

      often : any once es ≡ false → (f : ℕ) → f < length es → once (entry_at es f) ≡ false
      often q f l = ⊎_elim (λ x. absurd (none_at once zero_entry es q f l x)) (λ x. x) (bool_cases (once (entry_at es f)))

      go : (b : Bool) → any once es ≡ b
          → pick b (both (once (entry_at es i)) (all (by_last (entry_at es i)) es)) (all (by_earlier (entry_at es i)) es) ≡ true
          → pick b (both (once (entry_at es j)) (all (by_last (entry_at es j)) es)) (all (by_earlier (entry_at es j)) es) ≡ true → i ≡ j
      go true q a b = same_moment i j _ h k (at_last (entry_at es i)) _ (at_last (entry_at es j)) (sooner i j k a (seldom j b)) (sooner j i h b (seldom i a))
      go false q a b =
          same_moment i j _ h k (at_earlier (entry_at es i) (often q i h)) _ (at_earlier (entry_at es j) (often q j k))
          (leb-true _ _ (all_at (by_earlier (entry_at es i)) zero_entry es a j k)) (leb-true _ _ (all_at (by_earlier (entry_at es j)) zero_entry es b i h))

  -- of two entries that fit a rule's description, other than MIN's, both are the same
  pub drops_one : (rule : Rule) (sees : Sees) → (rule ≡ Min → ⊥) → (i j : ℕ) → i < length es → j < length es
      → drops rule sees es (entry_at es i) ≡ true → drops rule sees es (entry_at es j) ≡ true → i ≡ j
  unfolding drops lru_drops fifo_drops
  drops_one Lru sees fed i j h k a b =
      same_moment i j _ h k (at_last (entry_at es i)) _ (at_last (entry_at es j)) (leb-true _ _ (all_at _ zero_entry es a j k)) (leb-true _ _ (all_at _ zero_entry es b i h))
  drops_one Fifo sees fed i j h k a b =
      same_moment i j _ h k (at_loaded (entry_at es i)) _ (at_loaded (entry_at es j)) (leb-true _ _ (all_at _ zero_entry es a j k)) (leb-true _ _ (all_at _ zero_entry es b i h))
  drops_one Min sees fed i j h k a b = absurd (fed refl)
  drops_one Lru2 sees fed i j h k a b = lru2_one i j h k a b

  -- so the frame of an entry that fits is the one chosen
  pub chosen_is : (rule : Rule) (sees : Sees) → (rule ≡ Min → ⊥) → (i : ℕ) → i < length es → drops rule sees es (entry_at es i) ≡ true → chosen rule sees es ≡ i
  unfolding chosen
  chosen_is rule sees fed i h d = index_is (drops rule sees es) zero_entry es i h d (λ j k e. drops_one rule sees fed j i k h e d)
