-- The frames, for any rule: held pages differ and are at most n, none is dropped unless the cache is full, exactly one on a fault in a full cache.
--
-- In order: the three ways of one request, as equations; what they do to the held pages; the same at every moment of a walk from empty.
-- Assumes nothing.
use Rattle.std.specs.Prelude.{Some, None}
use mathlib.Core.Path.{◌≡◌, refl, sym, ap, ◌∙◌, subst}
use mathlib.Core.Logic.{◌⊎◌, inl, inr, ⊎_elim, ◌↔◌}
use mathlib.Core.Bool.{Bool, true, false}
use mathlib.Core.List.{List, [], ◌∷◌, ◌++◌}
use Prim.Native.Nat.{ℕ, zero, suc, ◌+◌, ◌≤◌, ◌<◌}
use native.Mathlib.Omega.{arith}
use lib.Dec.{eqb, ltb}
use lib.ListN.{length, get_or, set, take, drop, length-set, length-map}
use lib.Seq.{map-set_same, take-suc, drop-cons}
use borrow.Author.Tests.{lt-ltb, le-ltb, ltb-true, ltb-false}
use Rattle.paging.specs.Rules.{Sees, chosen}
use Rattle.paging.specs.Walk.{holds, zero_entry, entry_at, pages, loaded_at, renewed, outcome, next, outcomes, sees_at, entries_at}
use Rattle.paging.specs.Lists.{pick, any, index_of, mem, place_of}
use Rattle.paging.specs.Held.{if_held, held_after}
use Rattle.paging.specs.Meanings.{In, Apart}
use Rattle.paging.specs.declared.Page.{Page}
use Rattle.paging.specs.declared.Entry.{Entry}
use Rattle.paging.specs.declared.Rule.{Rule}
use Rattle.paging.specs.declared.Outcome.{Outcome}
use Rattle.paging.specs.declared.Outcome.TheVariants.{Hit, Loaded, Dropped}
use Rattle.std.proofs.Math.ListN.{get_or-map}
use Rattle.std.proofs.lemmas.List.{map-append, map-set}
use Rattle.paging.proofs.Lists.{any_map, index_map, length_snoc, snoc_cases, set_cases}
use Rattle.paging.proofs.Choice.{chosen_below}
use Rattle.paging.proofs.Held.{mem_place, absent_in, apart_nil, apart_snoc, apart_set, set_in}

-- ---- entries and their pages

pub pages_length : (es : List Entry) → length (pages es) ≡ length es
pages_length es = length-map es (λ (e : Entry). e.page.0)

pub pages_at : (es : List Entry) (i : ℕ) → get_or (pages es) i 0 ≡ (entry_at es i).page.0
pages_at es i = get_or-map (λ (e : Entry). e.page.0) es i zero_entry

-- a page is held where it stands among the pages
pub mem_pages : (p : ℕ) (es : List Entry) → mem p (pages es) ≡ holds p es
unfolding holds
mem_pages p es = go (mem p (pages es))
  where
    go : (b : Bool) → b ≡ if_held (pick b (Some (record { 0 = place_of p (pages es) })) None) (λ (f : ℕ). true) false
    go true = refl
    go false = refl

-- entry by entry
pub mem_any : (p : ℕ) (es : List Entry) → mem p (pages es) ≡ any (λ (e : Entry). eqb e.page.0 p) es
unfolding mem
mem_any p es = any_map (λ (e : Entry). e.page.0) (λ (q : ℕ). eqb q p) es

pub place_index : (p : ℕ) (es : List Entry) → place_of p (pages es) ≡ index_of (λ (e : Entry). eqb e.page.0 p) es
unfolding place_of
place_index p es = index_map (λ (e : Entry). e.page.0) (λ (q : ℕ). eqb q p) es

-- a held page stands in its frame
pub held_frame : (p : ℕ) (es : List Entry) → holds p es ≡ true → (place_of p (pages es) < length es) × ((entry_at es (place_of p (pages es))).page.0 ≡ p)
held_frame p es e =
    let (h, g) = mem_place p (pages es) (mem_pages p es ∙ e) in (
      omega (arith, rw (pages_length es) at h),
      sym (pages_at es (place_of p (pages es))) ∙ g,
    )

-- ---- the three ways of one request

-- a hit; a fault with room; a fault in a full cache
abbrev pub Ways : ℕ → ℕ → List Entry → Type 0
Ways n p es = (holds p es ≡ true) ⊎ ((holds p es ≡ false) × (length es < n)) ⊎ ((holds p es ≡ false) × (n ≤ length es))

pub ways : (n p : ℕ) (es : List Entry) → Ways n p es
ways n p es = go (holds p es) (ltb (length es) n) refl refl
  where
    go : (b c : Bool) → holds p es ≡ b → ltb (length es) n ≡ c → Ways n p es
    go true c q r = inl q
    go false true q r = inr (inl (q, ltb-true _ _ r))
    go false false q r = inr (inr (q, ltb-false _ _ r))

module _ (rule : Rule) (n t p : ℕ) (sees : Sees) (es : List Entry) where
  pub outcome_hit : holds p es ≡ true → outcome rule n p sees es ≡ Hit
  unfolding outcome
  outcome_hit q = rw (mem_pages p es ∙ q)

  pub outcome_room : holds p es ≡ false → length es < n → outcome rule n p sees es ≡ Loaded
  unfolding outcome
  outcome_room q h = rw (mem_pages p es ∙ q, lt-ltb _ _ h)

  pub outcome_full : holds p es ≡ false → n ≤ length es → outcome rule n p sees es ≡ Dropped (entry_at es (chosen rule sees es)).page
  unfolding outcome
  outcome_full q h = rw (mem_pages p es ∙ q, le-ltb _ _ h)

  pub next_hit : holds p es ≡ true → next rule n t p sees es ≡ set es (place_of p (pages es)) (renewed t (entry_at es (place_of p (pages es))))
  unfolding next
  next_hit q = rw (mem_pages p es ∙ q)

  pub next_room : holds p es ≡ false → length es < n → next rule n t p sees es ≡ es ++ (loaded_at t p ∷ [])
  unfolding next
  next_room q h = rw (mem_pages p es ∙ q, lt-ltb _ _ h)

  pub next_full : holds p es ≡ false → n ≤ length es → next rule n t p sees es ≡ set es (chosen rule sees es) (loaded_at t p)
  unfolding next
  next_full q h = rw (mem_pages p es ∙ q, le-ltb _ _ h)

  -- ---- what they do to the held pages

  -- a hit leaves them
  pub pages_hit : holds p es ≡ true → pages (next rule n t p sees es) ≡ pages es
  pages_hit q = ap pages (next_hit q) ∙ map-set_same (λ (e : Entry). e.page.0) es (place_of p (pages es)) (renewed t (entry_at es (place_of p (pages es)))) zero_entry refl

  -- with room the new page takes the lowest free frame
  pub pages_room : holds p es ≡ false → length es < n → pages (next rule n t p sees es) ≡ pages es ++ (p ∷ [])
  pages_room q h = ap pages (next_room q h) ∙ map-append (λ (e : Entry). e.page.0) es (loaded_at t p ∷ [])

  -- in a full cache it takes the frame of the page dropped
  pub pages_full : holds p es ≡ false → n ≤ length es → pages (next rule n t p sees es) ≡ set (pages es) (chosen rule sees es) p
  pages_full q h = ap pages (next_full q h) ∙ map-set (λ (e : Entry). e.page.0) es (chosen rule sees es) (loaded_at t p)

  -- so they are the pages held after a request, with the rule's choice as the page that goes
  pub pages_after : pages (next rule n t p sees es) ≡ held_after n p (Some (record { 0 = chosen rule sees es })) (pages es)
  unfolding held_after
  pages_after = go (ways n p es)
    where
      l : length (pages es) ≡ length es
      l = pages_length es

      go : Ways n p es → pages (next rule n t p sees es) ≡ held_after n p (Some (record { 0 = chosen rule sees es })) (pages es)
      go (inl q) = rw (pages_hit q, mem_pages p es ∙ q)
      go (inr (inl (q, h))) = rw (pages_room q h, mem_pages p es ∙ q, l, lt-ltb (length es) n h)
      go (inr (inr (q, h))) = rw (pages_full q h, mem_pages p es ∙ q, l, le-ltb (length es) n h)

  pub next_apart : Apart (pages es) → Apart (pages (next rule n t p sees es))
  next_apart a = go (ways n p es)
    where
      out : holds p es ≡ false → In p (pages es) → ⊥
      out q = absent_in p (pages es) (mem_pages p es ∙ q)

      go : Ways n p es → Apart (pages (next rule n t p sees es))
      go (inl q) = rw (pages_hit q) a
      go (inr (inl (q, h))) = rw (pages_room q h) (apart_snoc (pages es) p a (out q))
      go (inr (inr (q, h))) = rw (pages_full q h) (apart_set (pages es) (chosen rule sees es) p a (out q))

  pub next_size : length es ≤ n → length (next rule n t p sees es) ≤ n
  next_size k = go (ways n p es)
    where
      go : Ways n p es → length (next rule n t p sees es) ≤ n
      go (inl q) = rw (next_hit q) (simp length-set k)
      go (inr (inl (q, h))) = rw (next_room q h) (omega (arith, length_snoc zero_entry es (loaded_at t p)))
      go (inr (inr (q, h))) = rw (next_full q h) (simp length-set k)

  -- at most one page more is held
  pub next_grows : length (next rule n t p sees es) ≤ suc (length es)
  next_grows = go (ways n p es)
    where
      go : Ways n p es → length (next rule n t p sees es) ≤ suc (length es)
      go (inl q) = rw (next_hit q) (omega (arith, length-set es (place_of p (pages es)) (renewed t (entry_at es (place_of p (pages es))))))
      go (inr (inl (q, h))) = rw (next_room q h) (omega (arith, length_snoc zero_entry es (loaded_at t p)))
      go (inr (inr (q, h))) = rw (next_full q h) (omega (arith, length-set es (chosen rule sees es) (loaded_at t p)))

  -- none is dropped unless the cache is full
  pub dropped_full : (q : Page) → outcome rule n p sees es ≡ Dropped q
      → (holds p es ≡ false) × (n ≤ length es) × (q ≡ (entry_at es (chosen rule sees es)).page)
  dropped_full q e = go (ways n p es)
    where
      go : Ways n p es → (holds p es ≡ false) × (n ≤ length es) × (q ≡ (entry_at es (chosen rule sees es)).page)
      go (inl h) = absurd (let z : ◌≡◌ {A = ℕ} 0 1 = cc (outcome_hit h) in omega arith)
      go (inr (inl (h, k))) = absurd (let z : ◌≡◌ {A = ℕ} 0 1 = cc (outcome_room h k) in omega arith)
      go (inr (inr (h, k))) = (h, k, (cc (outcome_full h k)))

-- ---- what they do to each entry

-- the entry e of frame i after the request: the page just loaded; the page just renewed; or as it was, and of another page
abbrev pub Became : ℕ → ℕ → List Entry → ℕ → Entry → Type 0
Became t p es i e =
    ((holds p es ≡ false) × (e ≡ loaded_at t p))
    ⊎ ((holds p es ≡ true) × (i < length es) × ((entry_at es i).page.0 ≡ p) × (e ≡ renewed t (entry_at es i)))
    ⊎ ((i < length es) × ((entry_at es i).page.0 ≡ p → ⊥) × (e ≡ entry_at es i))

-- where a page isn't held, no frame has it
pub absent_at : (p : ℕ) (es : List Entry) → holds p es ≡ false → (i : ℕ) → i < length es → (entry_at es i).page.0 ≡ p → ⊥
absent_at p es q i h e =
    absent_in p (pages es) (mem_pages p es ∙ q) (i, omega (arith, pages_length es), pages_at es i ∙ e)

-- in a list of pages that differ, only its own frame has a page
pub frame_only : (p : ℕ) (es : List Entry) → Apart (pages es) → holds p es ≡ true → (i : ℕ) → i < length es → (entry_at es i).page.0 ≡ p → i ≡ place_of p (pages es)
frame_only p es a q i h e =
    let (k, g) = held_frame p es q in
    a i (place_of p (pages es)) (omega (arith, pages_length es)) (omega (arith, pages_length es)) (pages_at es i ∙ e ∙ sym g ∙ sym (pages_at es (place_of p (pages es))))

module _ (rule : Rule) (n t p : ℕ) (sees : Sees) (es : List Entry) where
  pub next_entry : Apart (pages es) → (i : ℕ) → i < length (next rule n t p sees es) → Became t p es i (entry_at (next rule n t p sees es) i)
  next_entry a i h = go (ways n p es)
    where
      hit : holds p es ≡ true → Became t p es i (entry_at (next rule n t p sees es) i)
      hit q =
          let e : next rule n t p sees es ≡ set es (place_of p (pages es)) (renewed t (entry_at es (place_of p (pages es)))) = next_hit rule n t p sees es q in
          let (k, g) = held_frame p es q in
          rw e
          (⊎_elim
          (λ w.
          inr
          (inl (
            q,
            subst (λ (f : ℕ). f < length es) (sym w.0) k,
            ap (λ (f : ℕ). (entry_at es f).page.0) w.0 ∙ g,
            w.1 ∙ ap (λ (f : ℕ). renewed t (entry_at es f)) (sym w.0),
          )))
          (λ w. inr (inr (w.1, (λ x. w.0 (frame_only p es a q i w.1 x)), w.2)))
          (set_cases zero_entry es (place_of p (pages es)) (renewed t (entry_at es (place_of p (pages es)))) i (rw e at h)))

      room : holds p es ≡ false → length es < n → Became t p es i (entry_at (next rule n t p sees es) i)
      room q k =
          let e : next rule n t p sees es ≡ es ++ (loaded_at t p ∷ []) = next_room rule n t p sees es q k in
          rw e
          (⊎_elim (λ w. inr (inr (w.0, absent_at p es q i w.0, w.1))) (λ w. inl (q, w.1))
          (snoc_cases zero_entry es (loaded_at t p) i (rw e at h)))

      full : holds p es ≡ false → n ≤ length es → Became t p es i (entry_at (next rule n t p sees es) i)
      full q k =
          let e : next rule n t p sees es ≡ set es (chosen rule sees es) (loaded_at t p) = next_full rule n t p sees es q k in
          rw e
          (⊎_elim (λ w. inl (q, w.1)) (λ w. inr (inr (w.1, absent_at p es q i w.1, w.2)))
          (set_cases zero_entry es (chosen rule sees es) (loaded_at t p) i (rw e at h)))

      go : Ways n p es → Became t p es i (entry_at (next rule n t p sees es) i)
      go (inl q) = hit q
      go (inr (inl (q, k))) = room q k
      go (inr (inr (q, k))) = full q k

-- ---- at every moment of a walk from empty

module _ (rule : Rule) (n : ℕ) (trace : List ℕ) where
  -- held pages differ
  pub held_differ : (t : ℕ) → Apart (pages (entries_at rule n trace t))
  unfolding entries_at
  held_differ zero = apart_nil
  held_differ (suc t) = next_apart rule n t (get_or trace t 0) (sees_at trace t) (entries_at rule n trace t) (held_differ t)

  -- held pages are at most n
  pub held_at_most : (t : ℕ) → length (entries_at rule n trace t) ≤ n
  unfolding entries_at
  held_at_most zero = omega arith
  held_at_most (suc t) = next_size rule n t (get_or trace t 0) (sees_at trace t) (entries_at rule n trace t) (held_at_most t)

  -- the state at a moment is the walk's: the outcome of each moment is that of one request on it
  abbrev pub outcome_at : ℕ → Outcome
  outcome_at t = outcome rule n (get_or trace t 0) (sees_at trace t) (entries_at rule n trace t)

  outcome_from : (i t : ℕ) → t + i < length trace → (d : Outcome)
      → get_or (outcomes rule n t (take t trace) (drop t trace) (entries_at rule n trace t)) i d ≡ outcome_at (t + i)
  unfolding outcomes entries_at
  outcome_from zero t h d =
      let e : t ≡ t + 0 = omega arith in
      rw (drop-cons trace t 0 (let k : t < length trace = omega arith in k)) (ap outcome_at e)
  outcome_from (suc i) t h d =
      let e : suc t + i ≡ t + suc i = omega arith in
      rw (drop-cons trace t 0 (let k : t < length trace = omega arith in k), ← take-suc trace t 0 (let k : t < length trace = omega arith in k))
      (outcome_from i (suc t) (omega arith) d ∙ ap outcome_at e)

  pub outcome_at_lem : (t : ℕ) → t < length trace → (d : Outcome) → get_or (outcomes rule n 0 [] trace []) t d ≡ outcome_at t
  unfolding entries_at
  outcome_at_lem t h d = let e : 0 + t ≡ t = omega arith in outcome_from t 0 (omega arith) d ∙ ap outcome_at e

-- exactly one page is dropped on a fault in a full cache: a page q that was held is held no more, the requested page is, and all others stay
pub drops_exactly_one : (rule : Rule) (n t p : ℕ) (sees : Sees) (es : List Entry)
    → Apart (pages es) → 0 < length es → holds p es ≡ false → n ≤ length es
    → (q : Page) × (outcome rule n p sees es ≡ Dropped q) × In q.0 (pages es)
    × ((x : ℕ) → In x (pages (next rule n t p sees es)) ↔ ((x ≡ p) ⊎ (In x (pages es) × (x ≡ q.0 → ⊥))))
drops_exactly_one rule n t p sees es a some q h =
    let f : ℕ = chosen rule sees es in
    let k : f < length (pages es) = omega (arith, pages_length es, chosen_below rule sees es some) in (
      (entry_at es f).page,
      outcome_full rule n t p sees es q h,
      (f, k, pages_at es f),
      λ x. rw (pages_full rule n t p sees es q h, ← pages_at es f) (set_in (pages es) f p x a k),
    )
