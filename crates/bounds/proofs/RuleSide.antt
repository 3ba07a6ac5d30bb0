-- The rule's side: LRU and FIFO fault at most once on a page in a stretch of requests of at most n different pages.
--
-- Both drop the entry with the least key: the moment of its last request, or of its load. In order: what the two have in common; one request; the window;
-- such a rule is frugal; the two rules.
-- Assumes nothing.
use mathlib.Core.Path.{◌≡◌, refl, sym, ◌∙◌}
use mathlib.Core.Logic.{◌⊎◌, inl, inr, ⊎_elim}
use mathlib.Core.Bool.{Bool, true, false}
use mathlib.Core.List.{List, [], ◌∷◌, ◌++◌}
use Prim.Native.Nat.{ℕ, suc, ◌+◌, ◌*◌, ◌≤◌, ◌<◌}
use native.Mathlib.Omega.{arith}
use native.Mathlib.Decide.{dec_lt}
use lib.ListN.{length, set, length-set}
use lib.Seq.{get_or-set_same, get_or-append_seam}
use borrow.Author.Tests.{leb-true}
use Rattle.paging.specs.Lists.{pick, place_of}
use Rattle.paging.specs.Rules.{Sees, lru_drops, fifo_drops, drops, chosen}
use Rattle.paging.specs.Walk.{holds, zero_entry, entry_at, pages, loaded_at, renewed, next}
use Rattle.paging.specs.declared.Entry.{Entry}
use Rattle.paging.specs.declared.Rule.{Rule}
use Rattle.paging.specs.declared.Rule.TheVariants.{Lru, Fifo}
use Rattle.paging.proofs.Lists.{true≢false, all_at, length_snoc, get_or_snoc_old, snoc_cases, set_cases}
use Rattle.paging.proofs.Choice.{chosen_below, chosen_drops}
use Rattle.paging.specs.Meanings.{In, Apart}
use Rattle.paging.proofs.Held.{absent_in, apart_nil}
use Rattle.paging.proofs.Frames.{pages_length, pages_at, mem_pages, held_frame, Ways, ways, next_hit, next_room, next_full, next_apart, next_size}
use Rattle.bounds.proofs.Pigeonhole.{times, Among, Within, pigeonhole, once_cons, among_cons, within_cons, among_in, apart_once}
use Rattle.bounds.proofs.Phases.{missed, Frugal}

-- ---- what the two rules have in common

-- an entry's key is a moment at which its page was requested, not before it was loaded; the entry that goes has the least
pub record Aged (rule : Rule) (key : Entry → ℕ) : Type 0 where
  pub new : (t p : ℕ) → key (loaded_at t p) ≡ t
  pub again : (t : ℕ) (e : Entry) → (key (renewed t e) ≡ t) ⊎ (key (renewed t e) ≡ key e)
  pub least : (sees : Sees) (es : List Entry) (i : ℕ) → i < length es → key (entry_at es (chosen rule sees es)) ≤ key (entry_at es i)

module _ (rule : Rule) (key : Entry → ℕ) (aged : Aged rule key) (n : ℕ) (pos : 1 ≤ n) where
  -- so it is at every moment t of a walk from empty
  record Steady (t : ℕ) (es : List Entry) : Type 0 where
    apart : Apart (pages es)
    size : length es ≤ n
    past : (i : ℕ) → i < length es → key (entry_at es i) < t

  -- page z is held, with a key not before moment s
  abbrev Since : ℕ → ℕ → List Entry → Type 0
  Since s z es = (i : ℕ) × (i < length es) × ((entry_at es i).page.0 ≡ z) × (s ≤ key (entry_at es i))

  -- ---- one request, of page p at moment t

  module _ (t p : ℕ) (sees : Sees) (es : List Entry) (good : Steady t es) where
    -- each entry is that of page p, with a key not after t, or an old one
    abbrev Fits : List Entry → Type 0
    Fits fs =
        (i : ℕ) → i < length fs
        → (((entry_at fs i).page.0 ≡ p) × (key (entry_at fs i) ≤ t)) ⊎ ((i < length es) × (entry_at fs i ≡ entry_at es i))

    next_fits : Fits (next rule n t p sees es)
    next_fits = go (ways n p es)
      where
        stored : (k : ℕ) (e : Entry) → e.page.0 ≡ p → key e ≤ t → Fits (set es k e)
        stored k e q a i h = ⊎_elim (λ x. inl (rw x.1 (q, a))) (λ x. inr (x.1, x.2)) (set_cases zero_entry es k e i h)

        added : (e : Entry) → e.page.0 ≡ p → key e ≤ t → Fits (es ++ (e ∷ []))
        added e q a i h = ⊎_elim (λ x. inr (x.0, x.1)) (λ x. inl (rw x.1 (q, a))) (snoc_cases zero_entry es e i h)

        touched : (i : ℕ) → i < length es → key (renewed t (entry_at es i)) ≤ t
        touched i h = ⊎_elim (λ x. omega arith) (λ x. omega (arith, good.past i h)) (aged.again t (entry_at es i))

        go : Ways n p es → Fits (next rule n t p sees es)
        go (inl q) =
            let (h, g) = held_frame p es q in
            rw (next_hit rule n t p sees es q) (stored (place_of p (pages es)) (renewed t (entry_at es (place_of p (pages es)))) g (touched (place_of p (pages es)) h))
        go (inr (inl (q, h))) = rw (next_room rule n t p sees es q h) (added (loaded_at t p) refl (omega (arith, aged.new t p)))
        go (inr (inr (q, h))) = rw (next_full rule n t p sees es q h) (stored (chosen rule sees es) (loaded_at t p) refl (omega (arith, aged.new t p)))

    next_steady : Steady (suc t) (next rule n t p sees es)
    next_steady = record {
      apart = next_apart rule n t p sees es good.apart;
      size = next_size rule n t p sees es good.size;
      past = λ i h. ⊎_elim (λ x. omega arith) (λ x. rw x.1 (omega (arith, good.past i x.0))) (next_fits i h);
    }

    -- a page loaded is held with key t
    next_loaded : holds p es ≡ false → Since t p (next rule n t p sees es)
    next_loaded q = go (ways n p es)
      where
        stands : (fs : List Entry) (i : ℕ) → i < length fs → entry_at fs i ≡ loaded_at t p → Since t p fs
        stands fs i h e = (i, h, rw e refl, rw e (omega (arith, aged.new t p)))

        go : Ways n p es → Since t p (next rule n t p sees es)
        go (inl h) = absurd (true≢false (sym h ∙ q))
        go (inr (inl (h, k))) =
            rw (next_room rule n t p sees es h k)
            (stands (es ++ (loaded_at t p ∷ [])) (length es) (omega (arith, length_snoc zero_entry es (loaded_at t p)))
            (get_or-append_seam es (loaded_at t p) [] zero_entry))
        go (inr (inr (h, k))) =
            let below : chosen rule sees es < length es = chosen_below rule sees es (omega arith) in
            rw (next_full rule n t p sees es h k)
            (stands (set es (chosen rule sees es) (loaded_at t p)) (chosen rule sees es) (omega (arith, length-set es (chosen rule sees es) (loaded_at t p)))
            (get_or-set_same es (chosen rule sees es) (loaded_at t p) zero_entry below))

    -- what is held with a key not before s stays so, if what is dropped has a key before s
    next_since : (s z : ℕ) → s ≤ t → (holds p es ≡ false → n ≤ length es → key (entry_at es (chosen rule sees es)) < s)
        → Since s z es → Since s z (next rule n t p sees es)
    next_since s z begun old (i, h, e, k) = go (ways n p es)
      where
        stored : (j : ℕ) (x : Entry) → (i ≡ j → (x.page.0 ≡ z) × (s ≤ key x)) → Since s z (set es j x)
        stored j x new =
            let l : i < length (set es j x) = omega (arith, length-set es j x) in
            ⊎_elim (λ y. (i, l, rw y.1 (new y.0).0, rw y.1 (new y.0).1)) (λ y. (i, l, rw y.2 e, rw y.2 k))
            (set_cases zero_entry es j x i l)

        touched : (j : ℕ) → i ≡ j → ((entry_at es j).page.0 ≡ z) × (s ≤ key (renewed t (entry_at es j)))
        touched j q = rw (← q) (e, ⊎_elim (λ x. omega arith) (λ x. omega arith) (aged.again t (entry_at es i)))

        dropped : (j : ℕ) → key (entry_at es j) < s → i ≡ j → ⊥
        dropped j l q = omega (arith, rw (← q) at l)

        go : Ways n p es → Since s z (next rule n t p sees es)
        go (inl q) = rw (next_hit rule n t p sees es q) (stored (place_of p (pages es)) (renewed t (entry_at es (place_of p (pages es)))) (touched (place_of p (pages es))))
        go (inr (inl (q, l))) =
            rw (next_room rule n t p sees es q l)
            (let g : entry_at (es ++ (loaded_at t p ∷ [])) i ≡ entry_at es i = get_or_snoc_old zero_entry es (loaded_at t p) i h in
            (i, omega (arith, length_snoc zero_entry es (loaded_at t p)), rw g e, rw g k))
        go (inr (inr (q, l))) =
            rw (next_full rule n t p sees es q l)
            (stored (chosen rule sees es) (loaded_at t p) (λ y. absurd (dropped (chosen rule sees es) (old q l) y)))

  -- ---- the window

  -- A window that began at moment s, with faults on the pages of `faulted`: each of them once, and each still held with a key not before s.
  -- What is held with such a key was requested in the window.
  record Window (t : ℕ) (cov : List ℕ) (r : ℕ) (es : List Entry) : Type 0 where
    s : ℕ
    begun : s ≤ t
    faulted : List ℕ
    count : length faulted ≡ r
    once : (z : ℕ) → times z faulted ≤ 1
    held : (z : ℕ) → Among z faulted → Since s z es
    asked : (i : ℕ) → i < length es → s ≤ key (entry_at es i) → Among (entry_at es i).page.0 cov

  window_opens : (t : ℕ) (cov : List ℕ) (es : List Entry) → Steady t es → Window t cov 0 es
  unfolding times
  window_opens t cov es good = record {
    s = t;
    begun = omega arith;
    faulted = [];
    count = refl;
    once = λ z. omega arith;
    held = λ z h. absurd (omega arith);
    asked = λ i h k. absurd (omega (arith, good.past i h));
  }

  window_widens : (t r : ℕ) (cov more : List ℕ) (es : List Entry) → Within cov more → Window t cov r es → Window t more r es
  window_widens t r cov more es w win = record {
    s = win.s;
    begun = win.begun;
    faulted = win.faulted;
    count = win.count;
    once = win.once;
    held = win.held;
    asked = λ i h k. w (entry_at es i).page.0 (win.asked i h k);
  }

  window_few : (t r : ℕ) (cov : List ℕ) (es : List Entry) → Window t cov r es → r ≤ 1 * length cov
  window_few t r cov es win = omega (arith, win.count, pigeonhole 1 win.faulted cov win.once within)
    where
      within : Within win.faulted cov
      within z h = let (i, l, e, k) = win.held z h in rw (← e) (win.asked i l k)

  module _ (t p r : ℕ) (sees : Sees) (cov : List ℕ) (es : List Entry) (good : Steady t es) (asks : Among p cov) (short : length cov ≤ n) (win : Window t cov r es) where
    stranger : holds p es ≡ false → In p (pages es) → ⊥
    stranger q = absent_in p (pages es) (mem_pages p es ∙ q)

    -- what is dropped has a key from before the window: else n pages held and the one that comes would all be among n
    dropped_before : holds p es ≡ false → n ≤ length es → key (entry_at es (chosen rule sees es)) < win.s
    dropped_before q full =
        elim (dec_lt (key (entry_at es (chosen rule sees es))) win.s) [ yes h ↦ h | no h ↦ absurd (crowd (omega arith)) ]
      where
        within : win.s ≤ key (entry_at es (chosen rule sees es)) → Within (pages es) cov
        within h z k =
            let (i, l, e) = among_in z (pages es) k in
            let below : i < length es = omega (arith, pages_length es) in
            rw (← e, pages_at es i) (win.asked i below (omega (arith, aged.least sees es i below)))

        once : (z : ℕ) → times z (p ∷ pages es) ≤ 1
        once = once_cons p (pages es) (λ h. stranger q (among_in p (pages es) h)) (apart_once (pages es) good.apart)

        crowd : win.s ≤ key (entry_at es (chosen rule sees es)) → ⊥
        crowd h = omega (arith, pages_length es, pigeonhole 1 (p ∷ pages es) cov once (within_cons p (pages es) cov asks (within h)))

    since_stays : (z : ℕ) → Since win.s z es → Since win.s z (next rule n t p sees es)
    since_stays z = next_since t p sees es good win.s z win.begun dropped_before

    asked_next : (i : ℕ) → i < length (next rule n t p sees es) → win.s ≤ key (entry_at (next rule n t p sees es) i)
        → Among (entry_at (next rule n t p sees es) i).page.0 cov
    asked_next i h k =
        ⊎_elim (λ x. rw x.0 asks) (λ x. rw x.1 (win.asked i x.0 (rw x.1 at k))) (next_fits t p sees es good i h)

    window_steps : Window (suc t) cov (missed p es + r) (next rule n t p sees es)
    window_steps = go (holds p es) refl
      where
        -- the window with these faults
        on : (l : List ℕ) → ((z : ℕ) → times z l ≤ 1) → ((z : ℕ) → Among z l → Since win.s z (next rule n t p sees es))
            → (r' : ℕ) → length l ≡ r' → Window (suc t) cov r' (next rule n t p sees es)
        on l once held r' count =
            record { s = win.s; begun = omega (arith, win.begun); faulted = l; count = count; once = once; held = held; asked = asked_next }

        held : holds p es ≡ false → (z : ℕ) → (z ≡ p) ⊎ Among z win.faulted → Since win.s z (next rule n t p sees es)
        held q z (inl e) = rw e (let (i, l, g, k) = next_loaded t p sees es good q in (i, l, g, omega (arith, win.begun)))
        held q z (inr h) = since_stays z (win.held z h)

        new : holds p es ≡ false → Among p win.faulted → ⊥
        new q h = let (i, l, e, k) = win.held p h in stranger q (i, omega (arith, pages_length es), pages_at es i ∙ e)

        go : (b : Bool) → holds p es ≡ b → Window (suc t) cov (pick b 0 1 + r) (next rule n t p sees es)
        go true q = on win.faulted win.once (λ z h. since_stays z (win.held z h)) (0 + r) (omega (arith, win.count))
        go false q =
            on (p ∷ win.faulted) (once_cons p win.faulted (new q) win.once) (λ z h. held q z (among_cons z p win.faulted h))
            (1 + r) (omega (arith, win.count))

  -- ---- such a rule is frugal

  pub aged_frugal : Frugal rule n 1
  aged_frugal = record {
    Steady = Steady;
    Window = Window;
    empty = record { apart = apart_nil; size = omega arith; past = λ i h. absurd (omega arith) };
    steady = next_steady;
    opens = window_opens;
    widens = window_widens;
    steps = window_steps;
    few = window_few;
  }

-- ---- the two rules

pub lru_aged : Aged Lru (λ (e : Entry). e.last.0)
unfolding drops lru_drops
lru_aged = record {
  new = λ t p. refl;
  again = λ t e. inl refl;
  least = λ sees es i h. leb-true _ _ (all_at _ zero_entry es (chosen_drops Lru sees es (omega arith)) i h);
}

pub fifo_aged : Aged Fifo (λ (e : Entry). e.loaded.0)
unfolding drops fifo_drops
fifo_aged = record {
  new = λ t p. refl;
  again = λ t e. inr refl;
  least = λ sees es i h. leb-true _ _ (all_at _ zero_entry es (chosen_drops Fifo sees es (omega arith)) i h);
}
