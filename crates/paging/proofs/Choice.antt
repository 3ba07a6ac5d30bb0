-- Each rule has an entry to drop: wherever something is held, some held entry fits the rule's description, so that the frame chosen is in use.
-- Beside it: an entry whose number is less than every other's is the one that a search for the least finds.
-- Assumes nothing.
use mathlib.Core.Path.{◌≡◌, refl}
use mathlib.Core.Logic.{⊎_elim}
use mathlib.Core.Bool.{Bool, true, false}
use mathlib.Core.List.{List}
use Prim.Native.Nat.{ℕ, ◌-◌, ◌≤◌, ◌<◌}
use native.Mathlib.Omega.{arith}
use native.Mathlib.Decide.{ℕ_discrete}
use lib.Dec.{eqb, leb}
use lib.ListN.{length}
use borrow.Author.Tests.{le-leb, leb-true, eqb-true}
use Rattle.paging.specs.Lists.{pick, both, implies, any, all, index_of}
use Rattle.paging.specs.Rules.{Sees, next_of, never, once, lru_drops, fifo_drops, min_drops, lru2_drops, drops, chosen}
use Rattle.paging.specs.Walk.{zero_entry, entry_at}
use Rattle.paging.specs.declared.Entry.{Entry}
use Rattle.paging.specs.declared.Rule.{Rule}
use Rattle.paging.specs.declared.Rule.TheVariants.{Lru, Fifo, Min, Lru2}
use Rattle.paging.proofs.Lists.{bool_cases, both_first, both_second, both_true, implied, implies_true, index_le, index_passes, any_index, at_any, none_at, all_at, at_all, least_among, index_is}

-- some frame in use whose entry passes the test
abbrev Some : (Entry → Bool) → List Entry → Type 0
Some test es = (i : ℕ) × (i < length es) × (test (entry_at es i) ≡ true)

-- ---- the least by a number

-- of the entries that pass a test, one has the least number
least_of : (good : Entry → Bool) (key : Entry → ℕ) (es : List Entry) → any good es ≡ true
    → Some (λ (e : Entry). both (good e) (all (λ (d : Entry). implies (good d) (leb (key e) (key d))) es)) es
least_of good key es e =
    let (i, (h, g, least)) = least_among zero_entry good key es e in (
      i,
      h,
      both_true _ _ g
          (at_all (λ (d : Entry). implies (good d) (leb (key (entry_at es i)) (key d))) zero_entry es
          (λ j k. implies_true _ _ (λ q. le-leb _ _ (least j k q)))),
    )

least_all : (key : Entry → ℕ) (es : List Entry) → 0 < length es
    → Some (λ (e : Entry). all (λ (d : Entry). leb (key e) (key d)) es) es
least_all key es h =
    let (i, (k, g, least)) = least_among zero_entry (λ (e : Entry). true) key es (at_any (λ (e : Entry). true) zero_entry es 0 h refl) in
    (i, k, at_all (λ (d : Entry). leb (key (entry_at es i)) (key d)) zero_entry es (λ j l. le-leb _ _ (least j l refl)))

-- of the entries that pass a test, the one whose number is less than that of every other is the first with the least
module _
    (good : Entry → Bool) (key : Entry → ℕ) (es : List Entry) (f : ℕ) (h : f < length es) (passes : good (entry_at es f) ≡ true)
    (less : (j : ℕ) → j < length es → good (entry_at es j) ≡ true → (j ≡ f → ⊥) → key (entry_at es f) < key (entry_at es j))
  where
    -- d comes no sooner than e
    no_sooner : Entry → Entry → Bool
    no_sooner e d = implies (good d) (leb (key e) (key d))

    pub least_index : index_of (λ (e : Entry). both (good e) (all (λ (d : Entry). implies (good d) (leb (key e) (key d))) es)) es ≡ f
    unfolding no_sooner
    least_index = index_is (λ (e : Entry). both (good e) (all (no_sooner e) es)) zero_entry es f h fits only
      where
        fits : both (good (entry_at es f)) (all (no_sooner (entry_at es f)) es) ≡ true
        fits =
            both_true (good (entry_at es f)) (all (no_sooner (entry_at es f)) es) passes
            (at_all (no_sooner (entry_at es f)) zero_entry es
            (λ j k. implies_true (good (entry_at es j)) (leb (key (entry_at es f)) (key (entry_at es j)))
            (λ g. le-leb (key (entry_at es f)) (key (entry_at es j)) (elim (ℕ_discrete j f) [ yes e ↦ rw e (omega arith) | no e ↦ omega (arith, less j k g e) ]))))

        only : (j : ℕ) → j < length es → both (good (entry_at es j)) (all (no_sooner (entry_at es j)) es) ≡ true → j ≡ f
        only j k a =
            elim (ℕ_discrete j f) [
              | yes e ↦ e
              | no e ↦
                  let g : good (entry_at es j) ≡ true = both_first (good (entry_at es j)) (all (no_sooner (entry_at es j)) es) a in
                  let among : all (no_sooner (entry_at es j)) es ≡ true = both_second (good (entry_at es j)) (all (no_sooner (entry_at es j)) es) a in
                  let l : key (entry_at es j) ≤ key (entry_at es f) =
                  leb-true _ _ (implied (good (entry_at es f)) (leb (key (entry_at es j)) (key (entry_at es f))) (all_at (no_sooner (entry_at es j)) zero_entry es among f h) passes) in
                  absurd (omega (arith, less j k g e))
            ]

-- ---- each rule

pub next_le : (rest : List ℕ) (p : ℕ) → next_of rest p ≤ length rest
unfolding next_of
next_le rest p = index_le (λ (q : ℕ). eqb q p) 0 rest

pub never_next : (rest : List ℕ) (p : ℕ) → never rest p ≡ true → next_of rest p ≡ length rest
unfolding never
never_next rest p e = eqb-true _ _ e

min_some : (rest : List ℕ) (es : List Entry) → 0 < length es → Some (min_drops rest es) es
unfolding min_drops
min_some rest es h = ⊎_elim dead alive (bool_cases (any gone es))
  where
    gone : Entry → Bool
    gone e = never rest e.page.0

    wait : Entry → ℕ
    wait e = length rest - next_of rest e.page.0

    turn : ℕ → ℕ
    turn i = next_of rest (entry_at es i).page.0

    fit : (i : ℕ) → i < length es → ((j : ℕ) → j < length es → turn j ≤ turn i)
        → (gone (entry_at es i) ≡ true → (j : ℕ) → j < length es → gone (entry_at es j) ≡ true → (entry_at es i).page.0 ≤ (entry_at es j).page.0)
        → Some (min_drops rest es) es
    fit i k latest lowest = (
      i,
      k,
      both_true _ _ (at_all _ zero_entry es (λ j l. le-leb _ _ (latest j l)))
          (implies_true _ _ (λ r. at_all _ zero_entry es (λ j l. implies_true _ _ (λ q. le-leb _ _ (lowest r j l q))))),
    )

    -- some held page never comes again: of those the one with the lowest number
    dead : any gone es ≡ true → Some (min_drops rest es) es
    dead q =
        let (i, (k, g, least)) = least_among zero_entry gone (λ (e : Entry). e.page.0) es q in
        fit i k (λ j l. omega (arith, never_next rest _ g, next_le rest (entry_at es j).page.0)) (λ r. least)

    -- all come again: the one that comes last
    alive : any gone es ≡ false → Some (min_drops rest es) es
    alive q =
        let (i, (k, g, least)) = least_among zero_entry (λ (e : Entry). true) wait es (at_any (λ (e : Entry). true) zero_entry es 0 h refl) in
        fit i k (λ j l. omega (arith, least j l refl, next_le rest (entry_at es i).page.0, next_le rest (entry_at es j).page.0))
        (λ r. absurd (none_at gone zero_entry es q i k r))

lru2_some : (es : List Entry) → 0 < length es → Some (lru2_drops es) es
unfolding lru2_drops
lru2_some es h = go (any once es) refl
  where
    go : (b : Bool) → any once es ≡ b
        → Some (λ (e : Entry). pick b (both (once e) (all (λ (d : Entry). implies (once d) (leb e.last.0 d.last.0)) es)) (all (λ (d : Entry). leb e.earlier.0 d.earlier.0) es)) es
    go true q = least_of once (λ (e : Entry). e.last.0) es q
    go false q = least_all (λ (e : Entry). e.earlier.0) es h

pub some_drops : (rule : Rule) (sees : Sees) (es : List Entry) → 0 < length es → Some (drops rule sees es) es
unfolding drops lru_drops fifo_drops
some_drops Lru sees es h = least_all (λ (e : Entry). e.last.0) es h
some_drops Fifo sees es h = least_all (λ (e : Entry). e.loaded.0) es h
some_drops Min sees es h = min_some sees.rest es h
some_drops Lru2 sees es h = lru2_some es h

-- ---- the frame chosen

pub chosen_below : (rule : Rule) (sees : Sees) (es : List Entry) → 0 < length es → chosen rule sees es < length es
unfolding chosen
chosen_below rule sees es h =
    let (i, k, e) = some_drops rule sees es h in any_index (drops rule sees es) zero_entry es (at_any (drops rule sees es) zero_entry es i k e)

pub chosen_drops : (rule : Rule) (sees : Sees) (es : List Entry) → 0 < length es → drops rule sees es (entry_at es (chosen rule sees es)) ≡ true
unfolding chosen
chosen_drops rule sees es h = index_passes (drops rule sees es) zero_entry es (chosen_below rule sees es h)
