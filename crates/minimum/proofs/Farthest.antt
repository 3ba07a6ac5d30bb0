-- MIN's choice over pages alone is the choice of rule 3; and the page that goes first is unique.
-- Assumes nothing.
use mathlib.Core.Path.{◌≡◌, refl, sym, ap, ap₂, ◌∙◌}
use mathlib.Core.Logic.{⊎_elim}
use mathlib.Core.Bool.{Bool, true, false}
use mathlib.Core.List.{List, ◌∷◌}
use Prim.Native.Nat.{ℕ, suc, ◌+◌, ◌≤◌, ◌<◌}
use native.Mathlib.Omega.{arith}
use lib.Dec.{eqb, leb}
use lib.ListN.{length, get_or}
use borrow.Author.Tests.{leb-true, le-leb, eqb-true, eqb-false, ne_eqb}
use Rattle.paging.specs.Lists.{both, implies, all, index_of, place_of}
use Rattle.paging.specs.Rules.{Sees, next_of, never, min_drops, drops, chosen}
use Rattle.paging.specs.Walk.{pages}
use Rattle.paging.specs.Meanings.{Apart}
use Rattle.paging.specs.declared.Entry.{Entry}
use Rattle.paging.specs.declared.Rule.TheVariants.{Min}
use Rattle.paging.proofs.Lists.{bool_cases, both_first, both_second, both_true, implied, implies_true, all_at, at_all, all_map, index_map, index_same, index_is, index_passes}
use Rattle.paging.proofs.Choice.{next_le, never_next}
use Rattle.minimum.specs.Devices.Turns.{Behind}

-- ---- the choice over pages

-- page q fits row 3 of the table, among the held pages
unfoldable pub goes_first : List ℕ → List ℕ → ℕ → Bool
unfolding all next_of never
goes_first rest held q =
    both (all (λ (d : ℕ). leb (next_of rest d) (next_of rest q)) held)
    (implies (never rest q) (all (λ (d : ℕ). implies (never rest d) (leb q d)) held))

-- the frame whose page goes
unfoldable pub farthest : List ℕ → List ℕ → ℕ
unfolding goes_first index_of
farthest rest held = index_of (goes_first rest held) held

-- ---- it is the choice of rule 3

fits_same : (rest : List ℕ) (es : List Entry) (e : Entry) → min_drops rest es e ≡ goes_first rest (pages es) e.page.0
unfolding min_drops goes_first
fits_same rest es e =
    ap₂ (λ (a b : Bool). both a (implies (never rest e.page.0) b))
    (sym (all_map (λ (d : Entry). d.page.0) (λ (d : ℕ). leb (next_of rest d) (next_of rest e.page.0)) es))
    (sym (all_map (λ (d : Entry). d.page.0) (λ (d : ℕ). implies (never rest d) (leb e.page.0 d)) es))

-- MIN READS NO MOMENTS
pub chosen_same : (sees : Sees) (es : List Entry) → chosen Min sees es ≡ farthest sees.rest (pages es)
unfolding chosen drops farthest
chosen_same sees es =
    index_same (min_drops sees.rest es) (λ (e : Entry). goes_first sees.rest (pages es) e.page.0) (fits_same sees.rest es) es
    ∙ sym (index_map (λ (e : Entry). e.page.0) (goes_first sees.rest (pages es)) es)

-- ---- how far off a page's next request is

-- it is where the page stands in the requests to come
pub place_next : (p : ℕ) (rest : List ℕ) → place_of p rest ≡ next_of rest p
unfolding place_of next_of
place_next p rest = refl

-- a request for another page brings it one nearer
pub next_nearer : (q p : ℕ) (rest : List ℕ) → (p ≡ q → ⊥) → next_of (p ∷ rest) q ≡ suc (next_of rest q)
unfolding next_of
next_nearer q p rest e = rw (ne_eqb p q e)

-- ---- the page that goes first

module _ (rest held : List ℕ) where
  -- its next request is latest
  first_latest : (q : ℕ) → goes_first rest held q ≡ true → (j : ℕ) → j < length held → next_of rest (get_or held j 0) ≤ next_of rest q
  unfolding goes_first
  first_latest q e j h =
      leb-true _ _ (all_at (λ (d : ℕ). leb (next_of rest d) (next_of rest q)) 0 held (both_first (all (λ (d : ℕ). leb (next_of rest d) (next_of rest q)) held) _ e) j h)

  -- among several never requested again it has the lowest number
  first_lowest : (q : ℕ) → goes_first rest held q ≡ true → never rest q ≡ true → (j : ℕ) → j < length held → never rest (get_or held j 0) ≡ true → q ≤ get_or held j 0
  unfolding goes_first
  first_lowest q e n j h m =
      let low : ℕ → Bool = λ (d : ℕ). implies (never rest d) (leb q d) in
      let both_of : implies (never rest q) (all low held) ≡ true = both_second (all (λ (d : ℕ). leb (next_of rest d) (next_of rest q)) held) (implies (never rest q) (all low held)) e in
      leb-true _ _ (implied (never rest (get_or held j 0)) (leb q (get_or held j 0)) (all_at low 0 held (implied (never rest q) (all low held) both_of n) j h) m)

  is_first : (q : ℕ) → ((j : ℕ) → j < length held → next_of rest (get_or held j 0) ≤ next_of rest q)
      → (never rest q ≡ true → (j : ℕ) → j < length held → never rest (get_or held j 0) ≡ true → q ≤ get_or held j 0) → goes_first rest held q ≡ true
  unfolding goes_first
  is_first q latest lowest =
      both_true _ _ (at_all (λ (d : ℕ). leb (next_of rest d) (next_of rest q)) 0 held (λ j h. le-leb _ _ (latest j h)))
      (implies_true _ _ (λ n. at_all (λ (d : ℕ). implies (never rest d) (leb q d)) 0 held (λ j h. implies_true _ _ (λ m. le-leb _ _ (lowest n j h m)))))

  -- pages with the same next request, other than never, are the same
  same_next : (p q : ℕ) → next_of rest p ≡ next_of rest q → never rest p ≡ false → p ≡ q
  unfolding next_of never
  same_next p q e n =
      let k : next_of rest p < length rest = below (next_le rest p) (eqb-false _ _ n) in
      let l : next_of rest q < length rest = omega arith in
      sym (eqb-true _ _ (index_passes (λ (x : ℕ). eqb x p) 0 rest k))
      ∙ ap (λ (i : ℕ). get_or rest i 0) e
      ∙ eqb-true _ _ (index_passes (λ (x : ℕ). eqb x q) 0 rest l)
    where
      below : {a b : ℕ} → a ≤ b → (a ≡ b → ⊥) → a < b
      below h x = omega arith

  -- in different frames stand different pages, so only one page goes first
  pub first_one : Apart held → (i j : ℕ) → i < length held → j < length held
      → goes_first rest held (get_or held i 0) ≡ true → goes_first rest held (get_or held j 0) ≡ true → i ≡ j
  unfolding never
  first_one apart i j h k a b =
      let p : ℕ = get_or held i 0 in
      let q : ℕ = get_or held j 0 in
      let e : next_of rest p ≡ next_of rest q = omega (arith, first_latest p a j k, first_latest q b i h) in
      apart i j h k (⊎_elim (gone e) (λ n. same_next p q e n) (bool_cases (never rest p)))
    where
      gone : next_of rest (get_or held i 0) ≡ next_of rest (get_or held j 0) → never rest (get_or held i 0) ≡ true → get_or held i 0 ≡ get_or held j 0
      gone e n =
          let m : never rest (get_or held j 0) ≡ true = ap (λ (x : ℕ). eqb x (length rest)) (sym e) ∙ n in
          omega (arith, first_lowest (get_or held i 0) a n j k m, first_lowest (get_or held j 0) b m i h n)

  -- the frame whose turn is latest, and of several with the same turn the lowest page number, is the one that goes
  pub farthest_is : Apart held → (s : ℕ) (turns : List ℕ) → ((j : ℕ) → j < length held → get_or turns j 0 ≡ s + next_of rest (get_or held j 0))
      → (best : ℕ) → best < length held
      → ((j : ℕ) → j < length held → Behind held turns j best)
      → farthest rest held ≡ best
  unfolding farthest
  farthest_is apart s turns in_turn best h far =
      index_is (goes_first rest held) 0 held best h first (λ j k e. first_one apart j best k h e first)
    where
      q : ℕ
      q = get_or held best 0

      latest : (j : ℕ) → j < length held → next_of rest (get_or held j 0) ≤ next_of rest q
      latest j k = ⊎_elim (λ l. omega (arith, in_turn j k, in_turn best h)) (λ l. omega (arith, in_turn j k, in_turn best h)) (far j k)

      lowest : never rest q ≡ true → (j : ℕ) → j < length held → never rest (get_or held j 0) ≡ true → q ≤ get_or held j 0
      lowest n j k m =
          ⊎_elim
          (λ l. absurd (omega (arith, in_turn j k, in_turn best h, never_next rest q n, never_next rest (get_or held j 0) m)))
          (λ l. l.1) (far j k)

      first : goes_first rest held q ≡ true
      first = is_first q latest lowest
