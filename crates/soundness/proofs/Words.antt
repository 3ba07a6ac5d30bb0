-- The pages side by side: the search among them, and the walk that compares each with those after it.
-- Assumes nothing.
use mathlib.Core.Path.{◌≡◌, refl, ◌∙◌}
use Rattle.std.specs.List.{fold}
use mathlib.Core.Bool.{Bool, true, false, ◌||◌}
use mathlib.Core.List.{List, [], ◌∷◌}
use Prim.Native.Nat.{ℕ}
use native.Mathlib.Omega.{arith}
use lib.Dec.{eqb}
use lib.ListN.{length, take}
use Rattle.paging.specs.Lists.{pick, not, both, any, mem}
use Rattle.paging.specs.Walk.{pages}
use Rattle.paging.specs.declared.Entry.{Entry}
use Rattle.soundness.specs.Sound.{pairwise, distinct_pages}
use Rattle.soundness.proofs.All.{pairwise_map, take_map, none_is}

-- ---- the walk over the words

-- found before, or here
abbrev pub either : ℕ → Bool → ℕ → Bool
either p found word = found || eqb word p

pub found_among : (p : ℕ) (found : Bool) (words : List ℕ) → fold (either p) found words ≡ pick found true (mem p words)
unfolding mem any
found_among p true [] = refl
found_among p false [] = refl
found_among p found (word ∷ words) = found_among p (either p found word) words ∙ go found (eqb word p) (mem p words)
  where
    go : (a b rest : Bool) → pick (a || b) true rest ≡ pick a true (pick b true rest)
    go true b rest = refl
    go false b rest = refl

-- ---- the walk over the pages

abbrev pub differ : ℕ → ℕ → Bool
differ p q = not (eqb p q)

pub differ_pages : (held : ℕ) (es : List Entry) → pairwise differ (take held (pages es)) ≡ distinct_pages (take held es)
unfolding distinct_pages
differ_pages held es = rw (take_map (λ (e : Entry). e.page.0) held es) (pairwise_map (λ (e : Entry). e.page.0) differ (take held es))

-- the first page against those after it, then the rest
pub differ_on : (p : ℕ) (after : List ℕ) → pairwise differ (p ∷ after) ≡ both (not (mem p after)) (pairwise differ after)
unfolding pairwise
differ_on p after = rw (none_is p after)

pub differ_end : (words : List ℕ) → length words ≡ 0 → pairwise differ words ≡ true
unfolding pairwise
differ_end [] h = refl
differ_end (word ∷ words) h = absurd (omega arith)
