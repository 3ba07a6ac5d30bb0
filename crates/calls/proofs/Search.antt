-- Laws of a search through a list from the front: a page found is among its members; the library's search is this one.
-- Assumes nothing.
use Rattle.std.specs.Prelude.{cond, Some, None, nat_lt, unwrap_or}
use Rattle.std.specs.List.{position, position_or_len}
use Rattle.std.proofs.lemmas.List.Recursion.{is_position_or_len}
use mathlib.Core.Path.{◌≡◌, refl}
use mathlib.Core.Bool.{Bool, true, false}
use native.Mathlib.Omega.{arith}
use mathlib.Core.List.{List}
use Prim.Native.Nat.{ℕ, suc, ◌+◌, ◌≤◌, ◌<◌}
use lib.Dec.{eqb}
use lib.ListN.{length}
use Rattle.paging.specs.Lists.{pick, mem, place_of}
use Rattle.paging.specs.Rules.{next_of}
use Rattle.paging.proofs.Choice.{next_le}
use Rattle.paging.proofs.Lists.{index_passes, at_any}

-- ---- found or not

module _ (p : ℕ) (pages : List ℕ) where
  pub found_mem : place_of p pages < length pages → mem p pages ≡ true
  unfolding mem place_of
  found_mem h = at_any (λ (q : ℕ). eqb q p) 0 pages (place_of p pages) h (index_passes (λ (q : ℕ). eqb q p) 0 pages h)

-- ---- the library's search is this one

module _ (p : ℕ) where
  place_by : (pages : List ℕ) → place_of p pages ≡ position_or_len (λ (q : ℕ). eqb q p) pages
  unfolding place_of
  place_by = is_position_or_len (place_of p) (λ (q : ℕ). eqb q p) refl (λ q pages. go (eqb q p) (place_of p pages))
    where
      go : (b : Bool) (k : ℕ) → pick b 0 (suc k) ≡ cond b 0 (1 + k)
      go true k = refl
      go false k = omega arith

  upto : (pages : List ℕ) → position_or_len (λ (q : ℕ). eqb q p) pages ≤ length pages
  unfolding next_of
  upto pages = rw (← place_by pages) (next_le pages p)

  pub place_is : (pages : List ℕ) → unwrap_or (position (λ (q : ℕ). eqb q p) pages) (length pages) ≡ place_of p pages
  place_is pages = rw (place_by pages) (go (position_or_len (λ (q : ℕ). eqb q p) pages) (length pages) (upto pages))
    where
      go : (k n : ℕ) → k ≤ n → unwrap_or (cond (nat_lt k n) (Some k) None) n ≡ k
      go k n h = Prim.grind arith
