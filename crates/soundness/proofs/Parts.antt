-- The test by the parts that the code tests one after the other.
-- Assumes nothing.
use mathlib.Core.Path.{◌≡◌, refl, ◌∙◌}
use mathlib.Core.Bool.{Bool, true, false}
use mathlib.Core.List.{List, [], ◌∷◌, ◌++◌}
use Prim.Native.Nat.{ℕ, ◌≤◌, ◌<◌}
use native.Mathlib.Omega.{arith}
use lib.Dec.{ltb}
use lib.ListN.{get_or, take, drop}
use borrow.Author.Tests.{leb-true, ltb-false}
use Rattle.paging.specs.Lists.{pick, not, both, all}
use Rattle.paging.specs.Calls.{frame_limit, request_limit}
use Rattle.paging.specs.declared.Entry.{Entry}
use Rattle.paging.proofs.Lists.{false≢true, all_at}
use Rattle.soundness.specs.Sound.{met, size_conditions, distinct_pages, entry_conditions, blank_from, sound_parts}
use Rattle.soundness.proofs.All.{both_truth, all_append}

pub sound_by_parts : (rule frames clock held : ℕ) (entries : List Entry)
    → sound_parts rule frames clock held entries
    ≡ both (met (size_conditions rule frames clock held))
    (both (distinct_pages (take held entries))
    (both (met (entry_conditions clock (take held entries))) (blank_from (drop held entries))))
unfolding sound_parts
sound_by_parts rule frames clock held entries =
    all_append id (size_conditions rule frames clock held)
    (distinct_pages (take held entries) ∷ entry_conditions clock (take held entries) ++ (blank_from (drop held entries) ∷ []))
    ∙ rw (
      all_append id (entry_conditions clock (take held entries)) (blank_from (drop held entries) ∷ []),
      both_truth (blank_from (drop held entries)),
    )
  where
    id : Bool → Bool
    id b = b

-- what the conditions on rule, frames, clock and held give the others
pub sizes : (rule frames clock held : ℕ) → met (size_conditions rule frames clock held) ≡ true → (held ≤ frame_limit) × (clock ≤ request_limit)
unfolding all
sizes rule frames clock held e =
    let f : frames ≤ frame_limit = inside (ltb frames 1) (ltb frame_limit frames) refl (at 1 (omega arith)) in
    let h : held ≤ frames = leb-true _ _ (at 3 (omega arith)) in
    (omega arith, leb-true _ _ (at 2 (omega arith)))
  where
    at : (k : ℕ) → k < 5 → get_or (size_conditions rule frames clock held) k false ≡ true
    at = all_at (λ (b : Bool). b) false (size_conditions rule frames clock held) e

    inside : (a b : Bool) → ltb frame_limit frames ≡ b → not (pick a true b) ≡ true → frames ≤ frame_limit
    inside true b r q = absurd (false≢true q)
    inside false true r q = absurd (false≢true q)
    inside false false r q = ltb-false frame_limit frames r
