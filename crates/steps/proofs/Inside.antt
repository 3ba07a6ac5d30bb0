-- The frames that are read stand inside the array.
-- Assumes nothing.
use Rattle.std.specs.Prelude.{Some}
use mathlib.Core.Path.{◌≡◌}
use mathlib.Core.List.{List, [], ◌∷◌}
use Prim.Native.Nat.{ℕ, ◌≤◌, ◌<◌}
use native.Mathlib.Omega.{arith}
use lib.ListN.{length, take, length-take}
use Rattle.paging.specs.Held.{found}
use Rattle.paging.specs.Walk.{pages}
use Rattle.paging.specs.Calls.{frame_limit}
use Rattle.paging.specs.declared.Entry.{Entry}
use Rattle.paging.specs.declared.Frame.{Frame}
use Rattle.paging.proofs.Held.{found_has}
use Rattle.paging.proofs.Frames.{pages_length}
use Rattle.entries.specs.Devices.Search.{least_frame}
use Rattle.entries.proofs.Search.{least_inside}

module _ (held : ℕ) (es : List Entry) (size : length es ≡ frame_limit) where
  -- of a page that is held
  pub frame_inside : (p : ℕ) (f : Frame) → found p (pages (take held es)) ≡ Some f → f.0 < frame_limit
  frame_inside p f q = omega (arith, (found_has p (pages (take held es)) f q).0, pages_length (take held es), length-take held es)

  -- of the least key
  pub least_frame_inside : (rule : ℕ) → least_frame rule (take held es) < frame_limit
  least_frame_inside rule = go (take held es) (omega (arith, length-take held es))
    where
      go : (xs : List Entry) → length xs ≤ frame_limit → least_frame rule xs < frame_limit
      go [] h = unfold least_frame in omega arith
      go (x ∷ xs) h = omega (arith, least_inside rule (x ∷ xs) (omega arith))
