-- `read_full` meets its contract: what a turn reads stands right behind what was read before.
-- Assumes nothing.
use Rattle.std.proofs.Common.{◌≡◌, ℕ, ◌+◌, ◌≤◌, List, ◌++◌, rules, length, take, sym, ap, ap₂, ◌∙◌, subst, le_refl, drop_at, length-take-le}
use Rattle.std.proofs.KnownBytes.{Consumes-trans}
use Rattle.std.proofs.lemmas.Slice.{take-put_mid_below}
use Rattle.std.specs.Io.KnownBytes.{Consumes}
use borrow.Rule.Slice.PartMut.{put_mid, post_of}
use lib.Seq.{take-add, take-append-le}
use Rattle.input.proofs.read_full.Goals as goal

-- the front, and what was read behind it
read_on : (a k n : ℕ) (xs ys : List ℕ) → a ≤ length xs → n ≤ length ys → take a xs ++ take n ys ≡ take (a + n) (put_mid a k xs ys)
read_on a k n xs ys within fits =
    let after = post_of a k xs in
    ap₂ (λ (front read : List ℕ). front ++ read)
    (sym (take-put_mid_below a k xs ys a (le_refl a) within))
    (sym (ap (take n) (drop_at (take a xs) (ys ++ after) a (length-take-le a xs within)) ∙ take-append-le n ys after fits))
    ∙ sym (take-add a n (put_mid a k xs ys))

pub loop-done-preserved : goal.loop-done-preserved
loop-done-preserved g c =
    let joined = read_on c.loop-done.done _ c.in_ok-read.read c.loop-done.bytes c.read.new.buf c.loop-done.invariant.1 c.in_ok-read.ensures.bound.0 in
    (search rules, search rules, subst (Consumes _ _) joined (Consumes-trans _ _ _ _ _ c.loop-done.invariant.2 c.in_ok-read.ensures.bytes.0))
