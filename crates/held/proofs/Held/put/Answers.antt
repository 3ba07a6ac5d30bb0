-- `Held::put` meets its contract: one of the three ways of `Placing`.
-- Assumes nothing.
use mathlib.Core.Path.{◌≡◌, sym, ◌∙◌}
use Prim.Native.Nat.{◌≤◌, ◌<◌}
use native.Mathlib.Omega.{arith}
use lib.ListN.{length, get_or}
use lib.Seq.{get_or-take}
use Rattle.held.proofs.Keeping.{held_length}
use Rattle.held.proofs.Placing.{put_free, put_hit, put_other, absent_free, absent_other}
use Rattle.held.proofs.Held.put.Goals as goal
use Rattle.held.proofs.Held.put.Goals.{Then-self-at, Else-self-at}

-- the frame is free
free : (c : Then-self-at) → length c.args.self.now ≤ c.args.frame.0
free c =
    let l : length c.args.self.now ≡ c.self.inside.count = rw (← c.self.view_is) (held_length _ _ _ c.self.invariant) in
    omega (arith, c.if-self-at.true)

-- it is in use, and this page stands there
used : (c : Else-self-at) → c.args.frame.0 < length c.args.self.now
used c =
    let l : length c.args.self.now ≡ c.self.inside.count = rw (← c.self.view_is) (held_length _ _ _ c.self.invariant) in
    omega (arith, c.if-self-at.false)

there : (c : Else-self-at) → get_or c.args.self.now c.args.frame.0 0 ≡ get_or c.self.inside.pages c.args.frame.0 0
there c = rw (← c.self.view_is) (get_or-take _ _ _ _ c.if-self-at.false)

pub load-requires : goal.load-requires
load-requires c =
    let h = free (goal.at.load-requires c).Then-self-at in
    (omega (arith, h, c.requires.1), absent_free _ _ _ c.requires.2 h)

pub returns-then-self-at-clause-told : goal.returns-then-self-at-clause-told
returns-then-self-at-clause-told c = (put_free _ _ _ (free (goal.at.returns-then-self-at-clause-told c).Then-self-at)).0

pub returns-then-self-at-clause-pages : goal.returns-then-self-at-clause-pages
returns-then-self-at-clause-pages c = c.load.ensures ∙ (put_free _ _ _ (free (goal.at.returns-then-self-at-clause-pages c).Then-self-at)).1

pub returns-then-old-page-clause-told : goal.returns-then-old-page-clause-told
returns-then-old-page-clause-told c =
    let e = (goal.at.returns-then-old-page-clause-told c).Else-self-at in
    (put_hit _ _ _ (used e) (there e ∙ c.if-old-page.true)).0

pub returns-then-old-page-clause-pages : goal.returns-then-old-page-clause-pages
returns-then-old-page-clause-pages c =
    let e = (goal.at.returns-then-old-page-clause-pages c).Else-self-at in
    (put_hit _ _ _ (used e) (there e ∙ c.if-old-page.true)).1

pub replace-requires : goal.replace-requires
replace-requires c =
    let e = (goal.at.replace-requires c).Else-self-at in
    (used e, absent_other _ _ _ c.requires.2 (λ q. c.if-old-page.false (sym (there e) ∙ q)))

pub returns-clause-told : goal.returns-clause-told
returns-clause-told c =
    let e = (goal.at.returns-clause-told c).Else-self-at in
    rw (← there e) (put_other _ _ _ (used e) (λ q. c.if-old-page.false (sym (there e) ∙ q))).0

pub returns-clause-pages : goal.returns-clause-pages
returns-clause-pages c =
    let e = (goal.at.returns-clause-pages c).Else-self-at in
    c.replace.ensures ∙ (put_other _ _ _ (used e) (λ q. c.if-old-page.false (sym (there e) ∙ q))).1
