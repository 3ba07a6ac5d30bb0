-- `occupancy::next_free` meets its contract: the words passed over have no zero bit.
-- Assumes nothing.
use native.Mathlib.Omega.{arith}
use native.Mathlib.Numerals.{add-one}
use Rattle.occupancy.proofs.Bits.{zero_found, zero_passed, zero_nowhere}
use Rattle.occupancy.proofs.Made.{made}
use Rattle.occupancy.proofs.next_free.Goals as goal

pub returns-then-bit-lt-BITS : goal.returns-then-bit-lt-BITS
returns-then-bit-lt-BITS c =
    let l = c.loop-i in
    zero_found c.args.map (made c.args.map _ c.well_formed.0) l.i c.loop-i-test.true l.invariant.1 c.if-bit-lt-BITS.true

pub loop-i-preserved : goal.loop-i-preserved
loop-i-preserved c =
    let l = c.loop-i in
    let h = c.loop-i-test.true in
    (omega arith, rw (add-one l.i) (zero_passed c.args.map (made c.args.map _ c.well_formed.0) l.i h l.invariant.1 c.if-bit-lt-BITS.false))

pub returns : goal.returns
returns c =
    let l = c.loop-i in
    zero_nowhere c.args.map (made c.args.map _ c.well_formed.0) l.i c.loop-i-test.false l.invariant.0 l.invariant.1
