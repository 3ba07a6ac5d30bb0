-- `steps::with_frame` meets its contract: a bit below the word's width is shifted into its place.
-- Assumes nothing.
use mathlib.Core.Path.{◌≡◌, sym, ap, ◌∙◌}
use Prim.Native.Nat.{ℕ, ◌*◌, ◌/◌, ◌%◌, ◌^◌, ◌≤◌, ◌<◌}
use native.Mathlib.Omega.{arith}
use lib.Bits.{bit_or}
use lib.Pow.{shl_exact}
use lib.ListN.{length, get_or, set}
use lib.Seq.{set_out}
use Rattle.occupancy.specs.Map.{word_bits, Words}
use Rattle.occupancy.proofs.Made.{made}
use Rattle.occupancy.proofs.Lowest.{frame_or}
use Rattle.steps.proofs.with_frame.Goals as goal

shifted : (b : ℕ) → b < word_bits → (1 * 2 ^ b) % 2 ^ word_bits ≡ 2 ^ b
shifted b h = shl_exact {a = 1} 1 b word_bits (omega arith) (omega arith) ∙ (let e : 1 * 2 ^ b ≡ 2 ^ b = omega arith in e)

pub returns-then-at-lt4 : goal.returns-then-at-lt4
returns-then-at-lt4 c =
    let a = c.args in
    ap (λ (bit : ℕ). set a.map (a.frame.0 / word_bits) (bit_or (get_or a.map (a.frame.0 / word_bits) 0) bit)) (shifted (a.frame.0 % word_bits) (omega arith))
    ∙ sym (frame_or a.map (made a.map _ c.well_formed.0) a.frame.0)

pub returns-else-at-lt4 : goal.returns-else-at-lt4
returns-else-at-lt4 c =
    let w : Words c.args.map = made c.args.map _ c.well_formed.0 in
    let h : length c.args.map ≤ c.args.frame.0 / word_bits = omega (arith, w.four, c.if-at-lt4.false) in
    sym (frame_or c.args.map w c.args.frame.0 ∙ set_out c.args.map (c.args.frame.0 / word_bits) _ h)
