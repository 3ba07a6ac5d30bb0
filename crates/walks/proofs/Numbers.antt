-- The numbers of a walk's loop: that they fit their types. Over variables, since in a proof of the loop itself `omega` would read every step before.
-- Assumes nothing.
use Prim.Native.Nat.{ℕ, ◌+◌, ◌*◌, ◌-◌, ◌≤◌, ◌<◌}
use native.Mathlib.Omega.{arith}
use mir.Syntax.{w8, w16, w32, w64}
use mir.Val.{Fits}
use Rattle.paging.specs.Calls.{frame_limit, request_limit}

-- ---- the moment i of k requests

pub less : (i k : ℕ) → i < k → k - (i + 1) < k - i
less i k h = omega arith

pub in_time_lem : (i k : ℕ) → i < k → k ≤ request_limit → i < request_limit
in_time_lem i k h l = omega arith

-- a moment no later
pub no_later : (h i : ℕ) → h ≤ i → i < request_limit → h < request_limit
no_later h i l m = omega arith

pub next_fits : (i : ℕ) → i < request_limit → Fits w64 (i + 1)
next_fits i h = omega arith

-- its place in a list of numbers of 32 bits
pub moment_long : (i : ℕ) → i < request_limit → Fits w64 (i * 4)
moment_long i h = omega arith

pub moment_fits : (i : ℕ) → i < request_limit → Fits w16 i
moment_fits i h = omega arith

-- the faults so far, and one or none more
pub faults_fit : (f i a : ℕ) → f ≤ i → i < request_limit → a ≤ 1 → Fits w32 (f + a)
faults_fit f i a g h m = omega arith

-- ---- a frame

pub low_frame : (f n : ℕ) → f < n → n ≤ frame_limit → f < frame_limit
low_frame f n h l = omega arith

module _ (f : ℕ) (low : f < frame_limit) where
  pub frame_byte : Fits w8 f
  frame_byte = omega arith

  pub frame_word : Fits w32 f
  frame_word = omega arith

  pub frame_index : Fits w64 f
  frame_index = omega arith

  -- its place in a list of numbers of 16 and of 32 bits
  pub frame_short : Fits w64 (f * 2)
  frame_short = omega arith

  pub frame_long : Fits w64 (f * 4)
  frame_long = omega arith
