-- A map has four words of 64 bits: its type says so, and this law hands it over.
-- Assumes nothing.
use mathlib.Core.List.{List, [], ◌∷◌}
use Prim.Native.Nat.{ℕ, zero, suc, ◌<◌, ◌^◌}
use native.Mathlib.Omega.{arith}
use lib.ListN.{length, get_or}
use mir.Val.{Val}
use denote.Shadow.{shadow}
use denote.Laws.{Is}
use denote.Builtin.{u64}
use denote.Array.{Array, each}
use Rattle.occupancy.specs.Map.{word_bits, map_words, Words}

each_small : (map : List ℕ) (vs : List Val) → shadow (each ℕ u64.own_val map vs) → (i : ℕ) → i < length map → get_or map i 0 < 2 ^ word_bits
each_small [] vs p i h = absurd (omega arith)
each_small (w ∷ ws) [] p i h = absurd p
each_small (w ∷ ws) (v ∷ vs) p zero h = p.0.1
each_small (w ∷ ws) (v ∷ vs) p (suc i) h = each_small ws vs p.1 i (omega arith)

pub made : (map : List ℕ) (vs : List Val) → Is (Array u64 map_words) map vs → Words map
made map vs p = record { four = p.1.0.1; small = each_small map p.0 p.1.1 }
