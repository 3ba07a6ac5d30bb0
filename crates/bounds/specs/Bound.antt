-- Demand 3: "take any accepted list of requests, a cache of n frames, any m from 1 to n, and any plan accepted for m frames on that list, all starting
-- empty. Then (n - m + 1) times the LRU faults with n frames is at most n times the plan's faults, plus n times m. The same holds for FIFO."
--
-- In order: the statement, with that addition and, sharper, without it; three small traces on which it is computed. Proved in proofs/Bound.antt.
-- Assumes nothing.
use Rattle.std.specs.Prelude.{◌≡◌, refl, List, [], ◌∷◌, ℕ, ◌+◌, ◌-◌, ◌*◌, ◌≤◌, Ok}
use Rattle.std.proofs.Common.{arith}
use Rattle.paging.specs.Rules.{mark}
use Rattle.paging.specs.Walk.{faults}
use Rattle.paging.specs.Plans.{check}
use Rattle.paging.specs.declared.Rule.{Rule}
use Rattle.paging.specs.declared.Rule.TheVariants.{Lru, Fifo}

-- ---- the statement

-- any m from 1 to n
abbrev pub Range : ℕ → ℕ → Type 0
Range m n = (1 ≤ m) × (m ≤ n)

-- f faults of a rule with n frames, g faults of a plan with m: as demanded
abbrev pub Demanded : ℕ → ℕ → ℕ → ℕ → Type 0
Demanded n m f g = (n - m + 1) * f ≤ n * g + n * m

-- the same with nothing added
abbrev pub Sharp : ℕ → ℕ → ℕ → ℕ → Type 0
Sharp n m f g = (n - m + 1) * f ≤ n * g

-- so it is for every list of requests and every plan accepted on it
abbrev pub Bound : (ℕ → ℕ → ℕ → ℕ → Type 0) → Rule → Type 0
Bound Claim rule = (n m : ℕ) (trace words : List ℕ) (g : ℕ) → Range m n → check m trace words ≡ Ok g → Claim n m (faults rule n trace) g

-- the rules for which it holds
abbrev pub ForBoth : (Rule → Type 0) → Type 0
ForBoth P = P Lru × P Fifo

-- ---- four pages swept twice: three frames are worth no more than one, and the sharp bound is an equality

pub sweep : List ℕ
sweep = 1 ∷ 2 ∷ 3 ∷ 4 ∷ 1 ∷ 2 ∷ 3 ∷ 4 ∷ []

pub sweep_plan : List ℕ
sweep_plan = mark ∷ 1 ∷ 2 ∷ 3 ∷ 4 ∷ 1 ∷ 2 ∷ 3 ∷ []

pub bound_is_met : (check 1 sweep sweep_plan ≡ Ok 8) × ForBoth (λ rule. (3 - 1 + 1) * faults rule 3 sweep ≡ 3 * 8)
unfolding check faults sweep sweep_plan
bound_is_met = (refl, (refl, refl))

pub sweep_sharp : ForBoth (λ rule. Sharp 3 1 (faults rule 3 sweep) 8)
unfolding faults sweep
sweep_sharp = (omega arith, omega arith)

pub sweep_demanded : ForBoth (λ rule. Demanded 3 1 (faults rule 3 sweep) 8)
unfolding faults sweep
sweep_demanded = (omega arith, omega arith)

-- ---- two pages in turn: a plan with more frames than the cache can do far better, so m goes no further than n

pub turns : List ℕ
turns = 1 ∷ 2 ∷ 1 ∷ 2 ∷ 1 ∷ 2 ∷ []

pub turns_plan : List ℕ
turns_plan = mark ∷ mark ∷ mark ∷ mark ∷ mark ∷ mark ∷ []

pub turns_beyond : (check 2 turns turns_plan ≡ Ok 2) × ForBoth (λ rule. Demanded 1 2 (faults rule 1 turns) 2 → ⊥)
unfolding check faults turns turns_plan
turns_beyond = (refl, (λ h. omega arith, λ h. omega arith))

pub turns_outside : Range 2 1 → ⊥
turns_outside h = omega arith

-- ---- two pages in turn beside one that is done with: a rule that would not let go of it is none of these

pub stale : List ℕ
stale = 9 ∷ 9 ∷ 1 ∷ 2 ∷ 1 ∷ 2 ∷ 1 ∷ 2 ∷ 1 ∷ 2 ∷ 1 ∷ 2 ∷ []

pub stale_plan : List ℕ
stale_plan = mark ∷ mark ∷ mark ∷ 9 ∷ mark ∷ mark ∷ mark ∷ mark ∷ mark ∷ mark ∷ mark ∷ mark ∷ []

pub stale_demanded : (check 2 stale stale_plan ≡ Ok 3) × ForBoth (λ rule. Demanded 2 2 (faults rule 2 stale) 3)
unfolding check faults stale stale_plan
stale_demanded = (refl, (omega arith, omega arith))
