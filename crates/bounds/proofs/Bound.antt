-- DEMAND 3: "take any accepted list of requests, a cache of n frames, any m from 1 to n, and any plan accepted for m frames on that list, all starting
-- empty. Then (n - m + 1) times the LRU faults with n frames is at most n times the plan's faults, plus n times m. The same holds for FIFO."
--
-- The statement is specs/Bound.antt; proofs/Phases.antt has it with a factor c, for any frugal rule.
-- After D. Sleator and R. Tarjan, "Amortized Efficiency of List Update and Paging Rules", 1985; the factor c is from J. Boyar, M. Ehmsen and K. Larsen,
-- "Theoretical Evidence for the Superiority of LRU-2 over LRU for the Paging Problem", 2006.
-- Assumes nothing.
use Prim.Native.Nat.{ℕ}
use native.Mathlib.Omega.{arith}
use Rattle.paging.specs.declared.Entry.{Entry}
use Rattle.paging.specs.declared.Rule.{Rule}
use Rattle.paging.specs.declared.Rule.TheVariants.{Lru, Fifo}
use Rattle.bounds.specs.Bound.{Demanded, Sharp, Bound, ForBoth}
use Rattle.bounds.proofs.Phases.{frugal_bound}
use Rattle.bounds.proofs.RuleSide.{Aged, aged_frugal, lru_aged, fifo_aged}

-- a rule that drops the entry with the least key is frugal with c = 1
aged_sharp : (rule : Rule) (key : Entry → ℕ) → Aged rule key → Bound Sharp rule
aged_sharp rule key aged n m trace words g range accepted =
    omega (arith, frugal_bound rule n 1 (aged_frugal rule key aged n (omega arith)) m trace words g (omega arith) (omega arith) (omega arith) accepted)

-- (n - m + 1) times the faults of LRU, and of FIFO, is at most n times the plan's, with nothing added
pub sharply_bounded_by_any_plan : ForBoth (Bound Sharp)
sharply_bounded_by_any_plan =
    (aged_sharp Lru (λ (e : Entry). e.last.0) lru_aged, aged_sharp Fifo (λ (e : Entry). e.loaded.0) fifo_aged)

sharp_demanded : (rule : Rule) → Bound Sharp rule → Bound Demanded rule
sharp_demanded rule sharp n m trace words g range accepted = omega (arith, sharp n m trace words g range accepted)

-- THE DEMAND: it is at most n times the plan's, plus n times m
pub bounded_by_any_plan : ForBoth (Bound Demanded)
bounded_by_any_plan = let (lru, fifo) = sharply_bounded_by_any_plan in (sharp_demanded Lru lru, sharp_demanded Fifo fifo)
