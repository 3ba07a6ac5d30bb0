-- LRU-2's policy keeps a request.
-- Assumes nothing.
use native.Mathlib.Omega.{arith}
use Rattle.lru2.proofs.Twice.{twice_low, twice_keeps}
use Rattle.lru2.proofs.Lru2PolicyPolicy.served.Goals as goal

pub bounds-self-at : goal.bounds-self-at
bounds-self-at c = twice_low _ _ _ _ _ _ _ _ c.requires.keeps c.requires.within _ c.requires.seat

pub bounds-self-at-2 : goal.bounds-self-at-2
bounds-self-at-2 c = twice_low _ _ _ _ _ _ _ _ c.requires.keeps c.requires.within _ c.requires.seat

pub bounds-self-at-3 : goal.bounds-self-at-3
bounds-self-at-3 c = twice_low _ _ _ _ _ _ _ _ c.requires.keeps c.requires.within _ c.requires.seat

pub overflow_cast-self-2 : goal.overflow_cast-self-2
overflow_cast-self-2 c = omega (arith, twice_low _ _ _ _ _ _ _ _ c.requires.keeps c.requires.within _ c.requires.seat)

pub returns : goal.returns
returns c = twice_keeps _ _ _ _ _ _ _ _ c.requires.keeps c.requires.within _ c.requires.seat _ c.requires.told _ c.earlier_for.ensures
