-- LRU's policy keeps a request.
-- Assumes nothing.
use native.Mathlib.Omega.{arith}
use Rattle.lru1.proofs.Lasts.{lasts_low, lasts_keep}
use Rattle.lru1.proofs.LruPolicyPolicy.served.Goals as goal

pub bounds-self-frame : goal.bounds-self-frame
bounds-self-frame c = lasts_low _ _ _ _ _ _ c.requires.keeps c.requires.within _ c.requires.seat

pub overflow_cast-self-3 : goal.overflow_cast-self-3
overflow_cast-self-3 c = omega (arith, lasts_low _ _ _ _ _ _ c.requires.keeps c.requires.within _ c.requires.seat)

pub returns : goal.returns
returns c = lasts_keep _ _ _ _ _ _ c.requires.keeps c.requires.within _ c.requires.seat
