-- LRU's policy knows which page goes.
-- Assumes nothing.
use Rattle.lru1.proofs.Lasts.{lasts_inside, lasts_goes, lasts_moved}
use Rattle.lru1.proofs.LruPolicyPolicy.goes.Goals as goal

pub bounds-self-self : goal.bounds-self-self
bounds-self-self c = lasts_inside _ _ _ _ _ _ c.requires.keeps c.requires.within _ c.onward-self.ensures

pub returns-clause-goes : goal.returns-clause-goes
returns-clause-goes c = lasts_goes _ _ _ _ _ _ c.requires.keeps c.requires.within _ c.requires.held c.requires.full _ c.onward-self.ensures

pub returns-clause-keeps : goal.returns-clause-keeps
returns-clause-keeps c = lasts_moved _ _ _ _ _ _ c.requires.keeps c.requires.within _ c.onward-self.ensures
