-- LRU-2's policy knows which page goes.
-- Assumes nothing.
use Rattle.lru2.proofs.Twice.{twice_inside, twice_goes, twice_moved}
use Rattle.lru2.proofs.Lru2PolicyPolicy.goes.Goals as goal

pub bounds-self-hand_of : goal.bounds-self-hand_of
bounds-self-hand_of c =
    twice_inside _ _ _ _ _ _ _ _ c.requires.keeps c.requires.within _ c.onward-self.ensures _ c.onward-self-2.ensures _ c.hand_of.ensures

pub returns-clause-goes : goal.returns-clause-goes
returns-clause-goes c =
    twice_goes _ _ _ _ _ _ _ _ c.requires.keeps c.requires.within _ c.onward-self.ensures _ c.onward-self-2.ensures
    _ c.requires.held c.requires.full _ c.hand_of.ensures

pub returns-clause-keeps : goal.returns-clause-keeps
returns-clause-keeps c =
    twice_moved _ _ _ _ _ _ _ _ c.requires.keeps c.requires.within _ c.onward-self.ensures _ c.onward-self-2.ensures
