-- A rule's walk over a whole trace, tied to the definition's: the state just before the request of moment t.
-- Assumes nothing.
use Rattle.std.specs.Prelude.{List, ℕ, ◌≤◌, ◌<◌, Some, length, get_or}
use Rattle.paging.specs.Rules.{chosen}
use Rattle.paging.specs.Walk.{pages, outcome, sees_at, entries_at}
use Rattle.paging.specs.Held.{frame_after}
use Rattle.paging.specs.Calls.{frame_limit, request_limit}
use Rattle.paging.specs.declared.Rule.{Rule}
use Rattle.paging.specs.declared.Outcome.{Outcome}

-- the pages held
unfoldable pub held_before : Rule → ℕ → List ℕ → ℕ → List ℕ
unfolding entries_at
held_before rule n trace t = pages (entries_at rule n trace t)

-- the frame of the page that the rule drops
unfoldable pub choice_at : Rule → ℕ → List ℕ → ℕ → ℕ
unfolding chosen entries_at
choice_at rule n trace t = chosen rule (sees_at trace t) (entries_at rule n trace t)

-- the frame in which the page of moment t stands after its request
unfoldable pub seat_at : Rule → ℕ → List ℕ → ℕ → ℕ
unfolding frame_after choice_at held_before
seat_at rule n trace t = frame_after n (get_or trace t 0) (Some (record { 0 = choice_at rule n trace t })) (held_before rule n trace t)

-- what that request comes to
unfoldable pub told_at : Rule → ℕ → List ℕ → ℕ → Outcome
unfolding outcome entries_at
told_at rule n trace t = outcome rule n (get_or trace t 0) (sees_at trace t) (entries_at rule n trace t)

-- a moment of a trace in order, in 1 to 256 frames
pub record Within (n : ℕ) (trace : List ℕ) (t : ℕ) : Type 0 where
  pub some : 1 ≤ n
  pub frames : n ≤ frame_limit
  pub requests : length trace ≤ request_limit
  pub inside : t < length trace
