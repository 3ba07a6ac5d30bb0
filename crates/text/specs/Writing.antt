-- What a writer's methods promise: which bytes they put into its room, and where.
-- Assumes nothing.
use Rattle.std.specs.Prelude.{◌≡◌, List, ℕ}
use Rattle.text.specs.Putting.{place_behind, room_behind}
use Rattle.text.specs.declared.Writer.{Writer}

-- what is answered and left where these bytes are put from that place on
pub record Put (at : ℕ) (bytes room : List ℕ) (place : ℕ) (left : List ℕ) : Type 0 where
  pub place_is : place ≡ place_behind at bytes room
  pub room_is : left ≡ room_behind at bytes room

-- these bytes are put into the writer's room, right behind what was put before
pub record Wrote (old : Writer) (bytes : List ℕ) (new : Writer) : Type 0 where
  pub same : new.room.ghost_name ≡ old.room.ghost_name
  pub put : Put old.at bytes old.room.now new.at new.room.now
