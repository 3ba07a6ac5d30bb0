-- Bytes put into a room one behind the other from a place on, as long as there is room.
-- Assumes nothing.
use Rattle.std.specs.Prelude.{List, [], ◌∷◌, ℕ, ◌+◌, ltb, length, set}
use Rattle.paging.specs.Lists.{pick}

-- the place behind a byte put at this one; where the room ends, the place stays
abbrev pub behind : ℕ → List ℕ → ℕ
behind at room = pick (ltb at (length room)) (at + 1) at

-- the place behind the last byte put
unfoldable pub place_behind : ℕ → List ℕ → List ℕ → ℕ
place_behind at [] room = at
place_behind at (byte ∷ bytes) room = place_behind (behind at room) bytes (set room at byte)

-- the room with the bytes in it
unfoldable pub room_behind : ℕ → List ℕ → List ℕ → List ℕ
room_behind at [] room = room
room_behind at (byte ∷ bytes) room = room_behind (behind at room) bytes (set room at byte)
