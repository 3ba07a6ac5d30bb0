-- Laws of bytes put into a room: one byte, some bytes behind others, and a whole text from the front of the room.
-- Assumes nothing.
use mathlib.Core.Path.{◌≡◌, refl, sym, ap, ap₂, subst, ◌∙◌}
use mathlib.Core.List.{List, [], ◌∷◌, ◌++◌}
use Prim.Native.Nat.{ℕ, suc, ◌+◌, ◌≤◌, ◌<◌}
use native.Mathlib.Omega.{arith}
use lib.ListN.{length, get_or, take, set, length-append, length-set}
use lib.Seq.{take-suc, append_snoc, set_at, set_out, drop-nil, take-nil}
use borrow.Author.Tests.{lt-ltb, le-ltb}
use Rattle.paging.specs.Services.{laid}
use Rattle.text.specs.Putting.{behind, place_behind, room_behind}
use Rattle.text.specs.Writing.{Put, Wrote}
use Rattle.text.specs.declared.Writer.{Writer}

pub put_none : (at : ℕ) (room : List ℕ) → Put at [] room at room
unfolding place_behind room_behind
put_none at room = record { place_is = refl; room_is = refl }

pub put_one : (at byte : ℕ) (room : List ℕ) → at < length room → Put at (byte ∷ []) room (at + 1) (set room at byte)
unfolding place_behind room_behind
put_one at byte room h = record { place_is = rw (lt-ltb _ _ h) refl; room_is = refl }

pub put_out : (at byte : ℕ) (room : List ℕ) → length room ≤ at → Put at (byte ∷ []) room at room
unfolding place_behind room_behind
put_out at byte room h = record { place_is = rw (le-ltb _ _ h) refl; room_is = sym (set_out room at byte h) }

then_place : (xs ys room : List ℕ) (at : ℕ) → place_behind (place_behind at xs room) ys (room_behind at xs room) ≡ place_behind at (xs ++ ys) room
unfolding place_behind room_behind
then_place [] ys room at = refl
then_place (x ∷ xs) ys room at = then_place xs ys (set room at x) (behind at room)

then_room : (xs ys room : List ℕ) (at : ℕ) → room_behind (place_behind at xs room) ys (room_behind at xs room) ≡ room_behind at (xs ++ ys) room
unfolding place_behind room_behind
then_room [] ys room at = refl
then_room (x ∷ xs) ys room at = then_room xs ys (set room at x) (behind at room)

-- some bytes right behind others
pub put_then : {at : ℕ} {xs ys room : List ℕ} {next : ℕ} {between : List ℕ} {place : ℕ} {left : List ℕ} → Put at xs room next between → Put next ys between place left
    → Put at (xs ++ ys) room place left
put_then {at} {xs} {ys} {room} p q = record {
  place_is = q.place_is ∙ ap₂ (λ (a : ℕ) (b : List ℕ). place_behind a ys b) p.place_is p.room_is ∙ then_place xs ys room at;
  room_is = q.room_is ∙ ap₂ (λ (a : ℕ) (b : List ℕ). room_behind a ys b) p.place_is p.room_is ∙ then_room xs ys room at;
}

-- one byte more of a list
pub put_next : (at : ℕ) (bytes room : List ℕ) (i next : ℕ) (between : List ℕ) (place : ℕ) (left : List ℕ) → i < length bytes
    → Put at (take i bytes) room next between → Put next (get_or bytes i 0 ∷ []) between place left → Put at (take (i + 1) bytes) room place left
put_next at bytes room i next between place left h p q =
    let e : i + 1 ≡ suc i = omega arith in
    rw (e, take-suc bytes i 0 h) (put_then p q)

length_after : (bytes room : List ℕ) (at : ℕ) → length (room_behind at bytes room) ≡ length room
unfolding room_behind
length_after [] room at = refl
length_after (b ∷ bytes) room at = length_after bytes (set room at b) (behind at room) ∙ length-set room at b

pub put_length : {at : ℕ} {bytes room : List ℕ} {place : ℕ} {left : List ℕ} → Put at bytes room place left → length left ≡ length room
put_length {at} {bytes} {room} p = ap length p.room_is ∙ length_after bytes room at

-- ---- what the methods of a writer say

pub wrote_none : (w : Writer) → Wrote w [] w
wrote_none w = record { same = refl; put = put_none w.at w.room.now }

-- some bytes right behind others
pub wrote_then : {a b c : Writer} {xs ys : List ℕ} → Wrote a xs b → Wrote b ys c → Wrote a (xs ++ ys) c
wrote_then p q = record { same = q.same ∙ p.same; put = put_then p.put q.put }

-- one byte more of a list
pub wrote_next : {a b c : Writer} (bytes : List ℕ) (i : ℕ) → i < length bytes → Wrote a (take i bytes) b → Wrote b (get_or bytes i 0 ∷ []) c → Wrote a (take (i + 1) bytes) c
wrote_next {a} {b} {c} bytes i h p q =
    record { same = q.same ∙ p.same; put = put_next a.at bytes a.room.now i b.at b.room.now c.at c.room.now h p.put q.put }

-- the same bytes said otherwise
pub wrote_same : {a b : Writer} {xs ys : List ℕ} → xs ≡ ys → Wrote a xs b → Wrote a ys b
wrote_same {a} {b} e p = subst (λ (bytes : List ℕ). Wrote a bytes b) e p

-- ---- from the front of the room

place_from : (bytes before rest : List ℕ) (at : ℕ) → length before ≡ at → place_behind at bytes (before ++ rest) ≡ at + length (take (length rest) bytes)
unfolding place_behind
place_from [] before rest at e = rw (take-nil {A = ℕ} (length rest)) (omega arith)
place_from (b ∷ bytes) before [] at e =
    let full : length (before ++ []) ≤ at = omega (arith, length-append before []) in
    rw (le-ltb at (length (before ++ [])) full, set_out (before ++ []) at b full) (place_from bytes before [] at e)
place_from (b ∷ bytes) before (r ∷ rest) at e =
    let room : at < length (before ++ r ∷ rest) = omega (arith, length-append before (r ∷ rest)) in
    let more : length (before ++ b ∷ []) ≡ at + 1 = omega (arith, length-append before (b ∷ [])) in
    rw (lt-ltb at (length (before ++ r ∷ rest)) room, set_at before r rest b at e, ← append_snoc before b rest)
    (place_from bytes (before ++ b ∷ []) rest (at + 1) more ∙ omega arith)

room_from : (bytes before rest : List ℕ) (at : ℕ) → length before ≡ at → room_behind at bytes (before ++ rest) ≡ before ++ laid bytes rest
unfolding room_behind
room_from [] before rest at e = rw (take-nil {A = ℕ} (length rest)) refl
room_from (b ∷ bytes) before [] at e =
    let full : length (before ++ []) ≤ at = omega (arith, length-append before []) in
    rw (le-ltb at (length (before ++ [])) full, set_out (before ++ []) at b full) (room_from bytes before [] at e ∙ rw (drop-nil {A = ℕ} (length bytes)) refl)
room_from (b ∷ bytes) before (r ∷ rest) at e =
    let room : at < length (before ++ r ∷ rest) = omega (arith, length-append before (r ∷ rest)) in
    let more : length (before ++ b ∷ []) ≡ at + 1 = omega (arith, length-append before (b ∷ [])) in
    rw (lt-ltb at (length (before ++ r ∷ rest)) room, set_at before r rest b at e, ← append_snoc before b rest)
    (room_from bytes (before ++ b ∷ []) rest (at + 1) more ∙ append_snoc before b (laid bytes rest))

-- a whole text from the front of the room: as much of it as there is room for, and the bytes past it as they were
pub wrote_whole : {a b : Writer} {text room : List ℕ} → a.at ≡ 0 → a.room.now ≡ room → Wrote a text b → (b.at ≡ length (take (length room) text)) × (b.room.now ≡ laid text room)
wrote_whole {a} {b} {text} {room} front lent p =
    let e : 0 + length (take (length room) text) ≡ length (take (length room) text) = omega arith in (
      p.put.place_is ∙ ap₂ (λ (at : ℕ) (bytes : List ℕ). place_behind at text bytes) front lent ∙ place_from text [] room 0 refl ∙ e,
      p.put.room_is ∙ ap₂ (λ (at : ℕ) (bytes : List ℕ). room_behind at text bytes) front lent ∙ room_from text [] room 0 refl,
    )
