-- Which frame holds a page, said once. The walk of the rules, the check of plans, the record's services and the index of held pages all cite it.
--
-- The cache is the list of the held pages in frame order: the page of frame 0 first.
-- In order: which frame; a choice by it; the pages held after a request; the frame of its page then.
-- Assumes nothing.
use Rattle.std.specs.Prelude.{List, [], ◌∷◌, ◌++◌, ℕ, ltb, length, set, Option, Some, None}
use Rattle.paging.specs.declared.Frame.{Frame}
use Rattle.paging.specs.Lists.{pick, mem, place_of}

-- which frame holds a page, or none
abbrev pub Found : Type 0
Found = Option Frame

-- the frame that holds page p, or none
unfoldable pub found : ℕ → List ℕ → Found
unfolding mem place_of
found p held = pick (mem p held) (Some (record { 0 = place_of p held })) None

-- the first, of the frame, where a page is held; else the second
abbrev pub if_held {ℓ} : {A : Type ℓ} → Found → (ℕ → A) → A → A
if_held (Some frame) there otherwise = there frame.0
if_held None there otherwise = otherwise

-- the pages held after a request of page p in n frames: on a hit they stay; with room p takes the lowest free frame; in a full cache it takes the frame of the page that goes
unfoldable pub held_after : ℕ → ℕ → Found → List ℕ → List ℕ
unfolding found
held_after n p goes held =
    if_held (found p held) (λ (f : ℕ). held)
    (pick (ltb (length held) n) (held ++ (p ∷ []))
    (if_held goes (λ (f : ℕ). set held f p) held))

-- the frame in which p stands then: on a hit its own; with room the lowest free one; in a full cache that of the page that goes
unfoldable pub frame_after : ℕ → ℕ → Found → List ℕ → ℕ
unfolding found
frame_after n p goes held =
    if_held (found p held) (λ (f : ℕ). f)
    (pick (ltb (length held) n) (length held)
    (if_held goes (λ (f : ℕ). f) (length held)))
