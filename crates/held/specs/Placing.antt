-- A page put into a frame, the lowest free one or one in use: what comes of it.
-- Assumes nothing.
use Rattle.std.specs.Prelude.{List, [], ◌∷◌, ◌++◌, ℕ, eqb, ltb, length, get_or, set}
use Rattle.paging.specs.Lists.{pick}
use Rattle.paging.specs.declared.Outcome.{Outcome}
use Rattle.paging.specs.declared.Outcome.TheVariants.{Hit, Loaded, Dropped}

-- a hit where page p stands in frame f already; else the page that stands there is dropped, if one does
unfoldable pub put_outcome : ℕ → ℕ → List ℕ → Outcome
put_outcome p f held =
    pick (ltb f (length held)) (pick (eqb (get_or held f 0) p) Hit (Dropped (record { 0 = get_or held f 0 }))) Loaded

-- the pages held then
unfoldable pub put_pages : ℕ → ℕ → List ℕ → List ℕ
put_pages p f held = pick (ltb f (length held)) (set held f p) (held ++ (p ∷ []))
