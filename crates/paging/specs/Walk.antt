-- Document 01: what one request does, and the walk over a trace.
--
-- A state of the walk is the clock, which is the moment of the new request, and the held entries in frame order: the entry of frame 0 first.
-- In order: the held pages; the two ways to write an entry; one request; the walk; its two readings, faults and plan; the state at a moment.
-- Assumes nothing.
use Rattle.std.specs.Prelude.{List, [], ◌∷◌, ◌++◌, map, Bool, true, false, ℕ, zero, suc, ◌+◌, ltb, length, get_or, set, take, drop}
use Rattle.paging.specs.Lists.{pick}
use Rattle.paging.specs.Held.{found, if_held}
use Rattle.paging.specs.Rules.{mark, Sees, between, chosen}
use Rattle.paging.specs.declared.Entry.{Entry}
use Rattle.paging.specs.declared.Rule.{Rule}
use Rattle.paging.specs.declared.Outcome.{Outcome}
use Rattle.paging.specs.declared.Outcome.TheVariants.{Hit, Loaded, Dropped}

-- ---- the held pages

-- in frame order
abbrev pub pages : List Entry → List ℕ
pages es = map (λ (e : Entry). e.page.0) es

-- page p is held: some frame holds it
unfoldable pub holds : ℕ → List Entry → Bool
unfolding found
holds p es = if_held (found p (pages es)) (λ (f : ℕ). true) false

-- what a read past the last frame in use would give; with n from 1 no definition reads there
abbrev pub zero_entry : Entry
zero_entry =
    record { page = record { 0 = 0 }; loaded = record { 0 = 0 }; last = record { 0 = 0 }; earlier = record { 0 = 0 } }

abbrev pub entry_at : List Entry → ℕ → Entry
entry_at es frame = get_or es frame zero_entry

-- ---- the two ways to write an entry

-- a page loaded at moment t: this request is its first
abbrev pub loaded_at : ℕ → ℕ → Entry
loaded_at t p =
    record { page = record { 0 = p }; loaded = record { 0 = t }; last = record { 0 = t }; earlier = record { 0 = mark } }

-- a page that is held and requested again at moment t
abbrev pub renewed : ℕ → Entry → Entry
renewed t e = record { page = e.page; loaded = e.loaded; last = record { 0 = t }; earlier = e.last }

-- ---- one request, of page p at moment t: a hit; a load with room, in the lowest free frame; a load in place of the page dropped, in its frame

unfoldable pub outcome : Rule → ℕ → ℕ → Sees → List Entry → Outcome
unfolding found chosen
outcome rule n p sees es =
    if_held (found p (pages es)) (λ (f : ℕ). Hit)
    (pick (ltb (length es) n) Loaded (Dropped (entry_at es (chosen rule sees es)).page))

unfoldable pub next : Rule → ℕ → ℕ → ℕ → Sees → List Entry → List Entry
unfolding found chosen
next rule n t p sees es =
    if_held (found p (pages es)) (λ (f : ℕ). set es f (renewed t (entry_at es f)))
    (pick (ltb (length es) n) (es ++ (loaded_at t p ∷ []))
    (set es (chosen rule sees es) (loaded_at t p)))

-- ---- the walk, from any state, with the requests before it

unfoldable pub outcomes : Rule → ℕ → ℕ → List ℕ → List ℕ → List Entry → List Outcome
unfolding outcome next
outcomes rule n t past [] es = []
outcomes rule n t past (p ∷ rest) es =
    outcome rule n p (between past rest) es
    ∷ outcomes rule n (suc t) (past ++ (p ∷ [])) rest (next rule n t p (between past rest) es)

-- ---- its two readings

-- a fault is a request whose page isn't held, whether or not something is dropped
abbrev pub fault_of : Outcome → ℕ
fault_of Hit = 0
fault_of Loaded = 1
fault_of (Dropped p) = 1

-- the plan's word: the page to drop, or the mark
abbrev pub word_of : Outcome → ℕ
word_of Hit = mark
word_of Loaded = mark
word_of (Dropped p) = p.0

unfoldable pub faults_in : List Outcome → ℕ
faults_in [] = 0
faults_in (o ∷ os) = fault_of o + faults_in os

unfoldable pub plan_in : List Outcome → List ℕ
plan_in [] = []
plan_in (o ∷ os) = word_of o ∷ plan_in os

-- every rule starts empty
unfoldable pub faults : Rule → ℕ → List ℕ → ℕ
unfolding faults_in outcomes
faults rule n trace = faults_in (outcomes rule n 0 [] trace [])

unfoldable pub plan : Rule → ℕ → List ℕ → List ℕ
unfolding plan_in outcomes
plan rule n trace = plan_in (outcomes rule n 0 [] trace [])

-- ---- the state just before the request of moment t, in a walk from empty

-- what a rule sees there
abbrev pub sees_at : List ℕ → ℕ → Sees
sees_at trace t = between (take t trace) (drop (suc t) trace)

-- the entries held

unfoldable pub entries_at : Rule → ℕ → List ℕ → ℕ → List Entry
unfolding next
entries_at rule n trace zero = []
entries_at rule n trace (suc t) = next rule n t (get_or trace t 0) (sees_at trace t) (entries_at rule n trace t)
