-- What the definitions mean, in document 01's words: the statements that the laws of proofs/ are made in.
--
-- In order: a call in order; a page among those held; the three sentences of the plan rule; moments of a trace; what the fields of an entry mean; each row of the
-- table of rules, said of the trace's requests and no fields.
-- Assumes nothing.
use Rattle.std.specs.Prelude.{◌≡◌, ◌⊎◌, false, List, ℕ, zero, suc, ◌+◌, ◌≤◌, ◌<◌, length, get_or}
use Rattle.paging.specs.Rules.{mark}
use Rattle.paging.specs.Walk.{pages, holds, entries_at}
use Rattle.paging.specs.Plans.{absent, held_at}
use Rattle.paging.specs.Calls.{frame_limit, request_limit}
use Rattle.paging.specs.declared.Entry.{Entry}
use Rattle.paging.specs.declared.Rule.{Rule}
use Rattle.paging.specs.declared.Rule.TheVariants.{Lru, Fifo, Min, Lru2}

-- ---- a call: frames, requests and pages as document 01's "Words and sizes" has them

pub record InOrder (n : ℕ) (trace : List ℕ) : Type 0 where
  pub one_frame : 1 ≤ n
  pub frames : n ≤ frame_limit
  pub requests : length trace ≤ request_limit
  pub pages : (t : ℕ) → t < length trace → get_or trace t 0 ≡ mark → ⊥

-- ---- held pages, in frame order

-- page p stands in some frame
abbrev pub In : ℕ → List ℕ → Type 0
In p held = (i : ℕ) × (i < length held) × (get_or held i 0 ≡ p)

-- no page stands in two frames
abbrev pub Apart : List ℕ → Type 0
Apart held = (i j : ℕ) → i < length held → j < length held → get_or held i 0 ≡ get_or held j 0 → i ≡ j

-- ---- the plan rule, in its three sentences

-- the entry w for a request of page p, with these pages held in m frames
pub record Keeps (m : ℕ) (held : List ℕ) (p w : ℕ) : Type 0 where
  -- if the page is held, the entry must be the mark
  pub on_a_hit : In p held → w ≡ mark
  -- if it isn't held and there is room, the entry must be the mark
  pub with_room : (In p held → ⊥) → length held < m → w ≡ mark
  -- if it isn't held and the cache is full, the entry must be a page held before this request
  pub when_full : (In p held → ⊥) → m ≤ length held → In w held

module _ (m : ℕ) (trace words : List ℕ) where
  -- the entry of moment t keeps the plan rule
  abbrev pub KeepsAt : ℕ → Type 0
  KeepsAt t = Keeps m (held_at m trace words t) (get_or trace t 0) (get_or words t 0)

  -- how many of the k requests from moment t on find their page absent
  unfoldable pub absences : ℕ → ℕ → ℕ
  absences t zero = 0
  absences t (suc k) = absent (get_or trace t 0) (held_at m trace words t) + absences (suc t) k

-- ---- moments of a trace

-- page p is requested at moment s
abbrev pub Asked : List ℕ → ℕ → ℕ → Type 0
Asked trace p s = (s < length trace) × (get_or trace s 0 ≡ p)

-- the request of moment s is for page p and finds it absent
abbrev pub Missed : Rule → ℕ → List ℕ → ℕ → ℕ → Type 0
Missed rule n trace p s = (Asked trace p s) × (holds p (entries_at rule n trace s) ≡ false)

-- s is the latest moment before t of which P is true
pub record Latest (P : ℕ → Type 0) (t s : ℕ) : Type 0 where
  pub true_then : P s
  pub before : s < t
  pub not_since : (k : ℕ) → s < k → k < t → P k → ⊥

-- ---- what the fields mean, of an entry e held just before moment t

pub record Means (rule : Rule) (n : ℕ) (trace : List ℕ) (t : ℕ) (e : Entry) : Type 0 where
  -- `last` is the moment of its page's latest request
  pub last_asked : Latest (Asked trace e.page.0) t e.last.0
  -- `loaded` is that of its latest fault
  pub loaded_missed : Latest (Missed rule n trace e.page.0) t e.loaded.0
  -- `earlier` is that of its latest request before `last` since it was loaded, or the mark
  pub earlier_asked :
      ((e.earlier.0 ≡ mark) × ((k : ℕ) → e.loaded.0 ≤ k → k < e.last.0 → Asked trace e.page.0 k → ⊥))
      ⊎ ((e.loaded.0 ≤ e.earlier.0) × Latest (Asked trace e.page.0) e.last.0 e.earlier.0)

-- ---- the words of the table of rules

-- page q's moment is earlier than that of each other page of a group
abbrev pub Earliest : (ℕ → ℕ → Type 0) → (ℕ → Type 0) → ℕ → Type 0
Earliest moment group q =
    (s : ℕ) × moment q s × ((r : ℕ) → group r → (r ≡ q → ⊥) → (u : ℕ) × moment r u × (s < u))

-- just before moment t, for a page r:
module _ (rule : Rule) (n : ℕ) (trace : List ℕ) (t : ℕ) where
  -- it is held
  abbrev pub Held : ℕ → Type 0
  Held r = In r (pages (entries_at rule n trace t))

  -- its last request is at s
  abbrev pub LastAsked : ℕ → ℕ → Type 0
  LastAsked r s = Latest (Asked trace r) t s

  -- its second to last request is at s
  abbrev pub SecondAsked : ℕ → ℕ → Type 0
  SecondAsked r s = (l : ℕ) × LastAsked r l × Latest (Asked trace r) l s

  -- it was last loaded at s
  abbrev pub LastLoaded : ℕ → ℕ → Type 0
  LastLoaded r s = Latest (Missed rule n trace r) t s

  -- it has been requested only once since it was last loaded: the request that loaded it
  abbrev pub OnlyOnce : ℕ → Type 0
  OnlyOnce r = (l : ℕ) × LastLoaded r l × ((k : ℕ) → l < k → k < t → Asked trace r k → ⊥)

  -- its next request is at s
  abbrev pub NextAsked : ℕ → ℕ → Type 0
  NextAsked r s = Asked trace r s × (t < s) × ((k : ℕ) → t < k → k < s → Asked trace r k → ⊥)

  -- it is never requested again
  abbrev pub NeverAsked : ℕ → Type 0
  NeverAsked r = (k : ℕ) → t < k → Asked trace r k → ⊥

-- ---- the rows of the table

module _ (rule : Rule) (n : ℕ) (trace : List ℕ) (t : ℕ) where
  -- the one whose last request is earliest
  abbrev pub LruRow : ℕ → Type 0
  LruRow q = Earliest (LastAsked rule n trace t) (Held rule n trace t) q

  -- the one loaded earliest
  abbrev pub FifoRow : ℕ → Type 0
  FifoRow q = Earliest (LastLoaded rule n trace t) (Held rule n trace t) q

  -- the one whose next request is latest; "never again" is later than every moment; among several never requested again, the lowest page number
  abbrev pub MinRow : ℕ → Type 0
  MinRow q =
      (NeverAsked rule n trace t q × ((r : ℕ) → Held rule n trace t r → NeverAsked rule n trace t r → (r ≡ q → ⊥) → q < r))
      ⊎ ((s : ℕ) × NextAsked rule n trace t q s
      × ((r : ℕ) → Held rule n trace t r → (r ≡ q → ⊥) → (u : ℕ) × NextAsked rule n trace t r u × (u < s)))

  -- if some held pages have been requested only once since they were last loaded, the one of these whose last request is earliest;
  -- otherwise the one whose second to last request is earliest
  abbrev pub Lru2Row : ℕ → Type 0
  Lru2Row q =
      (OnlyOnce rule n trace t q × Earliest (LastAsked rule n trace t) (λ (r : ℕ). Held rule n trace t r × OnlyOnce rule n trace t r) q)
      ⊎ (((r : ℕ) → Held rule n trace t r → OnlyOnce rule n trace t r → ⊥) × Earliest (SecondAsked rule n trace t) (Held rule n trace t) q)

-- a rule's own
abbrev pub RuleRow : Rule → ℕ → List ℕ → ℕ → ℕ → Type 0
RuleRow Lru n trace t = LruRow Lru n trace t
RuleRow Fifo n trace t = FifoRow Fifo n trace t
RuleRow Min n trace t = MinRow Min n trace t
RuleRow Lru2 n trace t = Lru2Row Lru2 n trace t
