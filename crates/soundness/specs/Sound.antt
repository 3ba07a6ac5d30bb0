-- Document 01, when a record is sound: its paragraph, condition by condition, over the record's parts.
--
-- In order: what is asked of one entry and of two; the conditions; what they mean, said of numbers.
-- Assumes nothing.
use Rattle.std.specs.Prelude.{◌≡◌, ◌⊎◌, List, [], ◌∷◌, ◌++◌, Bool, true, ℕ, ◌≤◌, ◌<◌, eqb, ltb, leb, length, take, drop}
use Rattle.paging.specs.Lists.{pick, not, both, all, mem}
use Rattle.paging.specs.Rules.{mark, once}
use Rattle.paging.specs.Walk.{entry_at, pages}
use Rattle.paging.specs.Calls.{frame_limit, request_limit, outside}
use Rattle.paging.specs.declared.Entry.{Entry}
use Rattle.paging.specs.Meanings.{In, Apart}

-- each member and every later one
unfoldable pub pairwise : {A : Type 0} → (A → A → Bool) → List A → Bool
unfolding all
pairwise test [] = true
pairwise test (x ∷ xs) = both (all (test x) xs) (pairwise test xs)

-- every condition of a list holds
abbrev pub met : List Bool → Bool
met conditions = all (λ (b : Bool). b) conditions

-- ---- of one entry

-- its page is not the mark
abbrev pub is_page : Entry → Bool
is_page e = not (eqb e.page.0 mark)

-- loaded is at most last, and last is below clock
abbrev pub in_order : ℕ → Entry → Bool
in_order clock e = both (leb e.loaded.0 e.last.0) (ltb e.last.0 clock)

-- the earlier moment is the mark exactly when loaded equals last, else it is at least loaded and below last
abbrev pub earlier_fits : Entry → Bool
earlier_fits e =
    pick (eqb e.loaded.0 e.last.0) (eqb e.earlier.0 mark)
    (both (leb e.loaded.0 e.earlier.0) (ltb e.earlier.0 e.last.0))

abbrev pub all_marks : Entry → Bool
all_marks e =
    both (eqb e.page.0 mark) (both (eqb e.loaded.0 mark) (both (eqb e.last.0 mark) (eqb e.earlier.0 mark)))

-- ---- of two entries

abbrev pub pages_differ : Entry → Entry → Bool
pages_differ d e = not (eqb d.page.0 e.page.0)

-- the moments of an entry; the mark is none
abbrev pub moments : Entry → List ℕ
moments e = e.loaded.0 ∷ e.last.0 ∷ pick (once e) [] (e.earlier.0 ∷ [])

-- no moment stands in both
unfoldable pub moments_differ : Entry → Entry → Bool
unfolding all mem
moments_differ d e = all (λ (m : ℕ). not (mem m (moments e))) (moments d)

-- ---- the conditions

-- rule is 1, 2 or 4: MIN can't be fed
abbrev pub feedable : ℕ → Bool
feedable rule = pick (eqb rule 1) true (pick (eqb rule 2) true (eqb rule 4))

-- rule is 1, 2 or 4; frames 1 to 256; clock at most 8,000; held is at most frames and at most clock
abbrev pub size_conditions : ℕ → ℕ → ℕ → ℕ → List Bool
size_conditions rule frames clock held =
    feedable rule ∷ not (outside frames) ∷ leb clock request_limit ∷ leb held frames ∷ leb held clock ∷ []

-- the entries in use have distinct pages
unfoldable pub distinct_pages : List Entry → Bool
unfolding pairwise
distinct_pages es = pairwise pages_differ es

-- none the mark; loaded, last and clock; the earlier moment; no moment stands in two entries
unfoldable pub entry_conditions : ℕ → List Entry → List Bool
unfolding all pairwise moments_differ
entry_conditions clock es =
    all is_page es ∷ all (in_order clock) es ∷ all earlier_fits es ∷ pairwise moments_differ es ∷ []

-- every entry from there on is all marks
unfoldable pub blank_from : List Entry → Bool
unfolding all
blank_from es = all all_marks es

unfoldable pub conditions : ℕ → ℕ → ℕ → ℕ → List Entry → List Bool
unfolding distinct_pages entry_conditions blank_from
conditions rule frames clock held entries =
    size_conditions rule frames clock held
    ++ (distinct_pages (take held entries) ∷ [])
    ++ entry_conditions clock (take held entries)
    ++ (blank_from (drop held entries) ∷ [])

unfoldable pub sound_parts : ℕ → ℕ → ℕ → ℕ → List Entry → Bool
unfolding conditions all
sound_parts rule frames clock held entries = met (conditions rule frames clock held entries)

-- ---- what they mean, said of numbers

-- loaded is at most last, last is below clock, and the earlier moment is the mark exactly when loaded equals last, else at least loaded and below last
pub record InTime (clock : ℕ) (e : Entry) : Type 0 where
  pub loaded_last : e.loaded.0 ≤ e.last.0
  pub last_clock : e.last.0 < clock
  pub earlier_fits_lem :
      ((e.loaded.0 ≡ e.last.0) × (e.earlier.0 ≡ mark)) ⊎ ((e.loaded.0 ≤ e.earlier.0) × (e.earlier.0 < e.last.0))

-- entries in order
pub record Orderly (clock : ℕ) (es : List Entry) : Type 0 where
  -- distinct pages
  pub apart : Apart (pages es)
  -- none the mark
  pub unmarked : (i : ℕ) → i < length es → (entry_at es i).page.0 ≡ mark → ⊥
  pub in_time_lem : (i : ℕ) → i < length es → InTime clock (entry_at es i)
  -- no moment stands in two entries
  pub moments_apart : (i j : ℕ) → i < length es → j < length es → (m : ℕ) → In m (moments (entry_at es i)) → In m (moments (entry_at es j)) → i ≡ j

pub record SoundParts (rule frames clock held : ℕ) (entries : List Entry) : Type 0 where
  pub feeds : feedable rule ≡ true
  pub frames_some : 1 ≤ frames
  pub frames_most : frames ≤ frame_limit
  pub clock_most : clock ≤ request_limit
  pub held_frames : held ≤ frames
  pub held_clock : held ≤ clock
  pub orderly : Orderly clock (take held entries)
  pub blank_after : blank_from (drop held entries) ≡ true
