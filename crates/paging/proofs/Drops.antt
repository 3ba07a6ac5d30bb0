-- What each rule drops, in the words of document 01's table: requests of the trace, and no fields.
--
-- The words and the rows are in specs/Meanings.antt. In order: that one held page at most fits a row; that the page dropped fits its rule's; the two together.
-- Assumes nothing.
use mathlib.Core.Path.{◌≡◌, refl, sym, ap, ◌∙◌, subst}
use mathlib.Core.Logic.{◌⊎◌, inl, inr, ⊎_elim}
use mathlib.Core.Bool.{Bool, true, false}
use mathlib.Core.List.{List, []}
use Prim.Native.Nat.{ℕ, suc, ◌+◌, ◌-◌, ◌≤◌, ◌<◌}
use native.Mathlib.Omega.{arith}
use native.Mathlib.Decide.{dec_lt, ℕ_discrete}
use lib.Dec.{eqb, leb}
use lib.ListN.{length, get_or, drop, length-drop}
use lib.Seq.{get_or-drop}
use borrow.Author.Tests.{leb-true, eqb-true, eqb-false, eq-eqb}
use Rattle.paging.specs.Lists.{pick, both, implies, any, all}
use Rattle.paging.specs.Rules.{mark, Sees, next_of, never, once, lru_drops, fifo_drops, min_drops, lru2_drops, drops, chosen}
use Rattle.paging.specs.Walk.{zero_entry, entry_at, outcomes, sees_at, entries_at}
use Rattle.paging.specs.Meanings.{Asked, Missed, Latest, Means, Earliest, Held, LastAsked, SecondAsked, LastLoaded, OnlyOnce, NextAsked, NeverAsked, LruRow, FifoRow, MinRow, Lru2Row, RuleRow}
use Rattle.paging.specs.declared.Page.{Page}
use Rattle.paging.specs.declared.Entry.{Entry}
use Rattle.paging.specs.declared.Rule.{Rule}
use Rattle.paging.specs.declared.Rule.TheVariants.{Lru, Fifo, Min, Lru2}
use Rattle.paging.specs.declared.Outcome.TheVariants.{Hit, Dropped}
use Rattle.paging.proofs.Lists.{true≢false, bool_cases, both_first, both_second, implied, all_at, none_at, index_passes, index_first}
use Rattle.paging.proofs.Choice.{next_le, never_next, chosen_below, chosen_drops}
use Rattle.paging.proofs.Frames.{pages_length, pages_at, dropped_full, outcome_at_lem}
use Rattle.paging.proofs.Moments.{latest_one, latest_le, fields_mean}

le_ne : {a b : ℕ} → a ≤ b → (a ≡ b → ⊥) → a < b
le_ne h e = omega arith

-- ---- one held page at most fits a row

-- of two pages of a group not both can be earliest
earliest_one : (moment : ℕ → ℕ → Type 0) (group : ℕ → Type 0) → ((r s u : ℕ) → moment r s → moment r u → s ≡ u)
    → (q r : ℕ) → group q → group r → Earliest moment group q → Earliest moment group r → r ≡ q
earliest_one moment group one q r gq gr (s, a, f) (u, b, g) = elim (ℕ_discrete r q) [ yes e ↦ e | no e ↦ absurd (clash e) ]
  where
    clash : (r ≡ q → ⊥) → ⊥
    clash e =
        let (v, c, h) = f r gr e in
        let (w, d, k) = g q gq (λ x. e (sym x)) in
        omega (arith, one r u v b c, one q s w a d)

module _ (rule : Rule) (n : ℕ) (trace : List ℕ) (t : ℕ) where
  asked_one : (r s u : ℕ) → LastAsked rule n trace t r s → LastAsked rule n trace t r u → s ≡ u
  asked_one r s u = latest_one (Asked trace r) t s u

  loaded_one : (r s u : ℕ) → LastLoaded rule n trace t r s → LastLoaded rule n trace t r u → s ≡ u
  loaded_one r s u = latest_one (Missed rule n trace r) t s u

  second_one : (r s u : ℕ) → SecondAsked rule n trace t r s → SecondAsked rule n trace t r u → s ≡ u
  second_one r s u (l, a, b) (m, c, d) =
      latest_one (Asked trace r) m s u (subst (λ (x : ℕ). Latest (Asked trace r) x s) (asked_one r l m a c) b) d

  next_one : (r s u : ℕ) → NextAsked rule n trace t r s → NextAsked rule n trace t r u → s ≡ u
  next_one r s u (a, h, f) (b, k, g) =
      elim (dec_lt s u) [ yes l ↦ absurd (g s h l a) | no l ↦ elim (dec_lt u s) [ yes m ↦ absurd (f u k m b) | no m ↦ omega arith ] ]

  lru2_one : (q r : ℕ) → Held rule n trace t q → Held rule n trace t r → Lru2Row rule n trace t q → Lru2Row rule n trace t r → r ≡ q
  lru2_one q r hq hr (inl (oq, a)) (inl (or, b)) = earliest_one _ _ asked_one q r (hq, oq) (hr, or) a b
  lru2_one q r hq hr (inl (oq, a)) (inr (none, b)) = absurd (none q hq oq)
  lru2_one q r hq hr (inr (none, a)) (inl (or, b)) = absurd (none r hr or)
  lru2_one q r hq hr (inr (none, a)) (inr (nil, b)) = earliest_one _ _ second_one q r hq hr a b

  min_one : (q r : ℕ) → Held rule n trace t q → Held rule n trace t r → MinRow rule n trace t q → MinRow rule n trace t r → r ≡ q
  min_one q r hq hr a b = elim (ℕ_discrete r q) [ yes e ↦ e | no e ↦ absurd (clash e a b) ]
    where
      clash : (r ≡ q → ⊥) → MinRow rule n trace t q → MinRow rule n trace t r → ⊥
      clash e (inl (nq, f)) (inl (nr, g)) = omega (arith, f r hr nr e, g q hq nq (λ x. e (sym x)))
      clash e (inl (nq, f)) (inr (s, ar, g)) = let (u, b, h) = g q hq (λ x. e (sym x)) in nq u b.1 b.0
      clash e (inr (s, aq, f)) (inl (nr, g)) = let (u, b, h) = f r hr e in nr u b.1 b.0
      clash e (inr (s, aq, f)) (inr (v, ar, g)) =
          let (u, b, h) = f r hr e in
          let (w, d, k) = g q hq (λ x. e (sym x)) in
          omega (arith, next_one r u v b ar, next_one q s w aq d)

pub row_one : (rule : Rule) (n : ℕ) (trace : List ℕ) (t q r : ℕ) → Held rule n trace t q → Held rule n trace t r
    → RuleRow rule n trace t q → RuleRow rule n trace t r → r ≡ q
row_one Lru n trace t q r hq hr = earliest_one _ _ (asked_one Lru n trace t) q r hq hr
row_one Fifo n trace t q r hq hr = earliest_one _ _ (loaded_one Fifo n trace t) q r hq hr
row_one Min n trace t q r hq hr = min_one Min n trace t q r hq hr
row_one Lru2 n trace t q r hq hr = lru2_one Lru2 n trace t q r hq hr

-- ---- the page dropped fits its rule's row

-- pages requested at different moments: one whose moment is no later than any other's is earliest
earliest_of : (trace : List ℕ) (moment : ℕ → ℕ → Type 0) (group : ℕ → Type 0) → ((r s : ℕ) → moment r s → Asked trace r s)
    → (q s : ℕ) → moment q s → ((r : ℕ) → group r → (u : ℕ) × moment r u × (s ≤ u)) → Earliest moment group q
earliest_of trace moment group asked q s a f = (s, a, λ r g e. later r e (f r g))
  where
    later : (r : ℕ) → (r ≡ q → ⊥) → (u : ℕ) × moment r u × (s ≤ u) → (u : ℕ) × moment r u × (s < u)
    later r e (u, b, h) = (
      u,
      b,
      elim (ℕ_discrete s u)
          [ yes x ↦ absurd (e (sym (asked r u b).1 ∙ ap (λ (k : ℕ). get_or trace k 0) (sym x) ∙ (asked q s a).1)) | no x ↦ omega arith ],
    )

module _ (rule : Rule) (n : ℕ) (trace : List ℕ) (t : ℕ) (inside : t ≤ length trace) where
  -- the entries held, what each one means, and the frame of a held page
  es : List Entry
  es = entries_at rule n trace t

  means : (i : ℕ) → i < length es → Means rule n trace t (entry_at es i)
  unfolding es
  means = fields_mean rule n trace t inside

  frame_of : (r : ℕ) → Held rule n trace t r → (i : ℕ) × (i < length es) × ((entry_at es i).page.0 ≡ r)
  unfolding es
  frame_of r (i, h, e) = (i, omega (arith, pages_length (entries_at rule n trace t)), sym (pages_at (entries_at rule n trace t) i) ∙ e)

  -- an entry whose key, a moment of its page's, is least in a group of pages
  earliest_entry : (moment : ℕ → ℕ → Type 0) (group : ℕ → Type 0) → ((r s : ℕ) → moment r s → Asked trace r s)
      → (key : Entry → ℕ) (i : ℕ) → moment (entry_at es i).page.0 (key (entry_at es i))
      → ((r : ℕ) → group r → (j : ℕ) × ((entry_at es j).page.0 ≡ r) × moment (entry_at es j).page.0 (key (entry_at es j)) × (key (entry_at es i) ≤ key (entry_at es j)))
      → Earliest moment group (entry_at es i).page.0
  earliest_entry moment group asked key i a f =
      earliest_of trace moment group asked (entry_at es i).page.0 (key (entry_at es i)) a
      (λ r g. let (j, e, b, h) = f r g in (key (entry_at es j), subst (λ (x : ℕ). moment x (key (entry_at es j))) e b, h))

  lru_fits : (i : ℕ) → i < length es → lru_drops es (entry_at es i) ≡ true → LruRow rule n trace t (entry_at es i).page.0
  unfolding lru_drops
  lru_fits i h d =
      earliest_entry (LastAsked rule n trace t) (Held rule n trace t) (λ r s a. a.true_then) (λ (e : Entry). e.last.0) i (means i h).last_asked
      (λ r g. let (j, k, e) = frame_of r g in (j, e, (means j k).last_asked, leb-true _ _ (all_at _ zero_entry es d j k)))

  fifo_fits : (i : ℕ) → i < length es → fifo_drops es (entry_at es i) ≡ true → FifoRow rule n trace t (entry_at es i).page.0
  unfolding fifo_drops
  fifo_fits i h d =
      earliest_entry (LastLoaded rule n trace t) (Held rule n trace t) (λ r s a. a.true_then.0) (λ (e : Entry). e.loaded.0) i (means i h).loaded_missed
      (λ r g. let (j, k, e) = frame_of r g in (j, e, (means j k).loaded_missed, leb-true _ _ (all_at _ zero_entry es d j k)))

  -- the mark as an earlier moment says "only once", where no moment is the mark
  once_is : length trace ≤ mark → (e : Entry) → Means rule n trace t e → once e ≡ true → OnlyOnce rule n trace t e.page.0
  once_is short e m o = (e.loaded.0, m.loaded_missed, go m.earlier_asked)
    where
      go : ((e.earlier.0 ≡ mark) × ((k : ℕ) → e.loaded.0 ≤ k → k < e.last.0 → Asked trace e.page.0 k → ⊥))
          ⊎ ((e.loaded.0 ≤ e.earlier.0) × Latest (Asked trace e.page.0) e.last.0 e.earlier.0)
          → (k : ℕ) → e.loaded.0 < k → k < t → Asked trace e.page.0 k → ⊥
      go (inl (x, none)) k h l a =
          let u : k ≤ e.last.0 = latest_le (Asked trace e.page.0) t k e.last.0 a l m.last_asked in
          none e.loaded.0 (omega arith) (omega arith) m.loaded_missed.true_then.0
      go (inr (x, f)) k h l a = omega (arith, eqb-true e.earlier.0 mark o, f.before, m.last_asked.before)

  not_once : (e : Entry) → Means rule n trace t e → once e ≡ false → (e.loaded.0 ≤ e.earlier.0) × Latest (Asked trace e.page.0) e.last.0 e.earlier.0
  not_once e m o = ⊎_elim (λ w. absurd (eqb-false _ _ o w.0)) (λ w. w) m.earlier_asked

  once_not : (e : Entry) → Means rule n trace t e → once e ≡ false → OnlyOnce rule n trace t e.page.0 → ⊥
  once_not e m o (l, a, none) =
      let (x, f) = not_once e m o in
      let u : l ≡ e.loaded.0 = loaded_one rule n trace t e.page.0 l e.loaded.0 a m.loaded_missed in
      none e.last.0 (omega (arith, f.before)) m.last_asked.before m.last_asked.true_then

  lru2_fits : length trace ≤ mark → (i : ℕ) → i < length es → lru2_drops es (entry_at es i) ≡ true → Lru2Row rule n trace t (entry_at es i).page.0
  unfolding lru2_drops
  lru2_fits short i h d = go (any once es) refl d
    where
      -- who is requested only once has the mark
      marked : (r j : ℕ) → j < length es → (entry_at es j).page.0 ≡ r → OnlyOnce rule n trace t r → once (entry_at es j) ≡ true
      marked r j k e o =
          ⊎_elim (λ x. x) (λ x. absurd (once_not (entry_at es j) (means j k) x (subst (OnlyOnce rule n trace t) (sym e) o)))
          (bool_cases (once (entry_at es j)))

      unmarked : any once es ≡ false → (j : ℕ) → j < length es → once (entry_at es j) ≡ false
      unmarked q j k = ⊎_elim (λ x. absurd (none_at once zero_entry es q j k x)) (λ x. x) (bool_cases (once (entry_at es j)))

      second : any once es ≡ false → (j : ℕ) → j < length es → SecondAsked rule n trace t (entry_at es j).page.0 (entry_at es j).earlier.0
      second q j k = ((entry_at es j).last.0, (means j k).last_asked, (not_once (entry_at es j) (means j k) (unmarked q j k)).1)

      last_first : Entry → Bool
      last_first d = implies (once d) (leb (entry_at es i).last.0 d.last.0)

      go : (b : Bool) → any once es ≡ b
          → pick b (both (once (entry_at es i)) (all last_first es))
          (all (λ (d : Entry). leb (entry_at es i).earlier.0 d.earlier.0) es) ≡ true
          → Lru2Row rule n trace t (entry_at es i).page.0
      go true q d =
          inl (
            once_is short (entry_at es i) (means i h) (both_first (once (entry_at es i)) (all last_first es) d),
            earliest_entry (LastAsked rule n trace t) (λ (r : ℕ). Held rule n trace t r × OnlyOnce rule n trace t r) (λ r s a. a.true_then)
                (λ (e : Entry). e.last.0) i (means i h).last_asked
                (λ r g. let (j, k, e) = frame_of r g.0 in
                (j, e, (means j k).last_asked, leb-true _ _ (implied _ _ (all_at last_first zero_entry es (both_second (once (entry_at es i)) (all last_first es) d) j k) (marked r j k e g.1)))),
          )
      go false q d =
          inr (
            (λ r g o. let (j, k, e) = frame_of r g in true≢false (sym (marked r j k e o) ∙ unmarked q j k)),
            earliest_entry (SecondAsked rule n trace t) (Held rule n trace t) (λ r s a. a.2.true_then) (λ (e : Entry). e.earlier.0) i (second q i h)
                (λ r g. let (j, k, e) = frame_of r g in (j, e, second q j k, leb-true _ _ (all_at _ zero_entry es d j k))),
          )

  -- ---- the requests to come

  rest : List ℕ
  rest = drop (suc t) trace

  rest_at : (i : ℕ) → get_or rest i 0 ≡ get_or trace (suc t + i) 0
  unfolding rest
  rest_at i = get_or-drop (suc t) trace i 0

  rest_length : length rest ≡ length trace - suc t
  unfolding rest
  rest_length = length-drop (suc t) trace

  -- a page comes again after as many requests as stand before it, or never
  comes : (r : ℕ) → ((never rest r ≡ true) × NeverAsked rule n trace t r) ⊎ ((never rest r ≡ false) × NextAsked rule n trace t r (suc t + next_of rest r))
  unfolding next_of never
  comes r = ⊎_elim (λ e. inl (e, gone e)) (λ e. inr (e, again e)) (bool_cases (never rest r))
    where
      found : ℕ
      found = next_of rest r

      is_r : ℕ → Bool
      is_r q = eqb q r

      early : (k : ℕ) → t < k → k < suc t + found → Asked trace r k → ⊥
      early k h l (x, e) =
          let i : ℕ = k - suc t in
          index_first is_r 0 rest i (omega arith)
          (eq-eqb _ _ (rest_at i ∙ ap (λ (j : ℕ). get_or trace j 0) (let y : suc t + i ≡ k = omega arith in y) ∙ e))

      gone : never rest r ≡ true → NeverAsked rule n trace t r
      gone e k h a = early k h (omega (arith, never_next rest r e, rest_length, a.0)) a

      again : never rest r ≡ false → NextAsked rule n trace t r (suc t + next_of rest r)
      again e =
          let h : found < length rest = le_ne (next_le rest r) (eqb-false _ _ e) in
          ((omega (arith, rest_length), sym (rest_at found) ∙ eqb-true _ _ (index_passes is_r 0 rest h)), omega arith, early)

  min_fits : (i : ℕ) → i < length es → min_drops rest es (entry_at es i) ≡ true → MinRow rule n trace t (entry_at es i).page.0
  unfolding min_drops
  min_fits i h d = go (comes q)
    where
      q : ℕ
      q = (entry_at es i).page.0

      next_later : Entry → Bool
      next_later e = leb (next_of rest e.page.0) (next_of rest q)

      number_above : Entry → Bool
      number_above e = implies (never rest e.page.0) (leb q e.page.0)

      -- no held page comes later
      latest : (r : ℕ) → Held rule n trace t r → next_of rest r ≤ next_of rest q
      latest r g =
          let (j, k, e) = frame_of r g in
          subst (λ (x : ℕ). next_of rest x ≤ next_of rest q) e
          (leb-true _ _ (all_at next_later zero_entry es (both_first (all next_later es) (implies (never rest q) (all number_above es)) d) j k))

      -- of those that never come again it has the lowest number
      lowest : never rest q ≡ true → (r : ℕ) → Held rule n trace t r → never rest r ≡ true → q ≤ r
      lowest e r g f =
          let (j, k, x) = frame_of r g in
          let all_above : all number_above es ≡ true = implied (never rest q) (all number_above es) (both_second (all next_later es) _ d) e in
          subst (λ (y : ℕ). q ≤ y) x (leb-true _ _ (implied _ _ (all_at number_above zero_entry es all_above j k) (ap (never rest) x ∙ f)))

      go : ((never rest q ≡ true) × NeverAsked rule n trace t q) ⊎ ((never rest q ≡ false) × NextAsked rule n trace t q (suc t + next_of rest q))
          → MinRow rule n trace t q
      go (inl (e, nq)) =
          inl (
            nq,
            λ r g nr ne.
                ⊎_elim (λ f. let l : q ≤ r = lowest e r g f.0 in le_ne l (λ x. ne (sym x))) (λ f. absurd (nr _ f.1.1 f.1.0)) (comes r),
          )
      go (inr (e, aq)) =
          inr (
            suc t + next_of rest q,
            aq,
            λ r g ne.
                ⊎_elim
                (λ f. absurd (eqb-false _ _ e (let l : next_of rest q ≡ length rest = omega (arith, latest r g, never_next rest r f.0, next_le rest q) in l)))
                (λ f. (
                  suc t + next_of rest r,
                  f.1,
                  omega
                      (arith, latest r g, le_ne (latest r g) (λ x. ne (sym f.1.0.1 ∙ ap (λ (y : ℕ). get_or trace (suc t + y) 0) x ∙ aq.0.1))),
                ))
                (comes r),
          )

-- ---- WHAT EACH RULE DROPS

row_fits : (rule : Rule) (n : ℕ) (trace : List ℕ) (t : ℕ) → t ≤ length trace → length trace ≤ mark
    → (i : ℕ) → i < length (entries_at rule n trace t)
    → drops rule (sees_at trace t) (entries_at rule n trace t) (entry_at (entries_at rule n trace t) i) ≡ true
    → RuleRow rule n trace t (entry_at (entries_at rule n trace t) i).page.0
unfolding drops es rest
row_fits Lru n trace t inside short = lru_fits Lru n trace t inside
row_fits Fifo n trace t inside short = fifo_fits Fifo n trace t inside
row_fits Min n trace t inside short = min_fits Min n trace t inside
row_fits Lru2 n trace t inside short = lru2_fits Lru2 n trace t inside short

-- the page that the walk drops at moment t is held and fits its rule's row, and no other held page does
pub what_each_rule_drops : (rule : Rule) (n : ℕ) (trace : List ℕ) (t : ℕ) → 1 ≤ n → length trace ≤ mark → t < length trace
    → (q : Page) → get_or (outcomes rule n 0 [] trace []) t Hit ≡ Dropped q
    → Held rule n trace t q.0 × RuleRow rule n trace t q.0 × ((r : ℕ) → Held rule n trace t r → RuleRow rule n trace t r → r ≡ q.0)
what_each_rule_drops rule n trace t some short inside q e =
    let held : List Entry = entries_at rule n trace t in
    let sees : Sees = sees_at trace t in
    let f : ℕ = chosen rule sees held in
    let (absent, full, is) = dropped_full rule n t (get_or trace t 0) sees held q (sym (outcome_at_lem rule n trace t inside Hit) ∙ e) in
    let k : f < length held = chosen_below rule sees held (omega arith) in
    let there : Held rule n trace t q.0 = (f, omega (arith, pages_length held), pages_at held f ∙ ap (λ (p : Page). p.0) (sym is)) in
    let fits : RuleRow rule n trace t q.0 =
    subst (λ (p : Page). RuleRow rule n trace t p.0) (sym is)
    (row_fits rule n trace t (omega arith) short f k (chosen_drops rule sees held (omega arith))) in
    (there, fits, λ r g w. row_one rule n trace t q.0 r there g fits w)
