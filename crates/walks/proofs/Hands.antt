-- A hand over the moments: it finds the frame whose moment is least, and a request keeps what it needs.
--
-- A hand goes by two lists of moments, one for each frame; it is for the frames whose moment is the same in both. With the same list twice it is for all.
-- In order: the first moment that passes a test; where a hand stops; what it needs, and finds; a request.
-- Assumes nothing.
use mathlib.Core.Path.{◌≡◌, refl, sym, ap, ◌∙◌}
use mathlib.Core.Bool.{Bool, true, false}
use mathlib.Core.List.{List}
use Prim.Native.Nat.{ℕ, zero, suc, ◌+◌, ◌-◌, ◌≤◌, ◌<◌}
use native.Mathlib.Numerals.{add-one}
use native.Mathlib.Omega.{arith}
use native.Mathlib.Decide.{ℕ_discrete, dec_lt}
use lib.Dec.{eqb}
use lib.ListN.{length, get_or, set}
use lib.Seq.{get_or-set_same, get_or-set_other}
use borrow.Author.Tests.{lt-ltb, le-ltb, eq-eqb, eqb-true}
use Rattle.paging.specs.Lists.{pick, both}
use Rattle.paging.proofs.Lists.{false≢true, both_first, both_second}
use Rattle.walks.specs.Hands.{has, stops, first_from, Hand}

-- ---- the first that passes a test, as the loop looks for it

module _ (test : ℕ → Bool) (end at : ℕ) where
  pub first_stops : at < end → test at ≡ true → at ≡ first_from test at (end - at)
  unfolding first_from
  first_stops h e = let m : end - at ≡ suc (end - suc at) = omega arith in rw (m, e) refl

  pub first_passes : at < end → test at ≡ false → first_from test (at + 1) (end - (at + 1)) ≡ first_from test at (end - at)
  unfolding first_from
  first_passes h e = let m : end - at ≡ suc (end - suc at) = omega arith in rw (m, e, add-one at) refl

  pub first_ends : end ≤ at → at ≡ first_from test at (end - at)
  unfolding first_from
  first_ends h = let m : end - at ≡ 0 = omega arith in rw m refl

-- what it is
First : (ℕ → Bool) → ℕ → ℕ → ℕ → Type 0
First test k m r = (k ≤ r) × (r ≤ k + m) × ((j : ℕ) → k ≤ j → j < r → test j ≡ true → ⊥) × (r < k + m → test r ≡ true)

first_is : (test : ℕ → Bool) (k m : ℕ) → First test k m (first_from test k m)
unfolding First first_from
first_is test k zero = (omega arith, omega arith, (λ j h l. absurd (omega arith)), λ h. absurd (omega arith))
first_is test k (suc m) = go (test k) refl (first_is test (suc k) m)
  where
    go : (b : Bool) → test k ≡ b → First test (suc k) m (first_from test (suc k) m) → First test k (suc m) (pick b k (first_from test (suc k) m))
    go true e f = (omega arith, omega arith, (λ j h l. absurd (omega arith)), λ h. e)
    go false e f = (
      omega (arith, f.0),
      omega (arith, f.1),
      (λ j h l p. elim (ℕ_discrete j k) [ yes q ↦ false≢true (sym e ∙ ap test (sym q) ∙ p) | no q ↦ f.2 j (omega arith) l p ]),
      λ h. f.3 (omega arith),
    )

-- ---- where a hand stops

module _ (moments others served : List ℕ) (k : ℕ) where
  pub stops_past : length served ≤ k → stops moments others served k ≡ true
  unfolding stops
  stops_past h = rw (le-ltb k (length served) h)

  pub stops_is : k < length served → stops moments others served k ≡ both (has moments (get_or served k 0) k) (has others (get_or served k 0) k)
  unfolding stops
  stops_is h = rw (lt-ltb k (length served) h)

-- both lists have moment k for the frame served then
abbrev pub Stands : List ℕ → List ℕ → List ℕ → ℕ → Type 0
Stands moments others served k = (get_or moments (get_or served k 0) 0 ≡ k) × (get_or others (get_or served k 0) 0 ≡ k)

-- at the first such moment, from `hand` on, before `end`; else at `end`
pub record Stopped (hand end at : ℕ) (moments others served : List ℕ) : Type 0 where
  pub onward : hand ≤ at
  pub inside : at ≤ end
  pub passed : (k : ℕ) → hand ≤ k → k < at → Stands moments others served k → ⊥
  pub here : at < end → Stands moments others served at

-- of lists of one length, where every frame served is one of theirs
pub stopped : (hand end : ℕ) (moments others served : List ℕ) (frames : ℕ) → hand ≤ end → end ≤ length served → length moments ≡ frames → length others ≡ frames
    → ((k : ℕ) → k < end → get_or served k 0 < frames)
    → (at : ℕ) → at ≡ first_from (stops moments others served) hand (end - hand) → Stopped hand end at moments others served
unfolding First stops has
stopped hand end moments others served frames order long same same₂ within at e =
    let f : First (stops moments others served) hand (end - hand) at = rw e (first_is (stops moments others served) hand (end - hand)) in
    record {
      onward = f.0;
      inside = omega (arith, f.1);
      passed = λ k h l s. f.2 k h l (stand k (omega (arith, f.1)) s);
      here = λ h. stood at h (f.3 (omega arith));
    }
  where
    stand : (k : ℕ) → k < end → Stands moments others served k → stops moments others served k ≡ true
    stand k h s =
        let l : get_or served k 0 < frames = within k h in
        rw (
          lt-ltb k (length served) (let m : k < length served = omega arith in m),
          same,
          same₂,
          lt-ltb (get_or served k 0) frames l,
          eq-eqb (get_or moments (get_or served k 0) 0) k s.0,
          eq-eqb (get_or others (get_or served k 0) 0) k s.1,
        )

    stood : (k : ℕ) → k < end → stops moments others served k ≡ true → Stands moments others served k
    stood k h p =
        let l : get_or served k 0 < frames = within k h in
        let q : both (eqb (get_or moments (get_or served k 0) 0) k) (eqb (get_or others (get_or served k 0) 0) k) ≡ true =
        rw (lt-ltb k (length served) (let m : k < length served = omega arith in m), same, same₂, lt-ltb (get_or served k 0) frames l) at p in
        (eqb-true _ _ (both_first (eqb (get_or moments (get_or served k 0) 0) k) (eqb (get_or others (get_or served k 0) 0) k) q), eqb-true _ _ (both_second (eqb (get_or moments (get_or served k 0) 0) k) (eqb (get_or others (get_or served k 0) 0) k) q))

-- ---- a hand

module _
    (t hand held : ℕ) (moments others served : List ℕ) (x : Hand t hand held moments others served)
    (at : ℕ) (s : Stopped hand t at moments others served)
  where
    stands : (f : ℕ) → f < held → get_or moments f 0 ≡ get_or others f 0 → Stands moments others served (get_or moments f 0)
    stands f h e = (ap (λ (g : ℕ). get_or moments g 0) (x.by f h), ap (λ (g : ℕ). get_or others g 0) (x.by f h) ∙ sym e)

    not_passed : (f : ℕ) → f < held → get_or moments f 0 ≡ get_or others f 0 → at ≤ get_or moments f 0
    not_passed f h e =
        elim (dec_lt (get_or moments f 0) at) [ yes l ↦ absurd (s.passed (get_or moments f 0) (x.behind f h e) l (stands f h e)) | no l ↦ omega arith ]

    -- where it stops it is a hand again
    pub hand_moves : Hand t at held moments others served
    hand_moves = record { onward = s.inside; past = x.past; by = x.by; behind = not_passed }

    -- it stops before t, if there is a frame for it
    pub hand_stops : (f : ℕ) → f < held → get_or moments f 0 ≡ get_or others f 0 → at < t
    hand_stops f h e = omega (arith, not_passed f h e, x.past f h)

    -- every other frame that it is for has a later moment
    pub hand_least : (f : ℕ) → f < held → get_or moments f 0 ≡ get_or others f 0 → (f ≡ get_or served at 0 → ⊥) → at < get_or moments f 0
    hand_least f h e d =
        elim (ℕ_discrete at (get_or moments f 0)) [
          | yes q ↦ absurd (d (sym (x.by f h) ∙ ap (λ (k : ℕ). get_or served k 0) (sym q)))
          | no q ↦ omega (arith, not_passed f h e)
        ]

-- ---- a frame is served at moment t, and gets the moment m

module _
    (t hand held : ℕ) (moments others served : List ℕ) (x : Hand t hand held moments others served)
    (f m held' : ℕ) (others' : List ℕ) (early : t < length served) (inside : f < length moments)
    (most : m ≤ t) (there : get_or (set served t f) m 0 ≡ f) (back : m ≡ get_or others' f 0 → hand ≤ m)
    (rest : (j : ℕ) → j < held' → (j ≡ f → ⊥) → (j < held) × (get_or others' j 0 ≡ get_or others j 0))
  where
    own : get_or (set moments f m) f 0 ≡ m
    own = get_or-set_same moments f m 0 inside

    other : (j : ℕ) → (j ≡ f → ⊥) → get_or (set moments f m) j 0 ≡ get_or moments j 0
    other j d = get_or-set_other moments f j m 0 d

    pub hand_served : Hand (t + 1) hand held' (set moments f m) others' (set served t f)
    hand_served =
        record {
          onward = omega (arith, x.onward);
          past = λ j h. elim (ℕ_discrete j f) [
            | yes e ↦ rw (e, own) (omega arith)
            | no e ↦ rw (other j e) (omega (arith, x.past j (rest j h e).0))
          ];
          by = λ j h. elim (ℕ_discrete j f) [
            | yes e ↦ rw (e, own) there
            | no e ↦
                let l : get_or moments j 0 < t = x.past j (rest j h e).0 in
                rw (other j e) (get_or-set_other served t (get_or moments j 0) f 0 (λ q. omega arith) ∙ x.by j (rest j h e).0)
          ];
          behind = λ j h. elim (ℕ_discrete j f) [
            | yes e ↦ rw (e, own) back
            | no e ↦ rw (other j e, (rest j h e).1) (x.behind j (rest j h e).0)
          ];
        }

-- frames served so far are below a bound, and so is f
pub below_served : (t f b b' : ℕ) (served : List ℕ) → t < length served → f < b' → b ≤ b' → (k : ℕ) → ((k ≡ t → ⊥) → get_or served k 0 < b)
    → get_or (set served t f) k 0 < b'
below_served t f b b' served early inside grows k before =
    elim (ℕ_discrete k t) [
      | yes e ↦ rw (e, get_or-set_same served t f 0 early) inside
      | no e ↦ rw (get_or-set_other served t k f 0 e) (omega (arith, before e))
    ]
