-- The search among entries in use: where a page is held, and the frame with the least key.
-- Assumes nothing.
use Rattle.std.specs.Prelude.{Option, Some, None, cond}
use Rattle.std.specs.List.{position, position_or_len, enumerate_from, IsFirstBest}
use Rattle.std.specs.Option.{MatchOption}
use Rattle.std.proofs.lemmas.List.FromFn.{get_or-enumerate_from, length-enumerate_from}
use denote.Ref.{Bor}
use Rattle.std.proofs.lemmas.List.Recursion.{is_position_or_len}
use mathlib.Core.Path.{◌≡◌, refl, sym, ap, ◌∙◌}
use mathlib.Core.Bool.{Bool, true, false}
use mathlib.Core.List.{List, [], ◌∷◌}
use Prim.Native.Nat.{ℕ, suc, ◌+◌, ◌≤◌, ◌<◌}
use native.Mathlib.Omega.{arith}
use lib.Dec.{eqb, ltb, leb}
use lib.ListN.{length, get_or, take}
use lib.Seq.{take_all}
use borrow.Author.Tests.{le-leb, leb-true, ltb-true, ltb-false}
use Rattle.paging.specs.Lists.{pick, any, index_of}
use Rattle.paging.specs.Held.{Found, found}
use Rattle.paging.specs.Walk.{zero_entry, entry_at, pages}
use Rattle.paging.specs.Calls.{frame_limit}
use Rattle.paging.specs.declared.Entry.{Entry}
use Rattle.paging.proofs.Lists.{any_index, index_le, index_passes, at_any, at_all, all_at, index_at, least_among}
use Rattle.paging.proofs.Frames.{mem_any, place_index}
use Rattle.entries.specs.Devices.Search.{in_use, key_of, has_least, least_frame}

-- ---- the entries in use

pub in_use_room : (held : ℕ) → in_use held ≤ frame_limit
in_use_room held = go (ltb frame_limit held) refl
  where
    go : (b : Bool) → ltb frame_limit held ≡ b → pick b frame_limit held ≤ frame_limit
    go true q = omega arith
    go false q = ltb-false _ _ q

pub take_in_use : (held : ℕ) (es : List Entry) → length es ≡ frame_limit → take (in_use held) es ≡ take held es
take_in_use held es size = go (ltb frame_limit held) refl
  where
    go : (b : Bool) → ltb frame_limit held ≡ b → take (pick b frame_limit held) es ≡ take held es
    go true q = take_all frame_limit es (omega arith) ∙ sym (take_all held es (let h : length es ≤ held = omega (arith, ltb-true frame_limit held q) in h))
    go false q = refl

-- ---- where a page is held: the library's search is the one of the definition

both_more : (k n : ℕ) → ltb k n ≡ ltb (suc k) (suc n)
both_more k n = Prim.grind arith

module _ {A : Type 0} (test : A → Bool) where
  place_by : (xs : List A) → index_of test xs ≡ position_or_len test xs
  unfolding index_of
  place_by = is_position_or_len (index_of test) test refl (λ x xs. go (test x) (index_of test xs))
    where
      go : (b : Bool) (k : ℕ) → pick b 0 (suc k) ≡ cond b 0 (1 + k)
      go true k = refl
      go false k = omega arith

  some_inside : (xs : List A) → any test xs ≡ ltb (index_of test xs) (length xs)
  unfolding any index_of
  some_inside [] = refl
  some_inside (x ∷ xs) = go (test x) (some_inside xs)
    where
      go : (b : Bool) → any test xs ≡ ltb (index_of test xs) (length xs) → pick b true (any test xs) ≡ ltb (pick b 0 (suc (index_of test xs))) (suc (length xs))
      go true h = Prim.grind arith
      go false h = h ∙ both_more (index_of test xs) (length xs)

-- the frame of an index
abbrev pub framed : Option ℕ → Found
framed (Some i) = Some (record { 0 = i })
framed None = None

pub found_by : (p : ℕ) (es : List Entry) → framed (position (λ (e : Entry). eqb e.page.0 p) es) ≡ found p (pages es)
unfolding found
found_by p es =
    rw (← place_by (λ (e : Entry). eqb e.page.0 p) es, mem_any p es, place_index p es, some_inside (λ (e : Entry). eqb e.page.0 p) es)
    (go (index_of (λ (e : Entry). eqb e.page.0 p) es) (ltb (index_of (λ (e : Entry). eqb e.page.0 p) es) (length es)))
  where
    go : (k : ℕ) (b : Bool) → framed (cond b (Some k) None) ≡ pick b (Some (record { 0 = k })) None
    go k true = refl
    go k false = refl

-- ---- the frame with the least key

-- the key of an entry beside its frame
abbrev pub numbered : ℕ → ℕ × Entry → ℕ
numbered rule item = key_of rule item.1

module _ (rule : ℕ) (es : List Entry) where
  -- what the library's search by this key tells: no entry came, or the one chosen is the first with the least key
  abbrev pub IsFirstLeast : Option (ℕ × Bor Entry) → Type 0
  IsFirstLeast r =
      MatchOption r (enumerate_from 0 es ≡ [])
      (λ y.
      (b : ℕ) × (d : ℕ × Entry)
      × IsFirstBest (λ (x z : ℕ × Entry). ltb (numbered rule x) (numbered rule z)) (enumerate_from 0 es) (length (enumerate_from 0 es)) b
      × (get_or (enumerate_from 0 es) b d ≡ (y.0, y.1.now)))

  least_at : (b : ℕ) → b < length es
      → ((j : ℕ) → j < length es → key_of rule (entry_at es b) ≤ key_of rule (entry_at es j))
      → ((j : ℕ) → j < b → key_of rule (entry_at es b) < key_of rule (entry_at es j)) → b ≡ least_frame rule es
  unfolding least_frame
  least_at b h least before =
      sym (index_at (has_least rule es) zero_entry es b h
      (at_all (λ (d : Entry). leb (key_of rule (entry_at es b)) (key_of rule d)) zero_entry es (λ j k. le-leb _ _ (least j k)))
      (λ j k x.
      let l : key_of rule (entry_at es j) ≤ key_of rule (entry_at es b) =
      leb-true _ _ (all_at (λ (d : Entry). leb (key_of rule (entry_at es j)) (key_of rule d)) zero_entry es x b h) in
      omega (arith, before j k)))

  pub least_told : (r : Option (ℕ × Bor Entry)) → IsFirstLeast r → MatchOption r (0 ≡ least_frame rule es) (λ y. y.0 ≡ least_frame rule es)
  unfolding least_frame
  least_told None none =
      let size : length es ≡ 0 = sym (length-enumerate_from 0 es) ∙ ap length none in
      omega (arith, index_le (has_least rule es) zero_entry es)
  least_told (Some y) (b, d, (inside, least, before), is) =
      let h : b < length es = rw (length-enumerate_from 0 es) at inside in
      let e : 0 + b ≡ y.0 = ap (λ (p : ℕ × Entry). p.0) (sym (item b d h) ∙ is) in
      let f : y.0 ≡ b = omega arith in
      f ∙ least_at b h
      (λ j k. ltb-false _ _ (rw (item j (0, zero_entry) k, item b (0, zero_entry) h) at (least j (0, zero_entry) (rw (length-enumerate_from 0 es) k))))
      (λ j k. ltb-true _ _ (rw (item j (0, zero_entry) (let i : j < length es = omega arith in i), item b (0, zero_entry) h) at (before j (0, zero_entry) k)))
    where
      item : (j : ℕ) (d : ℕ × Entry) → j < length es → get_or (enumerate_from 0 es) j d ≡ (0 + j, get_or es j d.1)
      item j d k = get_or-enumerate_from 0 es j d k

-- where some entry is in use, the frame is in use and has the least key
module _ (rule : ℕ) (es : List Entry) (some : 0 < length es) where
  pub least_inside : least_frame rule es < length es
  unfolding least_frame
  least_inside =
      let (k, (l, g, least)) = least_among zero_entry (λ (e : Entry). true) (key_of rule) es (at_any (λ (e : Entry). true) zero_entry es 0 some refl) in
      any_index (has_least rule es) zero_entry es
      (at_any (has_least rule es) zero_entry es k l
      (at_all (λ (d : Entry). leb (key_of rule (entry_at es k)) (key_of rule d)) zero_entry es (λ j h. le-leb _ _ (least j h refl))))

  pub least_least : (j : ℕ) → j < length es → key_of rule (entry_at es (least_frame rule es)) ≤ key_of rule (entry_at es j)
  unfolding least_frame
  least_least j h =
      leb-true _ _
      (all_at (λ (d : Entry). leb (key_of rule (entry_at es (least_frame rule es))) (key_of rule d)) zero_entry es
      (index_passes (has_least rule es) zero_entry es least_inside) j h)
