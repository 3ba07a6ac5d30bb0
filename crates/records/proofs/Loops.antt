-- Arrays and loops between things and their words: an array that is made of a thing for each index is the list that is read, and one that is put is one fewer to put.
-- Assumes nothing.
use Rattle.std.specs.Array.{IsFromFnResultFrom, IsFromFnResult}
use Rattle.std.proofs.lemmas.List.FromFn.{fill_by_all}
use denote.Param.Members.{Mut, Called}
use mathlib.Core.Path.{◌≡◌, refl, sym, ap, subst, ◌∙◌}
use mathlib.Core.List.{List}
use Prim.Native.Nat.{ℕ, zero, suc, ◌+◌, ◌*◌, ◌≤◌, ◌<◌}
use native.Mathlib.Decide.{dec_lt}
use native.Mathlib.Omega.{arith}
use lib.ListN.{length, get_or, drop, drop_of_length-le}
use lib.Seq.{drop-cons}
use Rattle.records.specs.Records.{list_from, put_list}

-- ---- from words

module _ {A : Type 0} (size : ℕ) (from : List ℕ → ℕ → A) (words : List ℕ) where
  -- what stands at a place of a list that is read
  pub list_at : (d : A) (at count q : ℕ) → q < count → get_or (list_from size from words at count) q d ≡ from words (at + size * q)
  unfolding list_from
  list_at d at zero q h = absurd (omega arith)
  list_at d at (suc count) zero h = ap (from words) (omega arith)
  list_at d at (suc count) (suc q) h = list_at d (at + size) count q (omega arith) ∙ ap (from words) (omega arith)

  pub list_count : (at count : ℕ) → length (list_from size from words at count) ≡ count
  unfolding list_from
  list_count at zero = refl
  list_count at (suc count) = ap suc (list_count (at + size) count)

module _ {F A : Type 0} (g : Mut F (ℕ × Unit {0}) A) (f : F) (h : ℕ → A) (n : ℕ) where
  -- each call gives what stands at its index, and leaves the function as it was
  abbrev pub Gives : Type 0
  Gives = (i : ℕ) (x : A) (q : F) → i < n → Called g f (i, tt) x q → (q ≡ f) × (x ≡ h i)

  made_at : Gives → (xs : List A) (e : F) (i m : ℕ) → e ≡ f → i + m ≡ n → IsFromFnResultFrom g e xs i m
      → (k : ℕ) (d : A) → i ≤ k → k < n → get_or xs k d ≡ h k
  made_at gives xs e i zero same most made k d low high = absurd (omega arith)
  made_at gives xs e i (suc m) same most (q, x, at, called, rest) k d low high =
      let (stays, is) = gives i x q (omega arith) (subst (λ (s : F). Called g s (i, tt) x q) same called) in
      elim (dec_lt i k) [
        | yes later ↦ made_at gives xs q (i + 1) m stays (omega arith) rest k d (omega arith) high
        | no now ↦ (let here : i ≡ k = omega arith in subst (λ (j : ℕ). get_or xs j d ≡ h j) here (at.1 d ∙ is))
      ]

-- AN ARRAY MADE OF WHAT STANDS AT EACH INDEX is the list read
pub made_list : {F A : Type 0} (g : Mut F (ℕ × Unit {0}) A) (f : F) (size : ℕ) (from : List ℕ → ℕ → A) (words : List ℕ) (place n : ℕ) (d : A) (xs : List A)
    → IsFromFnResult g f xs n → Gives g f (λ (i : ℕ). from words (place + size * i)) n → xs ≡ list_from size from words place n
made_list {F} {A} g f size from words place n d xs made gives =
    let h : ℕ → A = λ (i : ℕ). from words (place + size * i) in
    fill_by_all h xs n d made.long (λ k l. made_at g f h n gives xs f 0 n refl (omega arith) made.each k d (omega arith) l)
    ∙ sym (fill_by_all h (list_from size from words place n) n d (list_count size from words place n) (λ k l. list_at size from words d place n k l))

-- ---- to words

module _ {A : Type 0} (size : ℕ) (put : ℕ → A → List ℕ → List ℕ) (xs : List A) (place i : ℕ) (words all : List ℕ) where
  pub put_on : (d : A) → i < length xs
      → put_list size put (place + size * i) (drop i xs) words ≡ all
      → put_list size put (place + size * (i + 1)) (drop (i + 1) xs) (put (place + size * i) (get_or xs i d) words) ≡ all
  unfolding put_list
  put_on d h e =
      let g : place + size * (i + 1) ≡ place + size * i + size = omega arith in
      let s : i + 1 ≡ suc i = omega arith in
      rw (g, s, ← e, drop-cons xs i d h) refl

  pub put_all : length xs ≤ i → put_list size put (place + size * i) (drop i xs) words ≡ all → words ≡ all
  unfolding put_list
  put_all h e = subst (λ (left : List A). put_list size put (place + size * i) left words ≡ all) (drop_of_length-le xs h) e
