-- Steps of the loop that lays numbers over the front of words.
-- Assumes nothing.
use mathlib.Core.Path.{◌≡◌, sym, ap, ap₂, ◌∙◌}
use mathlib.Core.List.{List, ◌++◌}
use Prim.Native.Nat.{ℕ, ◌+◌, ◌≤◌, ◌<◌}
use native.Mathlib.Numerals.{add-one}
use native.Mathlib.Omega.{arith}
use lib.ListN.{length, get_or, take, drop, set, drop_of_length-le}
use lib.Seq.{length-take-le, take-suc, take_all}
use Rattle.paging.specs.Services.{laid}
use Rattle.words.proofs.Bytes.{lay_next}

module _ (numbers words : List ℕ) (i : ℕ) where
  pub lay_on : i < length numbers → i < length words → set (take i numbers ++ drop i words) i (get_or numbers i 0) ≡ take (i + 1) numbers ++ drop (i + 1) words
  lay_on h k =
      lay_next (take i numbers) (get_or numbers i 0) i words (length-take-le i numbers (omega arith)) k
      ∙ ap (λ (xs : List ℕ). xs ++ drop (i + 1) words) (sym (take-suc numbers i 0 h) ∙ ap (λ (j : ℕ). take j numbers) (sym (add-one i)))

  -- the words are full
  pub lay_full : i ≡ length words → i ≤ length numbers → take i numbers ++ drop i words ≡ laid numbers words
  lay_full e h =
      ap₂ (λ (xs ys : List ℕ). xs ++ ys)
      (ap (λ (j : ℕ). take j numbers) e)
      (drop_of_length-le words {i = i} (omega arith) ∙ sym (drop_of_length-le words {i = length numbers} (omega arith)))

  -- all numbers are laid
  pub lay_whole : i ≡ length numbers → i ≤ length words → take i numbers ++ drop i words ≡ laid numbers words
  lay_whole e h =
      ap₂ (λ (xs ys : List ℕ). xs ++ ys)
      (take_all i numbers (omega arith) ∙ sym (take_all (length words) numbers (omega arith)))
      (ap (λ (j : ℕ). drop j words) e)
