-- The fields of an entry mean what specs/Meanings.antt says (`Means`).
--
-- "Along a walk from empty, of every held page: `last` is the moment of its latest request, `loaded` that of its latest fault, `earlier` its latest
-- request before `last` since it was loaded, or the mark." For any rule.
-- Assumes nothing.
use mathlib.Core.Path.{◌≡◌, refl, sym, ap, ◌∙◌, subst}
use mathlib.Core.Logic.{inl, inr}
use mathlib.Core.Bool.{true, false}
use mathlib.Core.List.{List}
use Prim.Native.Nat.{ℕ, zero, suc, ◌≤◌, ◌<◌}
use native.Mathlib.Omega.{arith}
use native.Mathlib.Decide.{dec_le, dec_lt, ℕ_discrete}
use lib.ListN.{length, get_or}
use Rattle.paging.specs.Walk.{holds, entry_at, loaded_at, renewed, next, sees_at, entries_at}
use Rattle.paging.specs.Meanings.{Asked, Missed, Latest, Means}
use Rattle.paging.specs.declared.Entry.{Entry}
use Rattle.paging.specs.declared.Rule.{Rule}
use Rattle.paging.proofs.Lists.{true≢false}
use Rattle.paging.proofs.Frames.{Became, next_entry, held_differ}

-- ---- the latest moment

module _ (P : ℕ → Type 0) where
  -- there is only one such moment
  pub latest_one : (t r s : ℕ) → Latest P t r → Latest P t s → r ≡ s
  latest_one t r s a b =
      elim (dec_lt r s) [
        | yes h ↦ absurd (a.not_since s h b.before b.true_then)
        | no h ↦ elim (dec_lt s r) [ yes k ↦ absurd (b.not_since r k a.before a.true_then) | no k ↦ omega arith ]
      ]

  pub latest_now : (t : ℕ) → P t → Latest P (suc t) t
  latest_now t p = record { true_then = p; before = omega arith; not_since = λ k h l x. absurd (omega arith) }

  pub latest_stays : (t s : ℕ) → Latest P t s → (P t → ⊥) → Latest P (suc t) s
  latest_stays t s a no-t =
      record {
        true_then = a.true_then;
        before = omega (arith, a.before);
        not_since = λ k h l x. elim (ℕ_discrete k t) [ yes e ↦ no-t (subst P e x) | no e ↦ a.not_since k h (omega arith) x ];
      }

  -- what is true at a moment before t is not true after the latest such moment
  pub latest_le : (t r s : ℕ) → P r → r < t → Latest P t s → r ≤ s
  latest_le t r s p h a = elim (dec_le r s) [ yes k ↦ k | no k ↦ absurd (a.not_since r (omega arith) h p) ]

-- ---- what the fields mean

module _ (rule : Rule) (n : ℕ) (trace : List ℕ) (t : ℕ) (inside : t < length trace) where
  -- the page just loaded
  means_loaded : holds (get_or trace t 0) (entries_at rule n trace t) ≡ false → Means rule n trace (suc t) (loaded_at t (get_or trace t 0))
  means_loaded q =
      record {
        last_asked = latest_now (Asked trace (get_or trace t 0)) t (inside, refl);
        loaded_missed = latest_now (Missed rule n trace (get_or trace t 0)) t ((inside, refl), q);
        earlier_asked = inl (refl, λ k h l x. absurd (omega arith));
      }

  -- a held page requested again
  means_renewed : (e : Entry) → e.page.0 ≡ get_or trace t 0 → holds (get_or trace t 0) (entries_at rule n trace t) ≡ true
      → Means rule n trace t e → Means rule n trace (suc t) (renewed t e)
  means_renewed e p q m =
      record {
        last_asked = latest_now (Asked trace e.page.0) t (inside, sym p);
        loaded_missed =
            latest_stays (Missed rule n trace e.page.0) t e.loaded.0 m.loaded_missed
            (λ x. true≢false (sym q ∙ ap (λ (y : ℕ). holds y (entries_at rule n trace t)) (sym p) ∙ x.1));
        earlier_asked =
            inr (
              latest_le (Asked trace e.page.0) t e.loaded.0 e.last.0 m.loaded_missed.true_then.0 m.loaded_missed.before m.last_asked,
              m.last_asked,
            );
      }

  -- a page that another request leaves
  means_kept : (e : Entry) → (e.page.0 ≡ get_or trace t 0 → ⊥) → Means rule n trace t e → Means rule n trace (suc t) e
  means_kept e p m =
      record {
        last_asked = latest_stays (Asked trace e.page.0) t e.last.0 m.last_asked (λ x. p (sym x.1));
        loaded_missed = latest_stays (Missed rule n trace e.page.0) t e.loaded.0 m.loaded_missed (λ x. p (sym x.0.1));
        earlier_asked = m.earlier_asked;
      }

-- THE FIELDS, at every moment of a walk from empty
pub fields_mean : (rule : Rule) (n : ℕ) (trace : List ℕ) (t : ℕ) → t ≤ length trace → (i : ℕ) → i < length (entries_at rule n trace t)
    → Means rule n trace t (entry_at (entries_at rule n trace t) i)
unfolding entries_at
fields_mean rule n trace zero h i k = absurd (omega arith)
fields_mean rule n trace (suc t) h i k =
    go (fields_mean rule n trace t (omega arith)) (next_entry rule n t (get_or trace t 0) (sees_at trace t) (entries_at rule n trace t) (held_differ rule n trace t) i k)
  where
    new : Entry
    new = entry_at (next rule n t (get_or trace t 0) (sees_at trace t) (entries_at rule n trace t)) i

    go : ((j : ℕ) → j < length (entries_at rule n trace t) → Means rule n trace t (entry_at (entries_at rule n trace t) j))
        → Became t (get_or trace t 0) (entries_at rule n trace t) i new → Means rule n trace (suc t) new
    go ih (inl (q, e)) = rw e (means_loaded rule n trace t h q)
    go ih (inr (inl (q, f, p, e))) = rw e (means_renewed rule n trace t h _ p q (ih _ f))
    go ih (inr (inr (f, p, e))) = rw e (means_kept rule n trace t h _ p (ih _ f))
