-- What a rule sees of the list beside its entries: no rule reads the requests before, and MIN alone those to come.
-- Assumes nothing.
use mathlib.Core.Path.{◌≡◌, refl, ap, ap₂, ◌∙◌}
use mathlib.Core.List.{List, [], ◌∷◌, ◌++◌}
use Prim.Native.Nat.{ℕ, suc}
use Rattle.paging.specs.Rules.{Sees, between, chosen}
use Rattle.paging.specs.Walk.{outcome, next, outcomes}
use Rattle.paging.specs.declared.Entry.{Entry}
use Rattle.paging.specs.declared.Outcome.{Outcome}
use Rattle.paging.specs.declared.Rule.{Rule}
use Rattle.paging.specs.declared.Rule.TheVariants.{Lru, Fifo, Min, Lru2}

-- ---- the requests before

chosen_past : (rule : Rule) (a b rest : List ℕ) (es : List Entry) → chosen rule (between a rest) es ≡ chosen rule (between b rest) es
unfolding chosen
chosen_past Lru a b rest es = refl
chosen_past Fifo a b rest es = refl
chosen_past Min a b rest es = refl
chosen_past Lru2 a b rest es = refl

outcome_past : (rule : Rule) (n p : ℕ) (a b rest : List ℕ) (es : List Entry) → outcome rule n p (between a rest) es ≡ outcome rule n p (between b rest) es
unfolding outcome
outcome_past rule n p a b rest es = rw (chosen_past rule a b rest es)

next_past : (rule : Rule) (n t p : ℕ) (a b rest : List ℕ) (es : List Entry) → next rule n t p (between a rest) es ≡ next rule n t p (between b rest) es
unfolding next
next_past rule n t p a b rest es = rw (chosen_past rule a b rest es)

-- whatever was requested before, a walk from the same state comes to the same
pub outcomes_past : (rule : Rule) (n t : ℕ) (a b ps : List ℕ) (es : List Entry) → outcomes rule n t a ps es ≡ outcomes rule n t b ps es
unfolding outcomes
outcomes_past rule n t a b [] es = refl
outcomes_past rule n t a b (p ∷ ps) es =
    ap₂ (λ (o : Outcome) (os : List Outcome). o ∷ os) (outcome_past rule n p a b ps es)
    (outcomes_past rule n (suc t) (a ++ (p ∷ [])) (b ++ (p ∷ [])) ps (next rule n t p (between a ps) es)
    ∙ ap (outcomes rule n (suc t) (b ++ (p ∷ [])) ps) (next_past rule n t p a b ps es))

-- ---- the requests to come: a rule other than MIN sees the same whatever it is shown

module _ (rule : Rule) (other : rule ≡ Min → ⊥) (s u : Sees) (es : List Entry) where
  pub chosen_blind : chosen rule s es ≡ chosen rule u es
  unfolding chosen
  chosen_blind = go rule other
    where
      go : (r : Rule) → (r ≡ Min → ⊥) → chosen r s es ≡ chosen r u es
      go Lru o = refl
      go Fifo o = refl
      go Min o = absurd (o refl)
      go Lru2 o = refl

  pub outcome_blind : (n p : ℕ) → outcome rule n p s es ≡ outcome rule n p u es
  unfolding outcome
  outcome_blind n p = rw chosen_blind

  pub next_blind : (n t p : ℕ) → next rule n t p s es ≡ next rule n t p u es
  unfolding next
  next_blind n t p = rw chosen_blind
