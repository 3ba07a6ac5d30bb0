-- Document 01, "Four rules": which page goes when a fault finds the cache full.
--
-- A rule is a description: `drops rule sees es e` is true of the entry e that goes, among the held entries es, with what the rule sees of the list of
-- requests. Exactly one entry fits it (proofs/Drops.antt; specs/Meanings.antt says each description in terms of the trace); its frame is `chosen`.
-- Assumes nothing.
use Rattle.std.specs.Prelude.{Bool, List, [], ℕ, eqb, leb, length, Result, Ok, Err}
use Rattle.paging.specs.Lists.{pick, both, implies, any, all, index_of, place_of}
use Rattle.paging.specs.declared.Entry.{Entry}
use Rattle.paging.specs.declared.Rule.{Rule}
use Rattle.paging.specs.declared.Rule.TheVariants.{Lru, Fifo, Min, Lru2}
use Rattle.paging.specs.declared.Refusal.{Refusal}
use Rattle.paging.specs.declared.Refusal.TheVariants.{UnknownRule}

-- "no page" or "no moment", according to the field
abbrev pub mark : ℕ
mark = 4294967295

-- ---- what a rule sees of the list of requests, at one of them. MIN reads the requests to come; no rule reads those before

pub record Sees : Type 0 where
  -- the requests before this one, in order
  pub past : List ℕ
  -- the requests to come
  pub rest : List ℕ

abbrev pub between : List ℕ → List ℕ → Sees
between past rest = record { past = past; rest = rest }

-- what a rule sees that is shown no requests, as in a record that is fed
abbrev pub no_requests : Sees
no_requests = between [] []

-- ---- the words of the table

-- how many of the requests to come stand before page p's next one; for "never again", as many as there are: later than every moment
unfoldable pub next_of : List ℕ → ℕ → ℕ
unfolding place_of
next_of rest p = place_of p rest

-- page p is never requested again
unfoldable pub never : List ℕ → ℕ → Bool
unfolding next_of
never rest p = eqb (next_of rest p) (length rest)

-- the page has been requested only once since it was last loaded
abbrev pub once : Entry → Bool
once e = eqb e.earlier.0 mark

-- ---- the rows of the table

-- 1: the one whose last request is earliest
unfoldable pub lru_drops : List Entry → Entry → Bool
unfolding all
lru_drops es e = all (λ (d : Entry). leb e.last.0 d.last.0) es

-- 2: the one loaded earliest; a hit doesn't renew it
unfoldable pub fifo_drops : List Entry → Entry → Bool
unfolding all
fifo_drops es e = all (λ (d : Entry). leb e.loaded.0 d.loaded.0) es

-- 3: the one whose next request is latest; among several never requested again, the lowest page number
unfoldable pub min_drops : List ℕ → List Entry → Entry → Bool
unfolding all next_of never
min_drops rest es e =
    both (all (λ (d : Entry). leb (next_of rest d.page.0) (next_of rest e.page.0)) es)
    (implies (never rest e.page.0)
    (all (λ (d : Entry). implies (never rest d.page.0) (leb e.page.0 d.page.0)) es))

-- 4: if some held pages have been requested only once since they were last loaded, the one of these whose last request is earliest;
-- otherwise the one whose second to last request is earliest
unfoldable pub lru2_drops : List Entry → Entry → Bool
unfolding any all
lru2_drops es e =
    pick (any once es)
    (both (once e) (all (λ (d : Entry). implies (once d) (leb e.last.0 d.last.0)) es))
    (all (λ (d : Entry). leb e.earlier.0 d.earlier.0) es)

-- ---- the four together

unfoldable pub drops : Rule → Sees → List Entry → Entry → Bool
unfolding lru_drops fifo_drops min_drops lru2_drops
drops Lru sees es = lru_drops es
drops Fifo sees es = fifo_drops es
drops Min sees es = min_drops sees.rest es
drops Lru2 sees es = lru2_drops es

-- the frame whose page goes
unfoldable pub chosen : Rule → Sees → List Entry → ℕ
unfolding drops index_of
chosen rule sees es = index_of (drops rule sees es) es

-- what a rule's number stands for: a rule, or refusal 1
abbrev pub Numbered : Type 0
Numbered = Result Rule Refusal

-- document 01's numbers of the rules
abbrev pub rule_numbered : ℕ → Numbered
rule_numbered number =
    pick (eqb number 1) (Ok Lru)
    (pick (eqb number 2) (Ok Fifo)
    (pick (eqb number 3) (Ok Min)
    (pick (eqb number 4) (Ok Lru2) (Err UnknownRule))))

-- the rule that a number stands for, where it stands for one
abbrev pub named : Numbered → Rule
named (Ok rule) = rule
named (Err refusal) = Lru
