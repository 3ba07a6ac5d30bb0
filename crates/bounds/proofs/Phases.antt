-- The bound, for any rule that is frugal: in a stretch of requests of at most n different pages it faults at most c times a page.
--
-- The trace falls into phases. A phase ends at a fault of the rule; each but the first has c * n of them, the first what is left over, at least one. The rule
-- and the plan are walked together, once, over the trace. In order: what is asked of a rule; its faults; arithmetic; the state of a phase; one request; all
-- of them; the bound.
-- Assumes nothing.
use Rattle.std.specs.Prelude.{Ok}
use mathlib.Core.Path.{◌≡◌, refl, sym, ◌∙◌}
use mathlib.Core.Logic.{inl, inr}
use mathlib.Core.Bool.{Bool, true, false}
use mathlib.Core.List.{List, [], ◌∷◌, ◌++◌}
use Prim.Native.Nat.{ℕ, zero, suc, ◌+◌, ◌-◌, ◌*◌, ◌/◌, ◌%◌, ◌≤◌, ◌<◌}
use native.Mathlib.Omega.{arith}
use native.Mathlib.Decide.{dec_le}
use native.Mathlib.Nat.{mul-le-mul_left, mul-le-mul_right, div-add-mod', mod-lt}
use lib.ListN.{length}
use Rattle.paging.specs.Lists.{pick}
use Rattle.paging.specs.Rules.{Sees, between}
use Rattle.paging.specs.Walk.{holds, next, outcomes, faults_in, faults}
use Rattle.paging.specs.Plans.{after, absent, judged, check_from, check}
use Rattle.paging.specs.declared.Entry.{Entry}
use Rattle.paging.specs.declared.Rule.{Rule}
use Rattle.paging.specs.declared.Refusal.TheVariants.{LentTooShort}
use Rattle.paging.proofs.Frames.{Ways, ways, outcome_hit, outcome_room, outcome_full}
use Rattle.bounds.proofs.Pigeonhole.{Among, Within}
use Rattle.bounds.proofs.PlanSide.{refused_faults, check_step, check_rises, Served, served}

-- ---- what is asked of a rule

-- a request of page p with es held: 0 if it hits, 1 if it faults
abbrev pub missed : ℕ → List Entry → ℕ
missed p es = pick (holds p es) 0 1

-- A window is a stretch of requests that is still open, all of them of pages among `cov`. As long as `cov` has at most n pages, the rule's faults in the
-- window are at most c for each page of `cov`. How that is known is the rule's own affair: `Steady` and `Window` may be anything that keeps these laws.
pub record Frugal (rule : Rule) (n c : ℕ) : Type 1 where
  -- moment, entries: so it is at every moment of a walk from empty
  pub Steady : ℕ → List Entry → Type 0
  -- moment, cov, the rule's faults in the window, entries
  pub Window : ℕ → List ℕ → ℕ → List Entry → Type 0
  pub empty : Steady 0 []
  pub steady : (t p : ℕ) (sees : Sees) (es : List Entry) → Steady t es → Steady (suc t) (next rule n t p sees es)
  pub opens : (t : ℕ) (cov : List ℕ) (es : List Entry) → Steady t es → Window t cov 0 es
  pub widens : (t r : ℕ) (cov more : List ℕ) (es : List Entry) → Within cov more → Window t cov r es → Window t more r es
  pub steps : (t p r : ℕ) (sees : Sees) (cov : List ℕ) (es : List Entry) → Steady t es → Among p cov → length cov ≤ n
      → Window t cov r es → Window (suc t) cov (missed p es + r) (next rule n t p sees es)
  pub few : (t r : ℕ) (cov : List ℕ) (es : List Entry) → Window t cov r es → r ≤ c * length cov

-- ---- the rule's faults, one request at a time

-- the faults from moment t on
abbrev left : Rule → ℕ → ℕ → List ℕ → List ℕ → List Entry → ℕ
left rule n t past ps es = faults_in (outcomes rule n t past ps es)

left_step : (rule : Rule) (n t p : ℕ) (past ps : List ℕ) (es : List Entry)
    → left rule n t past (p ∷ ps) es ≡ missed p es + left rule n (suc t) (past ++ (p ∷ [])) ps (next rule n t p (between past ps) es)
unfolding faults_in outcomes
left_step rule n t p past ps es = go (ways n p es)
  where
    go : Ways n p es
        → left rule n t past (p ∷ ps) es ≡ missed p es + left rule n (suc t) (past ++ (p ∷ [])) ps (next rule n t p (between past ps) es)
    go (inl q) = rw (outcome_hit rule n t p (between past ps) es q, q)
    go (inr (inl (q, h))) = rw (outcome_room rule n t p (between past ps) es q h, q)
    go (inr (inr (q, h))) = rw (outcome_full rule n t p (between past ps) es q h, q)

-- ---- arithmetic

-- q + 1 faults, at most c to a page, are of more than q / c pages, which are at most n
parted : (q c n : ℕ) → 1 ≤ c → q < c * n → (c * (q / c) < suc q) × (suc q ≤ c * suc (q / c)) × (q / c ≤ n)
parted q c n one part =
    (omega (arith, parts), omega (arith, parts, mod-lt q one), elim (dec_le (q / c) n) [ yes h ↦ h | no h ↦ absurd (over (omega arith)) ])
  where
    parts : q / c * c + q % c ≡ q
    parts = div-add-mod' q c

    over : n ≤ q / c → ⊥
    over h = omega (arith, parts, mul-le-mul_left c h)

-- a first phase of q + 1 faults and more than e pages, and k more of c * n faults and d faults of the plan
weighed : (d n c q e k g : ℕ) → d ≤ n → suc q ≤ c * suc e → suc e + k * d ≤ g → d * (suc q + k * (c * n)) ≤ c * n * g
weighed d n c q e k g h i j =
    omega (arith, mul-le-mul_right (suc q) h, mul-le-mul_left n i, mul-le-mul_left (c * n) j)

module _ (rule : Rule) (n c : ℕ) (fr : Frugal rule n c) (m : ℕ) where
  -- ---- the state of a phase

  -- At moment t the plan has f faults, s of them before this phase, and the rule has r in this phase.
  -- The cover has at most b pages more than the plan has faults in this phase.
  record Phase (t f : ℕ) (es : List Entry) (held : List ℕ) (r b s : ℕ) : Type 0 where
    good : fr.Steady t es
    cov : List ℕ
    window : length cov ≤ n → fr.Window t cov r es
    kept : Within held cov
    small : length cov + s ≤ b + f
    fits : length held ≤ m

  -- before the first request
  phase_first : Phase 0 0 [] [] 0 0 0
  phase_first = record {
    good = fr.empty;
    cov = [];
    window = λ k. fr.opens 0 [] [] fr.empty;
    kept = λ z h. h;
    small = omega arith;
    fits = omega arith;
  }

  -- a phase with more than c * e faults of the rule has more than e pages in its cover, as long as e is at most n
  phase_full : (t f : ℕ) (es : List Entry) (held : List ℕ) (r b s e : ℕ) → Phase t f es held r b s → c * e < r → e ≤ n → suc e + s ≤ b + f
  phase_full t f es held r b s e ph more top = elim (dec_le (length ph.cov) n) [
    | yes h ↦ elim (dec_le (length ph.cov) e) [
      | yes k ↦ absurd (omega (arith, fr.few t r ph.cov es (ph.window h), mul-le-mul_left c k))
      | no k ↦ omega (arith, ph.small)
    ]
    | no h ↦ omega (arith, ph.small)
  ]

  -- ---- one request, of page p at moment t, with w for the plan's word

  module _ (t f p w : ℕ) (sees : Sees) (held : List ℕ) (es : List Entry) (r b s : ℕ) (lawful : judged m t held p w ≡ Ok tt) (ph : Phase t f es held r b s) where
    plan_served : Served m p held (after m held p w) ph.cov
    plan_served = served m t p w held ph.cov lawful ph.fits ph.kept

    -- the phase goes on
    phase_step : Phase (suc t) (f + absent p held) (next rule n t p sees es) (after m held p w) (missed p es + r) b s
    phase_step =
        let v : Served m p held (after m held p w) ph.cov = plan_served in
        record {
          good = fr.steady t p sees es ph.good;
          cov = v.cover;
          window = λ k.
              fr.steps t p r sees v.cover es ph.good v.asked k
              (fr.widens t r ph.cov v.cover es v.wider (ph.window (omega (arith, v.grown))));
          kept = v.kept;
          small = omega (arith, v.grown, ph.small);
          fits = v.fits;
        }

    -- or a new one begins with this request, on which the rule faults
    phase_new : holds p es ≡ false → Phase (suc t) (f + absent p held) (next rule n t p sees es) (after m held p w) 1 m (f + absent p held)
    phase_new q =
        let v : Served m p held (after m held p w) ph.cov = plan_served in
        record {
          good = fr.steady t p sees es ph.good;
          cov = after m held p w;
          window = λ k.
              rw q at (fr.steps t p 0 sees (after m held p w) es ph.good v.loaded k (fr.opens t (after m held p w) es ph.good));
          kept = λ z h. h;
          small = omega (arith, v.fits);
          fits = v.fits;
        }

  -- ---- all requests

  module _ (d : ℕ) (whole : m + d ≡ suc n) (pos : 1 ≤ c * n) where
    -- The rule has q + 1 faults to come in this phase, the last of which ends it, and then k phases. This phase shall have more than c * e of them.
    -- Then the plan has at least e + 1 - b faults in this phase, and d in each phase after it.
    abbrev Claim : List ℕ → List ℕ → Type 0
    Claim ps ws =
        (t f : ℕ) (past : List ℕ) (es : List Entry) (held : List ℕ) (r b s e q k g : ℕ) → Phase t f es held r b s
        → c * e < r + suc q → e ≤ n → left rule n t past ps es ≡ suc q + k * (c * n) → check_from m t f held ps ws ≡ Ok g
        → suc e + k * d + s ≤ b + g

    claim_step : (p w : ℕ) (ps ws : List ℕ) → Claim ps ws → Claim (p ∷ ps) (w ∷ ws)
    claim_step p w ps ws ih t f past es held r b s e q k g ph more top all accepted =
        let (lawful, rest) = check_step m t f p w held ps ws g accepted in
        go q k (holds p es) refl lawful rest (phase_step t f p w (between past ps) held es r b s lawful ph) more (sym (left_step rule n t p past ps es) ∙ all)
      where
        es' : List Entry
        es' = next rule n t p (between past ps) es

        past' : List ℕ
        past' = past ++ (p ∷ [])

        held' : List ℕ
        held' = after m held p w

        f' : ℕ
        f' = f + absent p held

        go : (q k : ℕ) (x : Bool) → holds p es ≡ x → judged m t held p w ≡ Ok tt → check_from m (suc t) f' held' ps ws ≡ Ok g
            → Phase (suc t) f' es' held' (pick x 0 1 + r) b s → c * e < r + suc q
            → pick x 0 1 + left rule n (suc t) past' ps es' ≡ suc q + k * (c * n) → suc e + k * d + s ≤ b + g
        -- a hit
        go q k true y lawful rest on more all = ih (suc t) f' past' es' held' (0 + r) b s e q k g on (omega arith) top (omega arith) rest
        -- a fault, and more of them to come in this phase
        go (suc q) k false y lawful rest on more all = ih (suc t) f' past' es' held' (1 + r) b s e q k g on (omega arith) top (omega arith) rest
        -- the last fault of the last phase
        go zero zero false y lawful rest on more all =
            omega (arith, phase_full (suc t) f' es' held' (1 + r) b s e on (omega arith) top, check_rises m ps ws held' (suc t) f' g rest)
        -- the last fault of a phase, with which the next begins
        go zero (suc k) false y lawful rest on more all =
            omega (
              arith,
              whole,
              phase_full (suc t) f' es' held' (1 + r) b s e on (omega arith) top,
              ih (suc t) f' past' es' held' 1 m f' n (c * n - 1) k g (phase_new t f p w (between past ps) held es r b s lawful ph y) (omega arith) (omega arith) (omega arith) rest,
            )

    claim : (ps ws : List ℕ) → Claim ps ws
    unfolding faults_in outcomes check_from
    claim [] ws = λ t f past es held r b s e q k g ph more top all accepted. absurd (omega arith)
    claim (p ∷ ps) [] = λ t f past es held r b s e q k g ph more top all accepted. absurd (refused_faults LentTooShort g accepted)
    claim (p ∷ ps) (w ∷ ws) = claim_step p w ps ws (claim ps ws)

  -- ---- the bound

  module _ (trace words : List ℕ) (g : ℕ) (one : 1 ≤ c) (low : 1 ≤ m) (high : m ≤ n) (accepted : check m trace words ≡ Ok g) where
    full_phase : 1 ≤ c * n
    full_phase = omega (arith, mul-le-mul_right n one)

    -- q + 1 faults in the first phase, and k phases after it
    phases_bound : (q k : ℕ) → q < c * n → faults rule n trace ≡ suc q + k * (c * n) → (n - m + 1) * (suc q + k * (c * n)) ≤ c * n * g
    unfolding faults check
    phases_bound q k part all =
        let (below, above, top) = parted q c n one part in
        let h : suc (q / c) + k * (n - m + 1) + 0 ≤ 0 + g = walked below top in
        weighed (n - m + 1) n c q (q / c) k g (omega arith) above (omega arith)
      where
        walked : c * (q / c) < suc q → q / c ≤ n → suc (q / c) + k * (n - m + 1) + 0 ≤ 0 + g
        walked below top =
            claim (n - m + 1) (omega arith) full_phase trace words 0 0 [] [] [] 0 0 0 (q / c) q k g phase_first (omega arith) top all accepted

    -- THE BOUND, over c: (n - m + 1) times the rule's faults is at most c * n times the plan's
    pub frugal_bound : (n - m + 1) * faults rule n trace ≤ c * n * g
    frugal_bound = go (faults rule n trace) refl
      where
        go : (x : ℕ) → faults rule n trace ≡ x → (n - m + 1) * x ≤ c * n * g
        go zero all = omega arith
        go (suc x) all =
            let parts : x / (c * n) * (c * n) + x % (c * n) ≡ x = div-add-mod' x (c * n) in
            let h : suc x ≡ suc (x % (c * n)) + x / (c * n) * (c * n) = omega arith in
            rw h (phases_bound (x % (c * n)) (x / (c * n)) (mod-lt x full_phase) (all ∙ h))
