-- Laws of the service Frame: the frame told is the only one that has the page, and absent is told where none has it.
--
-- In order: refused and answered; the laws; Feed and the service.
-- Assumes nothing.
use Rattle.std.specs.Prelude.{Some, None, Ok, Err}
use mathlib.Core.Path.{◌≡◌, refl, sym, ap, ◌∙◌, subst}
use mathlib.Core.Logic.{inl, inr, ◌↔◌}
use mathlib.Core.Bool.{Bool, true, false}
use Prim.Native.Nat.{ℕ, ◌<◌}
use native.Mathlib.Omega.{arith}
use lib.Dec.{eqb}
use lib.ListN.{length, get_or}
use borrow.Author.Tests.{eqb-true, eqb-false, eq-eqb, ne_eqb}
use Rattle.paging.specs.Lists.{place_of}
use Rattle.paging.specs.Rules.{mark, no_requests}
use Rattle.paging.specs.Held.{found, Found}
use Rattle.paging.specs.Walk.{pages, holds, outcome}
use Rattle.paging.specs.Calls.{request_limit}
use Rattle.paging.specs.declared.Entry.{Entry}
use Rattle.paging.specs.declared.Frame.{Frame}
use Rattle.paging.specs.declared.Outcome.TheVariants.{Hit}
use Rattle.paging.specs.declared.Refusal.TheVariants.{UnsoundRecord, MarkRequested}
use Rattle.paging.proofs.Held.{found_there, there_found, found_has, found_only, absent_exactly}
use Rattle.paging.proofs.Frames.{pages_length, pages_at, mem_pages, Ways, ways, outcome_hit, outcome_room, outcome_full}
use Rattle.cache.specs.declared.Cache.{Cache}
use Rattle.cache.specs.declared.Fed.{Fed}
use Rattle.cache.specs.Record.{held_of, held_entries, rule_of, Formed}
use Rattle.cache.specs.Sound.{sound, Sound}
use Rattle.cache.specs.Feed.{Reply, served, fed, changed_frame, Applied}
use Rattle.cache.specs.Lookup.{looked_up, HasAt}
use Rattle.cache.proofs.Soundness.{sound_is, held_length}
use Rattle.cache.proofs.Step.{entry_held}
use Rattle.cache.proofs.Feeding.{fed_open, served_formed, fed_sound}
use Rattle.cache.proofs.Changes.{fed_applies}

-- ---- refused and answered

module _ (c : Cache) (p : ℕ) where
  -- 5 where the record isn't sound, whatever the page
  pub unsound_first : sound c ≡ false → looked_up c p ≡ Err UnsoundRecord
  unfolding looked_up
  unsound_first s = rw s

  -- then 4 for the mark
  pub mark_refused : sound c ≡ true → p ≡ mark → looked_up c p ≡ Err (MarkRequested 0)
  unfolding looked_up
  mark_refused s e = rw (s, eq-eqb p mark e)

  -- else which frame of the entries in use
  pub looked_open : sound c ≡ true → (p ≡ mark → ⊥) → looked_up c p ≡ Ok (found p (pages (held_entries c)))
  unfolding looked_up
  looked_open s e = rw (s, ne_eqb p mark e)

  -- so an answer that is no refusal tells that the record is sound and the page isn't the mark
  abbrev Taken : Type 0
  Taken = (sound c ≡ true) × (p ≡ mark → ⊥)

  taken : (f : Found) → looked_up c p ≡ Ok f → Taken × (found p (pages (held_entries c)) ≡ f)
  taken f = go (sound c) (eqb p mark) refl refl
    where
      go : (a b : Bool) → sound c ≡ a → eqb p mark ≡ b → looked_up c p ≡ Ok f → Taken × (found p (pages (held_entries c)) ≡ f)
      go false b s q e = absurd (cc (unsound_first s))
      go true true s q e = absurd (cc (mark_refused s (eqb-true _ _ q)))
      go true false s q e = ((s, eqb-false _ _ q), cc (looked_open s (eqb-false _ _ q)))

-- ---- the laws

module _ (c : Cache) (formed : Formed c) (p : ℕ) where
  -- the pages in use and the frames that have them
  in_page : Sound c → (i : ℕ) → HasAt c p i → (i < length (pages (held_entries c))) × (get_or (pages (held_entries c)) i 0 ≡ p)
  in_page s i (h, e) = (
    omega (arith, pages_length (held_entries c), held_length c formed s),
    pages_at (held_entries c) i ∙ ap (λ (x : Entry). x.page.0) (entry_held c i h) ∙ e,
  )

  page_in : Sound c → (i : ℕ) → i < length (pages (held_entries c)) → get_or (pages (held_entries c)) i 0 ≡ p → HasAt c p i
  page_in s i h e =
      let k : i < held_of c = omega (arith, pages_length (held_entries c), held_length c formed s) in
      (k, sym (ap (λ (x : Entry). x.page.0) (entry_held c i k)) ∙ sym (pages_at (held_entries c) i) ∙ e)

  -- IN A SOUND RECORD AT MOST ONE FRAME HOLDS A PAGE
  pub one_frame : sound c ≡ true → (i j : ℕ) → HasAt c p i → HasAt c p j → i ≡ j
  one_frame t i j a b =
      let s : Sound c = sound_is c t in
      let (h, x) = in_page s i a in
      let (k, y) = in_page s j b in
      s.parts.orderly.apart i j h k (x ∙ sym y)

  -- THE FRAME TOLD is below those in use and has the page
  pub frame_has : (f : Frame) → looked_up c p ≡ Ok (Some f) → HasAt c p f.0 × (f.0 < c.frames)
  frame_has f e =
      let (t, q) = taken c p (Some f) e in
      let s : Sound c = sound_is c t.0 in
      let (h, x, y) = found_has p (pages (held_entries c)) f q in
      let has : HasAt c p f.0 = page_in s f.0 h x in
      (has, omega (arith, has.0, s.parts.held_frames))

  -- and it is the only one: told exactly where that frame has the page
  pub frame_exactly : sound c ≡ true → (p ≡ mark → ⊥) → (i : ℕ) → (looked_up c p ≡ Ok (Some (record { 0 = i }))) ↔ HasAt c p i
  frame_exactly t page i = (λ e. (frame_has (record { 0 = i }) e).0, back)
    where
      back : HasAt c p i → looked_up c p ≡ Ok (Some (record { 0 = i }))
      back has =
          let s : Sound c = sound_is c t in
          let (h, x) = in_page s i has in
          looked_open c p t page ∙ ap Ok (found_only p (pages (held_entries c)) s.parts.orderly.apart i h x)

  -- ABSENT is told exactly where no frame in use has it
  pub absent_exactly_where : sound c ≡ true → (p ≡ mark → ⊥) → (looked_up c p ≡ Ok None) ↔ ((i : ℕ) → HasAt c p i → ⊥)
  absent_exactly_where t page = (there, back)
    where
      s : Sound c
      s = sound_is c t

      there : looked_up c p ≡ Ok None → (i : ℕ) → HasAt c p i → ⊥
      there e i has =
          let (t, q) = taken c p None e in
          let (h, x) = in_page s i has in
          (absent_exactly p (pages (held_entries c))).0 q (i, h, x)

      back : ((i : ℕ) → HasAt c p i → ⊥) → looked_up c p ≡ Ok None
      back none =
          looked_open c p t page
          ∙ ap Ok ((absent_exactly p (pages (held_entries c))).1 (λ w. none w.0 (page_in s w.0 w.1 w.2)))

-- ---- FEED AND THE SERVICE: where a request is taken

module _ (c : Cache) (p : ℕ) (t : sound c ≡ true) (page : p ≡ mark → ⊥) (clock : c.clock ≡ request_limit → ⊥) where
  reply_is : (fed c p).outcome ≡ Ok (outcome (rule_of c) c.frames p no_requests (held_entries c))
  unfolding served
  reply_is = ap (λ (r : Fed). r.outcome) (fed_open c p t page clock)

  -- it is a hit exactly where a frame is told
  pub hit_where_found : ((fed c p).outcome ≡ Ok Hit) ↔ ((f : Frame) × (looked_up c p ≡ Ok (Some f)))
  hit_where_found = (λ e. there (ways c.frames p (held_entries c)) (sym reply_is ∙ e), back)
    where
      there : Ways c.frames p (held_entries c) → ◌≡◌ {A = Reply} (Ok (outcome (rule_of c) c.frames p no_requests (held_entries c))) (Ok Hit)
          → (f : Frame) × (looked_up c p ≡ Ok (Some f))
      there (inl q) e =
          (record { 0 = place_of p (pages (held_entries c)) }, looked_open c p t page ∙ ap Ok (found_there p (pages (held_entries c)) (mem_pages p (held_entries c) ∙ q)))
      there (inr (inl (q, h))) e =
          absurd (cc (outcome_room (rule_of c) c.frames c.clock p no_requests (held_entries c) q h))
      there (inr (inr (q, h))) e =
          absurd (cc (outcome_full (rule_of c) c.frames c.clock p no_requests (held_entries c) q h))

      back : (f : Frame) × (looked_up c p ≡ Ok (Some f)) → (fed c p).outcome ≡ Ok Hit
      back (f, e) =
          let (x, q) = taken c p (Some f) e in
          let m : holds p (held_entries c) ≡ true = sym (mem_pages p (held_entries c)) ∙ (there_found p (pages (held_entries c)) f q).0 in
          reply_is ∙ ap Ok (outcome_hit (rule_of c) c.frames c.clock p no_requests (held_entries c) m)

  -- and afterwards the frame that Feed wrote is the one told
  pub fed_then_found : Formed c → looked_up (fed c p).next p ≡ Ok (Some (record { 0 = changed_frame c p }))
  fed_then_found formed =
      let a : Applied c p (fed c p).next = fed_applies c p formed t page clock in
      (frame_exactly (fed c p).next (subst Formed (sym (ap (λ (r : Fed). r.next) (fed_open c p t page clock))) (served_formed c p formed (sound_is c t))) p
      (fed_sound c p formed t) page (changed_frame c p)).1
      (a.frame_used, ap (λ (x : Entry). x.page.0) a.entry_now ∙ a.page_now)
