-- Laws of the pages held with their index: what it says of a page, and that it is kept where a page is loaded.
--
-- In order: one count raised, one lowered; what the index says of a page; a page loaded, a page in place of another; nothing held.
-- Assumes nothing.
use Rattle.std.specs.Prelude.{Some, None}
use mathlib.Core.Path.{◌≡◌, sym, ap, ◌∙◌}
use mathlib.Core.List.{List, [], ◌∷◌, ◌++◌}
use Prim.Native.Nat.{ℕ, ◌+◌, ◌-◌, ◌≤◌, ◌<◌}
use native.Mathlib.Numerals.{add-one}
use native.Mathlib.Omega.{arith}
use native.Mathlib.Decide.{ℕ_discrete}
use lib.ListN.{length, get_or, set, take, replicate, length-set, length-replicate, get_or-replicate}
use lib.Seq.{get_or-set_same, get_or-set_other, get_or-take, length-take-le, take-suc-set, take-set-lt}
use Rattle.paging.specs.Lists.{place_of}
use Rattle.paging.specs.Calls.{frame_limit}
use Rattle.paging.specs.Held.{found}
use Rattle.paging.proofs.Held.{apart_nil, apart_snoc, apart_set, absent_exactly, found_only, found_there, found_nowhere, place_out}
use Rattle.calls.proofs.Search.{found_mem}
use Rattle.held.specs.Index.{hashes, hash_of, hits, hashed, Indexed}
use Rattle.held.proofs.Counting.{hash_below, hits_own, hits_other, hashed_most, hashed_at, hashed_snoc, hashed_set, none_hashed, one_other}

-- ---- one count raised, one lowered

module _ (cs : List ℕ) (p h : ℕ) (e : h ≡ hash_of p) (l : h < length cs) (k : ℕ) where
  raised : get_or (set cs h (get_or cs h 0 + 1)) k 0 ≡ get_or cs k 0 + hits k p
  raised = elim (ℕ_discrete k h) [
    | yes q ↦ rw (q, get_or-set_same cs h (get_or cs h 0 + 1) 0 l, hits_own h p (sym e))
    | no q ↦ rw (get_or-set_other cs h k (get_or cs h 0 + 1) 0 q, hits_other k p (λ r. q (sym r ∙ sym e))) (omega arith)
  ]

  lowered : 1 ≤ get_or cs h 0 → get_or (set cs h (get_or cs h 0 - 1)) k 0 + hits k p ≡ get_or cs k 0
  lowered m = elim (ℕ_discrete k h) [
    | yes q ↦ rw (q, get_or-set_same cs h (get_or cs h 0 - 1) 0 l, hits_own h p (sym e)) (omega arith)
    | no q ↦ rw (get_or-set_other cs h k (get_or cs h 0 - 1) 0 q, hits_other k p (λ r. q (sym r ∙ sym e))) (omega arith)
  ]

module _ (held : ℕ) (words counts : List ℕ) (x : Indexed held words counts) where
  pub held_length : length (take held words) ≡ held
  held_length = length-take-le held words (omega (arith, x.room, x.few))

  -- ---- what the index says of a page

  module _ (p h : ℕ) (e : h ≡ hash_of p) where
    counted : get_or counts h 0 ≡ hashed (hash_of p) (take held words)
    counted = rw e (x.right (hash_of p) (hash_below p))

    -- none has its hash
    pub absent_zero : get_or counts h 0 ≡ 0 → None ≡ found p (take held words)
    absent_zero z = sym (none_hashed p (take held words) (sym counted ∙ z))

    -- one has its hash, and that is another page
    pub absent_one : get_or counts h 0 ≡ 1 → (f : ℕ) → f < held → (get_or words f 0 ≡ p → ⊥) → hash_of (get_or words f 0) ≡ h → None ≡ found p (take held words)
    absent_one z f l other same =
        let at : get_or (take held words) f 0 ≡ get_or words f 0 = get_or-take held words f 0 l in
        sym (one_other p (take held words) f (sym counted ∙ z) (rw held_length l) (ap hash_of at ∙ same ∙ e) (λ q. other (sym at ∙ q)))

  -- a frame in use has it
  pub found_hinted : (p f : ℕ) → f < held → get_or words f 0 ≡ p → Some (record { 0 = f }) ≡ found p (take held words)
  found_hinted p f l e = sym (found_only p (take held words) x.apart f (rw held_length l) (get_or-take held words f 0 l ∙ e))

  -- the search from the front came upon it, or to the end
  module _ (p at : ℕ) (e : at ≡ place_of p (take held words)) where
    pub found_searched : at < held → Some (record { 0 = at }) ≡ found p (take held words)
    found_searched l = rw e (sym (found_there p (take held words) (found_mem p (take held words) (rw (held_length, ← e) l))))

    pub absent_searched : held ≤ at → None ≡ found p (take held words)
    absent_searched l = sym (found_nowhere p (take held words) (place_out p (take held words) (rw (held_length, ← e) l)))

  -- ---- a page loaded, a page in place of another

  pub count_small : (h : ℕ) → h < hashes → get_or counts h 0 ≤ frame_limit
  count_small h l = omega (arith, x.right h l, hashed_most h (take held words), held_length, x.few)

  pub count_some : (f h : ℕ) → f < held → h ≡ hash_of (get_or words f 0) → 1 ≤ get_or counts h 0
  count_some f h l e =
      let at : get_or (take held words) f 0 ≡ get_or words f 0 = get_or-take held words f 0 l in
      let s : h < hashes = rw e (hash_below (get_or words f 0)) in
      omega (arith, x.right h s, hashed_at h (take held words) f (rw held_length l), hits_own h (get_or (take held words) f 0) (ap hash_of at ∙ sym e))

  -- a count after another was lowered
  pub replace_small : (g h : ℕ) → h < hashes → get_or (set counts g (get_or counts g 0 - 1)) h 0 ≤ frame_limit
  replace_small g h l = elim (ℕ_discrete h g) [
    | yes q ↦ rw q (rw (get_or-set_same counts g (get_or counts g 0 - 1) 0 (rw (x.buckets, ← q) l)) (omega (arith, count_small g (rw (← q) l))))
    | no q ↦ rw (get_or-set_other counts g h (get_or counts g 0 - 1) 0 q) (count_small h l)
  ]

  pub load_pages : (p : ℕ) → held < frame_limit → take (held + 1) (set words held p) ≡ take held words ++ (p ∷ [])
  load_pages p l = rw (add-one held) (take-suc-set words held p (rw x.room l))

  pub replace_pages : (p f : ℕ) → f < held → take held (set words f p) ≡ set (take held words) f p
  replace_pages p f l = take-set-lt held words f p l

  module _ (p h : ℕ) (e : h ≡ hash_of p) (absent : found p (take held words) ≡ None) where
    pub load_keeps : held < frame_limit → Indexed (held + 1) (set words held p) (set counts h (get_or counts h 0 + 1))
    load_keeps l =
        let s : h < length counts = rw (x.buckets, e) (hash_below p) in
        record {
          room = length-set words held p ∙ x.room;
          buckets = length-set counts h (get_or counts h 0 + 1) ∙ x.buckets;
          few = omega arith;
          apart = rw (load_pages p l) (apart_snoc (take held words) p x.apart ((absent_exactly p (take held words)).0 absent));
          right = λ k m. rw (load_pages p l, hashed_snoc k (take held words) p, ← x.right k m) (raised counts p h e s k);
        }

    pub replace_keeps : (f g : ℕ) → f < held → g ≡ hash_of (get_or words f 0) → (cs : List ℕ) → cs ≡ set counts g (get_or counts g 0 - 1)
        → Indexed held (set words f p) (set cs h (get_or cs h 0 + 1))
    replace_keeps f g l q cs is =
        let b : length cs ≡ hashes = rw is (length-set counts g (get_or counts g 0 - 1) ∙ x.buckets) in
        let s : h < length cs = rw (b, e) (hash_below p) in
        let t : g < length counts = rw (x.buckets, q) (hash_below (get_or words f 0)) in
        let at : get_or (take held words) f 0 ≡ get_or words f 0 = get_or-take held words f 0 l in
        record {
          room = length-set words f p ∙ x.room;
          buckets = length-set cs h (get_or cs h 0 + 1) ∙ b;
          few = x.few;
          apart = rw (replace_pages p f l) (apart_set (take held words) f p x.apart ((absent_exactly p (take held words)).0 absent));
          right = λ k m.
              let low : get_or cs k 0 + hits k (get_or words f 0) ≡ get_or counts k 0 = rw is (lowered counts (get_or words f 0) g q t k (count_some f g l q)) in
              let up : get_or (set cs h (get_or cs h 0 + 1)) k 0 ≡ get_or cs k 0 + hits k p = raised cs p h e s k in
              let new : hashed k (set (take held words) f p) + hits k (get_or words f 0) ≡ hashed k (take held words) + hits k p =
              rw (← at) (hashed_set k (take held words) f p (rw held_length l)) in
              rw (replace_pages p f l) (omega (arith, low, up, new, x.right k m));
        }

-- ---- nothing held

pub index_starts : Indexed 0 (replicate frame_limit 0) (replicate hashes 0)
unfolding hashed
index_starts =
    record {
      room = length-replicate {A = ℕ} frame_limit 0;
      buckets = length-replicate {A = ℕ} hashes 0;
      few = omega arith;
      apart = apart_nil;
      right = λ h l. get_or-replicate {A = ℕ} hashes h 0 0 l;
    }
