-- Laws of Fresh and Feed with the record in lent words.
--
-- In order: the chains as the code goes through them; the order in Feed; words too few for the record that is read; words too few for the one that is written.
-- Assumes nothing.
use Rattle.std.specs.Prelude.{Ok, Err}
use mathlib.Core.Path.{◌≡◌, refl, sym, ap, ◌∙◌}
use mathlib.Core.Bool.{Bool, true, false}
use mathlib.Core.List.{List}
use Prim.Native.Nat.{ℕ, ◌≤◌, ◌<◌}
use lib.Dec.{ltb}
use lib.ListN.{length, drop}
use borrow.Author.Tests.{lt-ltb, le-ltb}
use Rattle.paging.specs.Lists.{pick, not}
use Rattle.paging.specs.Calls.{gate}
use Rattle.paging.specs.Refusals.{Gate}
use Rattle.paging.specs.declared.Refusal.{Refusal}
use Rattle.paging.specs.declared.Refusal.TheVariants.{UnsoundRecord, LentTooShort}
use Rattle.calls.specs.Chain.{and_then, lent_gate}
use Rattle.calls.proofs.Chain.{gate_append}
use Rattle.cache.specs.Record.{fresh_tests, fresh_by, fresh_of}
use Rattle.cache.specs.Feed.{feed_tests, fed_by, fed}
use Rattle.cache.specs.declared.Cache.{Cache}
use Rattle.records.specs.Records.{record_length, record_of, record_into}
use Rattle.records.proofs.Back.{short_unsound, short_kept}
use Rattle.exports_cache.specs.Lent.{room_tests, fresh_lent, feed_lent, fed_lent, next_left}
use Rattle.exports_cache.specs.Devices.{unless_refused, behind_room}

-- ---- the chains

pub fresh_chain : (rule n lent : ℕ) → lent_gate (fresh_of rule n).gate record_length lent ≡ gate (fresh_lent rule n lent)
unfolding fresh_of fresh_lent room_tests gate
fresh_chain rule n lent = ap (λ (g : Gate). lent_gate g record_length lent) (same (gate (fresh_tests rule n))) ∙ sym (gate_append (fresh_tests rule n) (room_tests lent))
  where
    same : (g : Gate) → (fresh_by g rule n).gate ≡ g
    same (Ok tt) = refl
    same (Err refusal) = refl

pub feed_chain : (words : List ℕ) (page lent : ℕ) → behind_room (fed (record_of words) page).outcome lent ≡ fed_lent words page lent
unfolding fed fed_lent feed_lent room_tests gate
feed_chain words page lent =
    go (gate (feed_tests c page)) (ltb lent record_length)
    ∙ ap (λ (g : Gate). (fed_by g c page).outcome) (sym (gate_append (feed_tests c page) (room_tests lent)))
  where
    c : Cache
    c = record_of words

    go : (g : Gate) (b : Bool)
        → pick b (unless_refused (fed_by g c page).outcome) (fed_by g c page).outcome
        ≡ (fed_by (and_then g (pick b (Err LentTooShort) (Ok tt))) c page).outcome
    go (Ok tt) true = refl
    go (Ok tt) false = refl
    go (Err refusal) true = refl
    go (Err refusal) false = refl

-- ---- the order in Feed: what it refuses by itself, then 6, else its own reply

module _ (words : List ℕ) (page lent : ℕ) where
  abbrev alone : Gate
  alone = gate (feed_tests (record_of words) page)

  -- by the gate of Feed alone
  told_by : (g : Gate) → alone ≡ g → fed_lent words page lent ≡ (fed_by (and_then g (gate (room_tests lent))) (record_of words) page).outcome
  unfolding fed_lent feed_lent
  told_by g e =
      ap (λ (x : Gate). (fed_by x (record_of words) page).outcome)
      (gate_append (feed_tests (record_of words) page) (room_tests lent) ∙ ap (λ (x : Gate). and_then x (gate (room_tests lent))) e)

  pub earlier_told : (refusal : Refusal) → alone ≡ Err refusal → fed_lent words page lent ≡ Err refusal
  earlier_told refusal e = told_by (Err refusal) e

  pub no_room_refused : alone ≡ Ok tt → lent < record_length → fed_lent words page lent ≡ Err LentTooShort
  unfolding room_tests gate
  no_room_refused e few =
      told_by (Ok tt) e ∙ ap (λ (b : Bool). (fed_by (pick b (Err LentTooShort) (Ok tt)) (record_of words) page).outcome) (lt-ltb lent record_length few)

  pub room_enough : record_length ≤ lent → fed_lent words page lent ≡ (fed (record_of words) page).outcome
  room_enough enough =
      sym (feed_chain words page lent)
      ∙ ap (λ (b : Bool). pick b (unless_refused (fed (record_of words) page).outcome) (fed (record_of words) page).outcome) (le-ltb lent record_length enough)

-- ---- too few words for the record that is read: 5, whatever the page, and the words for the next one stay

module _ (words : List ℕ) (page : ℕ) (few : length words < record_length) where
  pub short_refused : (lent : ℕ) → fed_lent words page lent ≡ Err UnsoundRecord
  unfolding fed_lent feed_lent feed_tests gate
  short_refused lent =
      ap (λ (b : Bool). (fed_by (pick (not b) (Err UnsoundRecord) (gate (drop 1 (feed_lent words page lent)))) (record_of words) page).outcome)
      (short_unsound words few)

  pub short_not_handed_back : (next : List ℕ) → next_left words page next ≡ next
  unfolding next_left
  short_not_handed_back next = rw (lt-ltb (length words) record_length few) refl

-- ---- too few words for the next record: they stay

pub room_stays : (words : List ℕ) (page : ℕ) (next : List ℕ) → length next < record_length → next_left words page next ≡ next
unfolding next_left
room_stays words page next few = go (ltb (length words) record_length)
  where
    go : (b : Bool) → pick b next (record_into (fed (record_of words) page).next next) ≡ next
    go true = refl
    go false = short_kept next few (fed (record_of words) page).next
