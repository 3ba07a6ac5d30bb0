-- The record as it was before it had a map: `held` is a number. Kept for the theorem that its answers stayed.
-- What did not change with the map is cited and not said again: the conditions of soundness, the walk's outcome and next entries, the tests of Fresh.
--
-- In order: the record; when it is sound; Fresh; one request; Feed; feeding requests one after the other.
-- Assumes nothing.
use Rattle.std.specs.Prelude.{Bool, List, [], ◌∷◌, ℕ, ◌+◌, eqb, length, take, replicate, Ok, Err}
use Rattle.paging.specs.Lists.{not}
use Rattle.paging.specs.Rules.{mark, no_requests, rule_numbered, named}
use Rattle.paging.specs.Walk.{outcome, next}
use Rattle.paging.specs.Calls.{frame_limit, request_limit, Test, test, gate}
use Rattle.paging.specs.declared.Entry.{Entry}
use Rattle.paging.specs.declared.Rule.{Rule}
use Rattle.paging.specs.Refusals.{Gate}
use Rattle.paging.specs.declared.Outcome.{Outcome}
use Rattle.paging.specs.declared.Refusal.TheVariants.{UnsoundRecord, MarkRequested, ClockFull}
use Rattle.entries.specs.Blank.{blank_entry}
use Rattle.soundness.specs.Sound.{sound_parts}
use Rattle.cache.specs.Record.{padded, fresh_tests}
use Rattle.cache.specs.Feed.{Reply}

-- ---- the record

pub record OldCache : Type 0 where
  pub rule : ℕ
  pub frames : ℕ
  pub clock : ℕ
  pub held : ℕ
  pub entries : List Entry

abbrev pub old_empty : ℕ → ℕ → OldCache
old_empty rule frames =
    record { rule = rule; frames = frames; clock = 0; held = 0; entries = replicate frame_limit blank_entry }

abbrev pub old_blank : OldCache
old_blank = old_empty 0 0

-- ---- when it is sound

unfoldable pub old_sound : OldCache → Bool
unfolding sound_parts
old_sound c = sound_parts c.rule c.frames c.clock c.held c.entries

-- ---- Fresh

pub record OldFresh : Type 0 where
  pub gate : Gate
  pub cache : OldCache

abbrev pub old_fresh_by : Gate → ℕ → ℕ → OldFresh
old_fresh_by (Ok nothing) rule frames = record { gate = (Ok tt); cache = old_empty rule frames }
old_fresh_by (Err refusal) rule frames = record { gate = Err refusal; cache = old_blank }

unfoldable pub old_fresh : ℕ → ℕ → OldFresh
unfolding fresh_tests gate
old_fresh rule frames = old_fresh_by (gate (fresh_tests rule frames)) rule frames

-- ---- one request

abbrev pub old_entries : OldCache → List Entry
old_entries c = take c.held c.entries

abbrev pub old_rule : OldCache → Rule
old_rule c = named (rule_numbered c.rule)

abbrev pub old_holding : OldCache → List Entry → OldCache
old_holding c es =
    record { rule = c.rule; frames = c.frames; clock = c.clock + 1; held = length es; entries = padded es }

pub record OldServed : Type 0 where
  pub outcome : Outcome
  pub next : OldCache

unfoldable pub old_served : OldCache → ℕ → OldServed
unfolding outcome next
old_served c p =
    record {
      outcome = outcome (old_rule c) c.frames p no_requests (old_entries c);
      next = old_holding c (next (old_rule c) c.frames c.clock p no_requests (old_entries c));
    }

-- ---- Feed

unfoldable pub old_tests : OldCache → ℕ → List Test
unfolding old_sound
old_tests c p =
    test (not (old_sound c)) UnsoundRecord
    ∷ test (eqb p mark) (MarkRequested 0)
    ∷ test (eqb c.clock request_limit) ClockFull
    ∷ []

pub record OldFed : Type 0 where
  pub outcome : Reply
  pub next : OldCache

abbrev pub old_fed_by : Gate → OldCache → ℕ → OldFed
old_fed_by (Ok nothing) c p = record { outcome = Ok (old_served c p).outcome; next = (old_served c p).next }
old_fed_by (Err refusal) c p = record { outcome = Err refusal; next = c }

unfoldable pub old_fed : OldCache → ℕ → OldFed
unfolding old_tests gate old_served
old_fed c p = old_fed_by (gate (old_tests c p)) c p

-- ---- feeding requests one after the other: the replies, and the record after them

unfoldable pub old_feeding : OldCache → List ℕ → List Reply
unfolding old_fed
old_feeding c [] = []
old_feeding c (p ∷ ps) = (old_fed c p).outcome ∷ old_feeding (old_fed c p).next ps

unfoldable pub old_after : OldCache → List ℕ → OldCache
unfolding old_fed
old_after c [] = c
old_after c (p ∷ ps) = old_after (old_fed c p).next ps
