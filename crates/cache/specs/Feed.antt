-- Document 01, the service Feed: one step of the walk on the record's entries as they stand.
-- Assumes nothing.
use Rattle.std.specs.Prelude.{◌≡◌, List, [], ◌∷◌, ℕ, ◌+◌, ◌<◌, eqb, ltb, Some, Result, Ok, Err}
use Rattle.paging.specs.Lists.{pick, not}
use Rattle.paging.specs.Rules.{mark, no_requests, chosen}
use Rattle.paging.specs.Refusals.{table, Gate}
use Rattle.paging.specs.Held.{found, if_held, frame_after}
use Rattle.paging.specs.Walk.{pages, entry_at, loaded_at, renewed, outcome, next}
use Rattle.paging.specs.Calls.{frame_limit, request_limit, Test, test, gate}
use Rattle.paging.specs.declared.Entry.{Entry}
use Rattle.paging.specs.declared.Outcome.{Outcome}
use Rattle.paging.specs.declared.Outcome.TheVariants.{Hit, Loaded, Dropped}
use Rattle.paging.specs.declared.Refusal.{Refusal}
use Rattle.paging.specs.declared.Refusal.TheVariants.{UnsoundRecord, MarkRequested, ClockFull}
use Rattle.occupancy.specs.Map.{map_of}
use Rattle.cache.specs.declared.Cache.{Cache}
use Rattle.cache.specs.declared.Served.{Served}
use Rattle.cache.specs.declared.ReplyNumbers.{ReplyNumbers}
use Rattle.cache.specs.declared.Fed.{Fed}
use Rattle.cache.specs.Record.{held_of, held_entries, rule_of, holding}
use Rattle.cache.specs.Sound.{sound}

-- one request, of a record that is sound: the record's rule on its entries as they stand, the clock being the moment of the request
unfoldable pub served : Cache → ℕ → Served
unfolding outcome next
served c p =
    record {
      outcome = outcome (rule_of c) c.frames p no_requests (held_entries c);
      next = holding c (next (rule_of c) c.frames c.clock p no_requests (held_entries c));
    }

-- what Feed says of a request: what it came to, or a refusal
abbrev pub Reply : Type 0
Reply = Result Outcome Refusal

-- the order in Feed: 5, 4, 8
unfoldable pub feed_tests : Cache → ℕ → List Test
unfolding sound
feed_tests c p =
    test (not (sound c)) UnsoundRecord
    ∷ test (eqb p mark) (MarkRequested 0)
    ∷ test (eqb c.clock request_limit) ClockFull
    ∷ []

-- a refused Feed hands back the record it got
abbrev pub fed_by : Gate → Cache → ℕ → Fed
fed_by (Ok nothing) c p = record { outcome = Ok (served c p).outcome; next = (served c p).next }
fed_by (Err refusal) c p = record { outcome = Err refusal; next = c }

unfoldable pub fed : Cache → ℕ → Fed
unfolding feed_tests gate served
fed c p = fed_by (gate (feed_tests c p)) c p

-- ---- what a request that is taken changes

-- the frame: that of the page; else, with room, the lowest free one; else that of the page that the rule drops
unfoldable pub changed_frame : Cache → ℕ → ℕ
unfolding frame_after chosen
changed_frame c p = frame_after c.frames p (Some (record { 0 = chosen (rule_of c) no_requests (held_entries c) })) (pages (held_entries c))

-- its entry: the page requested again, or loaded, at the clock
unfoldable pub changed_entry : Cache → ℕ → Entry
unfolding found
changed_entry c p =
    if_held (found p (pages (held_entries c))) (λ (f : ℕ). renewed c.clock (entry_at c.entries f)) (loaded_at c.clock p)

-- how many entries are in use: one more where a free frame was taken
unfoldable pub changed_held : Cache → ℕ → ℕ
unfolding found
changed_held c p = if_held (found p (pages (held_entries c))) (λ (f : ℕ). held_of c) (pick (ltb (held_of c) c.frames) (held_of c + 1) (held_of c))

-- document 01: the rule is applied to the entries of c as they stand, the clock is the moment of the new request, and every entry the rule doesn't change stays
pub record Applied (c : Cache) (p : ℕ) (d : Cache) : Type 0 where
  pub rule_stays : d.rule ≡ c.rule
  pub frames_stay : d.frames ≡ c.frames
  pub clock_on : d.clock ≡ c.clock + 1
  -- exactly so many lowest frames are occupied
  pub map_now : d.map ≡ map_of (changed_held c p)
  pub held_now : held_of d ≡ changed_held c p
  -- one frame of the cache, which is in use then, has the page, requested at the clock
  pub frame_inside : changed_frame c p < c.frames
  pub frame_used : changed_frame c p < held_of d
  pub entry_now : entry_at d.entries (changed_frame c p) ≡ changed_entry c p
  pub page_now : (changed_entry c p).page.0 ≡ p
  pub last_now : (changed_entry c p).last.0 ≡ c.clock
  -- the others of the 256 stay
  pub others_stay : (i : ℕ) → i < frame_limit → (i ≡ changed_frame c p → ⊥) → entry_at d.entries i ≡ entry_at c.entries i

-- ---- feeding a trace, one request after the other

unfoldable pub feeding : Cache → List ℕ → List Reply
unfolding fed
feeding c [] = []
feeding c (p ∷ ps) = (fed c p).outcome ∷ feeding (fed c p).next ps

-- the plan's word of a reply, and whether it is a fault; a refusal has neither
abbrev pub reply_word : Reply → ℕ
reply_word (Ok Hit) = mark
reply_word (Ok Loaded) = mark
reply_word (Ok (Dropped p)) = p.0
reply_word (Err refusal) = mark

abbrev pub reply_fault : Reply → ℕ
reply_fault (Ok Hit) = 0
reply_fault (Ok Loaded) = 1
reply_fault (Ok (Dropped p)) = 1
reply_fault (Err refusal) = 0

unfoldable pub fed_plan : List Reply → List ℕ
fed_plan [] = []
fed_plan (r ∷ rs) = reply_word r ∷ fed_plan rs

unfoldable pub fed_faults : List Reply → ℕ
fed_faults [] = 0
fed_faults (r ∷ rs) = reply_fault r + fed_faults rs

-- ---- document 01's numbers of a reply: a refusal's number and place; the kind 0 for a hit or a refusal, 1 for a load, 2 for a drop; the page dropped, else the mark

abbrev pub reply_numbers : Reply → ReplyNumbers
reply_numbers (Ok Hit) = record { number = 0; place = 0; kind = 0; page = reply_word (Ok Hit) }
reply_numbers (Ok Loaded) = record { number = 0; place = 0; kind = 1; page = reply_word (Ok Loaded) }
reply_numbers (Ok (Dropped p)) = record { number = 0; place = 0; kind = 2; page = reply_word (Ok (Dropped p)) }
reply_numbers (Err refusal) =
    record { number = (table refusal).number; place = (table refusal).place; kind = 0; page = reply_word (Err refusal) }
