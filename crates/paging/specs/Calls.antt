-- Document 01, the order of refusals in a call: 1, 2, 3, 4, 6, 7. A service appends its own tests to this chain.
-- Each test stands beside the refusal that it gives; the first that is true decides.
-- Assumes nothing.
use Rattle.std.specs.Prelude.{List, [], ◌∷◌, Bool, true, false, ℕ, ltb, length, Ok, Err}
use Rattle.paging.specs.Lists.{pick, mem, place_of}
use Rattle.paging.specs.Rules.{mark, rule_numbered, Numbered}
use Rattle.paging.specs.Refusals.{Gate}
use Rattle.paging.specs.declared.Refusal.{Refusal}
use Rattle.paging.specs.declared.Refusal.TheVariants.{UnknownRule, FramesOutside, TraceTooLong, MarkRequested, LentTooShort}

abbrev pub frame_limit : ℕ
frame_limit = 256

abbrev pub request_limit : ℕ
request_limit = 8000

-- ---- a chain of tests

pub record Test : Type 0 where
  pub when : Bool
  pub say : Refusal

abbrev pub test : Bool → Refusal → Test
test when say = record { when = when; say = say }

unfoldable pub gate : List Test → Gate
gate [] = Ok tt
gate (t ∷ ts) = pick t.when (Err t.say) (gate ts)

-- ---- the tests

-- 1: rule not 1 to 4
abbrev pub unknown : Numbered → Bool
unknown (Ok rule) = false
unknown (Err refusal) = true

-- 2: frames not 1 to 256
abbrev pub outside : ℕ → Bool
outside n = pick (ltb n 1) true (ltb frame_limit n)

-- 4: a request is the mark; its place is the first such moment
unfoldable pub marked : List ℕ → Bool
unfolding mem
marked trace = mem mark trace

unfoldable pub first_mark : List ℕ → ℕ
unfolding place_of
first_mark trace = place_of mark trace

-- ---- the chains

-- 2, 3, 4: every call on a trace
unfoldable pub trace_tests : ℕ → List ℕ → List Test
unfolding marked first_mark
trace_tests n trace =
    test (outside n) (FramesOutside 0)
    ∷ test (ltb request_limit (length trace)) TraceTooLong
    ∷ test (marked trace) (MarkRequested (first_mark trace))
    ∷ []

-- 1, 2, 3, 4: a call that names a rule
unfoldable pub rule_tests : ℕ → ℕ → List ℕ → List Test
unfolding trace_tests
rule_tests rule n trace = test (unknown (rule_numbered rule)) UnknownRule ∷ trace_tests n trace

-- 6: lent words fewer than T
unfoldable pub lent_tests : List ℕ → List ℕ → List Test
lent_tests trace words = test (ltb (length words) (length trace)) LentTooShort ∷ []
