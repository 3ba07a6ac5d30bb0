-- Document 01, "Bundle file": what an accepted file is, said without the chain of refusals: the file of sizes, requests and plan that are in order.
-- That reading accepts these files and no others is `accepted_file` of proofs/Accepted.antt.
-- Assumes nothing.
use Rattle.std.specs.Prelude.{◌≡◌, ◌⊎◌, List, [], ◌∷◌, ℕ, ◌≤◌, ◌<◌, length}
use Rattle.paging.specs.Meanings.{InOrder}
use Rattle.reading.specs.declared.Sizes.{Sizes}
use Rattle.bundle.specs.Writing.{file_of}

-- every number of a list is below a bound: 256 for bytes, 4,294,967,296 for words
abbrev pub AllBelow : ℕ → List ℕ → Type 0
AllBelow bound [] = Unit {0}
AllBelow bound (x ∷ xs) = (x < bound) × AllBelow bound xs

-- sizes, requests and plan that a bundle may hold: n and the requests as in a call, m at most n, a plan of no words or one for each request
pub record ValuesInOrder (n m : ℕ) (trace plan : List ℕ) : Type 0 where
  pub call : InOrder n trace
  pub one_frame : 1 ≤ m
  pub plan_frames : m ≤ n
  pub planned : (length plan ≡ 0) ⊎ (length plan ≡ length trace)

-- the bytes are the file of such values, which are what is answered and copied, and both lent lists have room
pub record AcceptedFile (file : List ℕ) (for_requests for_plan : ℕ) (sizes : Sizes) : Type 0 where
  pub trace : List ℕ
  pub plan : List ℕ
  pub in_order : ValuesInOrder sizes.n sizes.m trace plan
  pub words : AllBelow 4294967296 trace × AllBelow 4294967296 plan
  pub bytes : file ≡ file_of sizes.n sizes.m trace plan
  pub requests : sizes.requests ≡ length trace
  pub planned : sizes.planned ≡ length plan
  pub room : length trace ≤ for_requests
  pub plan_room : length plan ≤ for_plan
