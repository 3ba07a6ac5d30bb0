-- `calls::place_of` meets its contract.
-- Assumes nothing.
use Rattle.std.proofs.Common.{◌≡◌, ℕ, ◌∙◌, eqb, rules, tests}
use Rattle.std.specs.List.{position}
use Rattle.std.proofs.lemmas.Iterator.{YieldsList-from_slice}
use Rattle.std.proofs.lemmas.Iterator.Search.{position_from_yields_List}
use Rattle.calls.proofs.Search.{place_is}
use Rattle.calls.proofs.place_of.Goals as goal

pub returns : goal.returns
returns c =
    let found : c.position.result ≡ position (λ (q : ℕ). eqb q c.args.page) c.args.pages.now =
    position_from_yields_List (λ (q : ℕ). eqb q c.args.page) _ _ c.position.result c.position.ensures.ran
    (YieldsList-from_slice _ c.iter.ensures.rest) (λ x b q k. search (rules, tests)) in
    c.unwrap_or.ensures ∙ rw found (place_is c.args.page c.args.pages.now)
