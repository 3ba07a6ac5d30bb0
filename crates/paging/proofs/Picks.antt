-- The rule set that answers a chain of tests: each `pick` of the definition by the test that the code took.
-- Assumes nothing.
use borrow.Author.Rules.{rules}
use borrow.Author.Tests.{lt-ltb, le-ltb, lt-leb, le-leb, eq-eqb, ne_eqb}

pub ruleset picks = (rules, lt-ltb, le-ltb, lt-leb, le-leb, eq-eqb, ne_eqb)
