-- `cache::Cache::feed` meets its contract: behind an open gate the record is sound, and its clock below the limit.
-- Assumes nothing.
use mathlib.Core.Path.{sym, ◌∙◌}
use Rattle.cache.proofs.Feeding.{open_unless, feed_taken}
use Rattle.cache.proofs.Cache.feed.Goals as goal

pub serve-served-requires : goal.serve-served-requires
serve-served-requires c = feed_taken _ _ (sym c.feed_gate.ensures ∙ open_unless _ c.in_default.not-Err)
