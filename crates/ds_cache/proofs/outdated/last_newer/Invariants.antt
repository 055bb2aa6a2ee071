use Rattle.ds_base.specs.Order.{IsKey}
use Rattle.ds_base.specs.Number.{key_number}
use Rattle.ds_cache.specs.Outdating.{Walked}
use Rattle.ds_cache.proofs.outdated.last_newer.Given as goal

-- what is known of the entries that were met
abbrev pub invariant-overlapping : goal.invariant-overlapping
invariant-overlapping l = Walked l.info l.below l.recency.entries l.uses.last.entries l.latest × IsKey l.below

-- the key below which the next entry starts
abbrev pub decreases-overlapping : goal.decreases-overlapping
decreases-overlapping l = key_number l.below
