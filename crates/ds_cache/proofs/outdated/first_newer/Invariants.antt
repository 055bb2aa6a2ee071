use Rattle.std.proofs.Common.{◌≡◌}
use Rattle.ds_cache.specs.Insert.{newer}
use Rattle.ds_cache.proofs.outdated.first_newer.Given as goal

-- what is still to be looked at decides
abbrev pub invariant-entries : goal.invariant-entries
invariant-entries l = newer l.info l.entry-iterator ≡ newer l.info l.recency.entries
