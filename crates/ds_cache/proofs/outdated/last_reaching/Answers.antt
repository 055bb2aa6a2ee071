use Rattle.std.proofs.Common.{rules, ◌≡◌, Some, false}
use Rattle.ds_base.specs.Order.{key_lt}
use Rattle.ds_cache.specs.Entries.{at_serial}
use Rattle.ds_cache.proofs.Outdates.{last_of, none_further}
use Rattle.ds_cache.proofs.outdated.last_reaching.Goals as goal

pub returns-else-lt : goal.returns-else-lt
returns-else-lt c =
    let there : at_serial c.in-Some.last c.args.recency.now.entries ≡ Some c.in-Some-peek.entry.now = search rules in
    let up : key_lt c.args.info.now.desc.span.start c.in-Some-peek.entry.now.desc.span.end ≡ false = search rules in
    none_further c.args.info.now c.args.below.now _ c.in-Some.last _ c.requires.apart c.requires.spans (last_of c.args.below.now _ _ c.in-Some.last _ c.requires.index c.in-Some.ensures there) up
