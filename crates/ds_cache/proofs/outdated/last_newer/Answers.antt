use Rattle.std.proofs.Common.{rules, ◌≡◌, true, false, sym, subst}
use Rattle.ds_base.specs.Order.{IsKey}
use Rattle.ds_cache.specs.Insert.{outdates}
use Rattle.ds_cache.proofs.Outdates.{reached_lower, walked_older, walked_newer, walked_none, walked_some, used_of}
use Rattle.ds_cache.proofs.outdated.last_newer.Goals.{then-is_newer, else-is_newer}
use Rattle.ds_cache.proofs.outdated.last_newer.Goals as goal

pub overlapping-smaller : goal.overlapping-smaller
overlapping-smaller c = reached_lower _ _ _ c.in-Some.serial _ c.in-Some.ensures c.start_of-below.ensures.key c.start_of-below.ensures.is_key c.overlapping.invariant.1

pub overlapping-preserved : goal.overlapping-preserved
overlapping-preserved c = (
  elim c.if-is_newer.branch [
    | then-is_newer w ↦
        let is_so : outdates c.args.info.now c.in-Some.entry.now ≡ true = search rules in
        walked_newer c.args.info.now _ _ _ _ c.in-Some.serial c.in-Some.entry.now c.requires.index c.in-Some.ensures _ _ _ _ is_so (used_of _ _ _ _ _ _ c.requires.ranked c.in-Some.ensures.there w.last-used.ensures) c.overlapping.invariant.0 c.start_of-below.ensures.key (search rules)
    | else-is_newer w ↦
        let not_so : outdates c.args.info.now c.in-Some.entry.now ≡ false = search rules in
        walked_older c.args.info.now _ _ _ _ c.in-Some.serial c.in-Some.entry.now c.requires.index c.in-Some.ensures _ _ _ not_so c.overlapping.invariant.0 c.start_of-below.ensures.key w.latest-is
  ],
  subst IsKey (sym c.start_of-below.ensures.key) c.start_of-below.ensures.is_key,
)

pub returns-in-Some-latest : goal.returns-in-Some-latest
returns-in-Some-latest c = walked_some c.args.info.now _ _ _ _ c.overlapping.latest (c.in-Some-latest.field-0-0, c.in-Some-latest.generation) c.in-Some-latest.is c.requires.ranked c.requires.distinct c.in_default.ensures c.overlapping.invariant.0

pub returns-in-None : goal.returns-in-None
returns-in-None c = walked_none c.args.info.now _ _ _ c.overlapping.latest c.in-None.is c.requires.distinct c.in_default.ensures c.overlapping.invariant.0
