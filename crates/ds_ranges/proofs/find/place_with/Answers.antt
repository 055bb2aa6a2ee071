use Rattle.std.proofs.Common.{◌≡◌, [], sym, subst, true}
use Rattle.ds_rule.specs.Pieces.{Each}
use Rattle.ds_rule.specs.World.{has_id, holds_key}
use Rattle.ds_ranges.proofs.Finding.{none-noted, with-id}
use Rattle.ds_ranges.proofs.find.place_with.Goals as goal

pub place_from-requires-clause-over : goal.place_from-requires-clause-over
place_from-requires-clause-over c =
    subst (λ k. Each (λ r. has_id c.args.id r ≡ true → holds_key k r ≡ true) c.args.ranges.now) (sym c.start_of.ensures)
    (with-id c.args.places.now c.args.lineage.now c.args.id c.in-Some.desc.now [] c.args.ranges.now (sym c.in-Some.ensures) c.requires.keeps.tiled c.requires.own)

pub returns-in-None-clause-place : goal.returns-in-None-clause-place
returns-in-None-clause-place c = none-noted c.args.places.now c.args.lineage.now c.args.id c.args.ranges.now c.in-None.ensures c.requires.own
