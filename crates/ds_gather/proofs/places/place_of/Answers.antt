use Rattle.std.proofs.Common.{sym, subst}
use Rattle.ds_gather.specs.Places.{FoundIf}
use Rattle.ds_gather.proofs.Changing.{found_there, other_there, none_there}
use Rattle.ds_gather.proofs.places.place_of.Goals as goal

pub returns-then-place-pos : goal.returns-then-place-pos
returns-then-place-pos c = found_there c.args.pos c.args.places.now c.place_at-i.result c.in_ok-place.place.now c.requires c.place_at-i.ensures.place c.in_ok-place.ensures.lookup.0 c.in_ok-place.ensures.lookup.1 c.if-place-pos.true

pub returns-else-place-pos : goal.returns-else-place-pos
returns-else-place-pos c = other_there c.args.pos c.args.places.now c.place_at-i.result c.in_ok-place.place.now c.requires c.place_at-i.ensures.place c.in_ok-place.ensures.lookup.1 c.if-place-pos.false

pub returns-in_err-place : goal.returns-in_err-place
returns-in_err-place c =
    subst (FoundIf c.args.pos c.args.places.now) (sym c.from_residual.ensures)
    (none_there c.args.pos c.args.places.now c.place_at-i.result c.requires c.place_at-i.ensures.place c.in_err-place.ensures.lookup.0)
