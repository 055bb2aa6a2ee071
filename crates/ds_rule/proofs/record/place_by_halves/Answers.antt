use Rattle.ds_rule.specs.Records.{record_number}
use Rattle.ds_rule.proofs.Numbered.{from-here, from-other, from-past}
use Rattle.ds_rule.proofs.record.place_by_halves.Goals as goal

pub returns-then-found-number : goal.returns-then-found-number
returns-then-found-number c =
    from-here record_number c.args.number.0 c.args.items.now c.first_from-at.result c.in-Some.found.now c.first_from-at.ensures c.in-Some.ensures c.if-found-number.true

pub returns-else-found-number : goal.returns-else-found-number
returns-else-found-number c =
    from-other record_number c.args.number.0 c.args.items.now c.first_from-at.result c.in-Some.found.now c.requires c.first_from-at.ensures c.in-Some.ensures c.if-found-number.false

pub returns-in-None : goal.returns-in-None
returns-in-None c =
    from-past record_number c.args.number.0 c.args.items.now c.first_from-at.result c.first_from-at.ensures c.in-None.ensures
