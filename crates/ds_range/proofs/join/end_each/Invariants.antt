use Rattle.ds_range.specs.Joins.{Among, SameBeside}
use Rattle.ds_range.proofs.Joining.{Gone}
use Rattle.ds_range.proofs.join.end_each.Given as goal

-- each key is still to come or gone, and at all other keys nothing changed
abbrev pub invariant-from : goal.invariant-from
invariant-from l = record {
  among : Among l.key-iterator l.from.entries;
  gone : Gone l.from.entries l.key-iterator l.to.entries;
  beside : SameBeside l.from.entries l.to.entries l.initial.to.entries;
}
