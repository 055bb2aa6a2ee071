use Rattle.ds_range.specs.Joins.{Among, SameBeside}
use Rattle.ds_range.proofs.Joining.{Begun}
use Rattle.ds_range.proofs.join.begin_each.Given as goal

-- each key is still to come or begun, and at all other keys nothing changed
abbrev pub invariant-from : goal.invariant-from
invariant-from l = record {
  among : Among l.key-iterator l.from.entries;
  begun : Begun l.from.entries l.key-iterator l.to.entries;
  beside : SameBeside l.from.entries l.to.entries l.initial.to.entries;
}
