use Rattle.std.proofs.Common.{◌≡◌}
use Rattle.ds_base.specs.Ordered.{between}
use Rattle.ds_cell.specs.Ask.{Gave, key_of, ask_each, joined}
use Rattle.ds_cell.specs.Requests.{deed_of}
use Rattle.ds_range.proofs.ask.ask_over.Given as goal

-- what was gathered, with what the keys still to come give
abbrev pub invariant-cells : goal.invariant-cells
invariant-cells l = joined (Gave l.bits l.writes) (ask_each (deed_of l.request l.at) l.key-iterator) ≡ ask_each (deed_of l.request l.at) (between key_of l.start l.end l.cells.entries)
