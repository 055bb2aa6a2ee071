use Rattle.std.proofs.Common.{rules, ◌≡◌, ◌∷◌, None}
use Rattle.ds_base.proofs.KeyOrder.{between_holds}
use Rattle.ds_base.specs.Ordered.{between}
use Rattle.ds_cell.specs.Ask.{Gave, key_of, ask_each}
use Rattle.ds_cell.specs.Requests.{deed_of}
use Rattle.ds_range.specs.Asks.{with_verdict, unless_refused}
use Rattle.ds_range.proofs.Asking.{asked_first, asked_more}
use Rattle.ds_range.proofs.ask.ask_over.Goals as goal

pub cells-init : goal.cells-init
cells-init c =
    let from : c.into_iter-key-iterator.result ≡ between key_of c.args.start.now c.args.end.now c.args.cells.now.entries =
    rw (← between_holds c.args.start.now c.args.end.now c.args.cells.now.entries) (search rules) in
    asked_first (deed_of c.args.request.now c.args.at) (between key_of c.args.start.now c.args.end.now c.args.cells.now.entries) c.into_iter-key-iterator.result c.new-bits.result c.new-writes.result c.new-bits.ensures c.new-writes.ensures from

pub cells-preserved : goal.cells-preserved
cells-preserved c =
    let next : c.cells.key-iterator ≡ (c.in-Some.key.now, c.in-Some.cell.now) ∷ c.next.new.self = search rules in
    let gave : c.in_ok-fault.field-0 ≡ None = search rules in
    let more : unless_refused c.in-Some.key.now None c.add.new.bits c.add.new.writes ≡ with_verdict c.in-Some.key.now c.in_ok-verdict.verdict (Gave c.cells.bits c.cells.writes) = rw gave at c.in_ok-fault.ensures in
    asked_more (deed_of c.args.request.now c.args.at) (c.in-Some.key.now, c.in-Some.cell.now) c.next.new.self (ask_each (deed_of c.args.request.now c.args.at) (between key_of c.args.start.now c.args.end.now c.args.cells.now.entries)) c.cells.bits c.add.new.bits c.cells.writes c.add.new.writes c.in_ok-verdict.verdict (rw next at c.cells.invariant) c.in_ok-verdict.ensures more
