use Rattle.std.proofs.Common.{rules, ◌≡◌}
use Rattle.ds_cell.specs.Ask.{Gave}
use Rattle.ds_cell.specs.Replies.{body_of}
use Rattle.ds_cell.specs.Requests.{ask_request}
use Rattle.ds_rule.specs.Asking.{at_of}
use Rattle.ds_range.specs.Asks.{wrote_each}
use Rattle.ds_range.proofs.Evaluating.{one_made}
use Rattle.ds_range.proofs.piece.serve_whole.Goals as goal

pub returns-in_ok-body-in-Gave-clause-one : goal.returns-in_ok-body-in-Gave-clause-one
returns-in_ok-body-in-Gave-clause-one c =
    let gave : Gave c.in-Gave.bits c.in-Gave.writes ≡ ask_request c.args.item.now.request (at_of c.args.head.now c.args.item.now.seq.0) c.args.cells.now.entries = search rules in
    let made : c.write_answered.new.cells.entries ≡ wrote_each (at_of c.args.head.now c.args.item.now.seq.0) c.in-Gave.writes c.args.cells.now.entries = search rules in
    let says : c.in_ok-body-in-Gave.body ≡ body_of c.args.item.now.request c.in-Gave.bits = search rules in
    one_made c.args.head.now c.args.item.now c.args.rest c.args.cells.now.entries c.write_answered.new.cells.entries c.args.keys.now c.write_answered.new.keys c.in_ok-body-in-Gave.body c.in-Gave.bits c.in-Gave.writes gave c.ordered.ensures made c.in_ok-body-in-Gave.ensures.keys says
