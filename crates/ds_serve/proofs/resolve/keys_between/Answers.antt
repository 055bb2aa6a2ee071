use Rattle.std.proofs.Common.{rules, ◌≡◌, IfOk, subst}
use Rattle.ds_base.proofs.KeyOrder.{between_holds}
use Rattle.ds_base.specs.Ordered.{between}
use Rattle.ds_cell.specs.Ask.{key_of}
use Rattle.ds_serve.specs.Writes.{keys_written}
use Rattle.ds_serve.proofs.resolve.keys_between.Goals as goal

pub returns-then-lt : goal.returns-then-lt
returns-then-lt c =
    let from : c.range.result ≡ between key_of c.args.start.now c.args.end.now c.args.cells.now.entries =
    rw (← between_holds c.args.start.now c.args.end.now c.args.cells.now.entries) (search rules) in
    subst (λ z. IfOk c.keys_written.result (λ ks. ks ≡ keys_written z)) from c.keys_written.ensures
