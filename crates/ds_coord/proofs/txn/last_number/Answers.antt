use Rattle.std.proofs.Common.{◌<◌, ◌-◌, length, arith}
use Rattle.ds_coord.proofs.Numbering.{last-at}
use Rattle.ds_coord.proofs.txn.last_number.Goals as goal

pub returns-in-Some : goal.returns-in-Some
returns-in-Some c =
    let some : 0 < length c.args.seqs.now = c.in-Some.ensures.item.3.0 in
    last-at c.args.last.0 (length c.args.seqs.now - 1) c.in-Some.seq.now c.args.seqs.now (omega (arith, some)) c.in-Some.ensures.value
