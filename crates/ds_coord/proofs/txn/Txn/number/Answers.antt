use Rattle.std.proofs.Common.{ap, ◌∙◌}
use Rattle.ds_kind.specs.Numbers.{last_number}
use Rattle.ds_coord.proofs.Numbering.{numbered-so}
use Rattle.ds_coord.proofs.txn.Txn.number.Goals as goal

pub returns-clause-given : goal.returns-clause-given
returns-clause-given c =
    numbered-so c.args.self.now c.last_number-self.result c.args.legal.now.requests
    (c.last_number-self.ensures ∙ ap (last_number c.args.self.now.last.0) c.as_slice.ensures ∙ c.in_ok-seqs.ensures.ends)
