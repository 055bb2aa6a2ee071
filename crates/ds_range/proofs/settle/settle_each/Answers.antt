use Rattle.ds_range.proofs.Covering.{among_keys}
use Rattle.ds_range.proofs.Resolving.{each_settled, each_covered, partly_all}
use Rattle.ds_range.proofs.settle.settle_each.Goals as goal

pub returns-clause-ok : goal.returns-clause-ok
returns-clause-ok c = each_settled c.args.txn.0 c.args.commit c.args.keys.now c.args.cells.now.entries c.settle_among.new.cells.entries c.settle_among.result c.requires c.settle_among.ensures.ok

pub returns-clause-covers : goal.returns-clause-covers
returns-clause-covers c = each_covered c.args.txn.0 c.args.commit c.args.keys.now c.args.cells.now.entries c.settle_among.new.cells.entries c.settle_among.result c.requires c.settle_among.ensures.ok

pub returns-clause-keys : goal.returns-clause-keys
returns-clause-keys c = among_keys c.args.txn.0 c.args.commit _ c.args.cells.now.entries c.settle_among.new.cells.entries c.settle_among.ensures.some.1

pub returns-clause-partly : goal.returns-clause-partly
returns-clause-partly c = partly_all c.args.txn.0 c.args.commit _ c.args.cells.now.entries c.settle_among.new.cells.entries c.settle_among.ensures.some.1
