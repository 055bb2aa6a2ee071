use Rattle.std.proofs.Common.{◌≤◌, length, arith, ap, ◌∙◌}
use Rattle.ds_range.specs.Covers.{settled_among}
use Rattle.ds_range.proofs.Covering.{among_first, among_take, take_whole}
use Rattle.ds_range.proofs.settle.settle_among.Goals as goal

pub keys-init : goal.keys-init
keys-init c = among_first c.args.txn.0 c.args.commit c.args.cells.now.entries

pub keys-preserved : goal.keys-preserved
keys-preserved c = among_take c.args.txn.0 c.args.commit c.args.keys.now c.keys.key-index c.key-item.result c.args.cells.now.entries c.keys.cells.entries c.settle_at.new.cells.entries c.keys.invariant c.keys-test.true c.key-item.is c.in_ok-settle_at.ensures.ok

pub returns-clause-ok : goal.returns-clause-ok
returns-clause-ok c =
    let all : length c.args.keys.now ≤ c.keys.key-index = omega arith in
    c.keys.invariant ∙ ap (λ ks. settled_among c.args.txn.0 c.args.commit ks c.args.cells.now.entries) (take_whole c.keys.key-index c.args.keys.now all)

pub returns-clause-some : goal.returns-clause-some
returns-clause-some c = (c.keys.key-index, c.keys.invariant)

pub returns-in_err-settle_at-clause-some : goal.returns-in_err-settle_at-clause-some
returns-in_err-settle_at-clause-some c = (c.keys.key-index, c.in_err-settle_at.ensures.err ∙ c.keys.invariant)
