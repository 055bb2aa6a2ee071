use Rattle.std.proofs.Common.{rules}
use Rattle.ds_lineage.proofs.Walks.{lineage-parted, parted-view}
use Rattle.ds_lineage.proofs.lineage.Lineage.part.Goals as goal

pub invariant_of-self-2 : goal.invariant_of-self-2
invariant_of-self-2 c =
    lineage-parted c.self.inside.nodes.items c.push_reserved.new.self.items c.push_reserved-2.new.self.items c.self.inside.greatest c.max-with_left.result c.max-with_both.result c.args.self.now c.args.left c.args.right c.args.before c.self.invariant c.self.view_is c.requires.left c.requires.right c.requires.apart (search rules) (search rules) (search rules) (search rules)

pub returns-clause-ok : goal.returns-clause-ok
returns-clause-ok c =
    parted-view c.self.inside.nodes.items c.push_reserved.new.self.items c.push_reserved-2.new.self.items c.args.self.now c.args.left c.args.right c.args.before c.self.view_is (search rules) (search rules)
