use Rattle.ds_lineage.proofs.Walks.{lineage-added}
use Rattle.ds_lineage.proofs.lineage.Lineage.add.Goals as goal

pub invariant_of-self-2 : goal.invariant_of-self-2
invariant_of-self-2 c =
    lineage-added c.self.inside.nodes.items c.push.new.self.items c.self.inside.greatest c.max-greatest.result c.args.self.now (record { desc = c.args.desc; after = c.args.after }) c.self.invariant c.self.view_is c.requires c.in_ok-push.ensures.items c.max-greatest.ensures
