use Rattle.std.proofs.Common.{rules, sym, ap, ◌∙◌, take, subst, ◌≡◌}
use Rattle.std.proofs.lemmas.List.{take-map}
use Rattle.ds_desc.specs.Descs.{greatest_id}
use Rattle.ds_lineage.specs.Nodes.{descs}
use Rattle.ds_lineage.specs.declared.node.Node.{Node}
use Rattle.ds_lineage.proofs.Walks.{lineage-cut}
use Rattle.ds_lineage.proofs.lineage.Lineage.take_back.Goals as goal

pub invariant_of-self : goal.invariant_of-self
invariant_of-self c =
    lineage-cut c.self.inside.nodes.items c.truncate.new.self.items c.self.inside.greatest c.args.top c.args.count c.self.invariant c.truncate.ensures.items (subst (λ zs. c.args.top ≡ greatest_id (take c.args.count zs)) (sym c.self.view_is) c.requires)

pub returns : goal.returns
returns c = ap (λ zs. descs zs) c.truncate.ensures.items ∙ sym (take-map (λ (x : Node). x.desc) c.args.count c.self.inside.nodes.items) ∙ ap (take c.args.count) c.self.view_is
