use Rattle.ds_lineage.proofs.lineage.Lineage.begin.Goals as goal

pub add-requires : goal.add-requires
add-requires c = c.requires
