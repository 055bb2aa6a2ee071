use Rattle.ds_range.proofs.join.put_at.Goals as goal

pub returns-in-Some : goal.returns-in-Some
returns-in-Some c =
    let w = c.get_mut.follows.holds c.args.cell in
    (w.3 c.requires).0
