use Rattle.std.proofs.Common.{◌≡◌, Some, refl, slice_get, subst}
use Rattle.ds_sim.proofs.Looking.{looks-armed}
use Rattle.ds_sim.proofs.sim.look_armed.Goals as goal

pub returns-clause-looks : goal.returns-clause-looks
returns-clause-looks c =
    let at : slice_get c.args.armed.now.items c.args.at ≡ Some c.desc_at.result.now = subst (λ z. slice_get z c.args.at ≡ Some c.desc_at.result.now) c.as_slice.ensures.value c.desc_at.ensures in
    looks-armed c.args.key.now c.args.dir c.args.armed.now.items c.take_away.new.armed.items c.args.at c.desc_at.result.now c.in_ok-infos.infos _ c.requires.armed at c.in_ok-infos.ensures refl c.take_away.ensures
