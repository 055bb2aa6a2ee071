use Rattle.std.proofs.Common.{refl}
use Rattle.ds_ranges.specs.Sound.{bare}
use Rattle.ds_sim.proofs.Begins.{first-looked}
use Rattle.ds_sim.proofs.sim.look_up.Goals as goal

pub returns-clause-looks : goal.returns-clause-looks
returns-clause-looks c = record {
  infos = c.in_ok-infos.infos;
  rows = refl;
  are = c.in_ok-infos.ensures;
  first = first-looked c.args.dir c.args.key.now c.args.ranges.now c.in_ok-infos.infos (c.known.ensures bare) c.bytes.ensures.key c.requires.ahead c.in_ok-infos.ensures;
}
