use Rattle.std.proofs.Common.{sym, ap, subst, ◌∙◌}
use Rattle.ds_gather.specs.Numbered.{came_in, AreNumbered}
use Rattle.ds_gather.specs.Places.{IsReady, wanted_in}
use Rattle.ds_gather.proofs.Ranking.{came_take, numbered_take}
use Rattle.ds_gather.proofs.Ready.{ready_take}
use Rattle.ds_gather.proofs.Receiving.{taken_back}
use Rattle.ds_gather.proofs.gather.Gather.back_to.Goals as goal

pub invariant_of-self : goal.invariant_of-self
invariant_of-self c =
    let got = c.self.inside.got.items in
    let ps = c.self.inside.places.items in
    let n = c.args.count in (
      subst (λ g. IsReady g ps) (sym (ap came_in c.truncate.ensures.items ∙ came_take n got)) (ready_take n (came_in got) ps c.self.invariant.0),
      c.self.invariant.1,
      c.self.invariant.2,
      subst AreNumbered (sym c.truncate.ensures.items) (numbered_take n got c.self.invariant.3),
    )

pub returns : goal.returns
returns c = taken_back c.args.self.now (wanted_in c.self.inside.places.items) c.self.inside.got.items _ c.args.count c.self.view_is c.truncate.ensures.items
