use Rattle.std.proofs.Common.{◌∷◌}
use Rattle.ds_flight.specs.Fills.{IsReady}
use Rattle.ds_flight.specs.declared.work.Task.TheVariants.{Rest}
use Rattle.ds_flight.proofs.Queueing.{queue-routed}
use Rattle.ds_flight.proofs.Rests.{lessens-out, not-routed, rest-out, rest-within, rests-out}
use Rattle.ds_flight.proofs.Waiting.{few-out}
use Rattle.ds_flight.proofs.Working.{each-permuted}
use Rattle.ds_flight.proofs.fill.route_at.Goals as goal

pub route_rest-requires-clause-place : goal.route_rest-requires-clause-place
route_rest-requires-clause-place g c = rest-within c.args.work.now.items c.remove.new.self.items c.args.at c.remove.result c.requires.place c.remove.ensures.items

pub route_rest-requires-clause-ready : goal.route_rest-requires-clause-ready
route_rest-requires-clause-ready g c =
    each-permuted (IsReady c.args.dir) c.args.work.now.items (Rest c.in-Rest.rest ∷ c.remove.new.self.items)
    (rest-out c.args.work.now.items c.remove.new.self.items c.args.at c.remove.result c.in-Rest.rest c.requires.place c.remove.ensures.value c.remove.ensures.items c.in-Rest.is) c.requires.ready

pub unreachable-requires : goal.unreachable-requires
unreachable-requires g c = not-routed c.args.work.now.items c.args.at c.remove.result _ c.requires.place c.remove.ensures.value c.in-Routed.is

pub returns-clause-routed : goal.returns-clause-routed
returns-clause-routed g c =
    rests-out c.args.dir c.args.rule.now.whole _ _ c.args.work.now.items (Rest c.in-Rest.rest ∷ c.remove.new.self.items) _ c.route_rest.result
    (rest-out c.args.work.now.items c.remove.new.self.items c.args.at c.remove.result c.in-Rest.rest c.requires.place c.remove.ensures.value c.remove.ensures.items c.in-Rest.is) c.route_rest.ensures.routed

pub returns-clause-less : goal.returns-clause-less
returns-clause-less g c =
    lessens-out c.args.attempts.now _ c.args.work.now.items (Rest c.in-Rest.rest ∷ c.remove.new.self.items) _ c.route_rest.result
    (rest-out c.args.work.now.items c.remove.new.self.items c.args.at c.remove.result c.in-Rest.rest c.requires.place c.remove.ensures.value c.remove.ensures.items c.in-Rest.is) c.route_rest.ensures.less

pub returns-clause-few : goal.returns-clause-few
returns-clause-few g c =
    few-out c.args.work.now.items (Rest c.in-Rest.rest ∷ c.remove.new.self.items) c.route_rest.new.work.items c.route_rest.result
    (rest-out c.args.work.now.items c.remove.new.self.items c.args.at c.remove.result c.in-Rest.rest c.requires.place c.remove.ensures.value c.remove.ensures.items c.in-Rest.is) c.route_rest.ensures.few

pub returns-clause-queue : goal.returns-clause-queue
returns-clause-queue g c =
    queue-routed c.args.dir c.in-Rest.rest c.args.at c.args.work.now.items c.remove.new.self.items c.route_rest.new.work.items c.remove.result c.route_rest.result
    c.requires.place c.remove.ensures.value c.remove.ensures.items c.in-Rest.is
    (each-permuted (IsReady c.args.dir) c.args.work.now.items (Rest c.in-Rest.rest ∷ c.remove.new.self.items)
    (rest-out c.args.work.now.items c.remove.new.self.items c.args.at c.remove.result c.in-Rest.rest c.requires.place c.remove.ensures.value c.remove.ensures.items c.in-Rest.is) c.requires.ready).0
    c.route_rest.ensures.placed
