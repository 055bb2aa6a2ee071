use Rattle.std.proofs.Common.{◌<◌, ap, arith, ◌≡◌, ◌∙◌}
use Rattle.ds_iter.proofs.RowSteps.{on_err}
use Rattle.ds_flight.specs.Places.{waiting}
use Rattle.ds_flight.specs.declared.fill.Filling.TheVariants.{NotWhole, Spent}
use Rattle.ds_flight.proofs.Rests.{smaller, so-ended, so-first, so-more, sought-then}
use Rattle.ds_flight.proofs.fill.fill.Goals as goal

pub rests-init : goal.rests-init
rests-init g c = so-first c.args.most c.args.dir c.args.rule.now.whole _ c.args.work.now.items c.requires.ready c.requires.goes_on

pub rests-smaller : goal.rests-smaller
rests-smaller g c = smaller c.rests.attempts _ c.rests.work.items _ c.in_ok-route_at.field-0 c.in-On.is c.in_ok-route_at.ensures.less

pub rests-preserved : goal.rests-preserved
rests-preserved g c =
    let low : c.routed_count.result < c.args.most = c.rests-test.true in
    let same : c.routed_count.result ≡ waiting c.rests.work.items = c.routed_count.ensures ∙ ap waiting c.as_slice.ensures.value in
    let room : waiting c.rests.work.items < c.args.most = omega (arith, low, same) in
    so-more c.args.most c.args.dir c.args.rule.now.whole _ _ _ c.args.work.now.items c.rests.work.items _ c.in_ok-route_at.field-0 c.rests.invariant c.in-On.is c.in_ok-route_at.ensures.routed c.in_ok-route_at.ensures.ready c.in_ok-route_at.ensures.counts c.in_ok-route_at.ensures.less room c.in_ok-route_at.ensures.few c.in_ok-route_at.ensures.queue

pub returns-in_err-route_at-clause-sought : goal.returns-in_err-route_at-clause-sought
returns-in_err-route_at-clause-sought g c = on_err _ _ (sought-then c.args.dir c.args.rule.now.whole _ _ _ c.args.work.now.items c.rests.work.items c.rests.invariant.routed c.in_err-route_at.ensures.sought)

pub returns-in-NotWhole-clause-routed : goal.returns-in-NotWhole-clause-routed
returns-in-NotWhole-clause-routed g c =
    so-ended c.args.most c.args.dir c.args.rule.now.whole _ _ _ c.args.work.now.items c.rests.work.items _ c.in_ok-route_at.field-0 (NotWhole c.in-NotWhole.desc) c.rests.invariant c.in-NotWhole.is c.in_ok-route_at.ensures.routed

pub returns-in-Spent-clause-routed : goal.returns-in-Spent-clause-routed
returns-in-Spent-clause-routed g c =
    so-ended c.args.most c.args.dir c.args.rule.now.whole _ _ _ c.args.work.now.items c.rests.work.items _ c.in_ok-route_at.field-0 Spent c.rests.invariant c.in-Spent.is c.in_ok-route_at.ensures.routed
