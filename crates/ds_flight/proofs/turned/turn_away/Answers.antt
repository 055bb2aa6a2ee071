use Rattle.ds_flight.proofs.Turning.{learns-begun, learns-evicted, learns-lease, learns-rows}
use Rattle.ds_flight.proofs.turned.turn_away.Goals as goal

pub returns-in_err-insert-in-SameRoute-clause-learns : goal.returns-in_err-insert-in-SameRoute-clause-learns
returns-in_err-insert-in-SameRoute-clause-learns c = learns-lease c.args.flying.token c.args.refusal c.args.cache.now c.learn.new.cache c.learn.ensures

pub returns-in_ok-insert-in-SameRoute-clause-learns : goal.returns-in_ok-insert-in-SameRoute-clause-learns
returns-in_ok-insert-in-SameRoute-clause-learns c = learns-lease c.args.flying.token c.args.refusal c.args.cache.now c.learn.new.cache c.learn.ensures

pub returns-in-Exhausted-clause-learns : goal.returns-in-Exhausted-clause-learns
returns-in-Exhausted-clause-learns c = learns-lease c.args.flying.token c.args.refusal c.args.cache.now c.learn.new.cache c.learn.ensures

pub returns-in_err-relook-in-Relook-clause-learns : goal.returns-in_err-relook-in-Relook-clause-learns
returns-in_err-relook-in-Relook-clause-learns c = learns-evicted c.args.flying.token c.args.refusal c.args.cache.now c.learn.new.cache c.relook.new.cache c.learn.ensures c.relook.ensures.gone

pub returns-in_ok-relook-in-Relook-clause-learns : goal.returns-in_ok-relook-in-Relook-clause-learns
returns-in_ok-relook-in-Relook-clause-learns c = learns-evicted c.args.flying.token c.args.refusal c.args.cache.now c.learn.new.cache c.relook.new.cache c.learn.ensures c.relook.ensures.gone

pub returns-in_err-recut-in-Recut-clause-learns : goal.returns-in_err-recut-in-Recut-clause-learns
returns-in_err-recut-in-Recut-clause-learns c =
    learns-begun c.args.flying.token c.args.refusal c.in-Mismatch.infos c.args.cache.now c.learn.new.cache c.recut.new.cache c.in-Mismatch.is c.learn.ensures c.in_err-recut-in-Recut.ensures.begun

pub returns-in_ok-recut-in-Recut-clause-learns : goal.returns-in_ok-recut-in-Recut-clause-learns
returns-in_ok-recut-in-Recut-clause-learns c =
    learns-rows c.args.flying.token c.args.refusal c.in-Mismatch.infos c.args.cache.now c.learn.new.cache c.recut.new.cache c.in-Mismatch.is c.learn.ensures c.in_ok-recut-in-Recut.ensures.rows
