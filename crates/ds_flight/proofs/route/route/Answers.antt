use Rattle.std.proofs.Common.{◌≡◌, Some, sym, subst}
use Rattle.ds_cover.specs.Cuts.{seek_key}
use Rattle.ds_iter.proofs.RowSteps.{on_err}
use Rattle.ds_flight.proofs.Ahead.{seek-ahead}
use Rattle.ds_flight.proofs.Routing.{route-again, route-found, route-sought}
use Rattle.ds_flight.proofs.route.route.Goals as goal

pub seek-requires-2 : goal.seek-requires-2
seek-requires-2 g c = seek-ahead c.args.dir c.args.rest.now.items c.in-Some.key.now c.known.ensures (subst (λ d. seek_key d c.args.rest.now.items ≡ Some c.in-Some.key.now) c.requires.direction (sym c.in-Some.ensures.key))

pub returns-in_err-info-clause-sought : goal.returns-in_err-info-clause-sought
returns-in_err-info-clause-sought g c =
    let ahead = seek-ahead c.args.dir c.args.rest.now.items c.in-Some.key.now c.known.ensures (subst (λ d. seek_key d c.args.rest.now.items ≡ Some c.in-Some.key.now) c.requires.direction (sym c.in-Some.ensures.key)) in
    on_err c.from_residual.result _ (route-sought {M = g.row.W.Denot} g.W.Meta.looked g.W.Wire.state g.met.W.Wire.look_steps c.args.dir c.args.attempts.now c.in-Some.key.now c.args.cache.now c.seek-2.new.cache c.args.wire.now c.seek-2.new.meta c.requires.goes_on ahead c.in_err-info.ensures.begun)

pub returns-in-Found-clause-found : goal.returns-in-Found-clause-found
returns-in-Found-clause-found g c =
    let ahead = seek-ahead c.args.dir c.args.rest.now.items c.in-Some.key.now c.known.ensures (subst (λ d. seek_key d c.args.rest.now.items ≡ Some c.in-Some.key.now) c.requires.direction (sym c.in-Some.ensures.key)) in
    route-found {M = g.row.W.Denot} g.W.Meta.looked g.W.Wire.state g.met.W.Wire.look_steps c.args.dir c.args.attempts.now c.in-Some.key.now c.args.cache.now c.seek-2.new.cache c.args.wire.now c.seek-2.new.meta c.in_ok-info.field-0 c.in-Found.info c.in-Found.token c.requires.goes_on ahead c.in-Found.is c.in_ok-info.ensures.sought

pub returns-then-lose-clause-found : goal.returns-then-lose-clause-found
returns-then-lose-clause-found g c =
    let ahead = seek-ahead c.args.dir c.args.rest.now.items c.in-Some.key.now c.known.ensures (subst (λ d. seek_key d c.args.rest.now.items ≡ Some c.in-Some.key.now) c.requires.direction (sym c.in-Some.ensures.key)) in
    route-again {M = g.row.W.Denot} g.W.Meta.looked g.W.Wire.state g.met.W.Wire.look_steps c.args.dir c.args.attempts.now c.lose.new.self c.in-Some.key.now c.args.cache.now c.seek-2.new.cache c.args.wire.now c.seek-2.new.meta c.in_ok-info.field-0 c.requires.goes_on ahead c.in-Lost.is c.lose.ensures.counts c.in_ok-info.ensures.sought

pub returns-else-lose-clause-found : goal.returns-else-lose-clause-found
returns-else-lose-clause-found g c =
    let ahead = seek-ahead c.args.dir c.args.rest.now.items c.in-Some.key.now c.known.ensures (subst (λ d. seek_key d c.args.rest.now.items ≡ Some c.in-Some.key.now) c.requires.direction (sym c.in-Some.ensures.key)) in
    route-again {M = g.row.W.Denot} g.W.Meta.looked g.W.Wire.state g.met.W.Wire.look_steps c.args.dir c.args.attempts.now c.lose.new.self c.in-Some.key.now c.args.cache.now c.seek-2.new.cache c.args.wire.now c.seek-2.new.meta c.in_ok-info.field-0 c.requires.goes_on ahead c.in-Lost.is c.lose.ensures.counts c.in_ok-info.ensures.sought
