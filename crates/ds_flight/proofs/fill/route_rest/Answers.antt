use Rattle.std.proofs.Common.{inl, inr, ◌≡◌, true, false, rules}
use Rattle.ds_iter.proofs.RowSteps.{on_err}
use Rattle.ds_flight.specs.Places.{lies_in_one}
use Rattle.ds_flight.proofs.Filling.{again-counts, contains-seek, found-counts, found-sought, placed-cut, rest-again, rest-cut, rest-not-whole, rest-spent}
use Rattle.ds_flight.proofs.Lessening.{again-lessens, cut-lessens}
use Rattle.ds_flight.proofs.fill.route_rest.Goals as goal

pub returns-in_err-cut_at-in-Found-clause-sought : goal.returns-in_err-cut_at-in-Found-clause-sought
returns-in_err-cut_at-in-Found-clause-sought g c = on_err _ _ (found-sought c.args.dir _ _ c.in_ok-info.field-0 c.in_ok-info.ensures.found)

pub returns-in_err-insert-in-Again-clause-sought : goal.returns-in_err-insert-in-Again-clause-sought
returns-in_err-insert-in-Again-clause-sought g c = on_err _ _ (found-sought c.args.dir _ _ c.in_ok-info.field-0 c.in_ok-info.ensures.found)

pub returns-then-not-lies_in_one-clause-routed : goal.returns-then-not-lies_in_one-clause-routed
returns-then-not-lies_in_one-clause-routed g c =
    let h : lies_in_one c.args.rule.now.whole c.in-Found.info.desc.span ≡ false = search rules in
    rest-not-whole c.args.dir c.args.rule.now.whole _ _ c.args.rest c.in-Found.info c.in-Found.token c.in_ok-info.field-0 c.args.work.now.items c.args.work.now.items c.in-Found.is c.in_ok-info.ensures.found c.in_ok-info.ensures.contains h

pub returns-in_ok-cut_at-in-Found-clause-routed : goal.returns-in_ok-cut_at-in-Found-clause-routed
returns-in_ok-cut_at-in-Found-clause-routed g c =
    let h : lies_in_one c.args.rule.now.whole c.in-Found.info.desc.span ≡ true = search rules in
    let seek = contains-seek c.args.dir c.args.rest c.in-Found.info c.in-Found.token c.in_ok-info.field-0 c.in-Found.is c.requires.ready.0.1 c.in_ok-info.ensures.contains in
    rest-cut c.args.dir c.args.rule.now.whole _ _ c.args.rest c.args.head.now c.in-Found.info c.in-Found.token c.args.at c.in_ok-info.field-0 c.args.work.now.items _ c.in-Found.is c.in_ok-info.ensures.found seek h c.span_known.ensures c.known.ensures c.in_ok-cut_at-in-Found.ensures

pub returns-in_ok-cut_at-in-Found-clause-less : goal.returns-in_ok-cut_at-in-Found-clause-less
returns-in_ok-cut_at-in-Found-clause-less g c =
    let seek = contains-seek c.args.dir c.args.rest c.in-Found.info c.in-Found.token c.in_ok-info.field-0 c.in-Found.is c.requires.ready.0.1 c.in_ok-info.ensures.contains in
    cut-lessens c.args.attempts.now _ c.args.rest c.args.head.now c.in-Found.info c.in-Found.token c.args.at c.args.work.now.items _
    (found-counts c.args.attempts.now _ c.in-Found.info c.in-Found.token c.in_ok-info.field-0 c.in-Found.is c.in_ok-info.ensures.counts)
    c.span_known.ensures c.known.ensures seek c.requires.ready.0.0 c.in_ok-cut_at-in-Found.ensures

pub returns-in_ok-insert-in-Again-clause-routed : goal.returns-in_ok-insert-in-Again-clause-routed
returns-in_ok-insert-in-Again-clause-routed g c =
    rest-again c.args.dir c.args.rule.now.whole _ _ c.args.rest c.args.at c.in_ok-info.field-0 c.args.work.now.items _ c.in-Again.is c.in_ok-info.ensures.found c.in_ok-insert-in-Again.ensures.items

pub returns-in-Spent-clause-routed : goal.returns-in-Spent-clause-routed
returns-in-Spent-clause-routed g c = rest-spent c.args.dir c.args.rule.now.whole _ _ c.args.rest c.in_ok-info.field-0 c.args.work.now.items c.args.work.now.items c.in-Spent.is c.in_ok-info.ensures.found

pub returns-in_ok-insert-in-Again-clause-less : goal.returns-in_ok-insert-in-Again-clause-less
returns-in_ok-insert-in-Again-clause-less g c =
    again-lessens c.args.attempts.now c.route.new.attempts c.args.rest c.args.at c.args.work.now.items c.insert.new.self.items
    (again-counts c.args.attempts.now c.route.new.attempts c.in_ok-info.field-0 c.in-Again.is c.in_ok-info.ensures.counts).0 c.requires.goes_on c.in_ok-insert-in-Again.ensures.items

pub returns-in_ok-cut_at-in-Found-clause-placed : goal.returns-in_ok-cut_at-in-Found-clause-placed
returns-in_ok-cut_at-in-Found-clause-placed g c =
    let seek = contains-seek c.args.dir c.args.rest c.in-Found.info c.in-Found.token c.in_ok-info.field-0 c.in-Found.is c.requires.ready.0.1 c.in_ok-info.ensures.contains in
    inl (placed-cut c.args.head.now c.in-Found.info c.args.rest c.in-Found.token c.args.at c.args.work.now.items _ seek c.span_known.ensures c.known.ensures c.in_ok-cut_at-in-Found.ensures)

pub returns-in_ok-insert-in-Again-clause-placed : goal.returns-in_ok-insert-in-Again-clause-placed
returns-in_ok-insert-in-Again-clause-placed g c = inr c.in_ok-insert-in-Again.ensures.items
