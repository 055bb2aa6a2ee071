use Rattle.ds_iter.proofs.Hits.{hit, hit_sought, hit_contains, hit_kept}
use Rattle.ds_iter.proofs.seeking.seek.Goals as goal

pub returns-in-Some-clause-sought : goal.returns-in-Some-clause-sought
returns-in-Some-clause-sought g c =
    hit_sought {M = g.row.M.Denot} g.M.Meta.looked c.args.dir c.args.key.now c.args.cache.now c.find.new.self c.args.meta.now c.found_entry.result
    (hit c.args.dir c.args.key.now c.args.cache.now c.find.new.self c.in-Some.token c.found_entry.result c.in-Some.ensures.token c.in-Some.ensures.cache c.found_entry.ensures)

pub returns-in-Some-clause-contains : goal.returns-in-Some-clause-contains
returns-in-Some-clause-contains g c =
    hit_contains c.args.dir c.args.key.now c.args.cache.now c.find.new.self c.found_entry.result
    (hit c.args.dir c.args.key.now c.args.cache.now c.find.new.self c.in-Some.token c.found_entry.result c.in-Some.ensures.token c.in-Some.ensures.cache c.found_entry.ensures)

pub returns-in-Some-clause-loses : goal.returns-in-Some-clause-loses
returns-in-Some-clause-loses g c =
    hit_kept _ c.args.dir c.args.key.now c.args.cache.now c.find.new.self c.found_entry.result
    (hit c.args.dir c.args.key.now c.args.cache.now c.find.new.self c.in-Some.token c.found_entry.result c.in-Some.ensures.token c.in-Some.ensures.cache c.found_entry.ensures)
