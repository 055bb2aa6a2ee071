use Rattle.std.proofs.Common.{rules, ◌≡◌, ◌==◌, ◌++◌, ◌∷◌, [], false}
use Rattle.std.specs.List.{list_any}
use Rattle.ds_cell.proofs.TakenFacts.{noted_either}
use Rattle.ds_cell.proofs.versions.make_noted.Goals as goal

pub returns-clause-back : goal.returns-clause-back
returns-clause-back c =
    let free : list_any (λ u. u.stamp.0 == c.args.version.stamp.0) c.args.versions.now.items ≡ false = search rules in
    let more : c.push.new.self ≡ c.args.stamps.now ++ c.args.version.stamp ∷ [] = search rules in
    noted_either c.args.stamps.now c.push.new.self c.args.versions.now.items c.make.new.versions.items c.args.version c.make.result free more c.make.ensures.ok c.make.ensures.err
