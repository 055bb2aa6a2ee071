use Rattle.std.proofs.Common.{rules, ◌≡◌, ◌∷◌, ◌++◌, []}
use Rattle.ds_ranges.proofs.Starting.{places-more}
use Rattle.ds_ranges.proofs.begin.first_places.Goals as goal

pub each-preserved : goal.each-preserved
each-preserved c =
    let more : c.push-in-each.new.self.items ≡ c.each.places.items ++ c.each.place ∷ [] = search rules in
    places-more c.each.place c.each.places.items c.push-in-each.new.self.items c.each.invariant more
