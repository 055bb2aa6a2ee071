use Rattle.std.proofs.Common.{rules, ◌≡◌, ◌++◌, ◌∷◌, []}
use Rattle.ds_range.proofs.Maps.{put_more}
use Rattle.ds_range.proofs.keep.put_all_back.Goals as goal

pub kept-preserved : goal.kept-preserved
kept-preserved c =
    let is : c.kept.kept.items ≡ c.pop.new.self.items ++ (c.in-Some.key, c.in-Some.taken) ∷ [] = search rules in
    put_more c.pop.new.self.items c.kept.kept.items (c.in-Some.key, c.in-Some.taken) c.kept.cells.entries c.put_back.new.cells.entries _ c.kept.invariant is c.put_back.ensures
