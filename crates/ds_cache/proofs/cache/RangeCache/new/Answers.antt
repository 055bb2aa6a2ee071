use Rattle.std.proofs.Common.{rules, ◌≡◌, ◌+◌, []}
use Rattle.ds_cache.proofs.Added.{sound_empty, index_empty}
use Rattle.ds_cache.proofs.cache.RangeCache.new.Goals as goal

pub invariant_of-result : goal.invariant_of-result
invariant_of-result c =
    let empty : c.in_ok-sparse.field-0.entries ≡ [] = search rules in
    let cap : c.in_ok-sparse.field-0.cap ≡ c.args.cap + 1 = search rules in
    (sound_empty _ _ empty c.requires, index_empty _ _ empty c.new-2.ensures.empty, cap, c.new-3.ensures _ empty)
