use Rattle.std.proofs.Common.{rules, ◌≡◌}
use Rattle.std.specs.Cmp.Lexicographic.{nat_list_cmp_total}
use Rattle.std.specs.Ordering.{is_lt}
use Rattle.std.proofs.lemmas.List.Sorted.{answers_always, ranks_by}
use Rattle.ds_gather.specs.Numbered.{rank}
use Rattle.ds_gather.proofs.Ranking.{by_rank, sorted_so}
use Rattle.ds_gather.proofs.came.sort.Goals as goal

pub returns : goal.returns
returns c =
    let sorted = c.sort_unstable_by.ensures.sorted by_rank (ranks_by nat_list_cmp_total rank) (answers_always _ (λ a r. is_lt r ≡ by_rank a.0.now a.1.0.now) _ (λ f a r f' k. search rules)) in
    sorted_so _ _ c.requires c.sort_unstable_by.ensures.permutation sorted
