use Rattle.std.proofs.Common.{ap, ◌∙◌, ◌++◌, ◌∷◌, []}
use Rattle.ds_part_tests.proofs.Neighbours.{two-joined}
use Rattle.ds_part_tests.proofs.lineage_tests.merged.Goals as goal

pub join-requires : goal.join-requires
join-requires c =
    two-joined c.begin-2.new.self c.in_ok-range.field-0 c.in_ok-range-2.field-0 c.in_ok-range-3.field-0.span
    (c.in_ok-begin-2.ensures.ok ∙ ap (λ zs. zs ++ c.in_ok-range-2.field-0 ∷ []) (c.in_ok-begin.ensures.ok ∙ ap (λ zs. zs ++ c.in_ok-range.field-0 ∷ []) c.new-lineage.ensures))
    c.in_ok-range.ensures c.in_ok-range-2.ensures c.in_ok-range-3.ensures
