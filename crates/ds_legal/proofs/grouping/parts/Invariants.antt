use Rattle.std.proofs.Common.{◌≡◌, ◌++◌, [], map, drop}
use Rattle.ds_kind.specs.Groups.{groups_from}
use Rattle.ds_kind.specs.Parts.{item_may_join, items_from, part_of}
use Rattle.ds_legal.proofs.grouping.parts.Given as goal

-- the parts so far, with those that the rest makes after the last one, are the parts of all
abbrev pub invariant-loop-i : goal.invariant-loop-i
invariant-loop-i l =
    l.parts ++ map part_of (groups_from (item_may_join l.split_end) l.last (items_from l.i (drop l.i l.requests) (drop l.i l.seqs)))
    ≡ map part_of (groups_from (item_may_join l.split_end) [] (items_from 0 l.requests l.seqs))
