-- Where an item goes among the parts so far.
use Rattle.std.specs.Prelude.{◌≡◌, Bool, List, ◌∷◌, ◌++◌, map}
use Rattle.ds_kind.specs.declared.batch.Item.{Item}
use Rattle.ds_kind.specs.declared.batch.Part.{Part}
use Rattle.ds_kind.specs.Groups.{groups_from}
use Rattle.ds_kind.specs.Parts.{item_may_join, part_of}

-- the parts that come of a last part which more items may join
abbrev pub parts_from : Bool → List Item → List Item → List Part
parts_from split_end last rest = map part_of (groups_from (item_may_join split_end) last rest)

-- the item was put into the last part, or began another: whatever follows, all parts are the same
abbrev pub IsPlaced : Bool → Item → List Part → List Item → List Part → List Item → Type 0
IsPlaced split_end item parts last parts_after last_after =
    (rest : List Item) → parts_after ++ parts_from split_end last_after rest ≡ parts ++ parts_from split_end last (item ∷ rest)
