-- Objects of one member, and lists of two or three.
use Rattle.std.specs.Prelude.{ℕ, List, Option, Some, None, option_and_then}
use Rattle.serde_json.specs.Data.{Data, Items, no_items, item, Members, no_members, member}
use Rattle.serde_json.specs.Find.{as_array, as_object}

-- the name and the value of the one member
abbrev pub sole_member : Members → Option (List ℕ × Data)
sole_member no_members = None
sole_member (member k d no_members) = Some (k, d)
sole_member (member k d (member l e ms)) = None

abbrev pub sole : Data → Option (List ℕ × Data)
sole d = option_and_then sole_member (as_object d)

abbrev pub pair_items : Items → Option (Data × Data)
pair_items no_items = None
pair_items (item a no_items) = None
pair_items (item a (item b no_items)) = Some (a, b)
pair_items (item a (item b (item c ds))) = None

abbrev pub pair : Data → Option (Data × Data)
pair d = option_and_then pair_items (as_array d)

abbrev pub triple_items : Items → Option (Data × Data × Data)
triple_items no_items = None
triple_items (item a no_items) = None
triple_items (item a (item b no_items)) = None
triple_items (item a (item b (item c no_items))) = Some (a, b, c)
triple_items (item a (item b (item c (item d ds)))) = None

abbrev pub triple : Data → Option (Data × Data × Data)
triple d = option_and_then triple_items (as_array d)
