-- Worked examples.
use Rattle.std.specs.Prelude.{◌≡◌, [], ◌∷◌, Some, None, Ok, Err, negsuc, refl}
use Rattle.std.specs.Str.{chars}
use Rattle.serde_json.specs.Data.{unsigned, negative, null, number, string, array, no_items, item}
use Rattle.ds_fields.specs.declared.fault.FaultKind.TheVariants.{Shape}
use Rattle.ds_fields.specs.Scalars.{key_of, number_of, whole_of, value_of, value_or_null_of}
use Rattle.ds_fields.specs.Lists.{list_of, nodes_of}

-- the bytes of a key: U+00FF stands for one, and U+0100 for none
a_key : key_of (string (97 ∷ 195 ∷ 191 ∷ [])) ≡ Ok (Some (97 ∷ 255 ∷ []))
unfolding key_of chars
a_key = refl

not_a_byte : key_of (string (196 ∷ 128 ∷ [])) ≡ Err Shape
unfolding key_of chars
not_a_byte = refl

-- the bound is a key, and nothing above it is
the_bound : key_of (string (195 ∷ 191 ∷ 195 ∷ 191 ∷ [])) ≡ Ok (Some (255 ∷ 255 ∷ []))
unfolding key_of chars
the_bound = refl

above_the_bound : key_of (string (195 ∷ 191 ∷ 195 ∷ 191 ∷ 0 ∷ [])) ≡ Ok None
unfolding key_of chars
above_the_bound = refl

-- a number that has no room is out of range; a text is no number
a_byte : number_of 8 (number (unsigned 255)) ≡ Ok (Some 255)
unfolding number_of whole_of
a_byte = refl

no_byte : number_of 8 (number (unsigned 256)) ≡ Ok None
unfolding number_of whole_of
no_byte = refl

below_nought : number_of 8 (number (negative (negsuc 0))) ≡ Ok None
unfolding number_of whole_of
below_nought = refl

a_text_is_no_number : number_of 8 (string []) ≡ Err Shape
unfolding number_of whole_of
a_text_is_no_number = refl

-- null is a value only where it is allowed
null_is_no_value : value_of null ≡ Err Shape
unfolding value_of
null_is_no_value = refl

null_for_none : value_or_null_of null ≡ Ok (Some None)
unfolding value_or_null_of
null_for_none = refl

too_great_for_a_value : value_of (number (unsigned 9223372036854775808)) ≡ Ok None
unfolding value_of
too_great_for_a_value = refl

-- another shape anywhere in a list comes before a node that stands twice
two_nodes : nodes_of (array (item (number (unsigned 1)) (item (number (unsigned 2)) no_items))) ≡ Ok (Some (1 ∷ 2 ∷ []))
unfolding nodes_of list_of number_of whole_of
two_nodes = refl

a_node_twice : nodes_of (array (item (number (unsigned 1)) (item (number (unsigned 1)) no_items))) ≡ Ok None
unfolding nodes_of list_of number_of whole_of
a_node_twice = refl

shape_first : nodes_of (array (item (number (unsigned 1)) (item (number (unsigned 1)) (item null no_items)))) ≡ Err Shape
unfolding nodes_of list_of number_of whole_of
shape_first = refl
