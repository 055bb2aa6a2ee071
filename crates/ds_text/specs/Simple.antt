-- The JSON of numbers, keys, values and lists.
use Rattle.std.specs.Prelude.{ℕ, List, [], ◌∷◌, map, codes, Option, Some, None}
use Rattle.std.specs.Str.{encode_utf8_all}
use Rattle.serde_json.specs.Data.{Data, Members, null, number, unsigned, string, array, object, member, no_members, put}
use Rattle.serde_json.specs.Find.{of_integer}
use Rattle.serde_json.specs.View.{items_of}
use Rattle.ds_base.specs.Order.{Extent}
use Rattle.ds_base.specs.declared.value.Dir.{Dir}
use Rattle.ds_base.specs.declared.value.Dir.TheVariants.{Forward, Reverse}
use Rattle.ds_base.specs.declared.value.Value.{Value}
use Rattle.ds_base.specs.declared.value.Value.TheVariants.{Text, Int}

abbrev pub nat : ℕ → Data
nat n = number (unsigned n)

-- a key's bytes, each as the character of its number
abbrev pub key_data : List ℕ → Data
key_data k = string (encode_utf8_all k)

abbrev pub value_data : Value → Data
value_data (Text t) = string t
value_data (Int z) = number (of_integer z)

-- null stands for none
abbrev pub option_data : {A : Type 0} → (A → Data) → Option A → Data
option_data f None = null
option_data f (Some a) = f a

abbrev pub list_data : {A : Type 0} → (A → Data) → List A → Data
list_data f xs = array (items_of (map f xs))

-- these, one after another
abbrev pub tuple : List Data → Data
tuple ds = array (items_of ds)

abbrev pub span_data : Extent → Data
span_data s = tuple (key_data s.start ∷ key_data s.end ∷ [])

abbrev pub dir_text : Dir → List ℕ
dir_text Forward = codes "forward"
dir_text Reverse = codes "reverse"

-- the members and one more in its place, if there is one
abbrev pub with_member : List ℕ → Option Data → Members → Members
with_member name None ms = ms
with_member name (Some d) ms = put name d ms

abbrev pub lone : List ℕ → Data → Members
lone name d = member name d no_members

-- the object of one member
abbrev pub only : List ℕ → Data → Data
only name d = object (lone name d)

abbrev pub empty : Data
empty = object no_members
