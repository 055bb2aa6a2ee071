-- Keys, numbers and values. `Ok None` stands for what the type of the field cannot hold.
use Rattle.std.specs.Prelude.{ℕ, ◌^◌, ℤ, pos, List, length, Bool, not, ◌&&◌, nat_lt, nat_le, if◌then◌else◌, Option, Some, None, option_and_then, Result, Ok, Err}
use Rattle.std.specs.List.{list_all}
use Rattle.std.specs.Ordering.{is_gt}
use Rattle.std.specs.Str.{chars}
use Rattle.serde_json.specs.Data.{Num, unsigned, negative, float, Data, null, boolean, number, string, array, object}
use Rattle.serde_json.specs.Find.{as_str, as_number}
use Rattle.ds_base.specs.Order.{key_cmp, bound}
use Rattle.ds_base.specs.declared.key.Key.{Key}
use Rattle.ds_base.specs.declared.value.Value.{Value}
use Rattle.ds_base.specs.declared.value.Value.TheVariants as values
use Rattle.ds_fields.specs.declared.fault.FaultKind.{FaultKind}
use Rattle.ds_fields.specs.declared.fault.FaultKind.TheVariants.{Shape}
use Rattle.ds_fields.specs.Fault.{◌>>=◌, need, map1}

-- ---- keys

-- characters that each stand for one byte
abbrev pub are_bytes : List ℕ → Bool
are_bytes cs = list_all (λ c. nat_lt c 256) cs

abbrev pub latin : List ℕ → Option (List ℕ)
latin text = if are_bytes (chars text) then Some (chars text) else None

-- bytes that a key can have
abbrev pub key_from : List ℕ → Option Key
key_from k = if nat_le (length k) 65 && not (is_gt (key_cmp k bound)) then Some k else None

unfoldable pub key_of : Data → Result (Option Key) FaultKind
key_of d = do
  k ← need (option_and_then latin (as_str d))
  Ok (key_from k)

-- ---- whole numbers; every other number has another shape

abbrev pub whole : Num → Result (Option ℕ) FaultKind
whole (unsigned n) = Ok (Some n)
whole (negative z) = Ok None
whole (float x) = Err Shape

unfoldable pub whole_of : Data → Result (Option ℕ) FaultKind
whole_of d = do
  n ← need (as_number d)
  whole n

abbrev pub within_bits : ℕ → ℕ → Option ℕ
within_bits bits n = if nat_lt n (2 ^ bits) then Some n else None

-- a whole number that has room in so many bits
unfoldable pub number_of : ℕ → Data → Result (Option ℕ) FaultKind
number_of bits d = do
  n ← whole_of d
  Ok (option_and_then (within_bits bits) n)

-- the same, where it may be left out
abbrev pub some_number_of : Data → Result (Option (Option ℕ)) FaultKind
some_number_of d = number_of 32 d >>= λ n. Ok (map1 Some n)

abbrev pub int : Num → Result (Option ℤ) FaultKind
int (unsigned n) = Ok (if nat_lt n (2 ^ 63) then Some (pos n) else None)
int (negative z) = Ok (Some z)
int (float x) = Err Shape

-- a whole number of either sign
unfoldable pub int_of : Data → Result (Option ℤ) FaultKind
int_of d = do
  n ← need (as_number d)
  int n

-- ---- values

-- a text, or a whole number
unfoldable pub value_of : Data → Result (Option Value) FaultKind
value_of null = Err Shape
value_of (boolean b) = Err Shape
value_of (number n) = int n >>= λ z. Ok (map1 values.Int z)
value_of (string s) = Ok (Some (values.Text s))
value_of (array ds) = Err Shape
value_of (object ms) = Err Shape

abbrev pub some_value_of : Data → Result (Option (Option Value)) FaultKind
some_value_of d = value_of d >>= λ v. Ok (map1 Some v)

-- a value, or null for none
unfoldable pub value_or_null_of : Data → Result (Option (Option Value)) FaultKind
value_or_null_of null = Ok (Some None)
value_or_null_of (boolean b) = some_value_of (boolean b)
value_or_null_of (number n) = some_value_of (number n)
value_or_null_of (string s) = some_value_of (string s)
value_or_null_of (array ds) = some_value_of (array ds)
value_or_null_of (object ms) = some_value_of (object ms)
