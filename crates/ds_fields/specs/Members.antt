-- The JSON of a line, and the members of its objects.
use Rattle.std.specs.Prelude.{ℕ, List, length, Bool, true, false, ◌&&◌, ◌==◌, if◌then◌else◌, codes, Option, Some, None, option_and_then, Result, Ok, Err}
use Rattle.std.specs.List.{list_any}
use Rattle.std.specs.Str.{bytes_eq}
use Rattle.std.specs.Str.Lossy.{utf8_valid_len}
use Rattle.serde_json.specs.Data.{Data, null, boolean, number, string, array, object, Members, no_members, member}
use Rattle.serde_json.specs.Read.{read}
use Rattle.serde_json.specs.Find.{get, as_str, as_bool}
use Rattle.ds_fields.specs.declared.fault.FaultKind.{FaultKind}
use Rattle.ds_fields.specs.declared.fault.FaultKind.TheVariants.{Json, Shape}
use Rattle.ds_fields.specs.Fault.{◌>>=◌, need}

-- ---- the JSON of a line

abbrev pub text_of : List ℕ → Option Data
text_of bytes = if utf8_valid_len bytes == length bytes then read bytes else None

abbrev pub json_or_fault : Option Data → Result Data FaultKind
json_or_fault None = Err Json
json_or_fault (Some d) = Ok d

-- the JSON that the bytes are, in UTF-8
unfoldable pub json_of : List ℕ → Result Data FaultKind
json_of bytes = json_or_fault (text_of bytes)

-- ---- the names of an object's members

abbrev pub is_named : List (List ℕ) → List ℕ → Bool
is_named names name = list_any (bytes_eq name) names

abbrev pub all_named : List (List ℕ) → Members → Bool
all_named names no_members = true
all_named names (member k d ms) = is_named names k && all_named names ms

-- an object with no other names than these
abbrev pub has_only : List (List ℕ) → Data → Bool
has_only names null = false
has_only names (boolean b) = false
has_only names (number n) = false
has_only names (string s) = false
has_only names (array ds) = false
has_only names (object ms) = all_named names ms

abbrev pub only : List (List ℕ) → Data → Result (Unit {0}) FaultKind
only names d = if has_only names d then Ok tt else Err Shape

-- ---- one member

-- the member that must be there, read by f
abbrev pub the : {A : Type 0} → List ℕ → (Data → Result A FaultKind) → Data → Result A FaultKind
the name f d = need (get name d) >>= f

-- the member that may be there, read by f, or what stands for it
abbrev pub optional : {A : Type 0} → (Data → Result (Option A) FaultKind) → A → Option Data → Result (Option A) FaultKind
optional f default None = Ok (Some default)
optional f default (Some d) = f d

abbrev pub bool_of : Data → Result (Option Bool) FaultKind
bool_of d = need (as_bool d) >>= λ b. Ok (Some b)

-- the text of the member `op`
unfoldable pub op_of : Data → Result (List ℕ) FaultKind
op_of d = need (option_and_then as_str (get (codes "op") d))
