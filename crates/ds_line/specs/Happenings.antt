-- What can happen on a line of its own, and as an event beside a batch.
use Rattle.std.specs.Prelude.{ℕ, List, [], ◌∷◌, ◌++◌, codes, if◌then◌else◌, Option, Some, Result, Ok, Err}
use Rattle.std.specs.Str.{bytes_eq}
use Rattle.serde_json.specs.Data.{Data}
use Rattle.ds_base.specs.declared.key.Key.{Key}
use Rattle.ds_base.specs.declared.value.Value.{Value}
use Rattle.ds_rule.specs.declared.event.Event.{Event}
use Rattle.ds_rule.specs.declared.event.Event.TheVariants.{Write, Split, Merge, Lease, Move, Stale, Abort, Arrive}
use Rattle.ds_fields.specs.declared.fault.FaultKind.{FaultKind}
use Rattle.ds_fields.specs.declared.fault.FaultKind.TheVariants.{Shape}
use Rattle.ds_fields.specs.Fault.{◌>>=◌, map1, map2, map3}
use Rattle.ds_fields.specs.Members.{only, the}
use Rattle.ds_fields.specs.Scalars.{key_of, whole_of, number_of, value_or_null_of}
use Rattle.ds_fields.specs.Lists.{nodes_of}

-- Each object has the members that are common to all of its place, and those that are read here. These are read in any
-- order, as each of them has the same fault.

-- the key of an object that has nothing else
unfoldable pub lone_key_of : List (List ℕ) → Data → Result (Option Key) FaultKind
lone_key_of common d = do
  _ ← only (common ++ codes "key" ∷ []) d
  the (codes "key") key_of d

-- the number of a copy, of an object that has nothing else
unfoldable pub lone_copy_of : List (List ℕ) → Data → Result (Option ℕ) FaultKind
lone_copy_of common d = do
  _ ← only (common ++ codes "copy" ∷ []) d
  the (codes "copy") (number_of 32) d

abbrev pub write_at : Key → ℕ → Option Value → Event
write_at k s v = Write k (record { 0 = s }) v

unfoldable pub write_of : List (List ℕ) → Data → Result (Option Event) FaultKind
write_of common d = do
  _ ← only (common ++ codes "key" ∷ codes "stamp" ∷ codes "value" ∷ []) d
  stamp ← the (codes "stamp") whole_of d
  key ← the (codes "key") key_of d
  value ← the (codes "value") value_or_null_of d
  Ok (map3 write_at key stamp value)

unfoldable pub split_of : List (List ℕ) → Data → Result (Option Event) FaultKind
split_of common d = do
  key ← lone_key_of common d
  Ok (map1 Split key)

unfoldable pub merge_of : List (List ℕ) → Data → Result (Option Event) FaultKind
merge_of common d = do
  key ← lone_key_of common d
  Ok (map1 Merge key)

unfoldable pub lease_of : List (List ℕ) → Data → Result (Option Event) FaultKind
lease_of common d = do
  _ ← only (common ++ codes "key" ∷ codes "node" ∷ []) d
  node ← the (codes "node") (number_of 8) d
  key ← the (codes "key") key_of d
  Ok (map2 Lease key node)

unfoldable pub move_of : List (List ℕ) → Data → Result (Option Event) FaultKind
move_of common d = do
  _ ← only (common ++ codes "key" ∷ codes "nodes" ∷ []) d
  nodes ← the (codes "nodes") nodes_of d
  key ← the (codes "key") key_of d
  Ok (map2 Move key nodes)

unfoldable pub stale_of : List (List ℕ) → Data → Result (Option Event) FaultKind
stale_of common d = do
  _ ← only (common ++ codes "key" ∷ codes "back" ∷ []) d
  back ← the (codes "back") (number_of 32) d
  key ← the (codes "key") key_of d
  Ok (map2 Stale key back)

unfoldable pub abort_of : List (List ℕ) → Data → Result (Option Event) FaultKind
abort_of common d = do
  _ ← only (common ++ []) d
  Ok (Some Abort)

unfoldable pub arrive_of : List (List ℕ) → Data → Result (Option Event) FaultKind
arrive_of common d = do
  copy ← lone_copy_of common d
  Ok (map1 Arrive copy)

-- by the text of `op`
unfoldable pub happening_of : List (List ℕ) → List ℕ → Data → Result (Option Event) FaultKind
happening_of common op d =
    if bytes_eq op (codes "write") then write_of common d
    else (if bytes_eq op (codes "split") then split_of common d
    else (if bytes_eq op (codes "merge") then merge_of common d
    else (if bytes_eq op (codes "lease") then lease_of common d
    else (if bytes_eq op (codes "move") then move_of common d
    else (if bytes_eq op (codes "stale") then stale_of common d
    else (if bytes_eq op (codes "abort") then abort_of common d
    else (if bytes_eq op (codes "arrive") then arrive_of common d
    else Err Shape)))))))
