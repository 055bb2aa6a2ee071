-- The requests of a batch line: each is an object of one member, whose name says the kind. The parts of a request are
-- read in any order, as each of them has the same fault.
use Rattle.std.specs.Prelude.{ℕ, ℤ, List, [], ◌∷◌, Bool, false, codes, if◌then◌else◌, Option, Result, Ok, Err}
use Rattle.std.specs.Str.{bytes_eq}
use Rattle.serde_json.specs.Data.{Data}
use Rattle.serde_json.specs.Find as json
use Rattle.serde_json.specs.Find.{as_bool}
use Rattle.ds_base.specs.declared.key.Key.{Key}
use Rattle.ds_base.specs.declared.value.Value.{Value}
use Rattle.ds_kind.specs.declared.request.Request.{Request}
use Rattle.ds_kind.specs.declared.request.Request.TheVariants.{Get, Scan, ReverseScan, Put, ConditionalPut, InitPut, Increment, Delete, DeleteRange, EndTxn, QueryIntent, ResolveIntent, ResolveIntentRange, AdminSplit, AdminTransferLease}
use Rattle.ds_fields.specs.declared.fault.FaultKind.{FaultKind}
use Rattle.ds_fields.specs.declared.fault.FaultKind.TheVariants.{Shape}
use Rattle.ds_fields.specs.Fault.{◌>>=◌, need, map1, map2, map3, map4}
use Rattle.ds_fields.specs.Members.{only, the, optional, bool_of}
use Rattle.ds_fields.specs.Scalars.{key_of, number_of, int_of, value_of, value_or_null_of}
use Rattle.ds_fields.specs.Parts.{sole, pair, triple}

-- ---- what several kinds are given

-- [k, k]
unfoldable pub keys_of : Data → Result (Option (Key × Key)) FaultKind
keys_of d = do
  p ← need (pair d)
  start ← key_of p.0
  end ← key_of p.1
  Ok (map2 (λ s e. (s, e)) start end)

-- [k, v]
unfoldable pub key_and_value_of : Data → Result (Option (Key × Value)) FaultKind
key_and_value_of d = do
  p ← need (pair d)
  key ← key_of p.0
  value ← value_of p.1
  Ok (map2 (λ k v. (k, v)) key value)

-- [k, n]
unfoldable pub key_and_number_of : Data → Result (Option (Key × ℕ)) FaultKind
key_and_number_of d = do
  p ← need (pair d)
  number ← number_of 32 p.1
  key ← key_of p.0
  Ok (map2 (λ k n. (k, n)) key number)

-- ---- the kinds

abbrev pub get : Key → Request
get k = Get (record { key = k })

unfoldable pub get_of : Data → Result (Option Request) FaultKind
get_of d = do
  key ← key_of d
  Ok (map1 get key)

abbrev pub scan : Key × Key → Request
scan p = Scan (record { start = p.0; end = p.1 })

unfoldable pub scan_of : Data → Result (Option Request) FaultKind
scan_of d = do
  keys ← keys_of d
  Ok (map1 scan keys)

abbrev pub reverse_scan : Key × Key → Request
reverse_scan p = ReverseScan (record { start = p.0; end = p.1 })

unfoldable pub reverse_scan_of : Data → Result (Option Request) FaultKind
reverse_scan_of d = do
  keys ← keys_of d
  Ok (map1 reverse_scan keys)

abbrev pub put : Key × Value → Request
put p = Put (record { key = p.0; value = p.1 })

unfoldable pub put_of : Data → Result (Option Request) FaultKind
put_of d = do
  p ← key_and_value_of d
  Ok (map1 put p)

abbrev pub conditional_put : Key → Value → Option Value → Bool → Request
conditional_put k v e a = ConditionalPut (record { key = k; value = v; expect = e; allow_absent = a })

unfoldable pub conditional_put_of : Data → Result (Option Request) FaultKind
conditional_put_of d = do
  _ ← only (codes "key" ∷ codes "value" ∷ codes "expect" ∷ codes "allow_absent" ∷ []) d
  allow_absent ← optional bool_of false (json.get (codes "allow_absent") d)
  key ← the (codes "key") key_of d
  value ← the (codes "value") value_of d
  expect ← the (codes "expect") value_or_null_of d
  Ok (map4 conditional_put key value expect allow_absent)

abbrev pub init_put : Key × Value → Request
init_put p = InitPut (record { key = p.0; value = p.1 })

unfoldable pub init_put_of : Data → Result (Option Request) FaultKind
init_put_of d = do
  p ← key_and_value_of d
  Ok (map1 init_put p)

abbrev pub increment : Key → ℤ → Request
increment k n = Increment (record { key = k; by = n })

unfoldable pub increment_of : Data → Result (Option Request) FaultKind
increment_of d = do
  p ← need (pair d)
  by ← int_of p.1
  key ← key_of p.0
  Ok (map2 increment key by)

abbrev pub delete : Key → Request
delete k = Delete (record { key = k })

unfoldable pub delete_of : Data → Result (Option Request) FaultKind
delete_of d = do
  key ← key_of d
  Ok (map1 delete key)

abbrev pub delete_range : Key × Key → Request
delete_range p = DeleteRange (record { start = p.0; end = p.1 })

unfoldable pub delete_range_of : Data → Result (Option Request) FaultKind
delete_range_of d = do
  keys ← keys_of d
  Ok (map1 delete_range keys)

-- an end of the transaction: its key is the anchor, and no line gives it a list in flight
abbrev pub end : Key → Bool → Bool → Bool → Request
end anchor c o p = EndTxn (record { key = anchor; commit = c; one_phase = o; parallel = p; in_flight = [] })

unfoldable pub end_of : Key → Data → Result (Option Request) FaultKind
end_of anchor d = do
  _ ← only (codes "commit" ∷ codes "one_phase" ∷ codes "parallel" ∷ []) d
  c ← the (codes "commit") (λ m. need (as_bool m)) d
  one_phase ← optional bool_of false (json.get (codes "one_phase") d)
  parallel ← optional bool_of false (json.get (codes "parallel") d)
  Ok (map2 (end anchor c) one_phase parallel)

abbrev pub query_intent : Key × ℕ → Request
query_intent p = QueryIntent (record { key = p.0; seq = record { 0 = p.1 } })

unfoldable pub query_intent_of : Data → Result (Option Request) FaultKind
query_intent_of d = do
  p ← key_and_number_of d
  Ok (map1 query_intent p)

abbrev pub resolve : Key × ℕ → Request
resolve p = ResolveIntent (record { key = p.0; txn = record { 0 = p.1 } })

unfoldable pub resolve_of : Data → Result (Option Request) FaultKind
resolve_of d = do
  p ← key_and_number_of d
  Ok (map1 resolve p)

abbrev pub resolve_range : Key → Key → ℕ → Request
resolve_range s e n = ResolveIntentRange (record { start = s; end = e; txn = record { 0 = n } })

unfoldable pub resolve_range_of : Data → Result (Option Request) FaultKind
resolve_range_of d = do
  p ← need (triple d)
  txn ← number_of 32 p.2
  start ← key_of p.0
  end ← key_of p.1
  Ok (map3 resolve_range start end txn)

abbrev pub admin_split : Key → Request
admin_split k = AdminSplit (record { key = k })

unfoldable pub admin_split_of : Data → Result (Option Request) FaultKind
admin_split_of d = do
  key ← key_of d
  Ok (map1 admin_split key)

abbrev pub admin_lease : Key → ℕ → Request
admin_lease k n = AdminTransferLease (record { key = k; node = n })

unfoldable pub admin_lease_of : Data → Result (Option Request) FaultKind
admin_lease_of d = do
  p ← need (pair d)
  node ← number_of 8 p.1
  key ← key_of p.0
  Ok (map2 admin_lease key node)

-- ---- by the member's name

unfoldable pub request_by : Key → List ℕ → Data → Result (Option Request) FaultKind
request_by anchor name d =
    if bytes_eq name (codes "get") then get_of d
    else (if bytes_eq name (codes "scan") then scan_of d
    else (if bytes_eq name (codes "reverse_scan") then reverse_scan_of d
    else (if bytes_eq name (codes "put") then put_of d
    else (if bytes_eq name (codes "cput") then conditional_put_of d
    else (if bytes_eq name (codes "init_put") then init_put_of d
    else (if bytes_eq name (codes "increment") then increment_of d
    else (if bytes_eq name (codes "delete") then delete_of d
    else (if bytes_eq name (codes "delete_range") then delete_range_of d
    else (if bytes_eq name (codes "end") then end_of anchor d
    else (if bytes_eq name (codes "query_intent") then query_intent_of d
    else (if bytes_eq name (codes "resolve") then resolve_of d
    else (if bytes_eq name (codes "resolve_range") then resolve_range_of d
    else (if bytes_eq name (codes "admin_split") then admin_split_of d
    else (if bytes_eq name (codes "admin_lease") then admin_lease_of d
    else Err Shape))))))))))))))

unfoldable pub request_of : Key → Data → Result (Option Request) FaultKind
request_of anchor d = do
  p ← need (sole d)
  request_by anchor p.0 p.1
