-- The limits of a script's lines. `nodes` is the number of nodes that the cluster has.
use Rattle.std.specs.Prelude.{ℕ, List, [], ◌∷◌, length, Bool, true, false, ◌&&◌, ◌==◌, nat_le, Option, Some, None}
use Rattle.std.specs.List.{list_any, list_all}
use Rattle.ds_base.specs.Order.{key_lt, bound}
use Rattle.ds_base.specs.declared.value.Stamp.{Stamp}
use Rattle.ds_base.specs.declared.value.Value.{Value}
use Rattle.ds_base.specs.declared.value.Value.TheVariants.{Text, Int}
use Rattle.ds_kind.specs.declared.batch.Batch.{Batch}
use Rattle.ds_kind.specs.declared.request.Request.{Request}
use Rattle.ds_kind.specs.declared.request.Request.TheVariants.{Get, Scan, ReverseScan, Put, ConditionalPut, InitPut, Increment, Delete, DeleteRange, EndTxn, QueryIntent, ResolveIntent, ResolveIntentRange, AdminSplit, AdminTransferLease}
use Rattle.ds_rule.specs.declared.cluster.Cluster.{Cluster}
use Rattle.ds_rule.specs.declared.cluster.ClusterRange.{ClusterRange}
use Rattle.ds_rule.specs.declared.event.Block.{Block}
use Rattle.ds_rule.specs.declared.event.Event.{Event}
use Rattle.ds_rule.specs.declared.event.Event.TheVariants as events
use Rattle.ds_rule.specs.declared.event.Timed.{Timed}
use Rattle.ds_script.specs.declared.line.Line.{Line}
use Rattle.ds_script.specs.declared.line.Line.TheVariants as lines

-- ---- keys, numbers and values

abbrev pub within : ℕ → ℕ → ℕ → Bool
within low high n = nat_le low n && nat_le n high

-- a key has at most 64 bytes, so that the key after it is one too
abbrev pub key_fits : List ℕ → Bool
key_fits k = nat_le (length k) 64

abbrev pub span_fits : List ℕ → List ℕ → Bool
span_fits s e = key_fits s && key_fits e

-- a key that is below the bound
abbrev pub point_fits : List ℕ → Bool
point_fits k = key_fits k && key_lt k bound

abbrev pub stamp_fits : Stamp → Bool
stamp_fits s = within 1 1000000000 s.0

-- a step, a number of a copy, of a transaction or of a write, a limit, how far back
abbrev pub count_fits : ℕ → Bool
count_fits n = within 1 1000000 n

abbrev pub node_fits : ℕ → ℕ → Bool
node_fits nodes n = within 1 nodes n

abbrev pub value_fits : Value → Bool
value_fits (Text t) = nat_le (length t) 256
value_fits (Int n) = true

-- what may be left out fits where it is there
abbrev pub if_some : {A : Type 0} → (A → Bool) → Option A → Bool
if_some fits None = true
if_some fits (Some a) = fits a

-- ---- requests

abbrev pub request_fits : ℕ → Request → Bool
request_fits nodes (Get a) = key_fits a.key
request_fits nodes (Scan a) = span_fits a.start a.end
request_fits nodes (ReverseScan a) = span_fits a.start a.end
request_fits nodes (Put a) = key_fits a.key && value_fits a.value
request_fits nodes (ConditionalPut a) = key_fits a.key && value_fits a.value && if_some value_fits a.expect
request_fits nodes (InitPut a) = key_fits a.key && value_fits a.value
request_fits nodes (Increment a) = key_fits a.key
request_fits nodes (Delete a) = key_fits a.key
request_fits nodes (DeleteRange a) = span_fits a.start a.end
request_fits nodes (EndTxn a) = key_fits a.key && length a.in_flight == 0
request_fits nodes (QueryIntent a) = key_fits a.key && count_fits a.seq.0
request_fits nodes (ResolveIntent a) = key_fits a.key && count_fits a.txn.0
request_fits nodes (ResolveIntentRange a) = span_fits a.start a.end && count_fits a.txn.0
request_fits nodes (AdminSplit a) = key_fits a.key
request_fits nodes (AdminTransferLease a) = key_fits a.key && node_fits nodes a.node

-- ---- what happens

abbrev pub write_fits : List ℕ → Stamp → Option Value → Bool
write_fits k s v = point_fits k && stamp_fits s && if_some value_fits v

abbrev pub lease_fits : ℕ → List ℕ → ℕ → Bool
lease_fits nodes k n = point_fits k && node_fits nodes n

abbrev pub move_fits : ℕ → List ℕ → List ℕ → Bool
move_fits nodes k ns = point_fits k && list_all (node_fits nodes) ns

abbrev pub stale_fits : List ℕ → ℕ → Bool
stale_fits k b = point_fits k && count_fits b

-- no block holds a restart
abbrev pub event_fits : ℕ → Event → Bool
event_fits nodes (events.Write k s v) = write_fits k s v
event_fits nodes (events.Split k) = point_fits k
event_fits nodes (events.Merge k) = point_fits k
event_fits nodes (events.Lease k n) = lease_fits nodes k n
event_fits nodes (events.Move k ns) = move_fits nodes k ns
event_fits nodes (events.Stale k b) = stale_fits k b
event_fits nodes events.Abort = true
event_fits nodes (events.Arrive c) = count_fits c
event_fits nodes (events.LoseRequest c) = if_some count_fits c
event_fits nodes (events.LoseReply c) = if_some count_fits c
event_fits nodes (events.Copy c) = count_fits c
event_fits nodes (events.Restart t) = false

abbrev pub timed_fits : ℕ → Timed → Bool
timed_fits nodes t = count_fits t.at && event_fits nodes t.event

abbrev pub pick_fits : ℕ → Bool
pick_fits p = nat_le p 1000000

-- ---- the cluster

-- the lease is with a node that has a replica
abbrev pub range_fits : ℕ → ClusterRange → Bool
range_fits nodes r = point_fits r.start && list_all (node_fits nodes) r.nodes && list_any (λ n. n == r.lease) r.nodes

-- each start is above the one before it, the first above k
abbrev pub rise_above : List ℕ → List ClusterRange → Bool
rise_above k [] = true
rise_above k (r ∷ rs) = key_lt k r.start && rise_above r.start rs

-- the first starts with the empty key, and each later one above the one before it
abbrev pub rise : List ClusterRange → Bool
rise [] = false
rise (r ∷ rs) = length r.start == 0 && rise_above r.start rs

abbrev pub cluster_fits : Cluster → Bool
cluster_fits c = within 1 64 c.nodes && within 1 1024 (length c.ranges) && list_all (range_fits c.nodes) c.ranges && rise c.ranges

-- ---- lines

abbrev pub batch_fits : ℕ → Batch → Bool
batch_fits nodes b = if_some stamp_fits b.at && if_some count_fits b.limit && nat_le (length b.requests) 1000 && list_all (request_fits nodes) b.requests

abbrev pub block_fits : ℕ → Block → Bool
block_fits nodes b = nat_le (length b.events) 1000 && list_all (timed_fits nodes) b.events && nat_le (length b.picks) 1000 && list_all pick_fits b.picks

abbrev pub line_fits : ℕ → Line → Bool
line_fits nodes (lines.Cluster c) = cluster_fits c
line_fits nodes (lines.Write k s v) = write_fits k s v
line_fits nodes (lines.Split k) = point_fits k
line_fits nodes (lines.Merge k) = point_fits k
line_fits nodes (lines.Lease k n) = lease_fits nodes k n
line_fits nodes (lines.Move k ns) = move_fits nodes k ns
line_fits nodes (lines.Stale k b) = stale_fits k b
line_fits nodes lines.Abort = true
line_fits nodes (lines.Arrive c) = count_fits c
line_fits nodes (lines.Begin s k) = stamp_fits s && point_fits k
line_fits nodes lines.Close = true
line_fits nodes lines.Restart = true
line_fits nodes (lines.Batch b block) = batch_fits nodes b && block_fits nodes block
