-- The forms of lines: what the JSON of one line says.
use Rattle.std.specs.Prelude.{ℕ, List, [], ◌∷◌, ◌++◌, Bool, true, false, codes, if◌then◌else◌, Option, Some, None, Result, Ok, Err}
use Rattle.std.specs.Str.{bytes_eq}
use Rattle.serde_json.specs.Data.{Data}
use Rattle.serde_json.specs.Find.{get, as_bool}
use Rattle.ds_base.specs.declared.key.Key.{Key}
use Rattle.ds_base.specs.declared.value.Stamp.{Stamp}
use Rattle.ds_desc.specs.declared.nodes.Nodes.{Nodes}
use Rattle.ds_kind.specs.declared.request.Request.{Request}
use Rattle.ds_kind.specs.declared.batch.Batch.{Batch}
use Rattle.ds_rule.specs.declared.cluster.ClusterRange.{ClusterRange}
use Rattle.ds_rule.specs.declared.event.Block.{Block}
use Rattle.ds_rule.specs.declared.event.Event.{Event}
use Rattle.ds_rule.specs.declared.event.Event.TheVariants as events
use Rattle.ds_rule.specs.declared.event.Timed.{Timed}
use Rattle.ds_fields.specs.declared.fault.FaultKind.{FaultKind}
use Rattle.ds_fields.specs.declared.fault.FaultKind.TheVariants.{Shape}
use Rattle.ds_fields.specs.Fault.{◌>>=◌, need, map1, map2, map3, map4}
use Rattle.ds_fields.specs.Members.{only, the, optional, bool_of, op_of}
use Rattle.ds_fields.specs.Scalars.{key_of, whole_of, number_of, some_number_of}
use Rattle.ds_fields.specs.Lists.{list_of, nodes_of}
use Rattle.ds_line.specs.Events.{timed_of}
use Rattle.ds_line.specs.Happenings.{happening_of}
use Rattle.ds_line.specs.Requests.{request_of}
use Rattle.ds_script.specs.declared.line.Line.{Line}
use Rattle.ds_script.specs.declared.line.Line.TheVariants as lines

-- Parts of one object are read in any order, as each of them has the same fault.

-- what every line says: what it is
abbrev pub of_line : List (List ℕ)
of_line = codes "op" ∷ []

-- ---- the cluster

abbrev pub range : Key → Nodes → ℕ → ClusterRange
range k ns n = record { start = k; nodes = ns; lease = n }

unfoldable pub range_of : Data → Result (Option ClusterRange) FaultKind
range_of d = do
  _ ← only (codes "start" ∷ codes "nodes" ∷ codes "lease" ∷ []) d
  lease ← the (codes "lease") (number_of 8) d
  nodes ← the (codes "nodes") nodes_of d
  start ← the (codes "start") key_of d
  Ok (map3 range start nodes lease)

abbrev pub cluster : ℕ → List ClusterRange → Line
cluster n rs = lines.Cluster (record { nodes = n; ranges = rs })

unfoldable pub cluster_of : Data → Result (Option Line) FaultKind
cluster_of d = do
  _ ← only (of_line ++ codes "nodes" ∷ codes "ranges" ∷ []) d
  nodes ← the (codes "nodes") (number_of 8) d
  ranges ← the (codes "ranges") (list_of range_of) d
  Ok (map2 cluster nodes ranges)

-- ---- the transaction

abbrev pub begin : ℕ → Key → Line
begin s k = lines.Begin (record { 0 = s }) k

unfoldable pub begin_of : Data → Result (Option Line) FaultKind
begin_of d = do
  _ ← only (of_line ++ codes "stamp" ∷ codes "key" ∷ []) d
  stamp ← the (codes "stamp") whole_of d
  key ← the (codes "key") key_of d
  Ok (map2 begin stamp key)

unfoldable pub close_of : Data → Result (Option Line) FaultKind
close_of d = do
  _ ← only (of_line ++ []) d
  Ok (Some lines.Close)

unfoldable pub restart_of : Data → Result (Option Line) FaultKind
restart_of d = do
  _ ← only (of_line ++ []) d
  Ok (Some lines.Restart)

-- ---- batches

abbrev pub must_be : Bool → Result (Option (Option Stamp)) FaultKind
must_be true = Ok (Some None)
must_be false = Err Shape

abbrev pub some_stamp : ℕ → Option Stamp
some_stamp n = Some (record { 0 = n })

abbrev pub some_stamp_of : Data → Result (Option (Option Stamp)) FaultKind
some_stamp_of d = whole_of d >>= λ n. Ok (map1 some_stamp n)

-- exactly one of `"txn":true` and `"stamp":n`
unfoldable pub at_of : Option Data → Option Data → Result (Option (Option Stamp)) FaultKind
at_of (Some t) None = need (as_bool t) >>= must_be
at_of None (Some s) = some_stamp_of s
at_of None None = Err Shape
at_of (Some t) (Some s) = Err Shape

abbrev pub batch : Option Stamp → Bool → Option ℕ → List Request → Batch
batch a c l rs = record { at = a; consistent = c; limit = l; requests = rs }

-- what is asked
unfoldable pub asked_of : Key → Data → Result (Option Batch) FaultKind
asked_of anchor d = do
  at ← at_of (get (codes "txn") d) (get (codes "stamp") d)
  consistent ← optional bool_of true (get (codes "consistent") d)
  limit ← optional some_number_of None (get (codes "limit") d)
  requests ← the (codes "requests") (list_of (request_of anchor)) d
  Ok (map4 batch at consistent limit requests)

abbrev pub block : List Timed → List ℕ → Block
block es ps = record { events = es; picks = ps }

-- what happens beside it
unfoldable pub block_of : Data → Result (Option Block) FaultKind
block_of d = do
  events ← optional (list_of timed_of) [] (get (codes "events") d)
  picks ← optional (list_of (number_of 32)) [] (get (codes "picks") d)
  Ok (map2 block events picks)

abbrev pub of_batch : List (List ℕ)
of_batch = codes "txn" ∷ codes "stamp" ∷ codes "requests" ∷ codes "consistent" ∷ codes "limit" ∷ codes "events" ∷ codes "picks" ∷ []

unfoldable pub batch_of : Key → Data → Result (Option Line) FaultKind
batch_of anchor d = do
  _ ← only (of_line ++ of_batch) d
  asked ← asked_of anchor d
  beside ← block_of d
  Ok (map2 lines.Batch asked beside)

-- ---- by the text of `op`

-- the line on which an event happens by itself; one that names a step of a batch has none
abbrev pub line_of : Event → Option Line
line_of (events.Write k s v) = Some (lines.Write k s v)
line_of (events.Split k) = Some (lines.Split k)
line_of (events.Merge k) = Some (lines.Merge k)
line_of (events.Lease k n) = Some (lines.Lease k n)
line_of (events.Move k ns) = Some (lines.Move k ns)
line_of (events.Stale k b) = Some (lines.Stale k b)
line_of events.Abort = Some lines.Abort
line_of (events.Arrive c) = Some (lines.Arrive c)
line_of (events.LoseRequest c) = None
line_of (events.LoseReply c) = None
line_of (events.Copy c) = None
line_of (events.Restart t) = None

abbrev pub alone : Option Event → Result (Option Line) FaultKind
alone None = Ok None
alone (Some e) = need (line_of e) >>= λ l. Ok (Some l)

abbrev pub other_of : List ℕ → Data → Result (Option Line) FaultKind
other_of op d = happening_of of_line op d >>= alone

unfoldable pub line_by : Key → List ℕ → Data → Result (Option Line) FaultKind
line_by anchor op d =
    if bytes_eq op (codes "cluster") then cluster_of d
    else (if bytes_eq op (codes "begin") then begin_of d
    else (if bytes_eq op (codes "close") then close_of d
    else (if bytes_eq op (codes "restart") then restart_of d
    else (if bytes_eq op (codes "batch") then batch_of anchor d
    else other_of op d))))

unfoldable pub form_of : Key → Data → Result (Option Line) FaultKind
form_of anchor d = do
  op ← op_of d
  line_by anchor op d
