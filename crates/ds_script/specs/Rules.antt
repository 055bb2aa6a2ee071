-- The rules over the lines of a script, judged one line after another.
use Rattle.std.specs.Prelude.{ℕ, List, [], ◌∷◌, max, Bool, true, false, not, ◌&&◌, ◌||◌, ◌==◌, nat_le, nat_lt, if◌then◌else◌, Option, Some, None, is_some, Result, Ok, Err}
use Rattle.std.specs.List.{list_all}
use Rattle.std.specs.Map.{lookup}
use Rattle.std.specs.Ordering.{nat_cmp, is_eq}
use Rattle.std.specs.BTreeMap.{insert_entry}
use Rattle.ds_base.specs.declared.key.Key.{Key}
use Rattle.ds_base.specs.declared.value.Stamp.{Stamp}
use Rattle.ds_kind.specs.Flags.{flags_of}
use Rattle.ds_kind.specs.Request.{kind_of}
use Rattle.ds_kind.specs.declared.name.KindName.{KindName}
use Rattle.ds_kind.specs.declared.name.KindName.TheVariants.{Get, Scan, ReverseScan}
use Rattle.ds_kind.specs.declared.request.Request.{Request}
use Rattle.ds_rule.specs.declared.event.Block.{Block}
use Rattle.ds_rule.specs.declared.event.Event.{Event}
use Rattle.ds_rule.specs.declared.event.Event.TheVariants as events
use Rattle.ds_rule.specs.declared.event.Timed.{Timed}
use Rattle.ds_rule.specs.Blocks.{never_fall}
use Rattle.ds_fields.specs.declared.fault.FaultKind.{FaultKind}
use Rattle.ds_fields.specs.declared.fault.FaultKind.TheVariants.{Range, Order, LowWrite, TxnOpen}
use Rattle.ds_fields.specs.Fault.{◌>>=◌}
use Rattle.ds_script.specs.declared.line.Line.{Line}
use Rattle.ds_script.specs.declared.line.Line.TheVariants as lines
use Rattle.ds_script.specs.declared.line.Numbered.{Numbered}
use Rattle.ds_script.specs.declared.state.OpenTxn.{OpenTxn}
use Rattle.ds_script.specs.declared.state.State.{State}
use Rattle.ds_script.specs.declared.state.Step.{Step}
use Rattle.ds_script.specs.Limits.{line_fits}

abbrev pub require : FaultKind → Bool → Result (Unit {0}) FaultKind
require kind holds = if holds then Ok tt else Err kind

-- ---- where a line may stand

-- the cluster comes first, and only there
abbrev pub leads : Option ℕ → Line → Bool
leads None (lines.Cluster c) = true
leads None _ = false
leads (Some n) (lines.Cluster c) = false
leads (Some n) _ = true

abbrev pub reads_only : KindName → Bool
reads_only Get = true
reads_only Scan = true
reads_only ReverseScan = true
reads_only _ = false

-- beside a transaction at T, a batch at S holds of the kinds of a transaction only reads, below T
abbrev pub may_stand_beside : ℕ → ℕ → Request → Bool
may_stand_beside T S r = not (flags_of (kind_of r)).txn || (reads_only (kind_of r) && nat_lt S T)

-- a batch of the transaction needs an open one
abbrev pub batch_belongs : Option OpenTxn → Option Stamp → List Request → Bool
batch_belongs None None rs = false
batch_belongs None (Some s) rs = true
batch_belongs (Some o) None rs = true
batch_belongs (Some o) (Some s) rs = list_all (may_stand_beside o.stamp.0 s.0) rs

-- an abort is one of the open transaction
abbrev pub event_belongs : Option OpenTxn → Event → Bool
event_belongs txn events.Abort = is_some txn
event_belongs txn _ = true

abbrev pub block_belongs : Option OpenTxn → Block → Bool
block_belongs txn b = never_fall 0 b.events && list_all (λ t. event_belongs txn t.event) b.events

abbrev pub belongs : Option OpenTxn → Line → Bool
belongs txn lines.Abort = is_some txn
belongs txn lines.Close = is_some txn
belongs txn lines.Restart = is_some txn
belongs txn (lines.Batch b block) = batch_belongs txn b.at b.requests && block_belongs txn block
belongs txn _ = true

-- ---- the numbers of copies: each belongs to one step of one line, if to any

-- a step of a line's block
abbrev pub step : ℕ → ℕ → Step
step line at = record { line = line; at = at }

abbrev pub same_step : Step → Step → Bool
same_step a b = a.line == b.line && a.at == b.at

abbrev pub is_elsewhere : Option Step → Step → Bool
is_elsewhere None s = false
is_elsewhere (Some t) s = not (same_step t s)

-- the number belongs to the step
abbrev pub claim : ℕ → Step → List (ℕ × Step) → Result (List (ℕ × Step)) FaultKind
claim c s copies = if is_elsewhere (lookup (λ d. is_eq (nat_cmp c d)) copies) s then Err Order else Ok (insert_entry nat_cmp copies c s)

-- The number that an event gives to the step which it names. Of the losses that name one step only
-- the first counts; `lost` is the step of the last loss so far, 0 before the first.
abbrev pub number_of : ℕ → ℕ → Event → Option ℕ
number_of lost at (events.LoseRequest c) = if at == lost then None else c
number_of lost at (events.LoseReply c) = if at == lost then None else c
number_of lost at (events.Copy c) = Some c
number_of lost at _ = None

abbrev pub lost_after : ℕ → ℕ → Event → ℕ
lost_after lost at (events.LoseRequest c) = at
lost_after lost at (events.LoseReply c) = at
lost_after lost at _ = lost

abbrev pub claim_some : Option ℕ → Step → List (ℕ × Step) → Result (List (ℕ × Step)) FaultKind
claim_some None s copies = Ok copies
claim_some (Some c) s copies = claim c s copies

-- the numbers that the events of a line give, in turn
abbrev pub claims : ℕ → ℕ → List Timed → List (ℕ × Step) → Result (List (ℕ × Step)) FaultKind
claims line lost [] copies = Ok copies
claims line lost (t ∷ ts) copies = claim_some (number_of lost t.at t.event) (step line t.at) copies >>= claims line (lost_after lost t.at t.event) ts

abbrev pub copies_after : ℕ → Line → List (ℕ × Step) → Result (List (ℕ × Step)) FaultKind
copies_after n (lines.Batch b block) copies = claims n 0 block.events copies
copies_after n _ copies = Ok copies

-- ---- the floor, which the stamps of other clients' writes are above

abbrev pub floor : Option OpenTxn → Option Stamp → ℕ
floor None None = 0
floor None (Some s) = s.0
floor (Some o) None = o.stamp.0
floor (Some o) (Some s) = max o.stamp.0 s.0

abbrev pub is_above : ℕ → Event → Bool
is_above low (events.Write k s v) = nat_lt low s.0
is_above low _ = true

-- outside of batches there is a floor only while a transaction is open
abbrev pub high_enough : Option OpenTxn → Line → Bool
high_enough txn (lines.Write k s v) = nat_lt (floor txn None) s.0
high_enough txn (lines.Batch b block) = list_all (λ t. is_above (floor txn b.at) t.event) block.events
high_enough txn _ = true

-- ---- the transaction

-- one transaction at a time
abbrev pub may_begin : Option OpenTxn → Line → Bool
may_begin (Some o) (lines.Begin s k) = false
may_begin _ _ = true

abbrev pub opened : ℕ → Stamp → Key → OpenTxn
opened n s k = record { stamp = s; anchor = k; line = n }

abbrev pub open_after : ℕ → Line → Option OpenTxn → Option OpenTxn
open_after n (lines.Begin s k) txn = Some (opened n s k)
open_after n lines.Close txn = None
open_after n _ txn = txn

abbrev pub nodes_after : Line → Option ℕ → Option ℕ
nodes_after (lines.Cluster c) nodes = Some c.nodes
nodes_after _ nodes = nodes

-- ---- a line after the others

abbrev pub start : State
start = record { nodes = None; txn = None; copies = [] }

-- before the cluster line there is room for 64 nodes
abbrev pub top : Option ℕ → ℕ
top None = 64
top (Some n) = n

abbrev pub after : ℕ → Line → State → List (ℕ × Step) → State
after n line s copies = record { nodes = nodes_after line s.nodes; txn = open_after n line s.txn; copies = copies }

-- line n, where it stands after the others
unfoldable pub turn : ℕ → Line → State → Result State FaultKind
turn n line s = do
  _ ← require Order (leads s.nodes line && belongs s.txn line)
  copies ← copies_after n line s.copies
  _ ← require LowWrite (high_enough s.txn line)
  _ ← require TxnOpen (may_begin s.txn line)
  Ok (after n line s copies)

-- line n with its limits
abbrev pub judge : ℕ → Line → State → Result State FaultKind
judge n line s = require Range (line_fits (top s.nodes) line) >>= λ _. turn n line s

-- the lines in turn
abbrev pub walk : List Numbered → State → Result State FaultKind
walk [] s = Ok s
walk (l ∷ ls) s = judge l.number l.line s >>= walk ls

-- ---- whole scripts

-- a cluster is there, and no transaction is left open
abbrev pub is_settled : Result State FaultKind → Bool
is_settled (Ok s) = is_some s.nodes && not (is_some s.txn)
is_settled (Err k) = false

-- numbers that rise, from above `last` up to 20,000
abbrev pub numbers_rise : ℕ → List Numbered → Bool
numbers_rise last [] = true
numbers_rise last (l ∷ ls) = nat_lt last l.number && nat_le l.number 20000 && numbers_rise l.number ls

-- what every script keeps
abbrev pub keeps_rules : List Numbered → Bool
keeps_rules ls = numbers_rise 0 ls && is_settled (walk ls start)
