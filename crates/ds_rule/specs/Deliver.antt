-- What a delivered piece is answered, and what it does.
use Rattle.std.specs.Prelude.{ℕ, Bool, true, false, not, ◌&&◌, List, [], ◌∷◌, map, take, filter, find, Option, Some, None, ◌==◌, if◌then◌else◌}
use Rattle.std.specs.List.{list_any, list_all}
use Rattle.ds_base.specs.Order.{Extent, key_lt, key_le}
use Rattle.ds_base.specs.declared.value.TxnNo.{TxnNo}
use Rattle.ds_desc.specs.declared.desc.Info.{Info}
use Rattle.ds_desc.specs.declared.refusal.Refusal.{Refusal}
use Rattle.ds_desc.specs.declared.refusal.Refusal.TheVariants.{NotFound, NotLease, Mismatch}
use Rattle.ds_kind.specs.Parts.{requests_of}
use Rattle.ds_kind.specs.Request.{span_of}
use Rattle.ds_kind.specs.declared.batch.Head.{Head}
use Rattle.ds_kind.specs.declared.batch.Item.{Item}
use Rattle.ds_kind.specs.declared.batch.Piece.{Piece}
use Rattle.ds_kind.specs.declared.reply.Failure.{Failure}
use Rattle.ds_kind.specs.declared.reply.Failure.TheVariants.{Aborted, Committed}
use Rattle.ds_kind.specs.declared.reply.Reply.{Reply}
use Rattle.ds_kind.specs.declared.request.Request.{Request}
use Rattle.ds_kind.specs.declared.request.Request.TheVariants.{EndTxn, AdminSplit, AdminTransferLease}
use Rattle.ds_cell.specs.Ask.{Cell}
use Rattle.ds_rule.specs.declared.answer.Answer.{Answer}
use Rattle.ds_rule.specs.declared.answer.Answer.TheVariants.{Done, Failed, Refused}
use Rattle.ds_rule.specs.declared.record.TxnRecord.{TxnRecord}
use Rattle.ds_rule.specs.declared.record.RecordStatus.{RecordStatus}
use Rattle.ds_rule.specs.declared.record.RecordStatus.TheVariants as Status
use Rattle.ds_rule.specs.Asking.{Made, Gives, Fails, finished, txn_of}
use Rattle.ds_rule.specs.Endings.{ended_of}
use Rattle.ds_rule.specs.Records.{record_of}
use Rattle.ds_rule.specs.Serve.{serve}
use Rattle.ds_rule.specs.Shifts.{lease_to, split_at}
use Rattle.ds_rule.specs.World.{World, Range, start_of, end_of, has_id, in_order, is_replica, replaced}

-- the range holds the item's span
abbrev pub holds_item : Range → Item → Bool
holds_item r i = key_le (start_of r) (span_of i.request).start && key_le (span_of i.request).end (end_of r)

abbrev pub with_cells : ℕ → List Cell → World → World
with_cells id cells w = record w { ranges = replaced (has_id id) (λ r. record r { cells = cells }) w.ranges }

-- ---- why a piece is not served

-- some item begins below the range's end, and some item ends above its start: the range overlaps the least span
-- that holds all items
abbrev pub overlaps : List Item → Range → Bool
overlaps items r =
    list_any (λ i. key_lt (span_of i.request).start (end_of r)) items
    && list_any (λ i. key_lt (start_of r) (span_of i.request).end) items

-- the ranges that overlap the least span over all items, the first eight
abbrev pub mismatch_rows : World → Piece → List Info
mismatch_rows w p = take 8 (map (λ r. r.info) (filter (overlaps p.items) (in_order p.dir w.ranges)))

-- one end of a transaction that doesn't commit, and nothing else
abbrev pub is_rollback : List Request → Bool
is_rollback (EndTxn a ∷ []) = if a.commit then false else true
is_rollback rs = false

-- a committed record takes no more pieces, and an aborted one a rollback alone; a transaction without a record is served as
-- if it were pending
abbrev pub stops_as : RecordStatus → Bool → Option Failure
stops_as Status.Pending rollback = None
stops_as Status.Committed rollback = Some Committed
stops_as Status.Aborted rollback = if rollback then None else Some Aborted
stops_as (Status.Staging fs) rollback = None

abbrev pub status_stops : Option TxnRecord → Piece → Option Failure
status_stops None p = None
status_stops (Some t) p = stops_as t.status (is_rollback (requests_of p.items))

pub data Stop : Type 0 where
  Turned : Refusal → Stop
  Ended : Failure → Stop

abbrev pub stop_answer : Stop → Answer
stop_answer (Turned r) = Refused r
stop_answer (Ended f) = Failed f

abbrev pub ends : Option Failure → Option Stop
ends None = None
ends (Some f) = Some (Ended f)

-- the first reason that applies
abbrev pub stops : World → ℕ → Piece → Range → Option Stop
stops w node p r =
    if not (is_replica node r.info.desc.nodes) then Some (Turned NotFound)
    else if not (r.info.lease.node == node) then Some (Turned (NotLease r.info.lease))
    else if not (list_all (holds_item r) p.items) then Some (Turned (Mismatch (mismatch_rows w p)))
    else ends (status_stops (record_of (txn_of p.head) w.records) p)

-- ---- what a served piece is answered

-- its items in order, asked of what the range holds, by the records
abbrev pub served : World → Piece → Range → Made
served w p r = serve w.records p.head p.head.left p.items r.cells

abbrev pub answer_made : Made → Answer
answer_made (Fails f) = Failed f
answer_made (Gives cells ws rs) = Done rs

-- ---- what it does beside what the range holds; nothing of it is counted as an event

-- who has no transaction ends nothing
abbrev pub end_of_txn : Option TxnNo → Bool → World → World
end_of_txn n commit w = record w { records = ended_of n commit w.records }

abbrev pub done_by : Head → Request → World → World
done_by h (EndTxn a) w = end_of_txn h.txn a.commit w
done_by h (AdminSplit a) w = split_at a.key w
done_by h (AdminTransferLease a) w = lease_to a.key a.node w
done_by h r w = w

-- a request that is still to be asked did nothing
abbrev pub done_unless : Option Extent → Head → Request → World → World
done_unless None h r w = done_by h r w
done_unless (Some rest) h r w = w

-- in order, with the reply to each
abbrev pub all_done : Head → List Item → List Reply → World → World
all_done h [] rs w = w
all_done h (i ∷ is) [] w = w
all_done h (i ∷ is) (r ∷ rs) w = all_done h is rs (done_unless r.resume h i.request w)

abbrev pub world_made : World → Piece → Made → World
world_made w p (Fails f) = w
world_made w p (Gives cells ws rs) = all_done p.head p.items rs (with_cells p.range (finished p.head ws cells) w)

-- ---- a delivery

abbrev pub answer_at : World → Piece → Range → Option Stop → Answer
answer_at w p r (Some a) = stop_answer a
answer_at w p r None = answer_made (served w p r)

abbrev pub world_at : World → Piece → Range → Option Stop → World
world_at w p r (Some a) = w
world_at w p r None = world_made w p (served w p r)

abbrev pub deliver_answer_to : World → ℕ → Piece → Option Range → Answer
deliver_answer_to w node p None = Refused NotFound
deliver_answer_to w node p (Some r) = answer_at w p r (stops w node p r)

abbrev pub deliver_world_to : World → ℕ → Piece → Option Range → World
deliver_world_to w node p None = w
deliver_world_to w node p (Some r) = world_at w p r (stops w node p r)

-- what the node answers the piece
abbrev pub deliver_answer : World → ℕ → Piece → Answer
deliver_answer w node p = deliver_answer_to w node p (find (has_id p.range) w.ranges)

-- the world after the delivery
abbrev pub deliver_world : World → ℕ → Piece → World
deliver_world w node p = deliver_world_to w node p (find (has_id p.range) w.ranges)
