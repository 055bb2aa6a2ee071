-- What a piece does beside what its range holds: its ends change the records alone, and its shifts how the keys lie in ranges.
use Rattle.std.proofs.Common.{◌≡◌, Bool, List, [], ◌∷◌, Option, Some, None, refl, ap, ◌∙◌}
use Rattle.ds_base.specs.Order.{Extent}
use Rattle.ds_base.specs.declared.value.TxnNo.{TxnNo}
use Rattle.ds_kind.specs.declared.batch.Head.{Head}
use Rattle.ds_kind.specs.declared.batch.Item.{Item}
use Rattle.ds_kind.specs.declared.reply.Reply.{Reply}
use Rattle.ds_kind.specs.declared.request.Request.{Request}
use Rattle.ds_kind.specs.declared.request.Request.TheVariants.{Get, Scan, ReverseScan, Put, ConditionalPut, InitPut, Increment, Delete, DeleteRange, EndTxn, QueryIntent, ResolveIntent, ResolveIntentRange, AdminSplit, AdminTransferLease}
use Rattle.ds_rule.specs.declared.record.TxnRecord.{TxnRecord}
use Rattle.ds_rule.specs.Deliver.{all_done, done_by, done_unless, end_of_txn}
use Rattle.ds_rule.specs.Endings.{all_ended, ended_by, ended_of, ended_unless}
use Rattle.ds_rule.specs.World.{World}
use Rattle.ds_sim.specs.declared.shift.Shift.{Shift}
use Rattle.ds_sim.specs.declared.shift.Shift.TheVariants.{Split, Lease}
use Rattle.ds_sim.specs.Done.{shift_all, shift_of, shift_unless, shift_world, shifts_of, with_shift}

-- the world with other records
abbrev pub recorded : List TxnRecord → World → World
recorded ts w = record w { records = ts }

abbrev shift_if : Option Shift → World → World
shift_if None w = w
shift_if (Some s) w = shift_world s w

ends-parts : (n : Option TxnNo) (commit : Bool) (w : World) → end_of_txn n commit w ≡ recorded (ended_of n commit w.records) w
ends-parts None commit w = refl
ends-parts (Some n) commit w = refl

by-parts : (h : Head) (q : Request) (w : World) → done_by h q w ≡ recorded (ended_by h q w.records) (shift_if (shift_of q) w)
by-parts h (Get a) w = refl
by-parts h (Scan a) w = refl
by-parts h (ReverseScan a) w = refl
by-parts h (Put a) w = refl
by-parts h (ConditionalPut a) w = refl
by-parts h (InitPut a) w = refl
by-parts h (Increment a) w = refl
by-parts h (Delete a) w = refl
by-parts h (DeleteRange a) w = refl
by-parts h (EndTxn a) w = ends-parts h.txn a.commit w
by-parts h (QueryIntent a) w = refl
by-parts h (ResolveIntent a) w = refl
by-parts h (ResolveIntentRange a) w = refl
by-parts h (AdminSplit a) w = refl
by-parts h (AdminTransferLease a) w = refl

unless-parts : (o : Option Extent) (h : Head) (q : Request) (w : World) → done_unless o h q w ≡ recorded (ended_unless o h q w.records) (shift_if (shift_unless o q) w)
unless-parts None h q w = by-parts h q w
unless-parts (Some rest) h q w = refl

-- the records don't matter to a shift
shift-recorded : (s : Shift) (ts : List TxnRecord) (w : World) → shift_world s (recorded ts w) ≡ recorded ts (shift_world s w)
shift-recorded (Split k) ts w = refl
shift-recorded (Lease k n) ts w = refl

shifts-recorded : (ss : List Shift) (ts : List TxnRecord) (w : World) → shift_all ss (recorded ts w) ≡ recorded ts (shift_all ss w)
shifts-recorded [] ts w = refl
shifts-recorded (s ∷ ss) ts w = ap (shift_all ss) (shift-recorded s ts w) ∙ shifts-recorded ss ts (shift_world s w)

with-first : (o : Option Shift) (ss : List Shift) (w : World) → shift_all ss (shift_if o w) ≡ shift_all (with_shift o ss) w
with-first None ss w = refl
with-first (Some s) ss w = refl

pub all-parts : (h : Head) (is : List Item) (rs : List Reply) (w : World) → all_done h is rs w ≡ recorded (all_ended h is rs w.records) (shift_all (shifts_of is rs) w)
all-parts h [] rs w = refl
all-parts h (i ∷ is) [] w = refl
all-parts h (i ∷ is) (r ∷ rs) w =
    let o = shift_unless r.resume i.request in
    let ts = ended_unless r.resume h i.request w.records in
    ap (all_done h is rs) (unless-parts r.resume h i.request w)
    ∙ all-parts h is rs (recorded ts (shift_if o w))
    ∙ ap (recorded (all_ended h is rs ts)) (shifts-recorded (shifts_of is rs) ts (shift_if o w))
    ∙ ap (recorded (all_ended h is rs ts)) (with-first o (shifts_of is rs) w)
