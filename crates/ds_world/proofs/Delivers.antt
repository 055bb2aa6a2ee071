-- What a delivery keeps of a world.
use Rattle.std.proofs.Common.{◌≡◌, ℕ, Bool, List, [], ◌∷◌, Option, Some, None, refl, ◌∙◌, ap}
use Rattle.std.specs.List.{find}
use Rattle.ds_base.specs.Order.{Extent}
use Rattle.ds_base.specs.declared.value.TxnNo.{TxnNo}
use Rattle.ds_kind.specs.declared.batch.Head.{Head}
use Rattle.ds_kind.specs.declared.batch.Item.{Item}
use Rattle.ds_kind.specs.declared.batch.Piece.{Piece}
use Rattle.ds_kind.specs.declared.reply.Reply.{Reply}
use Rattle.ds_kind.specs.declared.request.Request.{Request}
use Rattle.ds_kind.specs.declared.request.Request.TheVariants.{Get, Scan, ReverseScan, Put, ConditionalPut, InitPut, Increment, Delete, DeleteRange, EndTxn, QueryIntent, ResolveIntent, ResolveIntentRange, AdminSplit, AdminTransferLease}
use Rattle.ds_rule.specs.Asking.{Made, Gives, Fails, finished}
use Rattle.ds_rule.specs.Deliver.{Stop, all_done, deliver_world, deliver_world_to, done_by, done_unless, end_of_txn, served, stops, with_cells, world_at, world_made}
use Rattle.ds_rule.specs.Endings.{all_ended, ended_by, ended_of, ended_unless}
use Rattle.ds_rule.specs.Keeping.{Keeps}
use Rattle.ds_rule.specs.World.{World, Range, has_id}
use Rattle.ds_rule.proofs.Delivered.{served_tiles}
use Rattle.ds_world.proofs.Foreign.{keeps-holding}
use Rattle.ds_world.proofs.Shifted.{lease_keeps, split_keeps}
use Rattle.ds_world.proofs.Stretches.{keeps-same}
use Rattle.ds_rule.specs.Shifts.{lease_to, split_at}
use Rattle.ds_rule.specs.declared.record.TxnRecord.{TxnRecord}
use Rattle.ds_cell.specs.Ask.{Cells}

end-keeps : (n : Option TxnNo) (commit : Bool) (w : World) → Keeps w → Keeps (end_of_txn n commit w)
end-keeps n commit w k = keeps-same w (end_of_txn n commit w) refl refl k

by-keeps : (h : Head) (q : Request) (w : World) → Keeps w → Keeps (done_by h q w)
by-keeps h (Get a) w k = k
by-keeps h (Scan a) w k = k
by-keeps h (ReverseScan a) w k = k
by-keeps h (Put a) w k = k
by-keeps h (ConditionalPut a) w k = k
by-keeps h (InitPut a) w k = k
by-keeps h (Increment a) w k = k
by-keeps h (Delete a) w k = k
by-keeps h (DeleteRange a) w k = k
by-keeps h (EndTxn a) w k = end-keeps h.txn a.commit w k
by-keeps h (QueryIntent a) w k = k
by-keeps h (ResolveIntent a) w k = k
by-keeps h (ResolveIntentRange a) w k = k
by-keeps h (AdminSplit a) w k = split_keeps a.key w k
by-keeps h (AdminTransferLease a) w k = lease_keeps a.key a.node w k

unless-keeps : (o : Option Extent) (h : Head) (q : Request) (w : World) → Keeps w → Keeps (done_unless o h q w)
unless-keeps None h q w k = by-keeps h q w k
unless-keeps (Some rest) h q w k = k

pub done-keeps : (h : Head) (items : List Item) (rs : List Reply) (w : World) → Keeps w → Keeps (all_done h items rs w)
done-keeps h [] rs w k = k
done-keeps h (i ∷ is) [] w k = k
done-keeps h (i ∷ is) (r ∷ rs) w k = done-keeps h is rs (done_unless r.resume h i.request w) (unless-keeps r.resume h i.request w k)

made-keeps : (w : World) (n : ℕ) (p : Piece) (r : Range) (m : Made) → find (has_id p.range) w.ranges ≡ Some r → stops w n p r ≡ None → served w p r ≡ m → Keeps w → Keeps (world_made w p m)
made-keeps w n p r (Fails f) found goes is k = k
made-keeps w n p r (Gives cells ws rs) found goes is k =
    done-keeps p.head p.items rs (with_cells p.range (finished p.head ws cells) w)
    (keeps-holding (has_id p.range) (λ r. finished p.head ws cells) w (served_tiles [] w n p r cells ws rs found goes is k.tiled) k)

at-keeps : (w : World) (n : ℕ) (p : Piece) (r : Range) (o : Option Stop) → find (has_id p.range) w.ranges ≡ Some r → stops w n p r ≡ o → Keeps w → Keeps (world_at w p r o)
at-keeps w n p r (Some s) found goes k = k
at-keeps w n p r None found goes k = made-keeps w n p r (served w p r) found goes refl k

to-keeps : (w : World) (n : ℕ) (p : Piece) (o : Option Range) → find (has_id p.range) w.ranges ≡ o → Keeps w → Keeps (deliver_world_to w n p o)
to-keeps w n p None found k = k
to-keeps w n p (Some r) found k = at-keeps w n p r (stops w n p r) found refl k

-- whatever a piece asks, and whatever it is answered
pub deliver-keeps : (n : ℕ) (p : Piece) (w : World) → Keeps w → Keeps (deliver_world w n p)
deliver-keeps n p w k = to-keeps w n p (find (has_id p.range) w.ranges) refl k

-- ---- what a delivery leaves

-- something that other cells, other records, a split and a lease leave
record Leaves {X : Type 0} (f : World → X) : Type 0 where
  cells : (id : ℕ) (cs : Cells) (w : World) → f (with_cells id cs w) ≡ f w
  ends : (ts : List TxnRecord) (w : World) → f (record w { records = ts }) ≡ f w
  splits : (k : List ℕ) (w : World) → f (split_at k w) ≡ f w
  leases : (k : List ℕ) (n : ℕ) (w : World) → f (lease_to k n w) ≡ f w

by-leaves : {X : Type 0} (f : World → X) → Leaves f → (h : Head) (q : Request) (w : World) → f (done_by h q w) ≡ f w
by-leaves f l h (Get a) w = refl
by-leaves f l h (Scan a) w = refl
by-leaves f l h (ReverseScan a) w = refl
by-leaves f l h (Put a) w = refl
by-leaves f l h (ConditionalPut a) w = refl
by-leaves f l h (InitPut a) w = refl
by-leaves f l h (Increment a) w = refl
by-leaves f l h (Delete a) w = refl
by-leaves f l h (DeleteRange a) w = refl
by-leaves f l h (EndTxn a) w = l.ends (ended_of h.txn a.commit w.records) w
by-leaves f l h (QueryIntent a) w = refl
by-leaves f l h (ResolveIntent a) w = refl
by-leaves f l h (ResolveIntentRange a) w = refl
by-leaves f l h (AdminSplit a) w = l.splits a.key w
by-leaves f l h (AdminTransferLease a) w = l.leases a.key a.node w

unless-leaves : {X : Type 0} (f : World → X) → Leaves f → (o : Option Extent) (h : Head) (q : Request) (w : World) → f (done_unless o h q w) ≡ f w
unless-leaves f l None h q w = by-leaves f l h q w
unless-leaves f l (Some rest) h q w = refl

done-leaves : {X : Type 0} (f : World → X) → Leaves f → (h : Head) (items : List Item) (rs : List Reply) (w : World) → f (all_done h items rs w) ≡ f w
done-leaves f l h [] rs w = refl
done-leaves f l h (i ∷ is) [] w = refl
done-leaves f l h (i ∷ is) (r ∷ rs) w = done-leaves f l h is rs (done_unless r.resume h i.request w) ∙ unless-leaves f l r.resume h i.request w

made-leaves : {X : Type 0} (f : World → X) → Leaves f → (w : World) (p : Piece) (m : Made) → f (world_made w p m) ≡ f w
made-leaves f l w p (Fails e) = refl
made-leaves f l w p (Gives cells ws rs) = done-leaves f l p.head p.items rs (with_cells p.range (finished p.head ws cells) w) ∙ l.cells p.range (finished p.head ws cells) w

at-leaves : {X : Type 0} (f : World → X) → Leaves f → (w : World) (p : Piece) (r : Range) (o : Option Stop) → f (world_at w p r o) ≡ f w
at-leaves f l w p r (Some s) = refl
at-leaves f l w p r None = made-leaves f l w p (served w p r)

to-leaves : {X : Type 0} (f : World → X) → Leaves f → (w : World) (n : ℕ) (p : Piece) (o : Option Range) → f (deliver_world_to w n p o) ≡ f w
to-leaves f l w n p None = refl
to-leaves f l w n p (Some r) = at-leaves f l w p r (stops w n p r)

pub deliver-leaves : {X : Type 0} (f : World → X) → ((id : ℕ) (cs : Cells) (w : World) → f (with_cells id cs w) ≡ f w) → ((ts : List TxnRecord) (w : World) → f (record w { records = ts }) ≡ f w) → ((k : List ℕ) (w : World) → f (split_at k w) ≡ f w) → ((k : List ℕ) (n : ℕ) (w : World) → f (lease_to k n w) ≡ f w) → (w : World) (n : ℕ) (p : Piece) → f (deliver_world w n p) ≡ f w
deliver-leaves f cells ends splits leases w n p = to-leaves f (record { cells = cells; ends = ends; splits = splits; leases = leases }) w n p (find (has_id p.range) w.ranges)

-- ---- what becomes of the records: its ends change them, and nothing else

by-ends : (h : Head) (q : Request) (w : World) → (done_by h q w).records ≡ ended_by h q w.records
by-ends h (Get a) w = refl
by-ends h (Scan a) w = refl
by-ends h (ReverseScan a) w = refl
by-ends h (Put a) w = refl
by-ends h (ConditionalPut a) w = refl
by-ends h (InitPut a) w = refl
by-ends h (Increment a) w = refl
by-ends h (Delete a) w = refl
by-ends h (DeleteRange a) w = refl
by-ends h (EndTxn a) w = refl
by-ends h (QueryIntent a) w = refl
by-ends h (ResolveIntent a) w = refl
by-ends h (ResolveIntentRange a) w = refl
by-ends h (AdminSplit a) w = refl
by-ends h (AdminTransferLease a) w = refl

unless-ends : (o : Option Extent) (h : Head) (q : Request) (w : World) → (done_unless o h q w).records ≡ ended_unless o h q w.records
unless-ends None h q w = by-ends h q w
unless-ends (Some rest) h q w = refl

pub done-ends : (h : Head) (items : List Item) (rs : List Reply) (w : World) → (all_done h items rs w).records ≡ all_ended h items rs w.records
done-ends h [] rs w = refl
done-ends h (i ∷ is) [] w = refl
done-ends h (i ∷ is) (r ∷ rs) w = done-ends h is rs (done_unless r.resume h i.request w) ∙ ap (all_ended h is rs) (unless-ends r.resume h i.request w)
