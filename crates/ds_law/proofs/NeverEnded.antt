-- A call of a pending transaction, or of none, never fails by a record, where nothing happens beside its steps.
use Rattle.std.proofs.Common.{◌≡◌, ℕ, ◌==◌, true, false, List, [], ◌∷◌, Option, Some, None, refl, sym, ap, ◌∙◌, subst}
use Rattle.std.specs.List.{find}
use Rattle.ds_base.specs.declared.value.TxnNo.{TxnNo}
use Rattle.ds_base.proofs.SmallFacts.{none_some}
use Rattle.ds_rule.proofs.Eachs.{each-left, each-right, each-of}
use Rattle.ds_desc.specs.declared.meta.Looked.TheVariants as Looked
use Rattle.ds_kind.specs.declared.batch.Batch.{Batch}
use Rattle.ds_kind.specs.declared.batch.Piece.{Piece}
use Rattle.ds_kind.specs.declared.reply.Failure.{Failure}
use Rattle.ds_cell.specs.Content.{AllAbove, Rises}
use Rattle.ds_cell.specs.Store.{Store, StoreTxn, Fate, Pending, Committed, Aborted}
use Rattle.ds_rule.specs.declared.answer.Answer.TheVariants.{Done, Failed, Refused, Lost}
use Rattle.ds_rule.specs.declared.journal.JournalStep.TheVariants.{Look, Send}
use Rattle.ds_rule.specs.declared.record.TxnRecord.{TxnRecord}
use Rattle.ds_rule.specs.Asking.{Asking, Made, Gives, Fails, txn_number, txn_of, finished}
use Rattle.ds_rule.specs.Cause.{LastFails}
use Rattle.ds_rule.specs.Clauses.{Stands}
use Rattle.ds_rule.specs.Deliver.{Stop, deliver_world, deliver_world_to, served, status_stops, stops, world_at, world_made, all_done, done_by, done_unless, with_cells}
use Rattle.ds_rule.specs.Journal.{Happening, Moved, Did, Runs, Accepted}
use Rattle.ds_rule.specs.Law.{IsQuiet}
use Rattle.ds_rule.specs.Path.{Path, IsOf}
use Rattle.ds_rule.specs.Pieces.{Each, PieceOf, IsCut}
use Rattle.ds_rule.specs.Plain.{is_pending}
use Rattle.ds_rule.specs.Records.{record_number}
use Rattle.ds_rule.specs.StandsFor.{HasRecordOf, IsWho, Knows, Ready, record_for}
use Rattle.ds_rule.specs.World.{World, Range, has_id}
use Rattle.ds_rule.proofs.Passing.{told}
use Rattle.ds_law.proofs.Failing.{ByItem, ByRecord, Why, none-named, runs-cut, status_of, why}
use Rattle.ds_law.proofs.Own.{IsOfRecord, never-served}
use Rattle.ds_law.proofs.Recorded.{Pends, find-last, known-last}
use Rattle.ds_base.specs.Order.{Extent}
use Rattle.ds_kind.specs.Request.{cut_to}
use Rattle.ds_kind.specs.Asks.{is_end}
use Rattle.ds_kind.specs.declared.batch.Head.{Head}
use Rattle.ds_kind.specs.declared.batch.Item.{Item}
use Rattle.ds_kind.specs.declared.reply.Reply.{Reply}
use Rattle.ds_kind.specs.declared.request.Request.{Request}
use Rattle.ds_kind.specs.declared.request.Request.TheVariants.{Get, Scan, ReverseScan, Put, ConditionalPut, InitPut, Increment, Delete, DeleteRange, EndTxn, QueryIntent, ResolveIntent, ResolveIntentRange, AdminSplit, AdminTransferLease}

-- steps that end no transaction leave the records as they are

abbrev pub EndsNone : Item → Type 0
EndsNone i = is_end i.request ≡ false

by-records : (h : Head) (q : Request) (w : World) → is_end q ≡ false → (done_by h q w).records ≡ w.records
by-records h (Get a) w none = refl
by-records h (Scan a) w none = refl
by-records h (ReverseScan a) w none = refl
by-records h (Put a) w none = refl
by-records h (ConditionalPut a) w none = refl
by-records h (InitPut a) w none = refl
by-records h (Increment a) w none = refl
by-records h (Delete a) w none = refl
by-records h (DeleteRange a) w none = refl
by-records h (EndTxn a) w none = cc
by-records h (QueryIntent a) w none = refl
by-records h (ResolveIntent a) w none = refl
by-records h (ResolveIntentRange a) w none = refl
by-records h (AdminSplit a) w none = refl
by-records h (AdminTransferLease a) w none = refl

unless-records : (o : Option Extent) (h : Head) (q : Request) (w : World) → is_end q ≡ false → (done_unless o h q w).records ≡ w.records
unless-records None h q w none = by-records h q w none
unless-records (Some rest) h q w none = refl

done-records : (h : Head) (items : List Item) (rs : List Reply) (w : World) → Each EndsNone items → (all_done h items rs w).records ≡ w.records
done-records h [] rs w none = refl
done-records h (i ∷ is) [] w none = refl
done-records h (i ∷ is) (r ∷ rs) w none = done-records h is rs (done_unless r.resume h i.request w) none.1 ∙ unless-records r.resume h i.request w none.0

made-records : (w : World) (p : Piece) (m : Made) → Each EndsNone p.items → (world_made w p m).records ≡ w.records
made-records w p (Fails f) none = refl
made-records w p (Gives cells ws rs) none = done-records p.head p.items rs (with_cells p.range (finished p.head ws cells) w) none

at-records : (w : World) (p : Piece) (r : Range) (o : Option Stop) → Each EndsNone p.items → (world_at w p r o).records ≡ w.records
at-records w p r (Some s) none = refl
at-records w p r None none = made-records w p (served w p r) none

to-records : (w : World) (n : ℕ) (p : Piece) (o : Option Range) → Each EndsNone p.items → (deliver_world_to w n p o).records ≡ w.records
to-records w n p None none = refl
to-records w n p (Some r) none = at-records w p r (stops w n p r) none

deliver-records : (w : World) (n : ℕ) (p : Piece) → Each EndsNone p.items → (deliver_world w n p).records ≡ w.records
deliver-records w n p none = to-records w n p (find (has_id p.range) w.ranges) none

cut-end : (s e : List ℕ) (r : Request) → is_end (cut_to s e r) ≡ is_end r
cut-end s e (Get a) = refl
cut-end s e (Scan a) = refl
cut-end s e (ReverseScan a) = refl
cut-end s e (Put a) = refl
cut-end s e (ConditionalPut a) = refl
cut-end s e (InitPut a) = refl
cut-end s e (Increment a) = refl
cut-end s e (Delete a) = refl
cut-end s e (DeleteRange a) = refl
cut-end s e (EndTxn a) = refl
cut-end s e (QueryIntent a) = refl
cut-end s e (ResolveIntent a) = refl
cut-end s e (ResolveIntentRange a) = refl
cut-end s e (AdminSplit a) = refl
cut-end s e (AdminTransferLease a) = refl

cuts-end : (items whole : List Item) → Each EndsNone whole → Each (IsCut whole) items → Each EndsNone items
cuts-end [] whole none cuts = tt
cuts-end (i ∷ is) whole none cuts =
    (ap is_end cuts.0.request ∙ cut-end _ _ cuts.0.whole.request ∙ each-of EndsNone cuts.0.whole whole none cuts.0.there, cuts-end is whole none cuts.1)

quiet-records : (q : Asking) (hs : List Happening) (w v : World) → Each EndsNone q.items → Each (IsOf q) hs → Each IsQuiet hs → Runs w hs v → v.records ≡ w.records
quiet-records q [] w v none of quiet r = ap (λ z. z.records) r
quiet-records q (Moved e ∷ hs) w v none of quiet r = absurd quiet.0
quiet-records q (Did (Look k d (Looked.Rows infos)) ∷ hs) w v none of quiet r = quiet-records q hs r.0 v none of.1 quiet.1 r.2 ∙ ap (λ z. z.records) (told w (Look k d (Looked.Rows infos)) r.0 r.1).1
quiet-records q (Did (Look k d Looked.Lost) ∷ hs) w v none of quiet r = absurd (quiet.0 tt)
quiet-records q (Did (Send n p (Done rs)) ∷ hs) w v none of quiet r = quiet-records q hs r.0 v none of.1 quiet.1 r.2 ∙ ap (λ z. z.records) (told w (Send n p (Done rs)) r.0 r.1).1 ∙ deliver-records w n p (cuts-end p.items q.items none of.0.cuts)
quiet-records q (Did (Send n p (Failed f)) ∷ hs) w v none of quiet r = quiet-records q hs r.0 v none of.1 quiet.1 r.2 ∙ ap (λ z. z.records) (told w (Send n p (Failed f)) r.0 r.1).1 ∙ deliver-records w n p (cuts-end p.items q.items none of.0.cuts)
quiet-records q (Did (Send n p (Refused f)) ∷ hs) w v none of quiet r = quiet-records q hs r.0 v none of.1 quiet.1 r.2 ∙ ap (λ z. z.records) (told w (Send n p (Refused f)) r.0 r.1).1 ∙ deliver-records w n p (cuts-end p.items q.items none of.0.cuts)
quiet-records q (Did (Send n p Lost) ∷ hs) w v none of quiet r = absurd (quiet.0 tt)

-- the record of a pending transaction takes pieces, and there is none without a transaction

pending-takes : (t : StoreTxn) (f : Fate) (p : Piece) → t.fate ≡ f → is_pending f ≡ true → status_stops (Some (record_for t)) p ≡ None
pending-takes t Pending p e h = ap (λ f. status_stops (Some (record_for (record t { fate = f }))) p) e
pending-takes t Committed p e h = cc
pending-takes t Aborted p e h = cc

pending-free : (n : Option TxnNo) (o : Option StoreTxn) (rs : List TxnRecord) (p : Piece) → IsWho n o → Knows n o → HasRecordOf o rs → Rises record_number rs → AllAbove record_number 0 rs → Pends n o → status_stops (find (λ t. t.txn.0 == txn_number n) rs) p ≡ None
pending-free None o rs p who known has rise named pend = ap (λ o. status_stops o p) (none-named rs named)
pending-free (Some n) None rs p who known has rise named pend = absurd who
pending-free (Some n) (Some t) rs p who known has rise named pend =
    ap (λ o. status_stops o p) (ap (λ k. find (λ u. u.txn.0 == k) rs) who ∙ find-last rs (record_for t) rise (known-last t.mode t rs known has))
    ∙ pending-takes t t.fate p refl pend

-- so a failure is one of a request
pub never-ended : (batch : Batch) (q : Asking) (a b : Stands) (p : Store) (f : Failure) (got : List Accepted) (path : Path q a b got) → Each EndsNone q.items → Each IsQuiet path.added → Ready a p batch q → Pends q.head.txn p.txn → IsOfRecord f → LastFails f path.added → ⊥
never-ended batch q a b p f got path none quiet ready pend ended last = by (why cut.0 last.node last.piece f (told cut.0 (Send last.node last.piece (Failed f)) cut.2.0 cut.2.1).0)
  where
    step : List Happening
    step = Did (Send last.node last.piece (Failed f)) ∷ []

    cut : (m : World) × Runs a.world last.before m × Runs m step b.world
    cut = runs-cut a.world b.world last.before step (subst (λ hs. Runs a.world hs b.world) last.last path.runs)

    here : PieceOf q q.head.left last.piece
    here = (each-right (IsOf q) last.before step (subst (Each (IsOf q)) last.last path.of)).0

    same : cut.0.records ≡ a.world.records
    same = quiet-records q last.before a.world cut.0 none (each-left (IsOf q) last.before step (subst (Each (IsOf q)) last.last path.of)) (each-left IsQuiet last.before step (subst (Each IsQuiet) last.last quiet)) cut.1

    free : status_of cut.0 last.piece ≡ None
    free = ap (λ n. status_stops (find (λ t. t.txn.0 == n) cut.0.records) last.piece) (ap txn_of here.head)
        ∙ ap (λ ts. status_stops (find (λ t. t.txn.0 == txn_number q.head.txn) ts) last.piece) same
        ∙ pending-free q.head.txn p.txn a.world.records last.piece ready.who ready.knows ready.stands.recorded ready.stands.numbers ready.stands.named pend

    by : Why cut.0 last.node last.piece f → ⊥
    by (ByRecord is) = none_some f (sym free ∙ is)
    by (ByItem r found goes fails) = never-served cut.0.records last.piece.head last.piece.head.left last.piece.items r.cells f ended fails
