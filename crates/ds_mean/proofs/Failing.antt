-- The last piece failed: by its transaction's record, or because the batch's turn at a key fails.
use Rattle.std.proofs.Common.{◌≡◌, ℕ, ◌≤◌, Bool, true, false, ◌⊎◌, inl, inr, List, [], ◌∷◌, ◌++◌, Option, Some, None, refl, sym, ap, ◌∙◌, subst, append_assoc}
use Rattle.std.proofs.lemmas.List.{append-nil}
use Rattle.std.specs.List.{find}
use Rattle.ds_base.specs.Order.{holds}
use Rattle.ds_base.specs.Ordered.{Ascends}
use Rattle.ds_base.proofs.SmallFacts.{none_some}
use Rattle.ds_kind.specs.declared.batch.Item.{Item}
use Rattle.ds_kind.specs.declared.batch.Piece.{Piece}
use Rattle.ds_kind.specs.declared.reply.Failure.{Failure}
use Rattle.ds_cell.specs.declared.entry.Version.{Version}
use Rattle.ds_cell.specs.declared.verdict.ActFault.{ActFault}
use Rattle.ds_cell.specs.declared.verdict.ActFault.TheVariants as Fault
use Rattle.ds_cell.specs.Ask.{key_of, content_at}
use Rattle.ds_cell.specs.Content.{Rises, no_content}
use Rattle.ds_cell.specs.Store.{Store, StoreTxn, put_cell}
use Rattle.ds_law.proofs.Failing.{ByItem, ByRecord, Why, status_of, why}
use Rattle.ds_law.proofs.Replacing.{found-fits, range-at}
use Rattle.ds_rule.specs.declared.answer.Answer.TheVariants.{Failed}
use Rattle.ds_rule.specs.declared.journal.JournalStep.{JournalStep}
use Rattle.ds_rule.specs.declared.record.RecordStatus.{RecordStatus}
use Rattle.ds_rule.specs.declared.record.RecordStatus.TheVariants as Status
use Rattle.ds_rule.specs.declared.record.TxnRecord.{TxnRecord}
use Rattle.ds_rule.specs.Asking.{Asking, Fails, ask_all, at_of, failure_of}
use Rattle.ds_rule.specs.Deliver.{deliver_answer, status_stops, stops, stops_as}
use Rattle.ds_rule.specs.Journal.{Happening, Moved, Did, Accepted}
use Rattle.ds_rule.specs.Keeping.{Keeps}
use Rattle.ds_rule.specs.Pieces.{Each, IsCut, position_of}
use Rattle.ds_rule.specs.StandsFor.{after_made}
use Rattle.ds_rule.specs.Turn.{items_at, turn_of}
use Rattle.ds_rule.specs.World.{World, Range, cell_of, end_of, has_id, start_of}
use Rattle.ds_rule.proofs.Service.{held}
use Rattle.ds_turn.specs.Course.{with_versions}
use Rattle.ds_turn.specs.Deliveries.{FailsInTurn, Serves}
use Rattle.ds_turn.specs.Partway.{NumbersInOrder}
use Rattle.ds_turn.proofs.Deliveries.{piece_fails}
use Rattle.ds_turn.proofs.Progress.{put-there}
use Rattle.ds_mean.specs.InTurn.{AreFirst, items_of}
use Rattle.ds_mean.specs.Midway.{Midway}
use Rattle.ds_mean.specs.Send.{TurnFailed}
use Rattle.ds_mean.specs.Shows.{writes_at, writes_by}
use Rattle.ds_mean.proofs.Coming.{Reached, front_of, goes-next}
use Rattle.ds_mean.proofs.Serving.{none-far, none-spoken}
use Rattle.ds_mean.proofs.Stores.{made-cells}
use Rattle.ds_mean.proofs.Turning.{AreResolved, serves-so}

-- ---- a piece that failed

-- what a range that takes the piece holds at a key
abbrev pub HoldsAt : World → Piece → Range → List ℕ → Type 0
HoldsAt w j r k = (content_at k r.cells ≡ cell_of w k) ⊎ ((content_at k r.cells ≡ no_content) × (items_at k j.items ≡ []))

pub range-holds : (w : World) (n : ℕ) (j : Piece) (r : Range) → Keeps w → find (has_id j.range) w.ranges ≡ Some r → stops w n j r ≡ None → (k : List ℕ) → HoldsAt w j r k
range-holds w n j r keeps found goes k =
    elim (holds (start_of r) (end_of r) k) as (λ b. holds (start_of r) (end_of r) k ≡ b → HoldsAt w j r k) [
      | true ↦ λ here. inl (range-at (has_id j.range) [] w.ranges r k keeps.tiled found here)
      | false ↦ λ far. inr (none-far (start_of r) (end_of r) k r.cells (found-fits (has_id j.range) [] w.ranges r keeps.tiled found).inside far, none-spoken r k j.items (held w n j r goes) far)
    ] refl

pub fail-turn : (s : ℕ) (q : Asking) (acted : List ℕ → List Item) (vs : List ℕ → List Version) (o : Option StoreTxn) (w : World) (p : Store) (got : List Accepted) (n : ℕ) (j : Piece) (f : Failure)
    → q.head.at.0 ≤ s → Rises position_of q.items → NumbersInOrder q.items → (m : Midway s q acted vs o w p) → Reached got acted → AreFirst q.items (items_of got ++ j.items) → Each (IsCut q.items) j.items
    → j.head ≡ q.head → q.head.left ≡ None → AreResolved o q → Failed f ≡ deliver_answer w n j → (status_of w j ≡ Some f) ⊎ FailsInTurn q vs p.cells f
fail-turn s q acted vs o w p got n j f low rises numbers m reached first cuts head left resolved h = by (why w n j f h)
  where
    by : Why w n j f → (status_of w j ≡ Some f) ⊎ FailsInTurn q vs p.cells f
    by (ByRecord is) = inl is
    by (ByItem r found goes fails) =
        let at = range-holds w n j r m.keeps found goes in
        let asc : Ascends key_of r.cells = (found-fits (has_id j.range) [] w.ranges r m.keeps.tiled found).rising in
        let ask : ask_all q.head j.items r.cells ≡ Fails f =
        sym (serves-so s q acted vs o w p j r.cells m cuts head left resolved asc (λ k. elim (at k) [ inl here ↦ inl here | inr far ↦ inr far.0 ])) ∙ fails
        in
        let serves : Serves q acted m.partway.rest (λ k. acted k ++ front_of (items_at k j.items) (m.partway.rest k)) (cell_of w) j.items r.cells = record {
          ascends = asc;
          cuts = cuts;
          there = λ k. elim (at k) [ inl here ↦ inr here | inr far ↦ inl far.1 ];
          goes = λ k. goes-next q.items j.items (acted k) (m.partway.rest k) got k rises cuts (m.partway.front k) (reached k) first;
        } in
        inr (piece_fails s q acted (λ k. acted k ++ front_of (items_at k j.items) (m.partway.rest k)) vs (cell_of w) p.cells m.partway low numbers j.items r.cells f serves ask)

-- ---- told of the store with the writes so far

pub writes-both : (k : List ℕ) (xs ys : List Happening) → writes_at k (xs ++ ys) ≡ writes_at k xs ++ writes_at k ys
writes-both k [] ys = refl
writes-both k (Moved e ∷ xs) ys = ap (λ zs. writes_by k e ++ zs) (writes-both k xs ys) ∙ sym (append_assoc (writes_by k e) (writes_at k xs) (writes_at k ys))
writes-both k (Did s ∷ xs) ys = writes-both k xs ys

pub turn-failed : (q : Asking) (p : Store) (before hs : List Happening) (s : JournalStep) (f : Failure) → hs ≡ before ++ Did s ∷ [] → Ascends key_of p.cells → FailsInTurn q (λ k. writes_at k before) p.cells f → TurnFailed q p hs f
turn-failed q p before hs s f is asc t = record {
  key = t.key;
  position = t.position;
  fault = t.fault;
  says = t.says;
  young = t.young;
  old = λ h. ap (turn_of (at_of q.head 0) (items_at t.key q.items)) there ∙ t.old h;
}
  where
    writes : writes_at t.key hs ≡ writes_at t.key before
    writes = ap (writes_at t.key) is ∙ writes-both t.key before (Did s ∷ []) ∙ append-nil (writes_at t.key before)

    there : content_at t.key (after_made hs p).cells ≡ content_at t.key (put_cell t.key (with_versions (writes_at t.key before)) p.cells)
    there = (made-cells hs p asc).1 t.key ∙ ap (λ us. with_versions us (content_at t.key p.cells)) writes ∙ sym (put-there t.key (with_versions (writes_at t.key before)) p.cells asc)

-- ---- what a record and an item can say

abbrev pub IsOfRecord : Failure → Type 0
IsOfRecord (Failure.Condition i v) = ⊥
IsOfRecord (Failure.TooOld i k t) = ⊥
IsOfRecord (Failure.NotInteger i) = ⊥
IsOfRecord (Failure.Overflow i) = ⊥
IsOfRecord Failure.Aborted = Unit {0}
IsOfRecord Failure.Committed = Unit {0}

stops-says : (s : RecordStatus) (b : Bool) (f : Failure) → stops_as s b ≡ Some f → IsOfRecord f
stops-says Status.Pending b f h = absurd (none_some f h)
stops-says Status.Committed b f h = let same : Failure.Committed ≡ f = cc in subst IsOfRecord same tt
stops-says Status.Aborted true f h = absurd (none_some f h)
stops-says Status.Aborted false f h = let same : Failure.Aborted ≡ f = cc in subst IsOfRecord same tt
stops-says (Status.Staging fs) b f h = absurd (none_some f h)

status-says : (o : Option TxnRecord) (j : Piece) (f : Failure) → status_stops o j ≡ Some f → IsOfRecord f
status-says None j f h = absurd (none_some f h)
status-says (Some t) j f h = stops-says t.status _ f h

pub record-says : (w : World) (j : Piece) (f : Failure) → status_of w j ≡ Some f → IsOfRecord f
record-says w j f h = status-says _ j f h

-- an item never fails as a record does
pub item-says : (p : ℕ) (k : List ℕ) (g : ActFault) → IsOfRecord (failure_of p k g) → ⊥
item-says p k (Fault.Condition v) h = h
item-says p k (Fault.TooOld t) h = h
item-says p k Fault.NotInteger h = h
item-says p k Fault.Overflow h = h
item-says p k (Fault.Memory e) h = h
