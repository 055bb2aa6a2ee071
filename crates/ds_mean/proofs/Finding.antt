-- How a batch of the transaction finds its record: pending where a piece was served, aborted where one failed by it.
use Rattle.std.proofs.Common.{◌≡◌, ℕ, Bool, true, false, ◌||◌, ◌==◌, List, [], ◌∷◌, Some, None, refl, sym, ap, ◌∙◌, subst}
use Rattle.std.specs.List.{find, list_any}
use Rattle.ds_base.proofs.SmallFacts.{none_some}
use Rattle.ds_kind.specs.Asks.{is_end}
use Rattle.ds_kind.specs.Parts.{requests_of}
use Rattle.ds_kind.specs.declared.batch.Piece.{Piece}
use Rattle.ds_kind.specs.declared.reply.Failure.{Failure}
use Rattle.ds_kind.specs.declared.request.Request.{Request}
use Rattle.ds_kind.specs.declared.request.Request.TheVariants.{Get, Scan, ReverseScan, Put, ConditionalPut, InitPut, Increment, Delete, DeleteRange, EndTxn, QueryIntent, ResolveIntent, ResolveIntentRange, AdminSplit, AdminTransferLease}
use Rattle.ds_cell.specs.Store.{StoreTxn, Mode, Live, FailedSince, Unknown, OverWith, Fate, Pending, Committed, Aborted}
use Rattle.ds_law.proofs.Failing.{status_of}
use Rattle.ds_law.proofs.Recorded.{find-last}
use Rattle.ds_rule.specs.declared.event.Event.{Event}
use Rattle.ds_rule.specs.declared.record.RecordStatus.{RecordStatus}
use Rattle.ds_rule.specs.declared.record.RecordStatus.TheVariants as Status
use Rattle.ds_rule.specs.Asking.{Asking, txn_number, txn_of}
use Rattle.ds_rule.specs.Deliver.{is_rollback, status_stops, stops_as}
use Rattle.ds_rule.specs.Journal.{Happening, Moved, Did}
use Rattle.ds_rule.specs.Plain.{abort_txn, aborted_by}
use Rattle.ds_rule.specs.World.{World}
use Rattle.ds_mean.specs.Means.{FitsLive, RecordsFit, StatusFits}
use Rattle.ds_mean.specs.Shows.{txn_after, txn_by}
use Rattle.ds_mean.proofs.Turning.{IsOwn}

-- ---- no rollback

not-rollback : (r : Request) (rs : List Request) → is_end r ≡ false → is_rollback (r ∷ rs) ≡ false
not-rollback (Get a) rs none = refl
not-rollback (Scan a) rs none = refl
not-rollback (ReverseScan a) rs none = refl
not-rollback (Put a) rs none = refl
not-rollback (ConditionalPut a) rs none = refl
not-rollback (InitPut a) rs none = refl
not-rollback (Increment a) rs none = refl
not-rollback (Delete a) rs none = refl
not-rollback (DeleteRange a) rs none = refl
not-rollback (EndTxn a) rs none = cc
not-rollback (QueryIntent a) rs none = refl
not-rollback (ResolveIntent a) rs none = refl
not-rollback (ResolveIntentRange a) rs none = refl
not-rollback (AdminSplit a) rs none = refl
not-rollback (AdminTransferLease a) rs none = refl

pub no-rollback : (rs : List Request) → list_any is_end rs ≡ false → is_rollback rs ≡ false
no-rollback [] none = refl
no-rollback (r ∷ rs) none = not-rollback r rs (first (is_end r) (list_any is_end rs) none)
  where
    first : (a b : Bool) → (a || b) ≡ false → a ≡ false
    first true b h = cc
    first false b h = refl

-- ---- the transaction after events

pub record LaterTxn (hs : List Happening) (t : StoreTxn) : Type 0 where
  pub now : StoreTxn
  pub is : txn_after hs (Some t) ≡ Some now
  pub mode : now.mode ≡ t.mode
  pub asker : now.asker ≡ t.asker
  pub back : now.fate ≡ Pending → t.fate ≡ Pending

abort-back : (f : Fate) (m : Mode) → aborted_by f m ≡ Pending → f ≡ Pending
abort-back Pending m h = refl
abort-back Committed Live h = h
abort-back Committed (FailedSince n) h = h
abort-back Committed (Unknown ws) h = h
abort-back Committed (OverWith s) h = h
abort-back Aborted Live h = h
abort-back Aborted (FailedSince n) h = h
abort-back Aborted (Unknown ws) h = h
abort-back Aborted (OverWith s) h = h

more-later : (hs : List Happening) (t u : StoreTxn) → u.mode ≡ t.mode → u.asker ≡ t.asker → (u.fate ≡ Pending → t.fate ≡ Pending) → (l : LaterTxn hs u)
    → (now : StoreTxn) × (txn_after hs (Some u) ≡ Some now) × (now.mode ≡ t.mode) × (now.asker ≡ t.asker) × (now.fate ≡ Pending → t.fate ≡ Pending)
more-later hs t u mode asker back l = (l.now, l.is, l.mode ∙ mode, l.asker ∙ asker, λ h. back (l.back h))

event-later : (e : Event) (t : StoreTxn) → (u : StoreTxn) × (txn_by e (Some t) ≡ Some u) × (u.mode ≡ t.mode) × (u.asker ≡ t.asker) × (u.fate ≡ Pending → t.fate ≡ Pending)
event-later (Event.Write k s v) t = (t, refl, refl, refl, λ h. h)
event-later Event.Abort t = (abort_txn t, refl, refl, refl, λ h. abort-back t.fate t.mode h)
event-later (Event.Split k) t = (t, refl, refl, refl, λ h. h)
event-later (Event.Merge k) t = (t, refl, refl, refl, λ h. h)
event-later (Event.Lease k n) t = (t, refl, refl, refl, λ h. h)
event-later (Event.Move k ns) t = (t, refl, refl, refl, λ h. h)
event-later (Event.Stale k b) t = (t, refl, refl, refl, λ h. h)
event-later (Event.Arrive c) t = (t, refl, refl, refl, λ h. h)
event-later (Event.LoseRequest c) t = (t, refl, refl, refl, λ h. h)
event-later (Event.LoseReply c) t = (t, refl, refl, refl, λ h. h)
event-later (Event.Copy c) t = (t, refl, refl, refl, λ h. h)
event-later (Event.Restart n) t = (t, refl, refl, refl, λ h. h)

pub later-txn : (hs : List Happening) (t : StoreTxn) → LaterTxn hs t
later-txn [] t = record { now = t; is = refl; mode = refl; asker = refl; back = λ h. h }
later-txn (Moved e ∷ hs) t =
    let one = event-later e t in
    let r = more-later hs t one.0 one.2 one.3 one.4 (later-txn hs one.0) in
    record { now = r.0; is = ap (txn_after hs) one.1 ∙ r.1; mode = r.2; asker = r.3; back = r.4 }
later-txn (Did s ∷ hs) t =
    let r = later-txn hs t in record { now = r.now; is = r.is; mode = r.mode; asker = r.asker; back = r.back }

-- ---- what the record says

own-number : (q : Asking) (t : StoreTxn) → IsOwn q (Some t) → txn_of q.head ≡ t.asker.number
own-number q t own = ap txn_number own.1 ∙ own.2.0

-- the record of the open transaction is found by its number
pub found-own : (q : Asking) (t : StoreTxn) (begun : ℕ) (w : World) (j : Piece) → IsOwn q (Some t) → j.head ≡ q.head → (fits : RecordsFit (Some t) begun w.records) → status_of w j ≡ stops_as fits.recorded.its.status (is_rollback (requests_of j.items))
found-own q t begun w j own head fits =
    let r = fits.recorded in
    ap (λ n. status_stops (find (λ u. u.txn.0 == n) w.records) j) (ap txn_of head ∙ own-number q t own ∙ sym r.number)
    ∙ ap (λ o. status_stops o j) (find-last w.records r.its fits.numbers r.last)

takes-pending : (f : Fate) (s : RecordStatus) (b : Bool) → b ≡ false → FitsLive f s → stops_as s b ≡ None → f ≡ Pending
takes-pending Pending s b other fits h = refl
takes-pending Committed s b other fits h = absurd fits
takes-pending Aborted s b other fits h = absurd (none_some Failure.Aborted (sym h ∙ ap (λ z. stops_as z b) fits ∙ ap (stops_as Status.Aborted) other))

fails-aborted : (f : Fate) (s : RecordStatus) (b : Bool) → FitsLive f s → stops_as s b ≡ Some Failure.Aborted → f ≡ Aborted
fails-aborted Pending s b fits h = absurd (none_some Failure.Aborted (ap (λ z. stops_as z b) (sym fits) ∙ h))
fails-aborted Committed s b fits h = absurd fits
fails-aborted Aborted s b fits h = refl

abrt-not : (b : Bool) → stops_as Status.Aborted b ≡ Some Failure.Committed → ⊥
abrt-not true h = cc
abrt-not false h = cc

fails-committed : (f : Fate) (s : RecordStatus) (b : Bool) → FitsLive f s → stops_as s b ≡ Some Failure.Committed → ⊥
fails-committed Pending s b fits h = none_some Failure.Committed (ap (λ z. stops_as z b) (sym fits) ∙ h)
fails-committed Committed s b fits h = fits
fails-committed Aborted s b fits h = abrt-not b (ap (λ z. stops_as z b) (sym fits) ∙ h)

live-fits : (t : StoreTxn) (s : RecordStatus) → t.mode ≡ Live → StatusFits t.mode t.fate s → FitsLive t.fate s
live-fits t s live fits = subst (λ m. StatusFits m t.fate s) live fits

-- a piece that was served found it pending
pub found-pending : (q : Asking) (t : StoreTxn) (begun : ℕ) (w : World) (j : Piece) → IsOwn q (Some t) → t.mode ≡ Live → j.head ≡ q.head → list_any is_end (requests_of j.items) ≡ false → RecordsFit (Some t) begun w.records → status_of w j ≡ None → t.fate ≡ Pending
found-pending q t begun w j own live head none fits h =
    takes-pending t.fate fits.recorded.its.status (is_rollback (requests_of j.items)) (no-rollback (requests_of j.items) none) (live-fits t fits.recorded.its.status live fits.recorded.status) (sym (found-own q t begun w j own head fits) ∙ h)

-- one that failed by it found it aborted, and the store knows
pub found-aborted : (q : Asking) (t : StoreTxn) (begun : ℕ) (w : World) (j : Piece) → IsOwn q (Some t) → t.mode ≡ Live → j.head ≡ q.head → RecordsFit (Some t) begun w.records → status_of w j ≡ Some Failure.Aborted → t.fate ≡ Aborted
found-aborted q t begun w j own live head fits h =
    fails-aborted t.fate fits.recorded.its.status (is_rollback (requests_of j.items)) (live-fits t fits.recorded.its.status live fits.recorded.status) (sym (found-own q t begun w j own head fits) ∙ h)

-- none finds it committed
pub found-committed : (q : Asking) (t : StoreTxn) (begun : ℕ) (w : World) (j : Piece) → IsOwn q (Some t) → t.mode ≡ Live → j.head ≡ q.head → RecordsFit (Some t) begun w.records → status_of w j ≡ Some Failure.Committed → ⊥
found-committed q t begun w j own live head fits h =
    fails-committed t.fate fits.recorded.its.status (is_rollback (requests_of j.items)) (live-fits t fits.recorded.its.status live fits.recorded.status) (sym (found-own q t begun w j own head fits) ∙ h)
