-- What keeps a world meaning its store.
use Rattle.std.specs.Prelude.{◌≡◌, ℕ, ◌+◌, ◌≤◌, true, List, [], Option, Some, None, refl}
use Rattle.std.specs.List.{list_all}
use Rattle.ds_base.specs.declared.value.Stamp.{Stamp}
use Rattle.ds_kind.specs.declared.reply.TxnStatus.{TxnStatus}
use Rattle.ds_kind.specs.declared.reply.TxnStatus.TheVariants as Says
use Rattle.ds_cell.specs.Store.{Store, StoreTxn, Live, Fate, Pending, Committed, Aborted, empty_store}
use Rattle.ds_rule.specs.declared.cluster.ClusterRange.{ClusterRange}
use Rattle.ds_rule.specs.declared.event.Event.{Event}
use Rattle.ds_rule.specs.Begin.{first_world, is_leased, ranges_of}
use Rattle.ds_rule.specs.Close.{close_status, closed, settle_cells, with_begin}
use Rattle.ds_rule.specs.Moves.{IsMove, moved}
use Rattle.ds_rule.specs.Plain.{after_event}
use Rattle.ds_rule.specs.StandsFor.{IsKnown, open_stamp}
use Rattle.ds_rule.specs.World.{Tiles, World}
use Rattle.ds_mean.specs.Means.{Means}

-- whatever a wire may make by itself above the open transaction's stamp, the world means its store afterwards as before
abbrev pub MovesMean : Type 0
MovesMean = (w : World) (p : Store) (e : Event) (floor : ℕ) → IsMove floor e → open_stamp p.txn ≤ floor → Means w p → Means (moved w e) (after_event e p)

-- the world that a cluster begins with means the empty store
abbrev pub FirstMeans : Type 0
FirstMeans = (rs : List ClusterRange) → Tiles [] (ranges_of 1 rs) → list_all is_leased rs ≡ true → Means (first_world rs) empty_store

-- a transaction begins, under the next number
abbrev pub BeginMeans : Type 0
BeginMeans =
    (w : World) (p : Store) (t : StoreTxn) → p.txn ≡ None → t.fate ≡ Pending → t.mode ≡ Live → t.asker.number ≡ p.begun + 1 → Means w p
    → Means (with_begin t.asker w) (record p { txn = Some t; begun = p.begun + 1 })

-- the stamp at which a transaction's writes become versions, if it is committed
abbrev pub commit_by : Fate → ℕ → Option Stamp
commit_by Pending n = None
commit_by Committed n = Some (record { 0 = n })
commit_by Aborted n = None

-- what is said of it then
abbrev pub said_by : Fate → TxnStatus
said_by Pending = Says.Aborted
said_by Committed = Says.Committed
said_by Aborted = Says.Aborted

-- and ends, where it is known what became of it: what it wrote becomes versions at its stamp, or is dropped; and the world
-- says which
abbrev pub CloseMeans : Type 0
CloseMeans =
    (w : World) (p : Store) (t : StoreTxn) → p.txn ≡ Some t → IsKnown t.mode → Means w p
    → Means (closed w) (record p { cells = settle_cells t.asker.number (commit_by t.fate t.asker.stamp) p.cells; txn = None }) × (close_status w ≡ said_by t.fate)

-- what nothing committed is dropped
a_pending_one_is_dropped : commit_by Pending 7 ≡ None
a_pending_one_is_dropped = refl
