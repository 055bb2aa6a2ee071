-- When a wire is ready for a batch: its world means the store, and the batch keeps what is asked beside the transaction.
use Rattle.std.specs.Prelude.{◌≡◌, ◌<◌, ◌≤◌, Bool, true, false, not, ◌||◌, List, [], ◌∷◌, Option, Some, None, refl, pos}
use Rattle.std.specs.List.{list_all, list_any}
use Rattle.ds_base.specs.declared.value.Stamp.{Stamp}
use Rattle.ds_base.specs.declared.value.Value.TheVariants.{Int}
use Rattle.ds_kind.specs.Asks.{flags_at, is_get_or_scan}
use Rattle.ds_kind.specs.declared.batch.Batch.{Batch}
use Rattle.ds_kind.specs.declared.request.Request.{Request}
use Rattle.ds_kind.specs.declared.request.Request.TheVariants.{AdminSplit, Get, Put}
use Rattle.ds_cell.specs.Store.{Store, StoreTxn, Live, Pending}
use Rattle.ds_rule.specs.Admitting.{refused_by}
use Rattle.ds_rule.specs.Asking.{Asking, asking}
use Rattle.ds_rule.specs.Clauses.{Stands}
use Rattle.ds_rule.specs.Plain.{asker_in}
use Rattle.ds_rule.specs.StandsFor.{open_stamp}
use Rattle.ds_mean.specs.Means.{Means}

-- it needs no transaction, or only reads
abbrev pub goes_beside : Request → Bool
goes_beside r = not (flags_at r).txn || is_get_or_scan r

-- beside an open transaction a batch with a stamp reads below that transaction's stamp, or does what needs no transaction
abbrev pub KeepsFloor : Option Stamp → List Request → Option StoreTxn → Type 0
KeepsFloor None rs o = Unit {0}
KeepsFloor (Some s) rs None = Unit {0}
KeepsFloor (Some s) rs (Some t) = (list_all goes_beside rs ≡ true) × (list_any is_get_or_scan rs ≡ true → s.0 < t.asker.stamp)

-- the store's transaction doesn't refuse the batch; and foreign writes stay above the batch's stamp and the transaction's
pub record ReadyFor (a : Stands) (p : Store) (b : Batch) (q : Asking) : Type 0 where
  pub means : Means a.world p
  pub asks : asking (asker_in p) b ≡ Some q
  pub admits : refused_by b.at b.requests p.txn ≡ None
  pub beside : KeepsFloor b.at b.requests p.txn
  pub floor : q.head.at.0 ≤ a.floor
  pub open_floor : open_stamp p.txn ≤ a.floor

-- a get and a split go beside a transaction, a put does not
a_get_goes_beside : goes_beside (Get (record { key = 97 ∷ [] })) ≡ true
a_get_goes_beside = refl

a_split_goes_beside : goes_beside (AdminSplit (record { key = 97 ∷ [] })) ≡ true
a_split_goes_beside = refl

not_a_put : goes_beside (Put (record { key = 97 ∷ []; value = Int (pos 7) })) ≡ false
not_a_put = refl

-- a transaction at the stamp 7; beside it a get reads below that stamp, and not at it

abbrev at_seven : StoreTxn
at_seven = record { asker = record { number = 3; stamp = 7; epoch = 0; last = 2 }; fate = Pending; mode = Live; batches = 1 }

not_at_its_stamp : KeepsFloor (Some (record { 0 = 7 })) (Get (record { key = 97 ∷ [] }) ∷ []) (Some at_seven) → 7 < 7
not_at_its_stamp h = h.1 refl

a_split_at_its_stamp : KeepsFloor (Some (record { 0 = 7 })) (AdminSplit (record { key = 97 ∷ [] }) ∷ []) (Some at_seven)
a_split_at_its_stamp = (refl, λ h. let never : false ≡ true = h in cc)
