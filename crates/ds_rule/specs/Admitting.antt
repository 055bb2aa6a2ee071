-- Which batches of an open transaction are answered before anything is sent: after a failure all but a rollback, and all
-- once the transaction is over or in doubt.
use Rattle.std.specs.Prelude.{◌≡◌, false, List, [], ◌∷◌, Option, Some, None, if◌then◌else◌, refl}
use Rattle.ds_base.specs.declared.value.Stamp.{Stamp}
use Rattle.ds_kind.specs.declared.reply.TxnStatus.TheVariants as Says
use Rattle.ds_kind.specs.declared.request.Request.{Request}
use Rattle.ds_kind.specs.declared.request.Request.TheVariants.{EndTxn, Get}
use Rattle.ds_cell.specs.Store.{Mode, Live, FailedSince, Unknown, OverWith, StoreTxn}
use Rattle.ds_rule.specs.declared.answer.Outcome.{Outcome}
use Rattle.ds_rule.specs.Deliver.{is_rollback}

-- the answer of a batch of these requests, if it isn't sent
abbrev pub refused_in : Mode → List Request → Option Outcome
refused_in Live rs = None
refused_in (FailedSince n) rs = if is_rollback rs then None else Some (Outcome.MustRollBack n)
refused_in (Unknown ws) rs = Some (Outcome.TxnOver Says.Unknown)
refused_in (OverWith status) rs = Some (Outcome.TxnOver status)

-- a batch with a stamp of its own is of no transaction
abbrev pub refused_by : Option Stamp → List Request → Option StoreTxn → Option Outcome
refused_by (Some s) rs t = None
refused_by None rs None = None
refused_by None rs (Some t) = refused_in t.mode rs

-- after the second batch failed a get is refused, and a rollback is not

a_get_is_refused : refused_in (FailedSince 2) (Get (record { key = 97 ∷ [] }) ∷ []) ≡ Some (Outcome.MustRollBack 2)
a_get_is_refused = refl

a_rollback_is_sent : refused_in (FailedSince 2) (EndTxn (record { key = 97 ∷ []; commit = false; one_phase = false; parallel = false; in_flight = [] }) ∷ []) ≡ None
a_rollback_is_sent = refl

not_once_it_is_over : refused_in (OverWith Says.Committed) (Get (record { key = 97 ∷ [] }) ∷ []) ≡ Some (Outcome.TxnOver Says.Committed)
not_once_it_is_over = refl
