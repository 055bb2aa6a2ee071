-- When a client knows of its transaction what the plain store knows of it, and what keeps that so.
use Rattle.std.specs.Prelude.{◌≡◌, List, Option, Some, None, refl}
use Rattle.ds_base.specs.declared.value.Stamp.{Stamp}
use Rattle.ds_base.specs.declared.value.TxnNo.{TxnNo}
use Rattle.ds_kind.specs.declared.batch.Batch.{Batch}
use Rattle.ds_kind.specs.declared.request.Request.{Request}
use Rattle.ds_cell.specs.Store.{Store, StoreTxn, Mode, Live, FailedSince, Unknown, OverWith, Fate, Aborted}
use Rattle.ds_rule.specs.declared.answer.Outcome.{Outcome}
use Rattle.ds_rule.specs.Admitting.{refused_by}
use Rattle.ds_rule.specs.Journal.{Happening}
use Rattle.ds_rule.specs.Plain.{Answered}
use Rattle.ds_rule.specs.Plain as Plain
use Rattle.ds_rule.specs.StandsFor.{after_made}
use Rattle.ds_coord.specs.declared.txn.Txn.{Txn}
use Rattle.ds_coord.specs.declared.txn.TxnState.{TxnState}
use Rattle.ds_coord.specs.declared.txn.TxnState.TheVariants as State
use Rattle.ds_coord.specs.Client.{after_batch, asker_in, asker_of, begun, refusal_by}

-- how the client sees the store's transaction; it doesn't know what a batch in doubt would have written
abbrev pub state_of : Mode → TxnState
state_of Live = State.Live
state_of (FailedSince n) = State.Failed n
state_of (Unknown ws) = State.Unknown
state_of (OverWith status) = State.Over status

-- an abort is the store's alone, until a batch meets it
pub record Agrees (c : Txn) (t : StoreTxn) : Type 0 where
  pub asker : asker_of c ≡ t.asker
  pub state : c.state ≡ state_of t.mode
  pub batches : c.batches ≡ t.batches

-- both have a transaction open, or none has
abbrev pub AgreesIn : Option Txn → Option StoreTxn → Type 0
AgreesIn None None = Unit {0}
AgreesIn None (Some t) = ⊥
AgreesIn (Some c) None = ⊥
AgreesIn (Some c) (Some t) = Agrees c t

-- ---- the laws

-- one that has asked nothing yet
abbrev pub BeginAgrees : Type 0
BeginAgrees = (n : TxnNo) (s : Stamp) (f : Fate) → Agrees (begun n s) (record { asker = record { number = n.0; stamp = s.0; epoch = 0; last = 0 }; fate = f; mode = Live; batches = 0 })

-- the client and the store refuse the same, and ask as the same
pub record RefusesAlike (at : Option Stamp) (rs : List Request) (c : Option Txn) (p : Store) : Type 0 where
  pub refusal : refusal_by at rs c ≡ refused_by at rs p.txn
  pub asker : asker_in c ≡ Plain.asker_in p

abbrev pub RefusalsAgree : Type 0
RefusalsAgree = (at : Option Stamp) (rs : List Request) (c : Option Txn) (p : Store) → AgreesIn c p.txn → RefusesAlike at rs c p

-- what the client notes of an answer is what the store counts, where no end was answered
abbrev pub BatchAgrees : Type 0
BatchAgrees = (p : Store) (b : Batch) (o : Outcome) (next : Store) (c : Option Txn) → Answered p b o next → AgreesIn c p.txn → AgreesIn (after_batch b o None c) next.txn

-- events change nothing of what the client knows
abbrev pub EventsAgree : Type 0
EventsAgree = (hs : List Happening) (p : Store) (c : Option Txn) → AgreesIn c p.txn → AgreesIn c (after_made hs p).txn

-- after the second batch failed

abbrev third : Txn
third = record (begun (record { 0 = 3 }) (record { 0 = 7 })) { state = State.Failed 2; batches = 2 }

abbrev at_seven : StoreTxn
at_seven = record { asker = record { number = 3; stamp = 7; epoch = 0; last = 0 }; fate = Aborted; mode = FailedSince 2; batches = 2 }

they_agree : AgreesIn (Some third) (Some at_seven)
they_agree = record { asker = refl; state = refl; batches = refl }

not_while_it_lives : Agrees third (record at_seven { mode = Live }) → ⊥
not_while_it_lives h = let same = h.state in cc

not_a_batch_less : Agrees third (record at_seven { batches = 3 }) → ⊥
not_a_batch_less h = let same = h.batches in cc

not_where_none_is_open : AgreesIn (Some third) None → ⊥
not_where_none_is_open h = h
