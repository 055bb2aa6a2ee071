-- How the refusals and losses of a sender's steps are counted.
use Rattle.std.specs.Prelude.{◌≡◌, Bool, true, false, not, ◌&&◌, List, [], ◌∷◌, Option, Some, None, pos, refl}
use Rattle.std.specs.List.{list_any}
use Rattle.ds_base.specs.declared.value.Dir.TheVariants.{Forward}
use Rattle.ds_base.specs.declared.value.TxnNo.{TxnNo}
use Rattle.ds_base.specs.declared.value.Value.TheVariants.{Int}
use Rattle.ds_desc.specs.declared.meta.Looked.TheVariants as Looked
use Rattle.ds_desc.specs.declared.refusal.Refusal.TheVariants.{NotFound}
use Rattle.ds_kind.specs.Asks.{flags_at}
use Rattle.ds_kind.specs.Parts.{requests_of}
use Rattle.ds_kind.specs.declared.batch.Head.{Head}
use Rattle.ds_kind.specs.declared.batch.Piece.{Piece}
use Rattle.ds_kind.specs.declared.request.Request.{Request}
use Rattle.ds_kind.specs.declared.request.Request.TheVariants.{EndTxn, Get, Put}
use Rattle.ds_retry.specs.Counted.{Counts, first_counts, one_refused, one_lost}
use Rattle.ds_rule.specs.declared.answer.Answer.TheVariants.{Done, Failed, Refused, Lost}
use Rattle.ds_rule.specs.declared.journal.JournalStep.{JournalStep}
use Rattle.ds_rule.specs.declared.journal.JournalStep.TheVariants.{Look, Send}
use Rattle.ds_rule.specs.Journal.{Happening, Moved, Did}

abbrev pub is_commit : Request → Bool
is_commit (EndTxn a) = a.commit
is_commit r = false

-- doing it twice isn't doing it once
abbrev pub is_unrepeatable : Request → Bool
is_unrepeatable r = (flags_at r).write && not (flags_at r).repeatable

-- of a transaction a lost commit is at risk; without one, each write that can't be repeated
abbrev pub risks : Option TxnNo → Request → Bool
risks (Some t) r = is_commit r
risks None r = is_unrepeatable r

-- nobody knows what a lost send of the piece left
abbrev pub is_risky : Piece → Bool
is_risky p = list_any (risks p.head.txn) (requests_of p.items)

-- the counts after one more step
abbrev pub counted_step : Counts → JournalStep → Counts
counted_step c (Look k d Looked.Lost) = one_lost false c
counted_step c (Look k d (Looked.Rows is)) = c
counted_step c (Send n p Lost) = one_lost (is_risky p) c
counted_step c (Send n p (Refused r)) = one_refused c
counted_step c (Send n p (Done rs)) = c
counted_step c (Send n p (Failed f)) = c

-- the counts after all that happened
abbrev pub counted : Counts → List Happening → Counts
counted c [] = c
counted c (Moved e ∷ hs) = counted c hs
counted c (Did s ∷ hs) = counted (counted_step c s) hs

-- a get and a put of a, without a transaction and of one

abbrev asked_by : Option TxnNo → Head
asked_by txn = record { at = record { 0 = 5 }; txn = txn; left = None; epoch = 0 }

abbrev pub piece_of : Option TxnNo → Request → Piece
piece_of txn r = record { head = asked_by txn; range = 1; items = record { pos = 0; seq = record { 0 = 0 }; request = r } ∷ []; dir = Forward }

abbrev pub a_get : Request
a_get = Get (record { key = 97 ∷ [] })

abbrev pub a_put : Request
a_put = Put (record { key = 97 ∷ []; value = Int (pos 1) })

a_lost_put : is_risky (piece_of None a_put) ≡ true
a_lost_put = refl

-- under its own number a put can be repeated
not_of_a_transaction : is_risky (piece_of (Some (record { 0 = 1 })) a_put) ≡ false
not_of_a_transaction = refl

not_a_get : is_risky (piece_of None a_get) ≡ false
not_a_get = refl

one_of_each : counted (first_counts 9) (Did (Look (97 ∷ []) Forward Looked.Lost) ∷ Did (Send 1 (piece_of None a_get) (Refused NotFound)) ∷ Did (Send 1 (piece_of None a_put) Lost) ∷ []) ≡ record { refused = 1; lost = 2; at_risk = 1; budget = 9 }
one_of_each = refl
