-- Which steps end a flight.
use Rattle.std.specs.Prelude.{◌≡◌, Bool, true, false, ◌&&◌, List, [], ◌∷◌, Option, Some, None, is_none, refl}
use Rattle.ds_base.specs.declared.value.Dir.TheVariants.{Forward}
use Rattle.ds_base.specs.declared.value.TxnNo.{TxnNo}
use Rattle.ds_desc.specs.declared.meta.Looked.TheVariants as Looked
use Rattle.ds_desc.specs.declared.refusal.Refusal.TheVariants.{NotFound}
use Rattle.ds_kind.specs.declared.reply.Failure.{Failure}
use Rattle.ds_rule.specs.declared.answer.Answer.TheVariants.{Done, Failed, Refused, Lost}
use Rattle.ds_rule.specs.declared.journal.JournalStep.{JournalStep}
use Rattle.ds_rule.specs.declared.journal.JournalStep.TheVariants.{Look, Send}
use Rattle.ds_rule.specs.Journal.{Happening, Moved, Did}
use Rattle.ds_rule.specs.Pieces.{Each}
use Rattle.ds_flight.specs.Counting.{a_get, a_put, is_risky, piece_of}

-- nobody knows what a piece of no transaction left
abbrev pub ends_at_once : Bool → Option TxnNo → Bool
ends_at_once risky txn = risky && is_none txn

-- a send that failed ends a flight, and one of no transaction that was lost at risk
abbrev pub ends_flight : JournalStep → Bool
ends_flight (Look k d l) = false
ends_flight (Send n p (Done rs)) = false
ends_flight (Send n p (Failed f)) = true
ends_flight (Send n p (Refused r)) = false
ends_flight (Send n p Lost) = ends_at_once (is_risky p) p.head.txn

-- it is no step that ends one
abbrev pub EndsNot : Happening → Type 0
EndsNot (Moved e) = Unit {0}
EndsNot (Did s) = ends_flight s ≡ false

-- no step ended it
abbrev pub NoneEnds : List Happening → Type 0
NoneEnds hs = Each EndsNot hs

-- a failure and a lost put; but not a put under its own number, which can be sent again

a_failure : ends_flight (Send 1 (piece_of None a_get) (Failed Failure.Aborted)) ≡ true
a_failure = refl

a_lost_put : ends_flight (Send 1 (piece_of None a_put) Lost) ≡ true
a_lost_put = refl

not_of_a_transaction : ends_flight (Send 1 (piece_of (Some (record { 0 = 1 })) a_put) Lost) ≡ false
not_of_a_transaction = refl

-- nor a lost lookup, a lost get and a refused put
none_of_these : NoneEnds (Did (Look (97 ∷ []) Forward Looked.Lost) ∷ Did (Send 1 (piece_of None a_get) Lost) ∷ Did (Send 1 (piece_of None a_put) (Refused NotFound)) ∷ [])
none_of_these = (refl, (refl, (refl, tt)))

not_where_a_put_was_lost : NoneEnds (Did (Send 1 (piece_of None a_get) (Done [])) ∷ Did (Send 1 (piece_of None a_put) Lost) ∷ []) → ⊥
not_where_a_put_was_lost h = let bad : true ≡ false = h.1.0 in cc
