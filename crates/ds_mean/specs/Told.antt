-- Happenings of which no send is lost.
use Rattle.std.specs.Prelude.{[], ◌∷◌, None}
use Rattle.ds_base.specs.declared.value.Dir.TheVariants.{Forward}
use Rattle.ds_desc.specs.declared.meta.Looked.TheVariants as Looked
use Rattle.ds_kind.specs.declared.batch.Piece.{Piece}
use Rattle.ds_rule.specs.declared.answer.Answer.TheVariants.{Done, Failed, Refused, Lost}
use Rattle.ds_rule.specs.declared.journal.JournalStep.TheVariants.{Look, Send}
use Rattle.ds_rule.specs.Journal.{Happening, Moved, Did}
use Rattle.ds_rule.specs.Pieces.{Each}

-- it is no send that was lost; a lost lookup did nothing
abbrev pub IsTold : Happening → Type 0
IsTold (Moved e) = Unit {0}
IsTold (Did (Look k d l)) = Unit {0}
IsTold (Did (Send n p (Done rs))) = Unit {0}
IsTold (Did (Send n p (Failed f))) = Unit {0}
IsTold (Did (Send n p (Refused r))) = Unit {0}
IsTold (Did (Send n p Lost)) = ⊥

abbrev no_piece : Piece
no_piece = record { head = record { at = record { 0 = 5 }; txn = None; left = None; epoch = 0 }; range = 1; items = []; dir = Forward }

a_lost_lookup_is_told : Each IsTold (Did (Look (97 ∷ []) Forward Looked.Lost) ∷ [])
a_lost_lookup_is_told = (tt, tt)

not_a_lost_send : Each IsTold (Did (Send 1 no_piece Lost) ∷ []) → ⊥
not_a_lost_send h = h.0
