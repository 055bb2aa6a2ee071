-- What a range does to a piece, by the records of transactions and with what is left of its limit.
use Rattle.std.specs.Prelude.{◌≡◌, ℕ, List, [], ◌∷◌, ◌++◌, map, Option, Some, None}
use Rattle.ds_base.specs.declared.value.TxnNo.{TxnNo}
use Rattle.ds_kind.specs.Left.{left_after}
use Rattle.ds_kind.specs.declared.batch.Head.{Head}
use Rattle.ds_kind.specs.declared.batch.Item.{Item}
use Rattle.ds_kind.specs.declared.reply.Failure.{Failure}
use Rattle.ds_kind.specs.declared.reply.Reply.{Reply}
use Rattle.ds_cell.specs.Ask.{Cells}
use Rattle.ds_cell.specs.Store.{WriteAt}
use Rattle.ds_rule.specs.declared.answer.Answer.{Answer}
use Rattle.ds_rule.specs.declared.record.TxnRecord.{TxnRecord}
use Rattle.ds_rule.specs.Asking.{Made, Gives, Fails}
use Rattle.ds_rule.specs.Limited.{ask_left}
use Rattle.ds_rule.specs.Serve.{resolved_left, serve}
use Rattle.ds_range.specs.Keeps.{Kept}
use Rattle.ds_range.specs.Serves.{key_of_write}
use Rattle.ds_range.specs.declared.piece.Evaluation.{Evaluation}
use Rattle.ds_range.specs.declared.piece.One.{One}
use Rattle.ds_range.specs.declared.serve.Tried.{Tried}

-- what a piece of which this became is answered
abbrev pub answer_to : Evaluation → Answer
answer_to (Evaluation.Served rs undo) = Answer.Done rs
answer_to (Evaluation.Failed f) = Answer.Failed f

-- what was kept of the contents before it, and the transaction whose record it ended; nothing where it failed, since nothing
-- changed
abbrev pub kept_of : Evaluation → List Kept
kept_of (Evaluation.Served rs undo) = undo.kept
kept_of (Evaluation.Failed f) = []

abbrev pub ended_in : Evaluation → Option TxnNo
ended_in (Evaluation.Served rs undo) = undo.ended
ended_in (Evaluation.Failed f) = None

-- one request made this: the contents and its reply, with the keys of its writes added to those written before; or it failed
abbrev pub MadeOne : Made → Cells → List (List ℕ) → List (List ℕ) → One → Type 0
MadeOne m new ks ls (One.Replied r) = (ws : List WriteAt) × (m ≡ Gives new ws (r ∷ [])) × (ls ≡ ks ++ map key_of_write ws)
MadeOne m new ks ls (One.Failed f) = m ≡ Fails f

-- the same of an item with what is left of a limit, and then what it resolves is settled
abbrev pub ServedItem : List TxnRecord → Head → Option ℕ → Item → Cells → Cells → List (List ℕ) → List (List ℕ) → One → Type 0
ServedItem ts h left i old new ks ls (One.Replied r) =
    (mid : Cells) × MadeOne (ask_left h left i old) mid ks ls (One.Replied r) × (new ≡ resolved_left ts left i.request mid)
ServedItem ts h left i old new ks ls (One.Failed f) = ask_left h left i old ≡ Fails f

-- what is left of the limit after it, and its reply after those before
abbrev pub ServedNext : List TxnRecord → Head → Option ℕ → Option ℕ → Item → Cells → Cells → List (List ℕ) → List (List ℕ) → List Reply → List Reply → Option Failure → Type 0
ServedNext ts h left rest i old new ks ls rs qs None =
    (r : Reply) × ServedItem ts h left i old new ks ls (One.Replied r) × (rest ≡ left_after left (r ∷ [])) × (qs ≡ rs ++ r ∷ [])
ServedNext ts h left rest i old new ks ls rs qs (Some f) = ask_left h left i old ≡ Fails f

-- all requests were served, and these are their replies, with all writes at these keys; or one failed
abbrev pub ServedItems : List TxnRecord → Head → List Item → Cells → Cells → List (List ℕ) → Tried → Type 0
ServedItems ts h is old new keys (Tried.Replied rs) =
    (ws : List WriteAt) × (serve ts h h.left is old ≡ Gives new ws rs) × (keys ≡ map key_of_write ws)
ServedItems ts h is old new keys (Tried.Failed f) = serve ts h h.left is old ≡ Fails f
