-- The JSON object of each line: a step, an answer, a close or a restart.
use Rattle.std.specs.Prelude.{ℕ, List, [], ◌∷◌, ◌++◌, codes, Bool, true, false, nat_lt, length, Option, Some, None, option_map, if◌then◌else◌}
use Rattle.std.specs.List.{list_any}
use Rattle.serde_json.specs.Data.{Data, Members, boolean, string, object, member}
use Rattle.ds_base.specs.Order.{Extent}
use Rattle.ds_base.specs.declared.value.Dir.{Dir}
use Rattle.ds_kind.specs.declared.batch.Item.{Item}
use Rattle.ds_kind.specs.declared.batch.Piece.{Piece}
use Rattle.ds_kind.specs.declared.illegal.Illegal.{Illegal}
use Rattle.ds_kind.specs.declared.illegal.Illegal.TheVariants as illegals
use Rattle.ds_kind.specs.declared.request.Request.{Request}
use Rattle.ds_kind.specs.declared.request.Request.TheVariants.{EndTxn}
use Rattle.ds_kind.specs.declared.reply.TxnStatus.{TxnStatus}
use Rattle.ds_kind.specs.Request.{span_of}
use Rattle.ds_desc.specs.declared.meta.Looked.{Looked}
use Rattle.ds_rule.specs.declared.answer.Answer.{Answer}
use Rattle.ds_rule.specs.declared.answer.Answer.TheVariants as answers
use Rattle.ds_rule.specs.declared.answer.Outcome.{Outcome}
use Rattle.ds_rule.specs.declared.answer.Outcome.TheVariants as outcomes
use Rattle.ds_rule.specs.declared.journal.JournalStep.{JournalStep}
use Rattle.ds_rule.specs.declared.journal.JournalStep.TheVariants as steps
use Rattle.ds_text.specs.Simple.{nat, key_data, option_data, list_data, tuple, dir_text, with_member, lone, only, empty}
use Rattle.ds_text.specs.Replies.{status_data, reply_data, condition_data, too_old_data, at_data, failure_data}
use Rattle.ds_text.specs.Ranges.{desc_data, looked_data, refusal_data}

-- position, start, end and number of a request, or of a part of one
abbrev pub ends_data : Extent → List Data
ends_data s = key_data s.start ∷ key_data s.end ∷ []

abbrev pub item_data : Item → Data
item_data i = tuple (nat i.pos ∷ ends_data (span_of i.request) ++ nat i.seq.0 ∷ [])

-- whether the request is a commit that waits for writes in flight
abbrev pub waits : Request → Bool
waits (EndTxn a) = nat_lt 0 (length a.in_flight)
waits r = false

abbrev pub is_staged : List Item → Bool
is_staged items = list_any (λ i. waits i.request) items

abbrev pub if_true : Bool → Option Data
if_true b = if b then Some (boolean true) else None

abbrev pub answer_data : Answer → Data
answer_data (answers.Done replies) = only (codes "done") (list_data reply_data replies)
answer_data (answers.Failed failure) = only (codes "failed") (failure_data failure)
answer_data (answers.Refused refusal) = refusal_data refusal
answer_data answers.Lost = string (codes "lost")

abbrev pub look_members : ℕ → ℕ → List ℕ → Dir → Looked → Members
look_members line number key dir looked =
    member (codes "dir") (string (dir_text dir))
    (member (codes "key") (key_data key)
    (member (codes "line") (nat line)
    (member (codes "look") (looked_data looked)
    (lone (codes "step") (nat number)))))

abbrev pub look_data : ℕ → ℕ → List ℕ → Dir → Looked → Data
look_data line number key dir looked = object (look_members line number key dir looked)

abbrev pub send_members : ℕ → ℕ → ℕ → Piece → Answer → Members
send_members line number node piece answer =
    member (codes "left") (option_data nat piece.head.left)
    (member (codes "line") (nat line)
    (member (codes "node") (nat node)
    (member (codes "piece") (list_data item_data piece.items)
    (member (codes "range") (nat piece.range)
    (member (codes "send") (answer_data answer)
    (lone (codes "step") (nat number)))))))

-- a step of the batch at this line, by its number in the batch
abbrev pub step_data : ℕ → ℕ → JournalStep → Data
step_data line number (steps.Look key dir looked) = look_data line number key dir looked
step_data line number (steps.Send node piece answer) = object (with_member (codes "staged") (if_true (is_staged piece.items)) (send_members line number node piece answer))

-- the number of the rule that a batch breaks
abbrev pub code_of : Illegal → ℕ
code_of illegals.Empty = 1
code_of illegals.TooMany = 2
code_of (illegals.BadSpan i) = 3
code_of (illegals.EndTxnPlace i) = 4
code_of (illegals.NeedsTxn i) = 5
code_of illegals.InconsistentTxn = 6
code_of (illegals.InconsistentWrite i) = 7
code_of (illegals.LimitKind i) = 8
code_of (illegals.LimitMixed i) = 9
code_of (illegals.LimitOrder i) = 10
code_of illegals.NoTxnParts = 11

-- the position that breaks it, for the rules that name one
abbrev pub place_of : Illegal → Option ℕ
place_of illegals.Empty = None
place_of illegals.TooMany = None
place_of (illegals.BadSpan i) = Some i
place_of (illegals.EndTxnPlace i) = Some i
place_of (illegals.NeedsTxn i) = Some i
place_of illegals.InconsistentTxn = None
place_of (illegals.InconsistentWrite i) = Some i
place_of (illegals.LimitKind i) = Some i
place_of (illegals.LimitMixed i) = Some i
place_of (illegals.LimitOrder i) = Some i
place_of illegals.NoTxnParts = None

abbrev pub illegal_data : Illegal → Data
illegal_data x = object (with_member (codes "i") (option_map nat (place_of x)) (lone (codes "code") (nat (code_of x))))

-- whether the outcome has a text; want of memory has none
abbrev pub has_text : Outcome → Bool
has_text outcomes.OutOfMemory = false
has_text o = true

abbrev pub exhausted_data : ℕ → ℕ → Data
exhausted_data refused lost = only (codes "retry_exhausted") (object (member (codes "lost") (nat lost) (lone (codes "refused") (nat refused))))

abbrev pub outcome_data : Outcome → Data
outcome_data (outcomes.Ok replies) = only (codes "ok") (list_data reply_data replies)
outcome_data (outcomes.Illegal x) = only (codes "illegal") (illegal_data x)
outcome_data (outcomes.MustRollBack since) = only (codes "must_roll_back") (only (codes "since") (nat since))
outcome_data (outcomes.TxnOver status) = only (codes "txn_over") (only (codes "status") (status_data status))
outcome_data (outcomes.OpRequiresTxn desc) = only (codes "op_requires_txn") (only (codes "desc") (desc_data desc))
outcome_data (outcomes.NotOnePhase desc) = only (codes "not_one_phase") (only (codes "desc") (desc_data desc))
outcome_data (outcomes.ConditionFailed i actual) = condition_data i actual
outcome_data (outcomes.WriteTooOld i key stamp) = too_old_data i key stamp.0
outcome_data (outcomes.NotInteger i) = at_data (codes "not_integer") i
outcome_data (outcomes.Overflow i) = at_data (codes "overflow") i
outcome_data outcomes.TxnAborted = only (codes "txn_aborted") empty
outcome_data (outcomes.Ambiguous lost) = only (codes "ambiguous") (only (codes "lost") (nat lost))
outcome_data (outcomes.RetryExhausted refused lost) = exhausted_data refused lost
outcome_data outcomes.OutOfMemory = empty

abbrev pub answer_line : ℕ → Outcome → Data
answer_line line outcome = object (member (codes "answer") (outcome_data outcome) (lone (codes "line") (nat line)))

abbrev pub close_line : ℕ → TxnStatus → Data
close_line line status = object (member (codes "close") (status_data status) (lone (codes "line") (nat line)))

abbrev pub restart_line : ℕ → ℕ → Data
restart_line line epoch = object (member (codes "epoch") (nat epoch) (lone (codes "line") (nat line)))

-- why a script is refused, and at which line
abbrev pub fault_line : List ℕ → ℕ → Data
fault_line kind line = object (member (codes "fault") (string kind) (lone (codes "line") (nat line)))
