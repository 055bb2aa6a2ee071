-- No object of a text has a float, and none nests deep.
use Rattle.std.proofs.Common.{ℕ, suc, List, Bool, true, false, Option, lit≤}
use Rattle.serde_json.specs.Read.{max_depth}
use Rattle.ds_base.specs.Order.{Extent}
use Rattle.ds_base.specs.declared.value.Dir.{Dir}
use Rattle.ds_base.specs.declared.value.Value.{Value}
use Rattle.ds_base.specs.declared.value.Value.TheVariants.{Text, Int}
use Rattle.ds_kind.specs.Request.{span_of}
use Rattle.ds_kind.specs.declared.batch.Item.{Item}
use Rattle.ds_kind.specs.declared.batch.Piece.{Piece}
use Rattle.ds_kind.specs.declared.illegal.Illegal.{Illegal}
use Rattle.ds_kind.specs.declared.reply.Row.{Row}
use Rattle.ds_kind.specs.declared.reply.TxnStatus.{TxnStatus}
use Rattle.ds_kind.specs.declared.reply.Body.{Body}
use Rattle.ds_kind.specs.declared.reply.Body.TheVariants as bodies
use Rattle.ds_kind.specs.declared.reply.Reply.{Reply}
use Rattle.ds_kind.specs.declared.reply.Failure.{Failure}
use Rattle.ds_kind.specs.declared.reply.Failure.TheVariants as failures
use Rattle.ds_desc.specs.declared.desc.RangeDesc.{RangeDesc}
use Rattle.ds_desc.specs.declared.desc.Info.{Info}
use Rattle.ds_desc.specs.declared.meta.Looked.{Looked}
use Rattle.ds_desc.specs.declared.meta.Looked.TheVariants.{Rows, Lost}
use Rattle.ds_desc.specs.declared.refusal.Refusal.{Refusal}
use Rattle.ds_desc.specs.declared.refusal.Refusal.TheVariants as refusals
use Rattle.ds_rule.specs.declared.answer.Answer.{Answer}
use Rattle.ds_rule.specs.declared.answer.Answer.TheVariants as answers
use Rattle.ds_rule.specs.declared.answer.Outcome.{Outcome}
use Rattle.ds_rule.specs.declared.answer.Outcome.TheVariants as outcomes
use Rattle.ds_rule.specs.declared.journal.JournalStep.{JournalStep}
use Rattle.ds_rule.specs.declared.journal.JournalStep.TheVariants as steps
use Rattle.ds_text.specs.Simple.{nat, key_data, value_data, list_data, span_data, with_member}
use Rattle.ds_text.specs.Replies.{row_data, body_members, reply_data, condition_data, too_old_data, at_data, failure_data}
use Rattle.ds_text.specs.Ranges.{desc_data, info_data, looked_data, refusal_data}
use Rattle.ds_text.specs.Lines.{item_data, is_staged, if_true, look_data, answer_data, send_members, step_data, place_of, illegal_data, outcome_data, answer_line, close_line, restart_line, fault_line}
use Rattle.ds_text.specs.Prints.{Plain}
use Rattle.ds_text.proofs.PlainData.{PlainMembers, nat_plain, string_plain, boolean_plain, integer_plain, last_plain, item_plain, array_plain, list_plain, option_plain, none_plain, member_plain, lone_plain, object_plain, with_member_plain, put_plain, deeper}

key_plain : (n : ℕ) (k : List ℕ) → Plain n (key_data k)
key_plain n k = string_plain n _

value_plain : (n : ℕ) (v : Value) → Plain n (value_data v)
value_plain n (Text t) = string_plain n t
value_plain n (Int z) = integer_plain n z

span_plain : (n : ℕ) (s : Extent) → Plain (suc n) (span_data s)
span_plain n s = array_plain (item_plain (key_plain n s.start) (item_plain (key_plain n s.end) (last_plain n)))

row_plain : (n : ℕ) (r : Row) → Plain (suc n) (row_data r)
row_plain n r = array_plain (item_plain (key_plain n r.key) (item_plain (value_plain n r.value) (last_plain n)))

body_plain : (n : ℕ) (b : Body) → PlainMembers (suc (suc n)) (body_members b)
body_plain n (bodies.Got v) = lone_plain (option_plain _ value_data (value_plain _) v)
body_plain n (bodies.Rows rows) = lone_plain (list_plain _ row_data (row_plain n) rows)
body_plain n bodies.Unit = none_plain _
body_plain n (bodies.Number z) = lone_plain (integer_plain _ z)
body_plain n (bodies.Gone keys) = member_plain (list_plain _ key_data (key_plain _) keys) (lone_plain (nat_plain _ _))
body_plain n (bodies.Ended s) = lone_plain (string_plain _ _)
body_plain n (bodies.Found b) = lone_plain (boolean_plain _ b)

reply_plain : (n : ℕ) (r : Reply) → Plain (suc (suc (suc n))) (reply_data r)
reply_plain n r = object_plain (with_member_plain _ _ span_data (span_plain _) r.resume _ (body_plain n r.body))

condition_plain : (n i : ℕ) (v : Option Value) → Plain (suc (suc n)) (condition_data i v)
condition_plain n i v = object_plain (lone_plain (object_plain (member_plain (option_plain n value_data (value_plain n) v) (lone_plain (nat_plain n i)))))

too_old_plain : (n i : ℕ) (k : List ℕ) (s : ℕ) → Plain (suc (suc n)) (too_old_data i k s)
too_old_plain n i k s = object_plain (lone_plain (object_plain (member_plain (nat_plain n i) (member_plain (key_plain n k) (lone_plain (nat_plain n s))))))

at_plain : (n : ℕ) (cause : List ℕ) (i : ℕ) → Plain (suc (suc n)) (at_data cause i)
at_plain n cause i = object_plain (lone_plain (object_plain (lone_plain (nat_plain n i))))

failure_plain : (n : ℕ) (f : Failure) → Plain (suc (suc n)) (failure_data f)
failure_plain n (failures.Condition i actual) = condition_plain n i actual
failure_plain n (failures.TooOld i key stamp) = too_old_plain n i key stamp.0
failure_plain n (failures.NotInteger i) = at_plain n _ i
failure_plain n (failures.Overflow i) = at_plain n _ i
failure_plain n failures.Aborted = object_plain (lone_plain (object_plain (none_plain n)))
failure_plain n failures.Committed = object_plain (lone_plain (object_plain (none_plain n)))

nodes_plain : (n : ℕ) (nodes : List ℕ) → Plain (suc n) (list_data nat nodes)
nodes_plain n nodes = list_plain n nat (nat_plain n) nodes

desc_plain : (n : ℕ) (d : RangeDesc) → Plain (suc (suc n)) (desc_data d)
desc_plain n d =
    array_plain (item_plain (nat_plain _ d.id) (item_plain (key_plain _ d.span.start) (item_plain (key_plain _ d.span.end) (item_plain (nat_plain _ d.generation) (item_plain (nodes_plain n d.nodes) (last_plain _))))))

info_plain : (n : ℕ) (i : Info) → Plain (suc (suc n)) (info_data i)
info_plain n i =
    let d = i.desc in
    let lease = item_plain (nat_plain (suc n) i.lease.node) (item_plain (nat_plain _ i.lease.number) (last_plain _)) in
    array_plain (item_plain (nat_plain _ d.id) (item_plain (key_plain _ d.span.start) (item_plain (key_plain _ d.span.end) (item_plain (nat_plain _ d.generation) (item_plain (nodes_plain n d.nodes) lease)))))

looked_plain : (n : ℕ) (l : Looked) → Plain (suc (suc (suc n))) (looked_data l)
looked_plain n (Rows infos) = list_plain _ info_data (info_plain n) infos
looked_plain n Lost = string_plain _ _

refusal_plain : (n : ℕ) (r : Refusal) → Plain (suc (suc (suc (suc n)))) (refusal_data r)
refusal_plain n refusals.NotFound = string_plain _ _
refusal_plain n (refusals.NotLease lease) = object_plain (lone_plain (array_plain (item_plain (nat_plain _ lease.node) (item_plain (nat_plain _ lease.number) (last_plain _)))))
refusal_plain n (refusals.Mismatch infos) = object_plain (lone_plain (list_plain _ info_data (info_plain n) infos))

answer_plain : (n : ℕ) (a : Answer) → Plain (suc (suc (suc (suc (suc n))))) (answer_data a)
answer_plain n (answers.Done replies) = object_plain (lone_plain (list_plain _ reply_data (reply_plain n) replies))
answer_plain n (answers.Failed failure) = object_plain (lone_plain (failure_plain _ failure))
answer_plain n (answers.Refused refusal) = refusal_plain _ refusal
answer_plain n answers.Lost = string_plain _ _

item_data_plain : (n : ℕ) (i : Item) → Plain (suc n) (item_data i)
item_data_plain n i =
    array_plain (item_plain (nat_plain _ i.pos) (item_plain (key_plain _ (span_of i.request).start) (item_plain (key_plain _ (span_of i.request).end) (item_plain (nat_plain _ i.seq.0) (last_plain _)))))

send_plain : (line number node : ℕ) (piece : Piece) (answer : Answer) → PlainMembers 5 (send_members line number node piece answer)
send_plain line number node piece answer =
    let range = member_plain (nat_plain 5 piece.range) (member_plain (answer_plain 0 answer) (lone_plain (nat_plain _ number))) in
    let items = list_plain 4 item_data (item_data_plain 3) piece.items in
    member_plain (option_plain _ nat (nat_plain _) piece.head.left) (member_plain (nat_plain _ line) (member_plain (nat_plain _ node) (member_plain items range)))

staged_plain : (b : Bool) (k : List ℕ) {n : ℕ} (ms : _) → PlainMembers n ms → PlainMembers n (with_member k (if_true b) ms)
staged_plain true k ms p = put_plain k ms (boolean_plain _ true) p
staged_plain false k ms p = p

look_plain : (line number : ℕ) (key : List ℕ) (dir : Dir) (looked : Looked) → Plain 6 (look_data line number key dir looked)
look_plain line number key dir looked =
    let rest = member_plain (nat_plain 5 line) (member_plain (looked_plain 2 looked) (lone_plain (nat_plain _ number))) in
    object_plain {n = 5} (member_plain (string_plain _ _) (member_plain (key_plain _ key) rest))

pub step_plain : (line number : ℕ) (s : JournalStep) → Plain max_depth (step_data line number s)
step_plain line number (steps.Look key dir looked) = deeper (look_plain line number key dir looked) (lit≤ tt)
step_plain line number (steps.Send node piece answer) =
    deeper (object_plain {n = 5} (staged_plain (is_staged piece.items) _ _ (send_plain line number node piece answer))) (lit≤ tt)

illegal_plain : (n : ℕ) (x : Illegal) → Plain (suc n) (illegal_data x)
illegal_plain n x = object_plain (with_member_plain n _ nat (nat_plain n) (place_of x) _ (lone_plain (nat_plain n _)))

outcome_plain : (n : ℕ) (o : Outcome) → Plain (suc (suc (suc (suc (suc n))))) (outcome_data o)
outcome_plain n (outcomes.Ok replies) = object_plain (lone_plain (list_plain _ reply_data (reply_plain n) replies))
outcome_plain n (outcomes.Illegal x) = object_plain (lone_plain (illegal_plain _ x))
outcome_plain n (outcomes.MustRollBack since) = object_plain (lone_plain (object_plain (lone_plain (nat_plain _ since))))
outcome_plain n (outcomes.TxnOver status) = object_plain (lone_plain (object_plain (lone_plain (string_plain _ _))))
outcome_plain n (outcomes.OpRequiresTxn desc) = object_plain (lone_plain (object_plain (lone_plain (desc_plain _ desc))))
outcome_plain n (outcomes.NotOnePhase desc) = object_plain (lone_plain (object_plain (lone_plain (desc_plain _ desc))))
outcome_plain n (outcomes.ConditionFailed i actual) = condition_plain _ i actual
outcome_plain n (outcomes.WriteTooOld i key stamp) = too_old_plain _ i key stamp.0
outcome_plain n (outcomes.NotInteger i) = at_plain _ _ i
outcome_plain n (outcomes.Overflow i) = at_plain _ _ i
outcome_plain n outcomes.TxnAborted = object_plain (lone_plain (object_plain (none_plain _)))
outcome_plain n (outcomes.Ambiguous lost) = object_plain (lone_plain (object_plain (lone_plain (nat_plain _ lost))))
outcome_plain n (outcomes.RetryExhausted refused lost) = object_plain (lone_plain (object_plain (member_plain (nat_plain _ lost) (lone_plain (nat_plain _ refused)))))
outcome_plain n outcomes.OutOfMemory = object_plain (none_plain _)

pub answer_line_plain : (line : ℕ) (o : Outcome) → Plain max_depth (answer_line line o)
answer_line_plain line o = deeper (object_plain {n = 5} (member_plain (outcome_plain 0 o) (lone_plain (nat_plain _ line)))) (lit≤ tt)

pub close_line_plain : (line : ℕ) (s : TxnStatus) → Plain max_depth (close_line line s)
close_line_plain line s = deeper (object_plain {n = 0} (member_plain (string_plain _ _) (lone_plain (nat_plain _ line)))) (lit≤ tt)

pub restart_line_plain : (line epoch : ℕ) → Plain max_depth (restart_line line epoch)
restart_line_plain line epoch = deeper (object_plain {n = 0} (member_plain (nat_plain _ epoch) (lone_plain (nat_plain _ line)))) (lit≤ tt)

pub fault_line_plain : (kind : List ℕ) (line : ℕ) → Plain max_depth (fault_line kind line)
fault_line_plain kind line = deeper (object_plain {n = 0} (member_plain (string_plain _ kind) (lone_plain (nat_plain _ line)))) (lit≤ tt)
