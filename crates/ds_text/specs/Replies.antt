-- The JSON of replies and failures.
use Rattle.std.specs.Prelude.{ℕ, List, [], ◌∷◌, length, codes, Option, option_map}
use Rattle.serde_json.specs.Data.{Data, Members, boolean, number, string, object, member, no_members}
use Rattle.serde_json.specs.Find.{of_integer}
use Rattle.ds_base.specs.declared.value.Value.{Value}
use Rattle.ds_kind.specs.declared.reply.Row.{Row}
use Rattle.ds_kind.specs.declared.reply.TxnStatus.{TxnStatus}
use Rattle.ds_kind.specs.declared.reply.TxnStatus.TheVariants.{Committed, Aborted, Unknown, Staging}
use Rattle.ds_kind.specs.declared.reply.Body.{Body}
use Rattle.ds_kind.specs.declared.reply.Body.TheVariants as bodies
use Rattle.ds_kind.specs.declared.reply.Reply.{Reply}
use Rattle.ds_kind.specs.declared.reply.Failure.{Failure}
use Rattle.ds_kind.specs.declared.reply.Failure.TheVariants as failures
use Rattle.ds_text.specs.Simple.{nat, key_data, value_data, option_data, list_data, tuple, span_data, with_member, lone, only, empty}

abbrev pub status_text : TxnStatus → List ℕ
status_text Committed = codes "committed"
status_text Aborted = codes "aborted"
status_text Unknown = codes "unknown"
status_text Staging = codes "staging"

abbrev pub status_data : TxnStatus → Data
status_data s = string (status_text s)

abbrev pub row_data : Row → Data
row_data r = tuple (key_data r.key ∷ value_data r.value ∷ [])

-- the keys that were deleted, and their number
abbrev pub gone_members : List (List ℕ) → Members
gone_members keys = member (codes "keys") (list_data key_data keys) (lone (codes "num") (nat (length keys)))

-- what a reply says, by the kind of its request
abbrev pub body_members : Body → Members
body_members (bodies.Got v) = lone (codes "value") (option_data value_data v)
body_members (bodies.Rows rows) = lone (codes "rows") (list_data row_data rows)
body_members bodies.Unit = no_members
body_members (bodies.Number z) = lone (codes "value") (number (of_integer z))
body_members (bodies.Gone keys) = gone_members keys
body_members (bodies.Ended s) = lone (codes "status") (status_data s)
body_members (bodies.Found b) = lone (codes "found") (boolean b)

-- with the resume span, where a limit left one
abbrev pub reply_data : Reply → Data
reply_data r = object (with_member (codes "resume") (option_map span_data r.resume) (body_members r.body))

-- another value was seen than the one expected
abbrev pub condition_data : ℕ → Option Value → Data
condition_data i actual = only (codes "condition_failed") (object (member (codes "actual") (option_data value_data actual) (lone (codes "i") (nat i))))

abbrev pub too_old_data : ℕ → List ℕ → ℕ → Data
too_old_data i key stamp = only (codes "write_too_old") (object (member (codes "i") (nat i) (member (codes "key") (key_data key) (lone (codes "stamp") (nat stamp)))))

-- a cause, with the position of the request in its batch
abbrev pub at_data : List ℕ → ℕ → Data
at_data cause i = only cause (only (codes "i") (nat i))

abbrev pub failure_data : Failure → Data
failure_data (failures.Condition i actual) = condition_data i actual
failure_data (failures.TooOld i key stamp) = too_old_data i key stamp.0
failure_data (failures.NotInteger i) = at_data (codes "not_integer") i
failure_data (failures.Overflow i) = at_data (codes "overflow") i
failure_data failures.Aborted = only (codes "txn_aborted") empty
failure_data failures.Committed = only (codes "txn_committed") empty
