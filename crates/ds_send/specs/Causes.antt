-- Why a batch was answered so over ranges that may move: what its steps show.
use Rattle.std.specs.Prelude.{◌≡◌, ℕ, ◌+◌, ◌<◌, ◌≤◌, ◌⊎◌, List, [], ◌∷◌, None, pos, refl, if◌then◌else◌}
use Rattle.std.proofs.Common.{arith}
use Rattle.ds_base.specs.declared.value.Dir.TheVariants.{Forward}
use Rattle.ds_base.specs.declared.value.Value.TheVariants.{Int}
use Rattle.ds_desc.specs.declared.desc.RangeDesc.{RangeDesc}
use Rattle.ds_desc.specs.declared.meta.Looked.TheVariants as Looked
use Rattle.ds_desc.specs.declared.refusal.Refusal.TheVariants.{NotFound}
use Rattle.ds_kind.specs.declared.batch.Piece.{Piece}
use Rattle.ds_kind.specs.declared.reply.Failure.{Failure}
use Rattle.ds_kind.specs.declared.request.Request.{Request}
use Rattle.ds_kind.specs.declared.request.Request.TheVariants.{Get, Put}
use Rattle.ds_rule.specs.declared.answer.Answer.TheVariants.{Done, Failed, Refused, Lost}
use Rattle.ds_rule.specs.declared.answer.Outcome.{Outcome}
use Rattle.ds_rule.specs.declared.journal.JournalStep.{JournalStep}
use Rattle.ds_rule.specs.declared.journal.JournalStep.TheVariants.{Look, Send}
use Rattle.ds_rule.specs.Asking.{Asking}
use Rattle.ds_rule.specs.Cause.{UsedUp, lost_in, refused_in}
use Rattle.ds_rule.specs.Journal.{Happening, Moved, Did}
use Rattle.ds_rule.specs.Whole.{whole_of}
use Rattle.ds_flight.specs.Causes.{LostAtRisk}
use Rattle.ds_flight.specs.Counting.{is_risky}
use Rattle.ds_flight.specs.Goes.{known_after}
use Rattle.ds_flight.specs.Left.{failures}
use Rattle.ds_mean.specs.Send.{CameToFail, CameWhole}
use Rattle.ds_send.specs.Batched.{BatchApart, BatchLeft}

-- ---- counts

-- how many refusals and losses there were
abbrev pub missed_in : List Happening → ℕ
missed_in hs = refused_in hs + lost_in hs

-- whether the step is a send that was lost at risk
abbrev pub risks_of : JournalStep → ℕ
risks_of (Look k d l) = 0
risks_of (Send n p (Done rs)) = 0
risks_of (Send n p (Failed f)) = 0
risks_of (Send n p (Refused r)) = 0
risks_of (Send n p Lost) = if is_risky p then 1 else 0

-- how many sends were lost at risk
abbrev pub risked_in : List Happening → ℕ
risked_in [] = 0
risked_in (Moved e ∷ hs) = risked_in hs
risked_in (Did s ∷ hs) = risks_of s + risked_in hs

-- ---- causes

-- no piece failed, and tries were left
pub record WasWell (budget : ℕ) (hs : List Happening) : Type 0 where
  pub none_failed : failures hs ≡ []
  pub within : missed_in hs < budget

-- a known descriptor contains the first key of one of the batch's parts and doesn't hold what must lie in one range
pub record WasApart (budget : ℕ) (q : Asking) (known : List RangeDesc) (hs : List Happening) (desc : RangeDesc) : Type 0 where
  pub well : WasWell budget hs
  pub apart : BatchApart q (whole_of q) (known_after known hs) desc
  pub left : BatchLeft q hs

-- the last piece failed so, and no other failed
pub record HasFailed (budget : ℕ) (q : Asking) (hs : List Happening) (f : Failure) : Type 0 where
  pub only : failures hs ≡ f ∷ []
  pub within : missed_in hs < budget
  pub came : CameToFail q hs f

-- the last send was lost, and nobody knows what it left
pub record WasLost (budget : ℕ) (q : Asking) (hs : List Happening) : Type 0 where
  pub none_failed : failures hs ≡ []
  pub within : missed_in hs ≤ budget
  pub at_risk : LostAtRisk hs
  pub left : BatchLeft q hs

-- so many refusals and losses used up the budget
pub record RanOut (budget : ℕ) (q : Asking) (hs : List Happening) (refused lost : ℕ) : Type 0 where
  pub none_failed : failures hs ≡ []
  pub used : UsedUp budget refused lost hs
  pub left : BatchLeft q hs

-- a batch is in doubt by so many sends that were lost at risk: by the last one, by a record that was found committed, or where
-- they used up the budget
pub record IsInDoubt (budget : ℕ) (q : Asking) (hs : List Happening) (lost : ℕ) : Type 0 where
  pub lost_is : lost ≡ risked_in hs
  pub why : WasLost budget q hs ⊎ (HasFailed budget q hs Failure.Committed ⊎ ((0 < lost) × RanOut budget q hs (refused_in hs) (lost_in hs)))

-- why a batch that breaks no rule was answered so, where these descriptors were known before; of the answers without steps
-- none is one, and nothing is said of want of memory
abbrev pub CauseOf : ℕ → Asking → List RangeDesc → List Happening → Outcome → Type 0
CauseOf budget q known hs (Outcome.Ok replies) = WasWell budget hs × CameWhole q hs replies
CauseOf budget q known hs (Outcome.Illegal i) = ⊥
CauseOf budget q known hs (Outcome.MustRollBack since) = ⊥
CauseOf budget q known hs (Outcome.TxnOver status) = ⊥
CauseOf budget q known hs (Outcome.OpRequiresTxn desc) = WasApart budget q known hs desc
CauseOf budget q known hs (Outcome.NotOnePhase desc) = ⊥
CauseOf budget q known hs (Outcome.ConditionFailed i v) = HasFailed budget q hs (Failure.Condition i v)
CauseOf budget q known hs (Outcome.WriteTooOld i k s) = HasFailed budget q hs (Failure.TooOld i k s)
CauseOf budget q known hs (Outcome.NotInteger i) = HasFailed budget q hs (Failure.NotInteger i)
CauseOf budget q known hs (Outcome.Overflow i) = HasFailed budget q hs (Failure.Overflow i)
CauseOf budget q known hs Outcome.TxnAborted = HasFailed budget q hs Failure.Aborted
CauseOf budget q known hs (Outcome.Ambiguous lost) = IsInDoubt budget q hs lost
CauseOf budget q known hs (Outcome.RetryExhausted refused lost) = (risked_in hs ≡ 0) × RanOut budget q hs refused lost
CauseOf budget q known hs Outcome.OutOfMemory = Unit {0}

-- ---- a get and a put of a without a transaction

abbrev its_piece : Request → Piece
its_piece r = record { head = record { at = record { 0 = 5 }; txn = None; left = None; epoch = 0 }; range = 1; items = record { pos = 0; seq = record { 0 = 0 }; request = r } ∷ []; dir = Forward }

abbrev a_get : Piece
a_get = its_piece (Get (record { key = 97 ∷ [] }))

abbrev a_put : Piece
a_put = its_piece (Put (record { key = 97 ∷ []; value = Int (pos 7) }))

-- a lookup that is lost, a get that is refused, and one that is lost: three misses, none at risk
abbrev three_missed : List Happening
three_missed = Did (Look (97 ∷ []) Forward Looked.Lost) ∷ Did (Send 1 a_get (Refused NotFound)) ∷ Did (Send 1 a_get Lost) ∷ []

three_are_missed : missed_in three_missed ≡ 3
three_are_missed = refl

none_is_at_risk : risked_in three_missed ≡ 0
none_is_at_risk = refl

a_lost_put_is : risked_in (Did (Send 1 a_put Lost) ∷ []) ≡ 1
a_lost_put_is = refl

tries_are_left_of_four : WasWell 4 three_missed
tries_are_left_of_four = record { none_failed = refl; within = omega (arith, three_are_missed) }

not_of_three : WasWell 3 three_missed → ⊥
not_of_three h = let low = h.within in omega (arith, three_are_missed, low)
