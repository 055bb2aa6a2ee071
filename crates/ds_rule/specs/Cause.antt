-- Why a batch was answered as it was: what its steps show.
use Rattle.std.specs.Prelude.{◌≡◌, ℕ, ◌+◌, ◌≤◌, ◌⊎◌, Bool, true, false, List, [], ◌∷◌, ◌++◌, refl}
use Rattle.ds_base.specs.declared.value.Dir.TheVariants.{Forward}
use Rattle.ds_desc.specs.Contains.{contains}
use Rattle.ds_desc.specs.declared.desc.Info.{Info}
use Rattle.ds_desc.specs.declared.desc.RangeDesc.{RangeDesc}
use Rattle.ds_desc.specs.declared.meta.Looked.TheVariants as Looked
use Rattle.ds_kind.specs.WholeSpan.{whole_span}
use Rattle.ds_kind.specs.declared.batch.Item.{Item}
use Rattle.ds_kind.specs.declared.batch.Piece.{Piece}
use Rattle.ds_kind.specs.declared.reply.Failure.{Failure}
use Rattle.ds_kind.specs.declared.reply.Reply.{Reply}
use Rattle.ds_rule.specs.declared.answer.Answer.TheVariants.{Done, Failed, Refused, Lost}
use Rattle.ds_rule.specs.declared.answer.Outcome.{Outcome}
use Rattle.ds_rule.specs.declared.journal.JournalStep.{JournalStep}
use Rattle.ds_rule.specs.declared.journal.JournalStep.TheVariants.{Look, Send}
use Rattle.ds_rule.specs.Asking.{Asking}
use Rattle.ds_rule.specs.Clauses.{Stands}
use Rattle.ds_rule.specs.Gathered.{Gathered}
use Rattle.ds_rule.specs.Journal.{Happening, Moved, Did, Accepted}
use Rattle.ds_rule.specs.Path.{Path, holds_span}
use Rattle.ds_rule.specs.Pieces.{Each}

-- counts

-- whether the step was refused, or lost
abbrev pub refusals_of : JournalStep → ℕ
refusals_of (Send n p (Refused r)) = 1
refusals_of (Send n p (Done rs)) = 0
refusals_of (Send n p (Failed f)) = 0
refusals_of (Send n p Lost) = 0
refusals_of (Look k d l) = 0

abbrev pub losses_of : JournalStep → ℕ
losses_of (Send n p Lost) = 1
losses_of (Send n p (Done rs)) = 0
losses_of (Send n p (Failed f)) = 0
losses_of (Send n p (Refused r)) = 0
losses_of (Look k d Looked.Lost) = 1
losses_of (Look k d (Looked.Rows is)) = 0

-- how many sends were refused, and how many steps were lost
abbrev pub refused_in : List Happening → ℕ
refused_in [] = 0
refused_in (Moved e ∷ hs) = refused_in hs
refused_in (Did s ∷ hs) = refusals_of s + refused_in hs

abbrev pub lost_in : List Happening → ℕ
lost_in [] = 0
lost_in (Moved e ∷ hs) = lost_in hs
lost_in (Did s ∷ hs) = losses_of s + lost_in hs

-- a way from one state of a wire to a later one, of which each send is of the batch, with what was accepted and how many
-- steps were refused and lost
pub record Trip (q : Asking) (a b : Stands) (got : List Accepted) (refused lost : ℕ) : Type 0 where
  pub path : Path q a b got
  pub refusals : refused_in path.added ≡ refused
  pub losses : lost_in path.added ≡ lost
  pub rises : a.lost ≤ b.lost

-- the last step

-- a piece was answered with this failure, and that was the last thing that happened
pub record LastFails (f : Failure) (hs : List Happening) : Type 0 where
  pub before : List Happening
  pub node : ℕ
  pub piece : Piece
  pub last : hs ≡ before ++ Did (Send node piece (Failed f)) ∷ []

-- a piece was lost, and that was the last thing that happened
pub record LastLost (hs : List Happening) : Type 0 where
  pub before : List Happening
  pub node : ℕ
  pub piece : Piece
  pub last : hs ≡ before ++ Did (Send node piece Lost) ∷ []

-- a batch in one range

-- the first row of a lookup of the batch's first key holds the batch's span, or does not
abbrev pub first_holds : List Item → Bool → List Info → Type 0
first_holds items answer [] = Unit {0}
first_holds items answer (i ∷ is) = holds_span i.desc.span (whole_span items) ≡ answer

abbrev pub IsWholeStep : Asking → JournalStep → Type 0
IsWholeStep q (Look k d (Looked.Rows infos)) = first_holds q.items true infos
IsWholeStep q (Look k d Looked.Lost) = Unit {0}
IsWholeStep q (Send n p a) = (p.head ≡ q.head) × (p.items ≡ q.items)

-- each send is of the whole batch, and each route that was found holds its span
abbrev pub IsWholeOf : Asking → Happening → Type 0
IsWholeOf q (Moved e) = Unit {0}
IsWholeOf q (Did s) = IsWholeStep q s

-- nothing was served
abbrev pub IsIdle : Happening → Type 0
IsIdle (Moved e) = Unit {0}
IsIdle (Did (Look k d l)) = Unit {0}
IsIdle (Did (Send n p (Done rs))) = ⊥
IsIdle (Did (Send n p (Failed f))) = Unit {0}
IsIdle (Did (Send n p (Refused r))) = Unit {0}
IsIdle (Did (Send n p Lost)) = Unit {0}

-- the whole batch was served in one piece, at last
pub record LastServes (q : Asking) (replies : List Reply) (hs : List Happening) : Type 0 where
  pub before : List Happening
  pub idle : Each IsIdle before
  pub node : ℕ
  pub piece : Piece
  pub last : hs ≡ before ++ Did (Send node piece (Done replies)) ∷ []

-- a lookup of the batch's first key found a descriptor that contains it and doesn't hold the batch's span; before it
-- nothing was served, and each route held the span
pub record TooWide (q : Asking) (desc : RangeDesc) (hs : List Happening) : Type 0 where
  pub before : List Happening
  pub idle : Each IsIdle before
  pub whole : Each (IsWholeOf q) before
  pub row : Info
  pub rest : List Info
  pub last : hs ≡ before ++ Did (Look (whole_span q.items).start Forward (Looked.Rows (row ∷ rest))) ∷ []
  pub desc_is : desc ≡ row.desc
  pub contains_first : contains Forward (whole_span q.items).start row.desc.span ≡ true
  pub too_wide : holds_span row.desc.span (whole_span q.items) ≡ false

-- the budget was used up
pub record UsedUp (budget refused lost : ℕ) (hs : List Happening) : Type 0 where
  pub refusals : refused_in hs ≡ refused
  pub losses : lost_in hs ≡ lost
  pub sum : refused + lost ≡ budget

-- why a batch that is sent request by request was answered so; ends, and what only a transaction meets, aren't built yet
abbrev pub CauseOf : ℕ → Asking → List Happening → List Accepted → Outcome → Type 0
CauseOf budget q hs got (Outcome.Ok replies) = Gathered got q.items replies
CauseOf budget q hs got (Outcome.Illegal i) = ⊥
CauseOf budget q hs got (Outcome.MustRollBack since) = ⊥
CauseOf budget q hs got (Outcome.TxnOver status) = ⊥
CauseOf budget q hs got (Outcome.OpRequiresTxn desc) = ⊥
CauseOf budget q hs got (Outcome.NotOnePhase desc) = ⊥
CauseOf budget q hs got (Outcome.ConditionFailed i v) = LastFails (Failure.Condition i v) hs
CauseOf budget q hs got (Outcome.WriteTooOld i k s) = LastFails (Failure.TooOld i k s) hs
CauseOf budget q hs got (Outcome.NotInteger i) = LastFails (Failure.NotInteger i) hs
CauseOf budget q hs got (Outcome.Overflow i) = LastFails (Failure.Overflow i) hs
CauseOf budget q hs got Outcome.TxnAborted = LastFails Failure.Aborted hs
CauseOf budget q hs got (Outcome.Ambiguous lost) = LastFails Failure.Committed hs
CauseOf budget q hs got (Outcome.RetryExhausted refused lost) = UsedUp budget refused lost hs
CauseOf budget q hs got Outcome.OutOfMemory = Unit {0}

-- each send was of the whole batch, and nothing was served
abbrev pub IsHeldBack : Asking → List Happening → Type 0
IsHeldBack q hs = Each (IsWholeOf q) hs × Each IsIdle hs

-- why a batch that is sent in one piece was answered so
abbrev pub WholeCauseOf : ℕ → Asking → List Happening → Outcome → Type 0
WholeCauseOf budget q hs (Outcome.Ok replies) = Each (IsWholeOf q) hs × LastServes q replies hs
WholeCauseOf budget q hs (Outcome.Illegal i) = ⊥
WholeCauseOf budget q hs (Outcome.MustRollBack since) = ⊥
WholeCauseOf budget q hs (Outcome.TxnOver status) = ⊥
WholeCauseOf budget q hs (Outcome.OpRequiresTxn desc) = TooWide q desc hs
WholeCauseOf budget q hs (Outcome.NotOnePhase desc) = ⊥
WholeCauseOf budget q hs (Outcome.ConditionFailed i v) = IsHeldBack q hs × LastFails (Failure.Condition i v) hs
WholeCauseOf budget q hs (Outcome.WriteTooOld i k s) = IsHeldBack q hs × LastFails (Failure.TooOld i k s) hs
WholeCauseOf budget q hs (Outcome.NotInteger i) = IsHeldBack q hs × LastFails (Failure.NotInteger i) hs
WholeCauseOf budget q hs (Outcome.Overflow i) = IsHeldBack q hs × LastFails (Failure.Overflow i) hs
WholeCauseOf budget q hs Outcome.TxnAborted = IsHeldBack q hs × LastFails Failure.Aborted hs
WholeCauseOf budget q hs (Outcome.Ambiguous lost) = IsHeldBack q hs × (LastFails Failure.Committed hs ⊎ LastLost hs)
WholeCauseOf budget q hs (Outcome.RetryExhausted refused lost) = IsHeldBack q hs × UsedUp budget refused lost hs
WholeCauseOf budget q hs Outcome.OutOfMemory = Unit {0}

a_point_is_not_wide : holds_span (record { start = 97 ∷ []; end = 98 ∷ [] }) (record { start = 97 ∷ []; end = 99 ∷ [] }) ≡ false
a_point_is_not_wide = refl
