-- Why the flight of a part ended so.
use Rattle.std.specs.Prelude.{◌≡◌, ◌⊎◌, ℕ, ◌+◌, ◌<◌, ◌≤◌, Bool, true, false, List, [], ◌∷◌, ◌++◌, map, Option, Some, None, refl}
use Rattle.std.proofs.Common.{inl, arith}
use Rattle.ds_base.specs.Order.{Extent}
use Rattle.ds_desc.specs.Contains.{contains}
use Rattle.ds_desc.specs.declared.desc.RangeDesc.{RangeDesc}
use Rattle.ds_desc.specs.declared.refusal.Refusal.TheVariants.{NotFound}
use Rattle.ds_kind.specs.Filled.{filled}
use Rattle.ds_kind.specs.Left.{is_used_up}
use Rattle.ds_kind.specs.declared.batch.Item.{Item}
use Rattle.ds_kind.specs.declared.batch.Piece.{Piece}
use Rattle.ds_kind.specs.declared.reply.Failure.{Failure}
use Rattle.ds_kind.specs.declared.reply.Reply.{Reply}
use Rattle.ds_cover.specs.Coverage.{Covered}
use Rattle.ds_cover.specs.Cuts.{seek_key}
use Rattle.ds_cover.specs.Laws.{joined}
use Rattle.ds_gather.specs.Gathered.{wanted, gathered}
use Rattle.ds_retry.specs.Counted.{Counts, first_counts}
use Rattle.ds_retry.specs.declared.outcome.PartOutcome.{PartOutcome}
use Rattle.ds_retry.specs.declared.outcome.PartOutcome.TheVariants.{Done, NotWhole, Failed, Ambiguous, Exhausted}
use Rattle.ds_rule.specs.declared.answer.Answer.{Answer}
use Rattle.ds_rule.specs.declared.answer.Answer.TheVariants.{Refused}
use Rattle.ds_rule.specs.declared.event.Event.{Event}
use Rattle.ds_rule.specs.declared.journal.JournalStep.{JournalStep}
use Rattle.ds_rule.specs.declared.journal.JournalStep.TheVariants.{Send}
use Rattle.ds_rule.specs.Clauses.{IsLost, IsRefused}
use Rattle.ds_rule.specs.Journal.{Happening, Moved, Did}
use Rattle.ds_rule.specs.Path.{holds_span}
use Rattle.ds_rule.specs.Pieces.{IsOneOf}
use Rattle.ds_flight.specs.Counting.{a_get, counted_step, is_risky, piece_of}
use Rattle.ds_flight.specs.Ends.{NoneEnds}
use Rattle.ds_flight.specs.Flights.{Flight}
use Rattle.ds_flight.specs.Goes.{known_after}
use Rattle.ds_flight.specs.Left.{arrived, blocks_of, failures, left_over}

-- ---- the counts

abbrev pub failed_sum : Counts → ℕ
failed_sum c = c.refused + c.lost

abbrev pub GoesOn : Counts → Type 0
GoesOn c = failed_sum c < c.budget

-- there were tries left before each step
abbrev pub AllGoOn : Counts → List Happening → Type 0
AllGoOn c [] = Unit {0}
AllGoOn c (Moved e ∷ hs) = AllGoOn c hs
AllGoOn c (Did s ∷ hs) = GoesOn c × AllGoOn (counted_step c s) hs

-- ---- the last step

-- the last thing that happened was a send with this answer, and no step before it ended the flight
pub record LastSend (piece : Piece) (answer : Answer) (hs : List Happening) : Type 0 where
  pub before : List Happening
  pub node : ℕ
  pub last : hs ≡ before ++ Did (Send node piece answer) ∷ []
  pub unended : NoneEnds before

-- the last step was refused or lost
pub record LastMissed (hs : List Happening) : Type 0 where
  pub before : List Happening
  pub step : JournalStep
  pub moves : List Event
  pub last : hs ≡ before ++ Did step ∷ map Moved moves
  pub missed : IsRefused step ⊎ IsLost step

-- ---- the replies

abbrev pub all_gathered : Flight → List Happening → List Reply
all_gathered f hs = gathered (map wanted f.part.items) (arrived hs)

-- the limit is used up: what isn't done is some rest, and each reply has what is left of its span
pub record CutShort (f : Flight) (replies : List Reply) (hs : List Happening) : Type 0 where
  pub rest : List (List Item)
  pub covered : Covered f.part.items (blocks_of hs ++ rest)
  pub replies_are : replies ≡ filled f.part.dir (seek_key f.part.dir (joined rest)) f.part.items (all_gathered f hs)

-- all of the part was done
pub record DoneWhole (f : Flight) (replies : List Reply) (hs : List Happening) : Type 0 where
  pub covered : Covered f.part.items (blocks_of hs)
  pub replies_are : replies ≡ all_gathered f hs

abbrev pub DoneWith : Bool → Flight → List Reply → List Happening → Type 0
DoneWith true f replies hs = CutShort f replies hs
DoneWith false f replies hs = DoneWhole f replies hs

-- ---- a span that must lie in one range

-- a known descriptor contains the part's first key, and doesn't hold the span that must lie in one range
abbrev pub LiesApart : Flight → Option Extent → RangeDesc → Type 0
LiesApart f None desc = ⊥
LiesApart f (Some whole) desc = (holds_span desc.span whole ≡ false) × ((s : List ℕ) × (seek_key f.part.dir f.part.items ≡ Some s) × (contains f.part.dir s desc.span ≡ true))

-- nothing was done or failed
pub record IsIdle (hs : List Happening) : Type 0 where
  pub blocks : blocks_of hs ≡ []
  pub failed : failures hs ≡ []

-- ---- the causes

-- a send is lost at risk, of no transaction
pub record LostAtRisk (hs : List Happening) : Type 0 where
  pub piece : Piece
  pub risky : is_risky piece ≡ true
  pub alone : piece.head.txn ≡ None
  pub last : LastSend piece Answer.Lost hs

pub record IsDone (f : Flight) (left : Option ℕ) (c : Counts) (hs : List Happening) (replies : List Reply) (rest : Option ℕ) : Type 0 where
  pub none_failed : failures hs ≡ []
  pub unended : NoneEnds hs
  pub goes_on : GoesOn c
  pub left_is : rest ≡ left_over left hs
  pub with : DoneWith (is_used_up rest) f replies hs

pub record IsNotWhole (f : Flight) (known : List RangeDesc) (c : Counts) (hs : List Happening) (desc : RangeDesc) : Type 0 where
  pub idle : IsIdle hs
  pub unended : NoneEnds hs
  pub goes_on : GoesOn c
  pub is_known : IsOneOf desc (known_after known hs)
  pub apart : LiesApart f f.whole desc

pub record IsFailed (c : Counts) (hs : List Happening) (failure : Failure) : Type 0 where
  pub failed : failures hs ≡ failure ∷ []
  pub goes_on : GoesOn c
  pub piece : Piece
  pub last : LastSend piece (Answer.Failed failure) hs

pub record IsAmbiguous (c : Counts) (hs : List Happening) (lost : ℕ) : Type 0 where
  pub none_failed : failures hs ≡ []
  pub fits : failed_sum c ≤ c.budget
  pub lost_is : lost ≡ c.at_risk
  pub at_risk : LostAtRisk hs

pub record IsExhausted (c : Counts) (hs : List Happening) (refused lost : ℕ) : Type 0 where
  pub none_failed : failures hs ≡ []
  pub unended : NoneEnds hs
  pub spent : failed_sum c ≡ c.budget
  pub last : LastMissed hs
  pub refused_is : refused ≡ c.refused
  pub lost_is : lost ≡ c.lost

-- why a part that began with so much left of the limit ended so, by all that happened and the counts then
abbrev pub PartCause : Flight → List RangeDesc → Option ℕ → Counts → List Happening → PartOutcome → Type 0
PartCause f known left c hs (Done replies rest) = IsDone f left c hs replies rest
PartCause f known left c hs (NotWhole desc) = IsNotWhole f known c hs desc
PartCause f known left c hs (Failed failure) = IsFailed c hs failure
PartCause f known left c hs (Ambiguous lost) = IsAmbiguous c hs lost
PartCause f known left c hs (Exhausted refused lost) = IsExhausted c hs refused lost

-- one refusal of a budget of one, and of two

abbrev pub its_refusal : List Happening
its_refusal = Did (Send 1 (piece_of None a_get) (Refused NotFound)) ∷ []

there_was_one_try : AllGoOn (first_counts 1) its_refusal
there_was_one_try = (omega arith, tt)

not_one_more : AllGoOn (first_counts 1) (its_refusal ++ its_refusal) → ⊥
not_one_more h = let low : 1 < 1 = h.1.0 in omega (arith, low)

abbrev pub one_of : ℕ → Counts
one_of budget = record { refused = 1; lost = 0; at_risk = 0; budget = budget }

the_budget_is_used_up : IsExhausted (one_of 1) its_refusal 1 0
the_budget_is_used_up = record {
  none_failed = refl;
  unended = (refl, tt);
  spent = refl;
  last = record { before = []; step = _; moves = []; last = refl; missed = inl tt };
  refused_is = refl;
  lost_is = refl;
}
