-- What the sending of one piece of a flight comes to.
use Rattle.std.specs.Prelude.{◌≡◌, ℕ, ◌+◌, ◌<◌, Bool, true, false, List, [], ◌∷◌, ◌++◌, length, Option, Some, None, if◌then◌else◌}
use Rattle.std.specs.List.{insert, remove, slice_get}
use Rattle.ds_base.specs.Order.{max_key, min_key}
use Rattle.ds_base.specs.declared.value.Dir.{Dir}
use Rattle.ds_base.specs.declared.value.Dir.TheVariants.{Forward, Reverse}
use Rattle.ds_desc.specs.declared.desc.Info.{Info}
use Rattle.ds_desc.specs.declared.desc.RangeDesc.{RangeDesc}
use Rattle.ds_desc.specs.declared.refusal.Refusal.{Refusal}
use Rattle.ds_desc.specs.declared.refusal.Refusal.TheVariants.{NotFound, NotLease, Mismatch}
use Rattle.ds_kind.specs.Left.{is_used_up}
use Rattle.ds_kind.specs.declared.batch.Head.{Head}
use Rattle.ds_kind.specs.declared.batch.Item.{Item}
use Rattle.ds_kind.specs.declared.batch.Piece.{Piece}
use Rattle.ds_cache.specs.Entries.{Cache, cache, without}
use Rattle.ds_cache.specs.Insert.{leased, put_all}
use Rattle.ds_cover.specs.Items.{AreProper}
use Rattle.ds_cover.specs.Measures.{AllSpans}
use Rattle.ds_gather.specs.Gathering.{Gathering}
use Rattle.ds_lease.specs.Turns.{Places}
use Rattle.ds_retry.specs.Counted.{Counts, is_spent}
use Rattle.ds_retry.specs.Steps.{order_after, step_after, IsKnown}
use Rattle.ds_retry.specs.declared.outcome.PartOutcome.{PartOutcome}
use Rattle.ds_retry.specs.declared.outcome.PartOutcome.TheVariants as Outcome
use Rattle.ds_retry.specs.declared.step.Step.{Step}
use Rattle.ds_retry.specs.declared.step.Step.TheVariants.{SameRoute, Relook, Recut, Exhausted}
use Rattle.ds_rule.specs.declared.answer.Answer.{Answer}
use Rattle.ds_rule.specs.declared.journal.JournalStep.TheVariants.{Send}
use Rattle.ds_rule.specs.Clauses.{later_picks, next_pick}
use Rattle.ds_rule.specs.Journal.{Happening}
use Rattle.ds_flight.specs.Causes.{GoesOn, IsAmbiguous, IsExhausted, IsFailed}
use Rattle.ds_flight.specs.Covers.{AllCover}
use Rattle.ds_flight.specs.Ends.{NoneEnds}
use Rattle.ds_flight.specs.Fills.{tries_left}
use Rattle.ds_flight.specs.Flights.{Flight}
use Rattle.ds_flight.specs.Goes.{descs_of, known_after}
use Rattle.ds_flight.specs.Left.{arrived, blocks_of, failures, left_over}
use Rattle.ds_flight.specs.Picks.{sends_of, IsDoneAnswer, IsOneAtMost}
use Rattle.ds_flight.specs.Places.{given_back, nth_routed, waiting}
use Rattle.ds_flight.specs.Ran.{AreKnown, Course, Ran}
use Rattle.ds_flight.specs.Works.{items_of, work_left, Underway}
use Rattle.ds_flight.specs.declared.sent.Sent.{Sent}
use Rattle.ds_flight.specs.declared.sent.Sent.TheVariants.{On, Ended}
use Rattle.ds_flight.specs.declared.work.Flying.{Flying}
use Rattle.ds_flight.specs.declared.work.Task.{Task}
use Rattle.ds_flight.specs.declared.work.Task.TheVariants.{Rest, Routed}

-- ---- what can be sent

-- it has something, of spans of keys
pub record Sendable (r : Flying) : Type 0 where
  pub some : 0 < length r.piece.items
  pub proper : AreProper r.piece.items
  pub spans : AllSpans r.piece.items

abbrev pub IsSendable : Task → Type 0
IsSendable (Rest c) = Unit {0}
IsSendable (Routed r) = Sendable r

-- the piece as it is sent: asked by this head, with so much left of the limit
abbrev pub asked_by : Head → Option ℕ → Piece → Piece
asked_by head left p = record p { head = record head { left = left } }

abbrev pub asking_with : Head → Option ℕ → Flying → Flying
asking_with head left r = record r { piece = asked_by head left r.piece }

-- ---- after a refusal

-- the rows that a refusal tells
abbrev pub told_rows : Refusal → List Info
told_rows NotFound = []
told_rows (NotLease l) = []
told_rows (Mismatch is) = is

-- the lease that a refusal tells is kept under the route's token
abbrev pub learned : ℕ → Refusal → Cache → Cache
learned t NotFound c = c
learned t (NotLease l) c = cache (leased t l c.entries) c.capacity c.given
learned t (Mismatch is) c = c

abbrev pub evicted : ℕ → Cache → Cache
evicted t c = cache (without t c.entries) c.capacity c.given

-- the token's entry goes where the route is given up, and the rows that were told come in its place
abbrev pub unrouted : Step → ℕ → Refusal → Cache → Cache
unrouted (SameRoute n) t x c = c
unrouted Relook t x c = evicted t c
unrouted Recut t x c = put_all (told_rows x) (evicted t c)
unrouted (Exhausted refused lost) t x c = c

-- the piece flies on to another node, or becomes a rest in its place
abbrev pub turned_work : Step → Flying → Places → ℕ → List Task → List Task
turned_work (SameRoute n) r o at work = insert work at (Routed (record r { order = o; node = n }))
turned_work Relook r o at work = insert work at (given_back r.piece)
turned_work Recut r o at work = insert work at (given_back r.piece)
turned_work (Exhausted refused lost) r o at work = work

abbrev pub sent_after : Step → Sent
sent_after (SameRoute n) = On
sent_after Relook = On
sent_after Recut = On
sent_after (Exhausted refused lost) = Ended (Outcome.Exhausted refused lost)

-- what a refusal leads to, by the counts with it
pub record TurnedAway (x : Refusal) (r : Flying) (c : Counts) (at : ℕ) (before after : Cache) (old new : List Task) (s : Sent) : Type 0 where
  pub sent : s ≡ sent_after (step_after c r.order x)
  pub work : new ≡ turned_work (step_after c r.order x) r (order_after c r.order x) at old
  pub cache : after ≡ unrouted (step_after c r.order x) r.token x (learned r.token x before)
  pub known : IsKnown r.order (step_after c r.order x)

abbrev pub GoesOnIfOn : Counts → Sent → Type 0
GoesOnIfOn c On = GoesOn c
GoesOnIfOn c (Ended o) = Unit {0}

-- whatever was known of the cache, it has what is known then
abbrev pub LearnsFrom : Refusal → Cache → Cache → Type 0
LearnsFrom x before after = (known : List RangeDesc) → AreKnown known before.entries → AreKnown (known ++ descs_of (told_rows x)) after.entries

-- ---- after a loss

abbrev pub lost_sent : Bool → Counts → Sent
lost_sent true c = Ended (Outcome.Ambiguous c.at_risk)
lost_sent false c = if is_spent c then Ended (Outcome.Exhausted c.refused c.lost) else On

-- the piece stands in its place again, for the same node
abbrev pub lost_work : Flying → ℕ → List Task → Sent → List Task
lost_work r at work On = insert work at (Routed r)
lost_work r at work (Ended o) = work

-- ---- one send

-- what a flight carries beside its course: the work that is left, what came, and what is left of the limit
pub record Load : Type 0 where
  pub work : List Task
  pub got : Gathering
  pub left : Option ℕ

abbrev pub load : List Task → Gathering → Option ℕ → Load
load work got left = record { work = work; got = got; left = left }

-- why a send ended the flight
abbrev pub EndCause : Counts → List Happening → PartOutcome → Type 0
EndCause c hs (Outcome.Done replies rest) = ⊥
EndCause c hs (Outcome.NotWhole desc) = ⊥
EndCause c hs (Outcome.Failed failure) = IsFailed c hs failure
EndCause c hs (Outcome.Ambiguous lost) = IsAmbiguous c hs lost
EndCause c hs (Outcome.Exhausted refused lost) = IsExhausted c hs refused lost

-- the flight goes on with this work, and nothing ended it; or it ended so, and nothing was done then
abbrev pub SentTo : Flight → List RangeDesc → List (List Item) → Counts → List Happening → List Task → Sent → Type 0
SentTo f known done c hs work On = (failures hs ≡ []) × GoesOn c × Underway f known done work × NoneEnds hs
SentTo f known done c hs work (Ended o) = EndCause c hs o × (blocks_of hs ≡ [])

-- the piece that stood first in the work was sent to its node, and where it was answered Done, it alone left the work
pub record WasSent (head : Head) (x y : Load) (r : Flying) (hs : List Happening) : Type 0 where
  pub answer : Answer
  pub sent : sends_of hs ≡ Send r.node (asked_by head x.left r.piece) answer ∷ []
  pub left : IsDoneAnswer answer → y.work ≡ x.work

-- what happened between two states of a flight in the send of this piece, which the work doesn't hold
pub record SendFits (f : Flight) (known : List RangeDesc) (done : List (List Item)) (a b : Course) (x y : Load) (r : Flying) (s : Sent) (hs : List Happening) : Type 0 where
  pub ran : Ran f known x.left a b hs
  pub got : y.got ≡ record { wanted = x.got.wanted; got = x.got.got ++ arrived hs }
  pub left : y.left ≡ left_over x.left hs
  pub to : SentTo f (known_after known hs) (done ++ blocks_of hs) b.counts hs y.work s
  pub was : WasSent f.head x y r hs

-- a piece was sent, for any part of this head, whatever is known and done of it, while something of the limit was left
abbrev pub RoutedSent : Head → Course → Course → Load → Load → Flying → Sent → Type 0
RoutedSent head a b x y r s =
    (f : Flight) (known : List RangeDesc) (done : List (List Item)) → f.head ≡ head → AreKnown known a.entries → is_used_up x.left ≡ false → Underway f known done (Routed r ∷ x.work)
    → (hs : List Happening) × SendFits f known done a b x y r s hs

-- what happened where memory was wanted: one piece was sent, or none, and it ended nothing
pub record PieceBegan (f : Flight) (known : List RangeDesc) (done : List (List Item)) (left : Option ℕ) (a b : Course) (hs : List Happening) : Type 0 where
  pub ran : Ran f known left a b hs
  pub covers : AllCover f.part.items done hs
  pub sent : IsOneAtMost (sends_of hs)
  pub unended : NoneEnds hs

abbrev pub PieceRan : Head → Course → Course → Option ℕ → List Task → Type 0
PieceRan head a b left work =
    (f : Flight) (known : List RangeDesc) (done : List (List Item)) → f.head ≡ head → AreKnown known a.entries → is_used_up left ≡ false → Underway f known done work
    → (hs : List Happening) × PieceBegan f known done left a b hs

-- there are fewer tries, or there is less work
abbrev pub LessensIfGoing : Counts → Counts → List Task → List Task → Sent → Type 0
LessensIfGoing c d old new On = tries_left d + work_left new < tries_left c + work_left old
LessensIfGoing c d old new (Ended o) = Unit {0}

-- ---- the turn of one piece

-- of the pieces that wait, the one that the next pick names was taken out
pub record TakenNext (picks : List ℕ) (old new : List Task) (at : ℕ) (r : Flying) : Type 0 where
  pub nth : nth_routed (next_pick picks (waiting old)) old ≡ Some at
  pub there : slice_get old at ≡ Some (Routed r)
  pub work : new ≡ remove old at

-- the piece that the next pick names was sent, once, and that pick is used up; where it was answered Done, it alone left the work
pub record SentNext (before after : List ℕ) (old new : List Task) (hs : List Happening) : Type 0 where
  pub at : ℕ
  pub flying : Flying
  pub nth : nth_routed (next_pick before (waiting old)) old ≡ Some at
  pub there : slice_get old at ≡ Some (Routed flying)
  pub piece : Piece
  pub answer : Answer
  pub sent : sends_of hs ≡ Send flying.node piece answer ∷ []
  pub items : piece.items ≡ flying.piece.items
  pub later : after ≡ later_picks before
  pub left : IsDoneAnswer answer → new ≡ remove old at

-- what happened between two states of a flight in the turn of one piece
pub record SentFits (f : Flight) (known : List RangeDesc) (done : List (List Item)) (a b : Course) (x y : Load) (s : Sent) (hs : List Happening) : Type 0 where
  pub ran : Ran f known x.left a b hs
  pub got : y.got ≡ record { wanted = x.got.wanted; got = x.got.got ++ arrived hs }
  pub left : y.left ≡ left_over x.left hs
  pub to : SentTo f (known_after known hs) (done ++ blocks_of hs) b.counts hs y.work s
  pub next : SentNext a.wire.ahead b.wire.ahead x.work y.work hs

-- a piece was picked and sent, for any part of this head, whatever is known and done of it, while something of the limit was left
abbrev pub PieceSent : Head → Course → Course → Load → Load → Sent → Type 0
PieceSent head a b x y s =
    (f : Flight) (known : List RangeDesc) (done : List (List Item)) → f.head ≡ head → AreKnown known a.entries → is_used_up x.left ≡ false → Underway f known done x.work
    → (hs : List Happening) × SentFits f known done a b x y s hs

-- ---- the end where the limit is used up

abbrev pub goes : Task → Dir
goes (Rest c) = c.dir
goes (Routed r) = r.piece.dir

-- what is left of a task can be cut, in this direction
pub record IsProperTask (d : Dir) (t : Task) : Type 0 where
  pub proper : AreProper (items_of t)
  pub dir : goes t ≡ d

-- the one of two keys that is met first
abbrev pub first_met : Dir → List ℕ → List ℕ → List ℕ
first_met Forward k l = min_key k l
first_met Reverse k l = max_key k l

abbrev pub nearer : Dir → Option (List ℕ) → Option (List ℕ) → Option (List ℕ)
nearer d None o = o
nearer d (Some k) None = Some k
nearer d (Some k) (Some l) = Some (first_met d k l)
