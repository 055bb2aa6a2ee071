-- What happened, one after another: moves of the world, and steps of a sender.
use Rattle.std.specs.Prelude.{◌≡◌, ℕ, ◌+◌, true, List, [], ◌∷◌, ◌++◌, Option, Some, None}
use Rattle.ds_base.specs.declared.value.TxnNo.{TxnNo}
use Rattle.ds_desc.specs.Contains.{lies_ahead}
use Rattle.ds_desc.specs.declared.meta.Looked.{Looked}
use Rattle.ds_kind.specs.declared.batch.Item.{Item}
use Rattle.ds_kind.specs.declared.batch.Head.{Head}
use Rattle.ds_kind.specs.declared.batch.Piece.{Piece}
use Rattle.ds_kind.specs.declared.reply.Reply.{Reply}
use Rattle.ds_rule.specs.declared.journal.JournalStep.{JournalStep}
use Rattle.ds_rule.specs.declared.journal.JournalStep.TheVariants.{Look, Send}
use Rattle.ds_rule.specs.declared.answer.Answer.{Answer}
use Rattle.ds_rule.specs.declared.answer.Answer.TheVariants.{Done, Failed, Refused, Lost}
use Rattle.ds_rule.specs.declared.event.Event.{Event}
use Rattle.ds_rule.specs.World.{World, look_rows, look_world}
use Rattle.ds_rule.specs.Deliver.{deliver_answer, deliver_world}
use Rattle.ds_rule.specs.Moves.{moved}

pub data Happening : Type 0 where
  Moved : Event → Happening
  Did : JournalStep → Happening

-- ---- how a step fares

-- how it fares on its way: it comes there and its answer back, it is lost before it comes there, or its answer is
pub data Passage : Type 0 where
  BothWays : Passage
  RequestLost : Passage
  ReplyLost : Passage

-- a copy of the piece stays under way, where it is of a transaction
abbrev pub one_copy : Option TxnNo → ℕ → Piece → ℕ → World → World
one_copy None node p c w = w
one_copy (Some t) node p c w = record w { copies = w.copies ++ record { number = c; node = node; piece = p } ∷ [] }

abbrev pub with_copies : ℕ → Piece → List ℕ → World → World
with_copies node p [] w = w
with_copies node p (c ∷ cs) w = with_copies node p cs (one_copy p.head.txn node p c w)

-- what was refused leaves no copy
abbrev pub unless_refused : Answer → List ℕ → List ℕ
unless_refused (Refused r) cs = []
unless_refused (Done rs) cs = cs
unless_refused (Failed f) cs = cs
unless_refused Lost cs = cs

-- the world after a step that fared so, where copies of these numbers stay; of a lookup no copy stays
abbrev pub step_world : Passage → List ℕ → World → JournalStep → World
step_world BothWays cs w (Look k d l) = look_world w k d
step_world RequestLost cs w (Look k d l) = w
step_world ReplyLost cs w (Look k d l) = w
step_world BothWays cs w (Send n p a) = with_copies n p (unless_refused a cs) (deliver_world w n p)
step_world RequestLost cs w (Send n p a) = with_copies n p cs w
step_world ReplyLost cs w (Send n p a) = with_copies n p cs (deliver_world w n p)

-- the answer is the one that the world gives, or lost with the step; and some key of the key space lies ahead of the key that
-- is looked up, in its direction
abbrev pub IsAnswered : Passage → World → JournalStep → Type 0
IsAnswered BothWays w (Look k d (Looked.Rows infos)) = (infos ≡ look_rows w k d) × (lies_ahead d k ≡ true)
IsAnswered BothWays w (Look k d Looked.Lost) = ⊥
IsAnswered RequestLost w (Look k d (Looked.Rows infos)) = ⊥
IsAnswered RequestLost w (Look k d Looked.Lost) = lies_ahead d k ≡ true
IsAnswered ReplyLost w (Look k d (Looked.Rows infos)) = ⊥
IsAnswered ReplyLost w (Look k d Looked.Lost) = lies_ahead d k ≡ true
IsAnswered BothWays w (Send n p a) = a ≡ deliver_answer w n p
IsAnswered RequestLost w (Send n p a) = a ≡ Lost
IsAnswered ReplyLost w (Send n p a) = a ≡ Lost

-- a step that fares so leads from the one world to the other, where copies of these numbers stay
abbrev pub DoesSo : Passage → List ℕ → World → JournalStep → World → Type 0
DoesSo p cs w s v = IsAnswered p w s × (v ≡ step_world p cs w s)

-- however it fares, on a wire that leaves no copy of any step: what a sender's laws speak of. A block's copies stay by
-- BlockPlays
abbrev pub Does : World → JournalStep → World → Type 0
Does w s v = (p : Passage) × DoesSo p [] w s v

-- ---- one after another

abbrev pub Takes : World → Happening → World → Type 0
Takes w (Moved e) v = v ≡ moved w e
Takes w (Did s) v = Does w s v

-- one after another
abbrev pub Runs : World → List Happening → World → Type 0
Runs w [] v = v ≡ w
Runs w (h ∷ hs) v = (m : World) × Takes w h m × Runs m hs v

-- the journal: the steps alone
abbrev pub steps_of : List Happening → List JournalStep
steps_of [] = []
steps_of (Moved e ∷ hs) = steps_of hs
steps_of (Did s ∷ hs) = s ∷ steps_of hs

-- the moves alone, each with the number of steps before it
abbrev pub moves_of : ℕ → List Happening → List (ℕ × Event)
moves_of n [] = []
moves_of n (Moved e ∷ hs) = (n, e) ∷ moves_of n hs
moves_of n (Did s ∷ hs) = moves_of (n + 1) hs

-- an accepted item, with who asked and what it answered
pub record Accepted : Type 0 where
  pub head : Head
  pub item : Item
  pub reply : Reply

abbrev pub pairs : Head → List Item → List Reply → List Accepted
pairs h [] rs = []
pairs h (i ∷ is) [] = []
pairs h (i ∷ is) (r ∷ rs) = record { head = h; item = i; reply = r } ∷ pairs h is rs

-- a step answered Done accepts its items
abbrev pub accepted_by : JournalStep → List Accepted
accepted_by (Send n p (Done rs)) = pairs p.head p.items rs
accepted_by (Send n p (Failed f)) = []
accepted_by (Send n p (Refused r)) = []
accepted_by (Send n p Lost) = []
accepted_by (Look k d l) = []

abbrev pub accepted : List Happening → List Accepted
accepted [] = []
accepted (Moved e ∷ hs) = accepted hs
accepted (Did s ∷ hs) = accepted_by s ++ accepted hs
