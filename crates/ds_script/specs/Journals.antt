-- When a log's journal is legal, and its replies are gathered.
use Rattle.std.specs.Prelude.{◌≡◌, ℕ, ◌+◌, Bool, true, false, ◌&&◌, List, [], ◌∷◌, ◌++◌, Option, Some, None, is_some, if◌then◌else◌}
use Rattle.ds_base.specs.declared.value.Stamp.{Stamp}
use Rattle.ds_kind.specs.declared.batch.Batch.{Batch}
use Rattle.ds_kind.specs.declared.batch.Item.{Item}
use Rattle.ds_kind.specs.declared.reply.TxnStatus.{TxnStatus}
use Rattle.ds_cell.specs.Store.{Asker}
use Rattle.ds_rule.specs.declared.answer.Answer.TheVariants.{Done, Failed, Refused, Lost}
use Rattle.ds_rule.specs.declared.answer.Outcome.{Outcome}
use Rattle.ds_rule.specs.declared.answer.Outcome.TheVariants as Outcome
use Rattle.ds_rule.specs.declared.event.Block.{Block}
use Rattle.ds_rule.specs.declared.event.Event.{Event}
use Rattle.ds_rule.specs.declared.journal.Entry.{Entry}
use Rattle.ds_rule.specs.declared.journal.Entry.TheVariants as entries
use Rattle.ds_rule.specs.declared.journal.JournalStep.{JournalStep}
use Rattle.ds_rule.specs.declared.journal.JournalStep.TheVariants.{Look, Send}
use Rattle.ds_rule.specs.Asking.{Asking, asking}
use Rattle.ds_rule.specs.Begin.{first_world}
use Rattle.ds_rule.specs.Blocks.{BlockPlays}
use Rattle.ds_rule.specs.Close.{with_begin, closed, close_status}
use Rattle.ds_rule.specs.Gathered.{Gathered}
use Rattle.ds_rule.specs.Journal.{Accepted, accepted_by}
use Rattle.ds_rule.specs.Moves.{moved}
use Rattle.ds_rule.specs.Plain.{asker_after, if_of_txn}
use Rattle.ds_rule.specs.World.{World}
use Rattle.ds_script.specs.declared.line.Line.{Line}
use Rattle.ds_script.specs.declared.line.Line.TheVariants as lines
use Rattle.ds_script.specs.declared.line.Numbered.{Numbered}
use Rattle.ds_script.specs.Runs.{Plays, event_of}

-- who asks in the open transaction, and how many transactions have begun
pub record Asks : Type 0 where
  pub asker : Option Asker
  pub begun : ℕ

abbrev pub no_asks : Asks
no_asks = record { asker = None; begun = 0 }

-- transactions are numbered from 1 in the order of their begins
abbrev pub next_asker : Stamp → Asks → Asker
next_asker s a = record { number = a.begun + 1; stamp = s.0; epoch = 0; last = 0 }

abbrev pub answered_asks : Batch → Outcome → Asks → Asks
answered_asks b o a = record a { asker = if_of_txn b.at (asker_after b o) a.asker }

-- who asks after a line and its entry
abbrev pub asks_after : Line → Option Entry → Asks → Asks
asks_after (lines.Begin s k) e a = record { asker = Some (next_asker s a); begun = a.begun + 1 }
asks_after lines.Close e a = record a { asker = None }
asks_after (lines.Batch b block) (Some (entries.Batch n steps o)) a = answered_asks b o a
asks_after l e a = a

-- the world, and who asks

pub record Played : Type 0 where
  pub world : World
  pub asks : Asks

abbrev pub no_world : World
no_world = record { ranges = []; descs = []; armed = []; records = []; copies = []; count = 0 }

abbrev pub first_played : Played
first_played = record { world = no_world; asks = no_asks }

-- a batch's steps are of the batch, and are answered as the world answers, with what happens beside them
pub record BatchPlays (s : Played) (b : Batch) (block : Block) (steps : List JournalStep) (v : World) : Type 0 where
  pub asked : Asking
  pub asks : asking s.asks.asker b ≡ Some asked
  pub plays : BlockPlays asked [] 1 block.events s.world steps v

abbrev pub event_world : Option Event → World → World
event_world None w = w
event_world (Some e) w = moved w e

-- the world after a line, by its entry; a restart isn't built yet
abbrev pub WorldAfter : Played → Line → Option Entry → World → Type 0
WorldAfter s (lines.Cluster c) e v = v ≡ first_world c.ranges
WorldAfter s (lines.Begin t k) e v = v ≡ with_begin (next_asker t s.asks) s.world
WorldAfter s lines.Close (Some (entries.Closed n status)) v = (status ≡ close_status s.world) × (v ≡ closed s.world)
WorldAfter s lines.Close e v = ⊥
WorldAfter s (lines.Batch b block) (Some (entries.Batch n steps o)) v = BatchPlays s b block steps v
WorldAfter s (lines.Batch b block) e v = ⊥
WorldAfter s lines.Restart e v = ⊥
WorldAfter s l e v = v ≡ event_world (event_of l) s.world

abbrev pub JournalTurn : Played → Line → Option Entry → Played → Type 0
JournalTurn s l e v = WorldAfter s l e v.world × (v.asks ≡ asks_after l e s.asks)

-- the world runs over the script's lines with the steps of the log
abbrev pub LegalJournal : List Numbered → List Entry → Type 0
LegalJournal script log = (v : Played) × Plays JournalTurn first_played script log v

-- replies

-- what a batch's steps accepted
abbrev pub accepted_in : List JournalStep → List Accepted
accepted_in [] = []
accepted_in (s ∷ ss) = accepted_by s ++ accepted_in ss

abbrev pub served_by : JournalStep → ℕ
served_by (Send n p (Done rs)) = 1
served_by (Send n p (Failed f)) = 0
served_by (Send n p (Refused r)) = 0
served_by (Send n p Lost) = 0
served_by (Look k d l) = 0

-- how many pieces were served
abbrev pub served_in : List JournalStep → ℕ
served_in [] = 0
served_in (s ∷ ss) = served_by s + served_in ss

-- what must see one state without a transaction is served in one piece
abbrev pub InOnePiece : Bool → List JournalStep → Type 0
InOnePiece true steps = served_in steps ≡ 1
InOnePiece false steps = Unit {0}

abbrev pub sees_one_state : Batch → Bool
sees_one_state b = is_some b.at && b.consistent

-- an Ok answer's replies are gathered of what was accepted
abbrev pub BatchGathers : Asks → Batch → List JournalStep → Outcome → Type 0
BatchGathers a b steps (Outcome.Ok replies) =
    (q : Asking) × (asking a.asker b ≡ Some q) × Gathered (accepted_in steps) q.items replies × InOnePiece (sees_one_state b) steps
BatchGathers a b steps o = Unit {0}

abbrev pub EntryGathers : Asks → Line → Option Entry → Type 0
EntryGathers a (lines.Batch b block) (Some (entries.Batch n steps o)) = BatchGathers a b steps o
EntryGathers a l e = Unit {0}

abbrev pub GatherTurn : Asks → Line → Option Entry → Asks → Type 0
GatherTurn a l e v = EntryGathers a l e × (v ≡ asks_after l e a)

-- each Ok answer is gathered
abbrev pub AllGathered : List Numbered → List Entry → Type 0
AllGathered script log = (v : Asks) × Plays GatherTurn no_asks script log v
