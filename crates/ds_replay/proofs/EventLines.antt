-- The lines on which an event happens by itself.
use Rattle.std.proofs.Common.{◌≡◌, ℕ, ◌≤◌, Bool, true, false, Option, Some, None, IsSome, if◌then◌else◌, refl, sym, ap, ◌∙◌, subst}
use Rattle.ds_base.proofs.SmallFacts.{some_same}
use Rattle.ds_cell.specs.Store.{Store}
use Rattle.ds_coord.specs.declared.txn.Txn.{Txn}
use Rattle.ds_coord.specs.Client.{asker_in}
use Rattle.ds_rule.specs.declared.event.Event.{Event}
use Rattle.ds_rule.specs.declared.event.Event.TheVariants as events
use Rattle.ds_rule.specs.Moves.{moved}
use Rattle.ds_rule.specs.Plain.{after_event}
use Rattle.ds_rule.specs.StandsFor.{open_stamp}
use Rattle.ds_mean.proofs.Lifetimes.{moves_mean}
use Rattle.ds_mean.proofs.Stores.{event-txn}
use Rattle.ds_script.specs.declared.line.Line.{Line}
use Rattle.ds_script.specs.declared.line.Line.TheVariants as lines
use Rattle.ds_script.specs.Journals.{JournalTurn, Played}
use Rattle.ds_script.specs.PlainRuns.{PlainTurn}
use Rattle.ds_script.specs.Runs.{event_of, has_entry}
use Rattle.ds_sim.specs.declared.sim.Sim.{Sim}
use Rattle.ds_sim.specs.State.{state_of}
use Rattle.ds_replay.specs.declared.state.State.{State}
use Rattle.ds_replay.specs.Built.{Running, line_stage}
use Rattle.ds_replay.specs.Causes.{EntryCause}
use Rattle.ds_replay.specs.Forming.{floor_at, is_move, stamp_in}
use Rattle.ds_replay.specs.Gathers.{GatherTurn}
use Rattle.ds_replay.specs.Stages.{IsIn}
use Rattle.ds_replay.specs.Taken.{LineTaken}
use Rattle.ds_replay.proofs.Clients.{event-agrees, event-known, same-asker}
use Rattle.ds_replay.proofs.Readying.{move-of, open-floor}

-- what such a line makes
pub record EventTurn (l : Line) (e : Event) (s : Played) (p : Store) : Type 0 where
  pub journal : JournalTurn s l None (record s { world = moved s.world e })
  pub gathers : GatherTurn s.asks l None s.asks
  pub plain : PlainTurn p l None (after_event e p)
  pub cause : (budget : ℕ) → EntryCause budget s.asks p l None

pub event-turn : (l : Line) (e : Event) (s : Played) (p : Store) → event_of l ≡ Some e → EventTurn l e s p
event-turn (lines.Write k t v) e s p h = subst (λ x. EventTurn (lines.Write k t v) x s p) (some_same _ e h) (record { journal = (refl, refl); gathers = (tt, refl); plain = refl; cause = λ n. tt })
event-turn (lines.Split k) e s p h = subst (λ x. EventTurn (lines.Split k) x s p) (some_same _ e h) (record { journal = (refl, refl); gathers = (tt, refl); plain = refl; cause = λ n. tt })
event-turn (lines.Merge k) e s p h = subst (λ x. EventTurn (lines.Merge k) x s p) (some_same _ e h) (record { journal = (refl, refl); gathers = (tt, refl); plain = refl; cause = λ n. tt })
event-turn (lines.Lease k n) e s p h = subst (λ x. EventTurn (lines.Lease k n) x s p) (some_same _ e h) (record { journal = (refl, refl); gathers = (tt, refl); plain = refl; cause = λ n. tt })
event-turn (lines.Move k ns) e s p h = subst (λ x. EventTurn (lines.Move k ns) x s p) (some_same _ e h) (record { journal = (refl, refl); gathers = (tt, refl); plain = refl; cause = λ n. tt })
event-turn (lines.Stale k b) e s p h = subst (λ x. EventTurn (lines.Stale k b) x s p) (some_same _ e h) (record { journal = (refl, refl); gathers = (tt, refl); plain = refl; cause = λ n. tt })
event-turn lines.Abort e s p h = subst (λ x. EventTurn lines.Abort x s p) (some_same _ e h) (record { journal = (refl, refl); gathers = (tt, refl); plain = refl; cause = λ n. tt })
event-turn (lines.Arrive c) e s p h = subst (λ x. EventTurn (lines.Arrive c) x s p) (some_same _ e h) (record { journal = (refl, refl); gathers = (tt, refl); plain = refl; cause = λ n. tt })
event-turn (lines.Cluster c) e s p h = cc
event-turn (lines.Begin t k) e s p h = cc
event-turn lines.Close e s p h = cc
event-turn lines.Restart e s p h = cc
event-turn (lines.Batch b block) e s p h = cc

pub silent : (l : Line) (e : Event) → event_of l ≡ Some e → has_entry l ≡ false
silent (lines.Write k t v) e h = refl
silent (lines.Split k) e h = refl
silent (lines.Merge k) e h = refl
silent (lines.Lease k n) e h = refl
silent (lines.Move k ns) e h = refl
silent (lines.Stale k b) e h = refl
silent lines.Abort e h = refl
silent (lines.Arrive c) e h = refl
silent (lines.Cluster c) e h = refl
silent (lines.Begin t k) e h = refl
silent lines.Close e h = cc
silent lines.Restart e h = cc
silent (lines.Batch b block) e h = cc

-- ---- a line of a built form

-- the event may be made, and the script stays where it is
pub record MayMake (o : Option ℕ) (l : Line) (e : Event) : Type 0 where
  pub move : is_move (floor_at o None) e ≡ true
  pub stage : Some (Running o) ≡ line_stage o l

by-test : (t : Bool) (o : Option ℕ) → IsSome (if t then Some (Running o) else None) → t ≡ true
by-test true o h = refl
by-test false o h = cc

by-event : (o : Option ℕ) (x e : Event) → Some x ≡ Some e → IsSome (if is_move (floor_at o None) x then Some (Running o) else None) → (is_move (floor_at o None) e ≡ true) × (Some (Running o) ≡ (if is_move (floor_at o None) x then Some (Running o) else None))
by-event o x e h built =
    let holds = by-test (is_move (floor_at o None) x) o built in (
      subst (λ z. is_move (floor_at o None) z ≡ true) (some_same x e h) holds,
      sym (ap (λ (t : Bool). if t then Some (Running o) else None) holds),
    )

pub may-make : (o : Option ℕ) (l : Line) (e : Event) → event_of l ≡ Some e → IsSome (line_stage o l) → MayMake o l e
may-make o (lines.Write k t v) e h built = let b = by-event o (events.Write k t v) e h built in record { move = b.0; stage = b.1 }
may-make o (lines.Split k) e h built = let b = by-event o (events.Split k) e h built in record { move = b.0; stage = b.1 }
may-make o (lines.Merge k) e h built = let b = by-event o (events.Merge k) e h built in record { move = b.0; stage = b.1 }
may-make o (lines.Lease k n) e h built = let b = by-event o (events.Lease k n) e h built in record { move = b.0; stage = b.1 }
may-make o (lines.Move k ns) e h built = let b = by-event o (events.Move k ns) e h built in record { move = b.0; stage = b.1 }
may-make o (lines.Stale k b) e h built = let b' = by-event o (events.Stale k b) e h built in record { move = b'.0; stage = b'.1 }
may-make o lines.Abort e h built = let b = by-event o events.Abort e h built in record { move = b.0; stage = b.1 }
may-make o (lines.Arrive c) e h built = let b = by-event o (events.Arrive c) e h built in record { move = b.0; stage = b.1 }
may-make o (lines.Cluster c) e h built = cc
may-make o (lines.Begin t k) e h built = cc
may-make o lines.Close e h built = cc
may-make o lines.Restart e h built = cc
may-make o (lines.Batch b block) e h built = cc

-- ---- where the replay stands then

pub in-moved : (sim new : Sim) (txn : Option Txn) (begun : ℕ) (s : Played) (p : Store) (e : Event) → is_move (floor_at (stamp_in (asker_in txn)) None) e ≡ true → state_of new ≡ record (state_of sim) { world = moved (state_of sim).world e } → IsIn sim txn begun s p → IsIn new txn begun (record s { world = moved s.world e }) (after_event e p)
in-moved sim new txn begun s p e move is at =
    let floor : ℕ = floor_at (stamp_in (asker_in txn)) None in
    let low : open_stamp p.txn ≤ floor = subst (λ t. open_stamp p.txn ≤ floor_at (stamp_in t) None) (sym (same-asker txn p at.agrees)) (open-floor p.txn None) in
    record {
      world = ap (λ w. moved w e) at.world ∙ sym (ap (λ z. z.world) is);
      means = moves_mean s.world p e floor (move-of floor e move) low at.means;
      played = at.played;
      stored = (event-txn e p).1 ∙ at.stored;
      asks = at.asks;
      agrees = event-agrees e p txn at.agrees;
      known = event-known e p at.known;
    }

pub event-line : {budget : ℕ} (sim new : Sim) (txn : Option Txn) (begun : ℕ) (l : Line) (e : Event) (s : Played) (p : Store) → event_of l ≡ Some e → is_move (floor_at (stamp_in (asker_in txn)) None) e ≡ true → state_of new ≡ record (state_of sim) { world = moved (state_of sim).world e } → IsIn sim txn begun s p → LineTaken budget (State.Running sim txn begun) (State.Running new txn begun) l None s p
event-line {budget = budget} sim new txn begun l e s p is move made at =
    let turn = event-turn l e s p is in
    record {
      played = record s { world = moved s.world e };
      next = after_event e p;
      journal = turn.journal;
      gathers = turn.gathers;
      plain = turn.plain;
      stands = in-moved sim new txn begun s p e move made at;
      cause = turn.cause budget;
    }
