-- How far a replay has come.
use Rattle.std.specs.Prelude.{◌≡◌, ℕ, ◌*◌, ◌≤◌, [], Option, Some, None}
use Rattle.ds_cell.specs.Store.{Store, StoreTxn, empty_store}
use Rattle.ds_coord.specs.declared.txn.Txn.{Txn}
use Rattle.ds_coord.specs.Agrees.{AgreesIn}
use Rattle.ds_coord.specs.Client.{asker_in}
use Rattle.ds_rule.specs.Clauses.{Stands}
use Rattle.ds_rule.specs.StandsFor.{IsKnown}
use Rattle.ds_mean.specs.Means.{Means}
use Rattle.ds_script.specs.Journals.{Played, first_played}
use Rattle.ds_sim.specs.declared.sim.Sim.{Sim}
use Rattle.ds_sim.specs.State.{state_of}
use Rattle.ds_replay.specs.declared.state.State.{State}
use Rattle.ds_replay.specs.Built.{Stage, Start, Running}
use Rattle.ds_replay.specs.Forming.{stamp_in}

abbrev pub stage_of : State → Stage
stage_of State.Start = Start
stage_of (State.Running sim txn begun) = Running (stamp_in (asker_in txn))

-- it is known what became of the open transaction
abbrev pub KnownIn : Option StoreTxn → Type 0
KnownIn None = Unit {0}
KnownIn (Some t) = IsKnown t.mode

-- the cluster is the world that was played, which means the store; the client's open transaction asks, and is the store's; so
-- many transactions have begun
pub record IsIn (sim : Sim) (txn : Option Txn) (begun : ℕ) (s : Played) (p : Store) : Type 0 where
  pub world : s.world ≡ (state_of sim).world
  pub means : Means s.world p
  pub played : s.asks.begun ≡ begun
  pub stored : p.begun ≡ begun
  pub asks : s.asks.asker ≡ asker_in txn
  pub agrees : AgreesIn txn p.txn
  pub known : KnownIn p.txn

-- where a replay stands: what was played, and the plain store
abbrev pub StandsAt : State → Played → Store → Type 0
StandsAt State.Start s p = (s ≡ first_played) × (p ≡ empty_store)
StandsAt (State.Running sim txn begun) s p = IsIn sim txn begun s p

-- at most 1,001 events for each line, and no block is under way
pub record IsCalm (a : Stands) (n : ℕ) : Type 0 where
  pub count : a.world.count ≤ 1001 * n
  pub block : a.block ≡ []

-- the transaction gave no number to a request yet
abbrev pub IsFresh : Option Txn → Type 0
IsFresh None = Unit {0}
IsFresh (Some t) = t.last.0 ≡ 0

-- no block is under way between lines, and no more transactions have begun than lines were taken
abbrev pub IsWithin : State → ℕ → Type 0
IsWithin State.Start n = Unit {0}
IsWithin (State.Running sim txn begun) n = IsCalm (state_of sim) n × (begun ≤ n) × IsFresh txn
