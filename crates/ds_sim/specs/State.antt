-- What the simulated cluster stands for.
use Rattle.std.specs.Prelude.{◌≡◌, ℕ, ◌+◌, ◌-◌, ◌^◌, nat_lt, if◌then◌else◌, List, [], ◌++◌}
use Rattle.ds_desc.specs.declared.desc.RangeDesc.{RangeDesc}
use Rattle.ds_rule.specs.declared.answer.Answer.{Answer}
use Rattle.ds_rule.specs.declared.answer.Answer.TheVariants.{Done, Failed, Refused, Lost}
use Rattle.ds_rule.specs.declared.event.Timed.{Timed}
use Rattle.ds_rule.specs.declared.journal.JournalStep.{JournalStep}
use Rattle.ds_rule.specs.declared.record.TxnRecord.{TxnRecord}
use Rattle.ds_rule.specs.World.{World}
use Rattle.ds_rule.specs.Blocks.{all_made, all_moved, woven}
use Rattle.ds_rule.specs.Clauses.{Stands}
use Rattle.ds_rule.specs.Close.{closed}
use Rattle.ds_ranges.specs.Layout.{Layout}
use Rattle.ds_sim.specs.declared.sim.Sim.{Sim}
use Rattle.ds_sim.specs.UnderWay.{UnderWay}

-- the world with these ranges and descriptors, these old descriptors armed and these records, after so many events; no copy
-- is under way
abbrev pub world_of : Layout → List RangeDesc → List TxnRecord → ℕ → World
world_of l armed records count = record {
  ranges = l.ranges;
  descs = l.descs;
  armed = armed;
  records = records;
  copies = [];
  count = count;
}

-- a wire that stands for this world in this block, with these picks still to come: nothing was lost
abbrev pub stands_for : World → UnderWay → ℕ → List ℕ → Stands
stands_for w u refused picks = record {
  world = w;
  past = woven 1 u.made u.steps;
  floor = u.floor;
  refused = refused;
  lost = 0;
  ahead = picks;
  block = u.made ++ u.coming;
}

-- a refusal raises the count, which stays at the counter's last value
abbrev pub refused_after : Answer → ℕ → ℕ
refused_after (Refused r) n = if nat_lt n (2 ^ 64 - 1) then n + 1 else n
refused_after (Done rs) n = n
refused_after (Failed f) n = n
refused_after Lost n = n

abbrev pub state_of : Sim → Stands
state_of s = stands_for (world_of s.ranges s.armed.items s.records s.block.count) s.block s.refused s.picks.items

-- ---- events of a block that happen after its last step

-- no block is under way, in this world
abbrev pub block_over : World → Stands → Stands
block_over w a = record a { world = w; past = []; ahead = []; block = [] }

-- the block ended with these steps: the events that are left happen, and all that happened in it is what it says
pub record Ended (steps : List JournalStep) (a b : Stands) : Type 0 where
  pub done : List Timed
  pub left : List Timed
  pub block : a.block ≡ done ++ left
  pub past : a.past ≡ woven 1 done steps
  pub all : woven 1 a.block steps ≡ a.past ++ all_made left
  pub state : b ≡ block_over (all_moved a.world left) a

-- it ended for want of memory: of the events that are left the first ones were made
pub record EndedShort (a b : Stands) : Type 0 where
  pub before : List Timed
  pub some : List Timed
  pub rest : List Timed
  pub block : a.block ≡ before ++ some ++ rest
  pub state : b ≡ block_over (all_moved a.world some) a

-- of these events the first ones were made
pub record MadeSome (events : List Timed) (a b : Stands) : Type 0 where
  pub some : List Timed
  pub rest : List Timed
  pub are : events ≡ some ++ rest
  pub state : b ≡ record a { world = all_moved a.world some }

-- ---- a close that wanted memory

-- what the ranges hold may have changed, and nothing else; and the open transaction ends as it would have ended before
pub record ClosesAgain (a b : Stands) : Type 0 where
  pub closes : closed b.world ≡ closed a.world
  pub rest : b ≡ record a { world = record (a.world) { ranges = b.world.ranges } }
