-- The scripts that are built so far.
use Rattle.std.specs.Prelude.{◌≡◌, ℕ, Bool, false, ◌&&◌, List, [], ◌∷◌, length, nat_le, Option, Some, None, if◌then◌else◌, refl}
use Rattle.std.specs.List.{list_all}
use Rattle.ds_kind.specs.declared.batch.Batch.{Batch}
use Rattle.ds_rule.specs.declared.cluster.ClusterRange.{ClusterRange}
use Rattle.ds_rule.specs.declared.event.Block.{Block}
use Rattle.ds_rule.specs.declared.event.Event.{Event}
use Rattle.ds_rule.specs.Begin.{is_leased, tiles}
use Rattle.ds_script.specs.declared.line.Line.{Line}
use Rattle.ds_script.specs.declared.line.Numbered.{Numbered}
use Rattle.ds_script.specs.Runs.{event_of}
use Rattle.ds_send.specs.Forms.{can_send}
use Rattle.ds_replay.specs.Forming.{belongs, floor_at, goes_below, is_move, may_happen}

-- how far a script has come: nothing yet, or a cluster, with the stamp of the transaction that is open, if one is
pub data Stage : Type 0 where
  Start : Stage
  Running : Option ℕ → Stage

-- at most 1,024 ranges, which tile the keys, each with its lease at a node that has a replica
abbrev pub is_cluster : List ClusterRange → Bool
is_cluster rs = tiles rs && (nat_le (length rs) 1024 && list_all is_leased rs)

-- a batch of a form that is built, and what may happen beside it
abbrev pub is_sent : Option ℕ → Batch → Block → Bool
is_sent o b block = belongs o b.at && (can_send b && (goes_below o b.at b.requests && may_happen (floor_at o b.at) block.events))

-- what may happen on a line of its own
abbrev pub is_made : Option ℕ → Option Event → Bool
is_made o None = false
is_made o (Some e) = is_move (floor_at o None) e

-- one transaction at a time
abbrev pub begin_stage : Option ℕ → ℕ → Option Stage
begin_stage None s = Some (Running (Some s))
begin_stage (Some t) s = None

abbrev pub close_stage : Option ℕ → Option Stage
close_stage None = None
close_stage (Some t) = Some (Running None)

abbrev pub line_stage : Option ℕ → Line → Option Stage
line_stage o (Line.Begin s k) = begin_stage o s.0
line_stage o Line.Close = close_stage o
line_stage o (Line.Batch b block) = if is_sent o b block then Some (Running o) else None
line_stage o l = if is_made o (event_of l) then Some (Running o) else None

-- how far the script has come after a line, if the line is of a form that is built
abbrev pub next_stage : Stage → Line → Option Stage
next_stage Start (Line.Cluster c) = if is_cluster c.ranges then Some (Running None) else None
next_stage Start l = None
next_stage (Running o) l = line_stage o l

abbrev pub goes_on : Option Stage → ℕ → (Stage → Option ℕ) → Option ℕ
goes_on None n more = Some n
goes_on (Some s) n more = more s

-- the number of the first line of a form that isn't built
abbrev pub unbuilt_from : List Numbered → Stage → Option ℕ
unbuilt_from [] s = None
unbuilt_from (l ∷ ls) s = goes_on (next_stage s l.line) l.number (unbuilt_from ls)

abbrev pub first_unbuilt : List Numbered → Option ℕ
first_unbuilt lines = unbuilt_from lines Start

an_abort_is_not_built : first_unbuilt (record { number = 3; line = Line.Abort } ∷ []) ≡ Some 3
an_abort_is_not_built = refl

nor_later : next_stage (Running (Some 5)) Line.Abort ≡ None
nor_later = refl

a_begin_opens : next_stage (Running None) (Line.Begin (record { 0 = 5 }) []) ≡ Some (Running (Some 5))
a_begin_opens = refl

no_second_begin : next_stage (Running (Some 5)) (Line.Begin (record { 0 = 6 }) []) ≡ None
no_second_begin = refl

a_split : next_stage (Running (Some 5)) (Line.Split (97 ∷ [])) ≡ Some (Running (Some 5))
a_split = refl

no_write_below_the_transaction : next_stage (Running (Some 5)) (Line.Write (97 ∷ []) (record { 0 = 5 }) None) ≡ None
no_write_below_the_transaction = refl
