-- What the replay of each line makes, as one call each.
use Rattle.std.proofs.Common.{◌≡◌, ℕ, ◌+◌, ◌*◌, ◌-◌, ◌^◌, ◌<◌, ◌≤◌, Bool, true, false, ◌&&◌, List, [], ◌∷◌, ◌++◌, Option, Some, None, IsSome, if◌then◌else◌, length, nat_le, Result, Ok, Err, IfOk, refl, sym, ap, ◌∙◌, subst, arith}
use Rattle.std.specs.declared.alloc.AllocError.{AllocError}
use Rattle.std.specs.List.{list_all}
use Rattle.ds_base.proofs.SmallFacts.{and_first, and_second, append_nil, le_of}
use Rattle.ds_base.specs.declared.key.Key.{Key}
use Rattle.ds_base.specs.declared.value.Stamp.{Stamp}
use Rattle.ds_kind.specs.declared.batch.Batch.{Batch}
use Rattle.ds_cell.specs.Store.{Store}
use Rattle.ds_coord.specs.declared.txn.Txn.{Txn}
use Rattle.ds_coord.specs.Client.{asker_in, noted}
use Rattle.ds_rule.specs.declared.answer.Outcome.{Outcome}
use Rattle.ds_rule.specs.declared.cluster.Cluster.{Cluster}
use Rattle.ds_rule.specs.declared.event.Block.{Block}
use Rattle.ds_rule.specs.declared.event.Event.{Event}
use Rattle.ds_rule.specs.declared.event.Event.TheVariants.{Write, Split, Merge, Lease, Move, Stale, Abort, Arrive, LoseRequest, LoseReply, Copy, Restart}
use Rattle.ds_rule.specs.declared.journal.Entry.{Entry}
use Rattle.ds_rule.specs.declared.journal.Entry.TheVariants as entries
use Rattle.ds_rule.specs.Begin.{first_world, is_leased, tiles}
use Rattle.ds_rule.specs.Clauses.{Stands}
use Rattle.ds_rule.specs.Close.{close_status, closed, with_begin}
use Rattle.ds_rule.specs.Moves.{moved}
use Rattle.ds_rule.specs.Plain.{if_of_txn}
use Rattle.ds_script.specs.declared.line.Line.{Line}
use Rattle.ds_script.specs.declared.line.Line.TheVariants as lines
use Rattle.ds_script.specs.declared.line.Numbered.{Numbered}
use Rattle.ds_script.specs.Journals.{Played}
use Rattle.ds_script.specs.Runs.{TakesEntry, event_of, has_entry}
use Rattle.ds_sim.specs.declared.sim.Sim.{Sim}
use Rattle.ds_sim.specs.Made.{CanBeMade}
use Rattle.ds_sim.specs.State.{state_of}
use Rattle.ds_replay.specs.declared.state.State.{State}
use Rattle.ds_replay.specs.Asked.{AskedBy}
use Rattle.ds_replay.specs.Built.{Stage, Start, Running, begin_stage, close_stage, is_cluster, is_sent, line_stage, next_stage}
use Rattle.ds_replay.specs.Forming.{belongs, floor_at, is_move, stamp_in}
use Rattle.ds_send.specs.Asked.{IsOpenFor}
use Rattle.ds_replay.specs.Stages.{IsCalm, IsFresh, IsWithin, StandsAt, stage_of}
use Rattle.ds_replay.specs.Taken.{HasMade, LineTaken, Taken}
use Rattle.ds_replay.proofs.Batches.{IsBatch, batch-line, batch-of}
use Rattle.ds_replay.proofs.Clients.{noted-fresh}
use Rattle.ds_replay.proofs.Counts.{asked-block, asked-count, moved-count}
use Rattle.ds_replay.proofs.EventLines.{event-line, may-make, silent}
use Rattle.ds_replay.proofs.OtherLines.{begin-line, close-line, cluster-line, txn_at}
use Rattle.ds_replay.proofs.Readying.{happens-of}

-- a line without an entry leaves the log
no-entry : {budget : ℕ} (old new : State) (l : Numbered) (log : List Entry) → has_entry l.line ≡ false → ((s : Played) (p : Store) → StandsAt old s p → LineTaken budget old new l.line None s p) → Taken budget old new l log log
no-entry old new l log none line = record {
  entry = None;
  takes = subst (λ t. TakesEntry t l.number [] None []) (sym none) refl;
  logged = sym (append_nil log);
  line = line;
}

quiet : {budget : ℕ} (old new : State) (l : Numbered) (x : Line) (log : List Entry) → l.line ≡ x → has_entry x ≡ false → ((s : Played) (p : Store) → StandsAt old s p → LineTaken budget old new x None s p) → Taken budget old new l log log
quiet {budget = budget} old new l x log is none line = no-entry old new l log (ap has_entry is ∙ none) (λ s p at. subst (λ y. LineTaken budget old new y None s p) (sym is) (line s p at))

spoken : {budget : ℕ} (old new : State) (l : Numbered) (x : Line) (log after : List Entry) (e : Entry) → l.line ≡ x → TakesEntry (has_entry x) l.number (e ∷ []) (Some e) [] → after ≡ log ++ e ∷ [] → ((s : Played) (p : Store) → StandsAt old s p → LineTaken budget old new x (Some e) s p) → Taken budget old new l log after
spoken {budget = budget} old new l x log after e is takes logged line = record {
  entry = Some e;
  takes = subst (λ y. TakesEntry (has_entry y) l.number (e ∷ []) (Some e) []) (sym is) takes;
  logged = logged;
  line = λ s p at. subst (λ y. LineTaken budget old new y (Some e) s p) (sym is) (line s p at);
}

some-if : (b : Bool) (x : Stage) → IsSome (if b then Some x else None) → b ≡ true
some-if true x h = refl
some-if false x h = cc

built-line : (stage : Stage) (l : Numbered) (x : Line) → l.line ≡ x → IsSome (next_stage stage l.line) → IsSome (next_stage stage x)
built-line stage l x is built = subst (λ y. IsSome (next_stage stage y)) is built

-- ---- the cluster

pub record IsBegun (c : Cluster) (l : Numbered) : Type 0 where
  pub tiled : tiles c.ranges ≡ true
  pub few : length c.ranges ≤ 1024
  pub leased : list_all is_leased c.ranges ≡ true
  pub stage : Some (Running None) ≡ next_stage Start l.line

pub cluster-begun : (c : Cluster) (l : Numbered) → l.line ≡ lines.Cluster c → IsSome (next_stage Start l.line) → IsBegun c l
cluster-begun c l is built =
    let fits : is_cluster c.ranges ≡ true = some-if (is_cluster c.ranges) (Running None) (built-line Start l (lines.Cluster c) is built) in
    let rest = and_second (tiles c.ranges) (nat_le (length c.ranges) 1024 && list_all is_leased c.ranges) fits in
    record {
      tiled = and_first (tiles c.ranges) (nat_le (length c.ranges) 1024 && list_all is_leased c.ranges) fits;
      few = le_of (length c.ranges) 1024 (and_first (nat_le (length c.ranges) 1024) (list_all is_leased c.ranges) rest);
      leased = and_second (nat_le (length c.ranges) 1024) (list_all is_leased c.ranges) rest;
      stage = sym (ap (next_stage Start) is ∙ ap (λ (t : Bool). if t then Some (Running None) else None) fits);
    }

pub cluster-taken : {budget : ℕ} (sim : Sim) (c : Cluster) (l : Numbered) (log : List Entry) → l.line ≡ lines.Cluster c → IsSome (next_stage Start l.line) → state_of sim ≡ record { world = first_world c.ranges; past = []; floor = 0; refused = 0; lost = 0; ahead = []; block = [] } → Taken budget State.Start (State.Running sim None 0) l log log
cluster-taken sim c l log is built made =
    let begun = cluster-begun c l is built in
    quiet State.Start (State.Running sim None 0) l (lines.Cluster c) log is refl (λ s p at. cluster-line sim c s p begun.tiled begun.leased made at)

-- ---- an event

can-make : (floor : ℕ) (e : Event) → is_move floor e ≡ true → CanBeMade e
can-make floor (Write k s v) h = and_second _ _ h
can-make floor (Split k) h = tt
can-make floor (Merge k) h = tt
can-make floor (Lease k n) h = tt
can-make floor (Move k ns) h = tt
can-make floor (Stale k b) h = tt
can-make floor Abort h = tt
can-make floor (Arrive c) h = tt
can-make floor (LoseRequest c) h = tt
can-make floor (LoseReply c) h = tt
can-make floor (Copy c) h = tt
can-make floor (Restart t) h = tt

pub event-made : (txn : Option Txn) (l : Numbered) (e : Event) → Some e ≡ event_of l.line → IsSome (line_stage (stamp_in (asker_in txn)) l.line) → CanBeMade e
event-made txn l e is built = can-make (floor_at (stamp_in (asker_in txn)) None) e (may-make (stamp_in (asker_in txn)) l.line e (sym is) built).move

-- the script and the replay stay where they are
pub event-stage : (sim : Sim) (txn : Option Txn) (begun : ℕ) (e : Event) (l : Numbered) (r : Result State AllocError) → Some e ≡ event_of l.line → IsSome (line_stage (stamp_in (asker_in txn)) l.line) → IfOk r (λ new. HasMade sim txn begun e new) → IfOk r (λ new. Some (stage_of new) ≡ line_stage (stamp_in (asker_in txn)) l.line)
event-stage sim txn begun e l (Err x) is built h = tt
event-stage sim txn begun e l (Ok State.Start) is built h = absurd h
event-stage sim txn begun e l (Ok (State.Running new still same)) is built h =
    ap (λ t. Some (Running (stamp_in (asker_in t)))) h.1 ∙ (may-make (stamp_in (asker_in txn)) l.line e (sym is) built).stage

pub event-taken : (budget : ℕ) (sim : Sim) (txn : Option Txn) (begun : ℕ) (e : Event) (l : Numbered) (log : List Entry) (r : Result State AllocError) → Some e ≡ event_of l.line → IsSome (line_stage (stamp_in (asker_in txn)) l.line) → IfOk r (λ new. HasMade sim txn begun e new) → IfOk r (λ new. Taken budget (State.Running sim txn begun) new l log log)
event-taken budget sim txn begun e l log (Err x) is built h = tt
event-taken budget sim txn begun e l log (Ok State.Start) is built h = absurd h
event-taken budget sim txn begun e l log (Ok (State.Running new still same)) is built h =
    let may = may-make (stamp_in (asker_in txn)) l.line e (sym is) built in
    subst (λ (t : Option Txn). Taken budget (State.Running sim txn begun) (State.Running new t same) l log log) (sym h.1)
    (subst (λ (n : ℕ). Taken budget (State.Running sim txn begun) (State.Running new txn n) l log log) (sym h.2)
    (no-entry (State.Running sim txn begun) (State.Running new txn begun) l log (silent l.line e (sym is)) (λ s p at. event-line sim new txn begun l.line e s p (sym is) may.move h.0 at)))

calm-event : (a b : Stands) (n : ℕ) (e : Event) → b ≡ record a { world = moved a.world e } → IsCalm a n → IsCalm b (n + 1)
calm-event a b n e is calm =
    let low : a.world.count ≤ 1001 * n = calm.count in
    let same : b.world.count ≡ (moved a.world e).count = ap (λ z. z.world.count) is in
    let one = moved-count e a.world in
    record { count = omega (arith, low, same, one); block = ap (λ z. z.block) is ∙ calm.block }

more : (n m : ℕ) → n ≤ m → n ≤ m + 1
more n m h = omega (arith, h)

pub event-within : (sim : Sim) (txn : Option Txn) (begun : ℕ) (e : Event) (r : Result State AllocError) → IfOk r (λ new. HasMade sim txn begun e new) → IfOk r (λ new. (n : ℕ) → IsWithin (State.Running sim txn begun) n → IsWithin new (n + 1))
event-within sim txn begun e (Err x) h = tt
event-within sim txn begun e (Ok State.Start) h = absurd h
event-within sim txn begun e (Ok (State.Running new still same)) h = λ n w.
    let low : begun ≤ n = w.1 in
    (calm-event (state_of sim) (state_of new) n e h.0 w.0, subst (λ m. m ≤ n + 1) (sym h.2) (more begun n low), subst IsFresh (sym h.1) w.2)

-- ---- a begin

none-begun : (txn : Option Txn) (s : ℕ) → IsSome (begin_stage (stamp_in (asker_in txn)) s) → txn ≡ None
none-begun None s h = refl
none-begun (Some t) s h = cc

pub begin-taken : {budget : ℕ} (sim new : Sim) (txn : Option Txn) (n : ℕ) (u : Txn) (t : Stamp) (k : Key) (l : Numbered) (log : List Entry) → l.line ≡ lines.Begin t k → IsSome (line_stage (stamp_in (asker_in txn)) l.line) → u ≡ txn_at (n + 1) t → state_of new ≡ record (state_of sim) { world = with_begin (record { number = n + 1; stamp = t.0; epoch = 0; last = 0 }) (state_of sim).world } → Taken budget (State.Running sim txn n) (State.Running new (Some u) (n + 1)) l log log
begin-taken {budget = budget} sim new txn n u t k l log is built who made =
    let none = none-begun txn t.0 (subst (λ y. IsSome (line_stage (stamp_in (asker_in txn)) y)) is built) in
    subst (λ (x : Option Txn). Taken budget (State.Running sim x n) (State.Running new (Some u) (n + 1)) l log log) (sym none)
    (subst (λ (x : Txn). Taken budget (State.Running sim None n) (State.Running new (Some x) (n + 1)) l log log) (sym who)
    (quiet (State.Running sim None n) (State.Running new (Some (txn_at (n + 1) t)) (n + 1)) l (lines.Begin t k) log is refl
    (λ s p at. begin-line sim new n s p t k made at)))

pub begin-stage : (txn : Option Txn) (n : ℕ) (u : Txn) (t : Stamp) (k : Key) (l : Numbered) → l.line ≡ lines.Begin t k → IsSome (line_stage (stamp_in (asker_in txn)) l.line) → u ≡ txn_at (n + 1) t → Some (Running (Some u.stamp.0)) ≡ line_stage (stamp_in (asker_in txn)) l.line
begin-stage txn n u t k l is built who =
    let none = none-begun txn t.0 (subst (λ y. IsSome (line_stage (stamp_in (asker_in txn)) y)) is built) in
    ap (λ (x : Txn). Some (Running (Some x.stamp.0))) who ∙ sym (ap (λ y. line_stage (stamp_in (asker_in txn)) y) is ∙ ap (λ (x : Option Txn). begin_stage (stamp_in (asker_in x)) t.0) none)

calm-still : (a b : Stands) (n : ℕ) → b.world.count ≡ a.world.count → b.block ≡ a.block → IsCalm a n → IsCalm b (n + 1)
calm-still a b n same none calm = let low : a.world.count ≤ 1001 * n = calm.count in record { count = omega (arith, same, low); block = none ∙ calm.block }

pub begin-within : (sim new : Sim) (txn : Option Txn) (begun : ℕ) (u : Txn) (t : Stamp) → u ≡ txn_at (begun + 1) t → state_of new ≡ record (state_of sim) { world = with_begin (record { number = begun + 1; stamp = t.0; epoch = 0; last = 0 }) (state_of sim).world } → (n : ℕ) → IsWithin (State.Running sim txn begun) n → IsWithin (State.Running new (Some u) (begun + 1)) (n + 1)
begin-within sim new txn begun u t who is n w = (
  calm-still (state_of sim) (state_of new) n (ap (λ z. z.world.count) is) (ap (λ z. z.block) is) w.0,
  (let low : begun ≤ n = w.1 in omega (arith, low)),
  ap (λ (x : Txn). x.last.0) who,
)

-- ---- a close

some-closed : (txn : Option Txn) → IsSome (close_stage (stamp_in (asker_in txn))) → (t : Txn) × (txn ≡ Some t)
some-closed None h = cc
some-closed (Some t) h = (t, refl)

pub close-taken : {budget : ℕ} (sim new : Sim) (txn : Option Txn) (begun : ℕ) (l : Numbered) (log after : List Entry) → l.line ≡ lines.Close → IsSome (line_stage (stamp_in (asker_in txn)) l.line) → state_of new ≡ record (state_of sim) { world = closed (state_of sim).world } → after ≡ log ++ entries.Closed l.number (close_status (state_of sim).world) ∷ [] → Taken budget (State.Running sim txn begun) (State.Running new None begun) l log after
close-taken {budget = budget} sim new txn begun l log after is built made logged =
    let t = some-closed txn (subst (λ y. IsSome (line_stage (stamp_in (asker_in txn)) y)) is built) in
    subst (λ (x : Option Txn). Taken budget (State.Running sim x begun) (State.Running new None begun) l log after) (sym t.1)
    (spoken (State.Running sim (Some t.0) begun) (State.Running new None begun) l lines.Close log after (entries.Closed l.number (close_status (state_of sim).world)) is (refl, refl) logged
    (λ s p at. close-line sim new t.0 begun s p l.number made at))

pub close-stage : (txn : Option Txn) (l : Numbered) → l.line ≡ lines.Close → IsSome (line_stage (stamp_in (asker_in txn)) l.line) → Some (Running None) ≡ line_stage (stamp_in (asker_in txn)) l.line
close-stage txn l is built =
    let t = some-closed txn (subst (λ y. IsSome (line_stage (stamp_in (asker_in txn)) y)) is built) in
    sym (ap (λ y. line_stage (stamp_in (asker_in txn)) y) is ∙ ap (λ (x : Option Txn). close_stage (stamp_in (asker_in x))) t.1)

pub close-within : (sim new : Sim) (txn : Option Txn) (begun : ℕ) → state_of new ≡ record (state_of sim) { world = closed (state_of sim).world } → (n : ℕ) → IsWithin (State.Running sim txn begun) n → IsWithin (State.Running new None begun) (n + 1)
close-within sim new txn begun is n w =
    let low : begun ≤ n = w.1 in
    (calm-still (state_of sim) (state_of new) n (ap (λ z. z.world.count) is) (ap (λ z. z.block) is) w.0, more begun n low, tt)

-- ---- a batch

pub batch-built : (o : Option ℕ) (b : Batch) (block : Block) (l : Numbered) → l.line ≡ lines.Batch b block → IsSome (line_stage o l.line) → is_sent o b block ≡ true
batch-built o b block l is built = some-if (is_sent o b block) (Running o) (subst (λ y. IsSome (line_stage o y)) is built)

pub open-for : (txn : Option Txn) (at : Option Stamp) → belongs (stamp_in (asker_in txn)) at ≡ true → IsFresh txn → IsOpenFor at (asker_in txn)
open-for None None h fresh = cc
open-for None (Some s) h fresh = tt
open-for (Some t) None h fresh = omega (arith, fresh)
open-for (Some t) (Some s) h fresh = tt

-- what it owes the call
pub record IsDue (txn : Option Txn) (b : Batch) (block : Block) : Type 0 where
  pub batch : IsBatch (stamp_in (asker_in txn)) b block
  pub open_for : IsOpenFor b.at (asker_in txn)

pub batch-due : (txn : Option Txn) (b : Batch) (block : Block) (l : Numbered) → l.line ≡ lines.Batch b block → IsSome (line_stage (stamp_in (asker_in txn)) l.line) → IsFresh txn → IsDue txn b block
batch-due txn b block l is built fresh =
    let batch = batch-of (stamp_in (asker_in txn)) b block (batch-built (stamp_in (asker_in txn)) b block l is built) in
    record { batch = batch; open_for = open-for txn b.at batch.belongs fresh }

pub batch-taken : (sim new : Sim) (txn u : Option Txn) (begun budget : ℕ) (b : Batch) (block : Block) (l : Numbered) (log after : List Entry) → l.line ≡ lines.Batch b block → IsSome (line_stage (stamp_in (asker_in txn)) l.line) → IsFresh txn → AskedBy (state_of sim) (state_of new) budget txn u b block l.number log after → Taken budget (State.Running sim txn begun) (State.Running new u begun) l log after
batch-taken sim new txn u begun budget b block l log after is built fresh by =
    let due = batch-due txn b block l is built fresh in
    spoken (State.Running sim txn begun) (State.Running new u begun) l (lines.Batch b block) log after (entries.Batch l.number by.steps by.outcome) is (refl, refl) by.logged
    (λ s p at. batch-line sim new txn u begun budget b block l.number log after s p by due.batch due.open_for at)

noted-stamp : (at : Option Stamp) (o : Outcome) (txn : Option Txn) → stamp_in (asker_in (if_of_txn at (noted o None) txn)) ≡ stamp_in (asker_in txn)
noted-stamp (Some s) o txn = refl
noted-stamp None o None = refl
noted-stamp None o (Some t) = refl

pub batch-stage : (a c : Stands) (txn u : Option Txn) (budget : ℕ) (b : Batch) (block : Block) (l : Numbered) (log after : List Entry) → l.line ≡ lines.Batch b block → IsSome (line_stage (stamp_in (asker_in txn)) l.line) → AskedBy a c budget txn u b block l.number log after → Some (Running (stamp_in (asker_in u))) ≡ line_stage (stamp_in (asker_in txn)) l.line
batch-stage a c txn u budget b block l log after is built by =
    let o = stamp_in (asker_in txn) in
    let sent = batch-built o b block l is built in
    ap (λ (t : Option Txn). Some (Running (stamp_in (asker_in t)))) by.noted_so ∙ ap (λ x. Some (Running x)) (noted-stamp b.at by.outcome txn)
    ∙ sym (ap (line_stage o) is ∙ ap (λ (t : Bool). if t then Some (Running o) else None) sent)

pub batch-within : (sim new : Sim) (txn u : Option Txn) (begun budget : ℕ) (b : Batch) (block : Block) (l : Numbered) (log after : List Entry) → l.line ≡ lines.Batch b block → IsSome (line_stage (stamp_in (asker_in txn)) l.line) → IsFresh txn → AskedBy (state_of sim) (state_of new) budget txn u b block l.number log after → (n : ℕ) → IsWithin (State.Running sim txn begun) n → IsWithin (State.Running new u begun) (n + 1)
batch-within sim new txn u begun budget b block l log after is built fresh by n w =
    let due = batch-due txn b block l is built fresh in
    let few = le_of (length block.events) 1000 (happens-of (floor_at (stamp_in (asker_in txn)) b.at) block.events due.batch.happens).few in
    let low : (state_of sim).world.count ≤ 1001 * n = w.0.count in
    let high = asked-count (state_of sim) (state_of new) budget txn u b block l.number log after due.open_for by in
    let under : begun ≤ n = w.1 in (
      record { count = omega (arith, few, low, high); block = asked-block (state_of sim) (state_of new) budget txn u b block l.number log after by },
      more begun n under,
      subst IsFresh (sym by.noted_so) (noted-fresh b.at by.outcome txn w.2),
    )

-- ---- what a replay's lines owe the cluster

pub within-few : (a : Stands) → IsCalm a 20000 → a.world.count + length a.block < 2 ^ 64 - 1
within-few a calm =
    let low : a.world.count ≤ 1001 * 20000 = calm.count in
    let none : length a.block ≡ 0 = ap length calm.block in
    omega (arith, low, none)

pub within-fits : (a : Stands) → IsCalm a 20000 → a.world.count + 1000 < 2 ^ 64
within-fits a calm = let low : a.world.count ≤ 1001 * 20000 = calm.count in omega (arith, low)
