-- The line of a batch.
use Rattle.std.proofs.Common.{◌≡◌, ℕ, ◌≤◌, true, ◌&&◌, List, [], Option, Some, None, refl, sym, ap, ◌∙◌, subst}
use Rattle.ds_base.proofs.SmallFacts.{and_first, and_second}
use Rattle.ds_kind.specs.declared.batch.Batch.{Batch}
use Rattle.ds_legal.specs.Rules.{first_illegal}
use Rattle.ds_cell.specs.Store.{Store}
use Rattle.ds_coord.specs.declared.txn.Txn.{Txn}
use Rattle.ds_coord.specs.Agrees.{AgreesIn}
use Rattle.ds_coord.specs.Client.{after_batch, asker_in, refusal_by}
use Rattle.ds_coord.proofs.Following.{batch_agrees, refusals_agree}
use Rattle.ds_rule.specs.declared.event.Block.{Block}
use Rattle.ds_rule.specs.declared.journal.Entry.{Entry}
use Rattle.ds_rule.specs.declared.journal.Entry.TheVariants as entries
use Rattle.ds_rule.specs.Admitting.{refused_by}
use Rattle.ds_rule.specs.Asking.{Asking, asking}
use Rattle.ds_rule.specs.Blocks.{BlockPlays}
use Rattle.ds_rule.specs.Clauses.{Stands}
use Rattle.ds_rule.specs.Plain.{after_events}
use Rattle.ds_rule.specs.Plain as Plain
use Rattle.ds_rule.specs.StandsFor.{open_stamp}
use Rattle.ds_mean.specs.Means.{Means}
use Rattle.ds_script.specs.declared.line.Line.TheVariants as lines
use Rattle.ds_script.specs.Journals.{Played, answered_asks}
use Rattle.ds_sim.specs.declared.sim.Sim.{Sim}
use Rattle.ds_sim.specs.State.{state_of}
use Rattle.ds_replay.specs.declared.state.State.{State}
use Rattle.ds_replay.specs.Asked.{AskedBy, begun_block}
use Rattle.ds_replay.specs.Built.{is_sent}
use Rattle.ds_replay.specs.Forming.{belongs, floor_at, goes_below, may_happen, stamp_in}
use Rattle.ds_send.specs.Forms.{can_send}
use Rattle.ds_send.specs.Asked.{IsOpenFor}
use Rattle.ds_replay.specs.Sends.{DoneBy}
use Rattle.ds_replay.specs.Stages.{IsIn}
use Rattle.ds_replay.specs.Taken.{LineTaken}
use Rattle.ds_replay.proofs.Answers.{answered-begun}
use Rattle.ds_replay.proofs.BlockOver.{CanHappen}
use Rattle.ds_replay.proofs.Came.{Came, came}
use Rattle.ds_replay.proofs.Clients.{answered-known, asks-after, events-agree, events-begun, events-known, noted-after, same-asker}
use Rattle.ds_replay.proofs.Counts.{is-asked}
use Rattle.ds_replay.proofs.Readying.{can-ask, happens-of, open-floor}

-- what a batch's line of a built form says
pub record IsBatch (o : Option ℕ) (b : Batch) (block : Block) : Type 0 where
  pub belongs : belongs o b.at ≡ true
  pub can : can_send b ≡ true
  pub below : goes_below o b.at b.requests ≡ true
  pub happens : may_happen (floor_at o b.at) block.events ≡ true

pub batch-of : (o : Option ℕ) (b : Batch) (block : Block) → is_sent o b block ≡ true → IsBatch o b block
batch-of o b block h =
    let one = and_second (belongs o b.at) (can_send b && (goes_below o b.at b.requests && may_happen (floor_at o b.at) block.events)) h in
    let two = and_second (can_send b) (goes_below o b.at b.requests && may_happen (floor_at o b.at) block.events) one in
    record {
      belongs = and_first (belongs o b.at) (can_send b && (goes_below o b.at b.requests && may_happen (floor_at o b.at) block.events)) h;
      can = and_first (can_send b) (goes_below o b.at b.requests && may_happen (floor_at o b.at) block.events) one;
      below = and_first (goes_below o b.at b.requests) (may_happen (floor_at o b.at) block.events) two;
      happens = and_second (goes_below o b.at b.requests) (may_happen (floor_at o b.at) block.events) two;
    }

-- the wire as the block began
can-happen : (a : Stands) (txn : Option Txn) (p : Store) (b : Batch) (block : Block) → IsBatch (stamp_in (asker_in txn)) b block → AgreesIn txn p.txn → CanHappen (begun_block a txn b block) p
can-happen a txn p b block is agrees =
    let h = happens-of (floor_at (stamp_in (asker_in txn)) b.at) block.events is.happens in
    record {
      rising = h.rising;
      moves = h.moves;
      low = subst (λ t. open_stamp p.txn ≤ floor_at (stamp_in t) b.at) (sym (same-asker txn p agrees)) (open-floor p.txn b.at);
    }

-- a batch of a script, from where the replay stood
pub asked-came : (sim : Sim) (c : Stands) (txn u : Option Txn) (begun budget : ℕ) (b : Batch) (block : Block) (n : ℕ) (log after : List Entry) (s : Played) (p : Store) (by : AskedBy (state_of sim) c budget txn u b block n log after) → IsBatch (stamp_in (asker_in txn)) b block → IsOpenFor b.at (asker_in txn) → IsIn sim txn begun s p
    → (q : Asking) × (asking (asker_in txn) b ≡ Some q) × Came (first_illegal b) (refused_by b.at b.requests p.txn) budget q (begun_block (state_of sim) txn b block) c.world p b by.steps by.outcome
asked-came sim c txn u begun budget b block n log after s p by is open-for at =
    let k = is-asked (asker_in txn) b open-for in
    let a : Stands = begun_block (state_of sim) txn b block in
    let same = same-asker txn p at.agrees in
    let means : Means a.world p = subst (λ w. Means w p) at.world at.means in
    let refusal : refusal_by b.at b.requests txn ≡ refused_by b.at b.requests p.txn = (refusals_agree b.at b.requests txn p at.agrees).refusal in
    let below : goes_below (stamp_in (Plain.asker_in p)) b.at b.requests ≡ true = subst (λ t. goes_below (stamp_in t) b.at b.requests ≡ true) same is.below in
    let floor : a.floor ≡ floor_at (stamp_in (Plain.asker_in p)) b.at = ap (λ t. floor_at (stamp_in t) b.at) same in
    let asks : asking (Plain.asker_in p) b ≡ Some k.0 = subst (λ t. asking t b ≡ Some k.0) same k.1 in (
      k.0,
      k.1,
      came (first_illegal b) (refused_by b.at b.requests p.txn) budget k.0 a by.mid c p b by.steps by.outcome refl refl refl refl by.still (can-happen (state_of sim) txn p b block is at.agrees) means
          (λ legal admits. can-ask a p b k.0 legal is.can admits below means floor asks) by.given
          (subst (λ r. DoneBy (first_illegal b) r budget k.0 a by.mid by.outcome) refusal (by.done k.0 k.1)) by.ended,
    )

pub batch-line : (sim new : Sim) (txn u : Option Txn) (begun budget : ℕ) (b : Batch) (block : Block) (n : ℕ) (log after : List Entry) (s : Played) (p : Store) (by : AskedBy (state_of sim) (state_of new) budget txn u b block n log after) → IsBatch (stamp_in (asker_in txn)) b block → IsOpenFor b.at (asker_in txn) → IsIn sim txn begun s p → LineTaken budget (State.Running sim txn begun) (State.Running new u begun) (lines.Batch b block) (Some (entries.Batch n by.steps by.outcome)) s p
batch-line sim new txn u begun budget b block n log after s p by is open-for at =
    let k = asked-came sim (state_of new) txn u begun budget b block n log after s p by is open-for at in
    let c = k.2 in
    let v = (state_of new).world in
    let asks : asking s.asks.asker b ≡ Some k.0 = ap (λ x. asking x b) at.asks ∙ k.1 in
    let same : u ≡ after_batch b by.outcome None txn = by.noted_so ∙ noted-after b by.outcome txn is.can in
    let agrees : AgreesIn u c.next.txn = subst (λ x. AgreesIn x c.next.txn) (sym same) (batch_agrees p b by.outcome c.next txn c.answered at.agrees) in
    record {
      played = record { world = v; asks = answered_asks b by.outcome s.asks };
      next = after_events block.events c.next;
      journal = (record { asked = k.0; asks = asks; plays = subst (λ w. BlockPlays k.0 [] 1 block.events w by.steps v) (sym at.world) c.plays }, refl);
      gathers = ((k.0, asks, c.gathers), refl);
      plain = (c.next, c.answered, refl);
      stands = record {
        world = refl;
        means = c.means;
        played = at.played;
        stored = events-begun block.events c.next ∙ answered-begun b by.outcome p c.next c.answered ∙ at.stored;
        asks = asks-after b by.outcome txn s.asks.asker at.asks ∙ sym (ap asker_in same);
        agrees = events-agree block.events c.next u agrees;
        known = events-known block.events c.next (answered-known b by.outcome p c.next c.sure c.answered at.known);
      };
      cause = record { asked = k.0; asks = asks; why = c.cause };
    }
