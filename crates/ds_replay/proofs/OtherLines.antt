-- The cluster's line, a begin and a close.
use Rattle.std.proofs.Common.{◌≡◌, ℕ, ◌+◌, true, [], Option, Some, None, refl, sym, ap, ◌∙◌, subst}
use Rattle.std.specs.List.{list_all}
use Rattle.ds_base.specs.declared.key.Key.{Key}
use Rattle.ds_base.specs.declared.value.Stamp.{Stamp}
use Rattle.ds_cell.specs.Store.{Store, StoreTxn, Fate, Pending, Committed, Aborted}
use Rattle.ds_coord.specs.declared.txn.Txn.{Txn}
use Rattle.ds_coord.specs.Agrees.{AgreesIn}
use Rattle.ds_coord.specs.Client.{begun}
use Rattle.ds_coord.proofs.Following.{begin_agrees}
use Rattle.ds_rule.specs.declared.cluster.Cluster.{Cluster}
use Rattle.ds_rule.specs.declared.journal.Entry.TheVariants as entries
use Rattle.ds_rule.specs.Begin.{first_world, is_leased, tiles}
use Rattle.ds_rule.specs.Close.{close_status, closed, settle_cells, with_begin}
use Rattle.ds_mean.specs.Laws.{commit_by, said_by}
use Rattle.ds_mean.specs.Means.{Means}
use Rattle.ds_mean.proofs.Lifetimes.{begin_means, close_means, first_means}
use Rattle.ds_ranges.proofs.Starting.{first-tiled}
use Rattle.ds_script.specs.declared.line.Line.TheVariants as lines
use Rattle.ds_script.specs.Journals.{Played, next_asker}
use Rattle.ds_script.specs.PlainRuns.{Closes, commit_stamp, new_txn, status_of, with_txn, without_txn}
use Rattle.ds_sim.specs.declared.sim.Sim.{Sim}
use Rattle.ds_sim.specs.State.{state_of}
use Rattle.ds_replay.specs.declared.state.State.{State}
use Rattle.ds_replay.specs.Stages.{IsIn, KnownIn, StandsAt}
use Rattle.ds_replay.specs.Taken.{LineTaken}

-- ---- the cluster

pub cluster-line : {budget : ℕ} (sim : Sim) (c : Cluster) (s : Played) (p : Store) → tiles c.ranges ≡ true → list_all is_leased c.ranges ≡ true → state_of sim ≡ record { world = first_world c.ranges; past = []; floor = 0; refused = 0; lost = 0; ahead = []; block = [] } → StandsAt State.Start s p → LineTaken budget State.Start (State.Running sim None 0) (lines.Cluster c) None s p
cluster-line sim c s p tile leased is at = record {
  played = record { world = first_world c.ranges; asks = s.asks };
  next = p;
  journal = (refl, refl);
  gathers = (tt, refl);
  plain = refl;
  cause = tt;
  stands = record {
    world = sym (ap (λ z. z.world) is);
    means = subst (Means (first_world c.ranges)) (sym at.1) (first_means c.ranges (first-tiled c.ranges tile) leased);
    played = ap (λ z. z.asks.begun) at.0;
    stored = ap (λ z. z.begun) at.1;
    asks = ap (λ z. z.asks.asker) at.0;
    agrees = subst (λ z. AgreesIn None z.txn) (sym at.1) tt;
    known = subst (λ z. KnownIn z.txn) (sym at.1) tt;
  };
}

-- ---- a begin

none-open : (o : Option StoreTxn) → AgreesIn None o → o ≡ None
none-open None a = refl
none-open (Some t) a = absurd a

-- the transaction that is numbered n
abbrev pub txn_at : ℕ → Stamp → Txn
txn_at n t = begun (record { 0 = n }) t

pub begin-line : {budget : ℕ} (sim new : Sim) (n : ℕ) (s : Played) (p : Store) (t : Stamp) (k : Key) → state_of new ≡ record (state_of sim) { world = with_begin (record { number = n + 1; stamp = t.0; epoch = 0; last = 0 }) (state_of sim).world } → IsIn sim None n s p → LineTaken budget (State.Running sim None n) (State.Running new (Some (txn_at (n + 1) t)) (n + 1)) (lines.Begin t k) None s p
begin-line sim new n s p t k is at =
    let asked : next_asker t s.asks ≡ record { number = n + 1; stamp = t.0; epoch = 0; last = 0 } = ap (λ m. record { number = m + 1; stamp = t.0; epoch = 0; last = 0 }) at.played in
    let stored : new_txn (p.begun + 1) t ≡ new_txn (n + 1) t = ap (λ m. new_txn (m + 1) t) at.stored in
    let none = none-open p.txn at.agrees in
    let meant : Means (with_begin (new_txn (p.begun + 1) t).asker s.world) (with_txn t p) = begin_means s.world p (new_txn (p.begun + 1) t) none refl refl refl at.means in
    record {
      played = record { world = with_begin (next_asker t s.asks) s.world; asks = record { asker = Some (next_asker t s.asks); begun = s.asks.begun + 1 } };
      next = with_txn t p;
      journal = (refl, refl);
      gathers = (tt, refl);
      plain = refl;
      cause = tt;
      stands = record {
        world = ap (λ a. with_begin a s.world) asked ∙ ap (with_begin (record { number = n + 1; stamp = t.0; epoch = 0; last = 0 })) at.world ∙ sym (ap (λ z. z.world) is);
        means = subst (λ a. Means (with_begin a s.world) (with_txn t p)) (ap (λ (z : StoreTxn). z.asker) stored ∙ sym asked) meant;
        played = ap (λ m. m + 1) at.played;
        stored = ap (λ m. m + 1) at.stored;
        asks = ap Some asked;
        agrees = subst (λ z. AgreesIn (Some (txn_at (n + 1) t)) (Some z)) (sym stored) (begin_agrees (record { 0 = n + 1 }) t Pending);
        known = tt;
      };
    }

-- ---- a close

commits-so : (f : Fate) (n : ℕ) → commit_by f n ≡ commit_stamp f n
commits-so Pending n = refl
commits-so Committed n = refl
commits-so Aborted n = refl

says-so : (f : Fate) → said_by f ≡ status_of f
says-so Pending = refl
says-so Committed = refl
says-so Aborted = refl

close-by : {budget : ℕ} (o : Option StoreTxn) (sim new : Sim) (txn : Txn) (begun : ℕ) (s : Played) (p : Store) (n : ℕ) → p.txn ≡ o → state_of new ≡ record (state_of sim) { world = closed (state_of sim).world } → IsIn sim (Some txn) begun s p → AgreesIn (Some txn) o → KnownIn o → LineTaken budget (State.Running sim (Some txn) begun) (State.Running new None begun) lines.Close (Some (entries.Closed n (close_status (state_of sim).world))) s p
close-by None sim new txn begun s p n here is at a k = absurd a
close-by (Some t) sim new txn begun s p n here is at a k =
    let status : close_status (state_of sim).world ≡ close_status s.world = sym (ap close_status at.world) in
    let law = close_means s.world p t here k at.means in
    record {
      played = record { world = closed s.world; asks = record (s.asks) { asker = None } };
      next = without_txn t p;
      journal = ((status, refl), refl);
      gathers = (tt, refl);
      cause = tt;
      plain = subst (λ o. Closes o (close_status (state_of sim).world) p (without_txn t p)) (sym here) (status ∙ law.1 ∙ says-so t.fate, refl);
      stands = record {
        world = ap closed at.world ∙ sym (ap (λ z. z.world) is);
        means = subst (λ c. Means (closed s.world) (record p { cells = settle_cells t.asker.number c p.cells; txn = None })) (commits-so t.fate t.asker.stamp) law.0;
        played = at.played;
        stored = at.stored;
        asks = refl;
        agrees = tt;
        known = tt;
      };
    }

pub close-line : {budget : ℕ} (sim new : Sim) (txn : Txn) (begun : ℕ) (s : Played) (p : Store) (n : ℕ) → state_of new ≡ record (state_of sim) { world = closed (state_of sim).world } → IsIn sim (Some txn) begun s p → LineTaken budget (State.Running sim (Some txn) begun) (State.Running new None begun) lines.Close (Some (entries.Closed n (close_status (state_of sim).world))) s p
close-line sim new txn begun s p n is at = close-by p.txn sim new txn begun s p n refl is at at.agrees at.known
