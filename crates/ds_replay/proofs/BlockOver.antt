-- A batch's block that is over: it plays, and the world means the store after the answer and what happened beside it.
use Rattle.std.proofs.Common.{◌≡◌, ℕ, ◌≤◌, true, List, [], ◌∷◌, ◌++◌, map, inl, inr, sym, ap, ◌∙◌, subst, arith}
use Rattle.ds_base.specs.Counts.{Rose}
use Rattle.ds_kind.specs.declared.batch.Batch.{Batch}
use Rattle.ds_cell.specs.Store.{Store}
use Rattle.ds_rule.specs.declared.answer.Answer.TheVariants.{Done, Failed, Refused, Lost}
use Rattle.ds_rule.specs.declared.answer.Outcome.{Outcome}
use Rattle.ds_rule.specs.declared.event.Timed.{Timed}
use Rattle.ds_rule.specs.declared.journal.JournalStep.{JournalStep}
use Rattle.ds_rule.specs.declared.journal.JournalStep.TheVariants.{Look, Send}
use Rattle.ds_rule.specs.Asking.{Asking}
use Rattle.ds_rule.specs.Blocks.{BlockPlays, all_made, all_moved, never_fall, woven}
use Rattle.ds_rule.specs.Clauses.{IsLost, Stands}
use Rattle.ds_rule.specs.Journal.{Happening, Moved, Did, Runs}
use Rattle.ds_rule.specs.Moves.{IsMove, moved}
use Rattle.ds_rule.specs.Path.{LosesOnly}
use Rattle.ds_rule.specs.Pieces.{Each}
use Rattle.ds_rule.specs.Plain.{Answered, after_event, after_events}
use Rattle.ds_rule.specs.Sending.{AllOf}
use Rattle.ds_rule.specs.StandsFor.{after_made, open_stamp}
use Rattle.ds_rule.specs.World.{World}
use Rattle.ds_rule.proofs.Calls.{runs-append}
use Rattle.ds_rule.proofs.Eachs.{each-right}
use Rattle.ds_rule.proofs.Weaving.{woven-plays}
use Rattle.ds_mean.specs.Means.{Means}
use Rattle.ds_mean.specs.Send.{LeadsOn}
use Rattle.ds_mean.specs.Told.{IsTold}
use Rattle.ds_mean.proofs.Lifetimes.{moves_mean}
use Rattle.ds_mean.proofs.Stores.{after-stamp, event-stamp, event-txn, made-txn}
use Rattle.ds_sim.specs.State.{Ended}
use Rattle.ds_replay.proofs.Answers.{answered-stamp}
use Rattle.ds_replay.proofs.Woven.{alone, each-alone, made-append, made-events, made-of, made-runs, woven-alone, woven-events}

-- ---- events one after another

-- it is one that a wire may make by itself
abbrev pub IsMade : ℕ → Timed → Type 0
IsMade floor t = IsMove floor t.event

pub events-mean : (ts : List Timed) (w : World) (p : Store) (floor : ℕ) → Each (IsMade floor) ts → open_stamp p.txn ≤ floor → Means w p → Means (all_moved w ts) (after_events ts p)
events-mean [] w p floor moves low m = m
events-mean (t ∷ ts) w p floor moves low m =
    let same : open_stamp (after_event t.event p).txn ≡ open_stamp p.txn = ap open_stamp (event-txn t.event p).0 ∙ event-stamp t.event p.txn in
    let still : open_stamp (after_event t.event p).txn ≤ floor = omega (arith, same, low) in
    events-mean ts (moved w t.event) (after_event t.event p) floor moves.1 still (moves_mean w p t.event floor moves.0 low m)

-- ---- no step is lost where no count of losses rose

abbrev pub IsKept : Happening → Type 0
IsKept (Moved e) = Unit {0}
IsKept (Did s) = IsLost s → ⊥

pub never-rose : Rose 0 0 → ⊥
never-rose (inl h) = omega (arith, h)
never-rose (inr h) = omega (arith, h.0)

pub all-kept : (r : Type 0) (hs : List Happening) → (r → ⊥) → Each (LosesOnly r) hs → Each IsKept hs
all-kept r [] never all = tt
all-kept r (Moved e ∷ hs) never all = (tt, all-kept r hs never all.1)
all-kept r (Did s ∷ hs) never all = ((λ l. never (all.0 l)), all-kept r hs never all.1)

pub kept-told : (hs : List Happening) → Each IsKept hs → Each IsTold hs
kept-told [] all = tt
kept-told (Moved e ∷ hs) all = (tt, kept-told hs all.1)
kept-told (Did (Look k d l) ∷ hs) all = (tt, kept-told hs all.1)
kept-told (Did (Send n p (Done rs)) ∷ hs) all = (tt, kept-told hs all.1)
kept-told (Did (Send n p (Failed f)) ∷ hs) all = (tt, kept-told hs all.1)
kept-told (Did (Send n p (Refused r)) ∷ hs) all = (tt, kept-told hs all.1)
kept-told (Did (Send n p Lost) ∷ hs) all = absurd (all.0 tt)

steps-kept : (steps : List JournalStep) → Each IsKept (map Did steps) → Each (λ s. IsLost s → ⊥) steps
steps-kept [] all = tt
steps-kept (s ∷ ss) all = (all.0, steps-kept ss all.1)

-- ---- the block

-- what a call did in the block that this wire began
pub record Ran (q : Asking) (a mid : Stands) (hs : List Happening) : Type 0 where
  pub past : mid.past ≡ hs
  pub runs : Runs a.world hs mid.world
  pub of : AllOf q [] hs
  pub kept : Each IsKept hs
  pub block : mid.block ≡ a.block

-- the block's events rise by step, and are ones that a wire may make by itself above its floor
pub record CanHappen (a : Stands) (p : Store) : Type 0 where
  pub rising : never_fall 0 a.block ≡ true
  pub moves : Each (IsMade a.floor) a.block
  pub low : open_stamp p.txn ≤ a.floor

-- how the block ended: all that happened, and its steps
pub record Over (q : Asking) (a : Stands) (v : World) (p : Store) (b : Batch) (steps : List JournalStep) (hs : List Happening) (o : Outcome) : Type 0 where
  pub left : List Timed
  pub all : woven 1 a.block steps ≡ hs ++ all_made left
  pub steps_are : alone hs ≡ map Did steps
  pub plays : BlockPlays q [] 1 a.block a.world steps v
  pub next : Store
  pub answered : Answered p b o next
  pub means : Means v (after_events a.block next)

same-added : (past hs ks : List Happening) → past ≡ hs → past ≡ [] ++ ks → ks ≡ hs
same-added past hs ks e f = sym f ∙ e

led-on : (a mid : Stands) (p : Store) (b : Batch) (o : Outcome) (hs : List Happening) (l : LeadsOn a mid p b o) → a.past ≡ [] → mid.past ≡ hs → l.added ≡ hs
led-on a mid p b o hs l none is = same-added mid.past hs l.added is (l.grown ∙ ap (λ ks. ks ++ l.added) none)

pub block-over : (q : Asking) (a mid c : Stands) (p : Store) (b : Batch) (steps : List JournalStep) (hs : List Happening) (o : Outcome) → a.past ≡ [] → Ran q a mid hs → CanHappen a p → LeadsOn a mid p b o → Ended steps mid c → Over q a c.world p b steps hs o
block-over q a mid c p b steps hs o none ran can lead end =
    let all : woven 1 a.block steps ≡ hs ++ all_made end.left = ap (λ us. woven 1 us steps) (sym ran.block) ∙ end.all ∙ ap (λ ks. ks ++ all_made end.left) ran.past in
    let are : alone hs ≡ map Did steps = ap alone (sym ran.past ∙ end.past) ∙ woven-alone steps 1 end.done in
    let there : c.world ≡ all_moved mid.world end.left = ap (λ z. z.world) end.state in
    let added : lead.added ≡ hs = led-on a mid p b o hs lead none ran.past in
    let left : Each (IsMade a.floor) end.left = each-right (IsMade a.floor) end.done end.left (subst (Each (IsMade a.floor)) (sym ran.block ∙ end.block) can.moves) in
    let stamp : open_stamp (after_made hs lead.next).txn ≡ open_stamp p.txn = ap open_stamp (made-txn hs lead.next).0 ∙ after-stamp hs lead.next.txn ∙ answered-stamp b o p lead.next lead.answered in
    let low : open_stamp (after_made hs lead.next).txn ≤ a.floor = let under = can.low in omega (arith, stamp, under) in
    let means : Means (all_moved mid.world end.left) (after_events end.left (after_made hs lead.next)) = events-mean end.left mid.world (after_made hs lead.next) a.floor left low (subst (λ ks. Means mid.world (after_made ks lead.next)) added lead.means) in
    let then : after_events end.left (after_made hs lead.next) ≡ after_events a.block lead.next =
    sym (made-events end.left (after_made hs lead.next)) ∙ sym (made-append hs (all_made end.left) lead.next) ∙ ap (λ ks. after_made ks lead.next) (sym all)
    ∙ woven-events steps 1 0 a.block lead.next can.rising
    in
    let runs : Runs a.world (hs ++ all_made end.left) c.world = subst (Runs a.world (hs ++ all_made end.left)) (sym there) (runs-append a.world mid.world (all_moved mid.world end.left) hs (all_made end.left) ran.runs (made-runs end.left mid.world)) in
    record {
      left = end.left;
      all = all;
      steps_are = are;
      plays =
          woven-plays a.floor q [] 1 a.block steps a.world c.world can.moves
          (steps-kept steps (subst (Each IsKept) are (each-alone IsKept hs ran.kept)))
          (subst (AllOf q []) (sym all) (made-of q hs [] end.left ran.of))
          (subst (λ ks. Runs a.world ks c.world) (sym all) runs);
      next = lead.next;
      answered = lead.answered;
      means = subst (λ w. Means w (after_events a.block lead.next)) (sym there) (subst (Means (all_moved mid.world end.left)) then means);
    }
