-- What one batch came to in its block.
use Rattle.std.proofs.Common.{◌≡◌, ℕ, Bool, true, false, cond, List, [], ◌∷◌, ◌++◌, map, Option, Some, None, inl, inr, refl, sym, ap, ◌∙◌, subst}
use Rattle.ds_base.specs.Counts.{Rose}
use Rattle.ds_base.specs.declared.value.Stamp.{Stamp}
use Rattle.ds_kind.specs.declared.batch.Batch.{Batch}
use Rattle.ds_kind.specs.declared.illegal.Illegal.{Illegal}
use Rattle.ds_kind.specs.declared.reply.TxnStatus.TheVariants as Says
use Rattle.ds_kind.specs.declared.request.Request.{Request}
use Rattle.ds_legal.specs.Rules.{first_illegal}
use Rattle.ds_cell.specs.Store.{Store, StoreTxn, Mode, Live, FailedSince, Unknown, OverWith}
use Rattle.ds_rule.specs.declared.answer.Outcome.{Outcome}
use Rattle.ds_rule.specs.declared.journal.JournalStep.{JournalStep}
use Rattle.ds_rule.specs.Admitting.{refused_by, refused_in}
use Rattle.ds_rule.specs.Asking.{Asking}
use Rattle.ds_rule.specs.Blocks.{BlockPlays, up_to_last_step}
use Rattle.ds_rule.specs.Clauses.{Stands}
use Rattle.ds_rule.specs.Deliver.{is_rollback}
use Rattle.ds_rule.specs.Gathered.{Gathered}
use Rattle.ds_rule.specs.Journal.{Happening, Did, accepted}
use Rattle.ds_rule.specs.Law.{IsGiven}
use Rattle.ds_rule.specs.Plain.{Answered, after_events}
use Rattle.ds_rule.specs.Whole.{IsOfPart, OfParts, OfPartsIf, must_be_whole}
use Rattle.ds_rule.specs.World.{World}
use Rattle.ds_mean.specs.Means.{Means}
use Rattle.ds_mean.specs.Send.{IsTurnCause, LeadsOn, ShowsWhy}
use Rattle.ds_mean.proofs.SendLaw.{send_law}
use Rattle.ds_mean.proofs.Unsent.{unsent_law}
use Rattle.ds_send.specs.Causes.{CauseOf}
use Rattle.ds_replay.specs.Because.{OkGathers, WhyBatch}
use Rattle.ds_sim.specs.State.{Ended}
use Rattle.ds_replay.specs.Sends.{DoneBy, SentBy}
use Rattle.ds_replay.proofs.BlockOver.{CanHappen, Over, all-kept, block-over, kept-told, never-rose}
use Rattle.ds_replay.proofs.Causing.{cause-alone, shows-alone, turn-caused}
use Rattle.ds_replay.proofs.Readying.{CanAsk}
use Rattle.ds_replay.proofs.Woven.{accepted-alone, alone, each-alone}

-- it is known whether the batch acted
abbrev pub IsSure : Outcome → Type 0
IsSure (Outcome.Ambiguous n) = ⊥
IsSure o = Unit {0}

-- the block plays, the store goes on, the world means it afterwards, an Ok answer is gathered, and the answer has its cause
pub record Came (i : Option Illegal) (refusal : Option Outcome) (budget : ℕ) (q : Asking) (a : Stands) (v : World) (p : Store) (b : Batch) (steps : List JournalStep) (o : Outcome) : Type 0 where
  pub plays : BlockPlays q [] 1 a.block a.world steps v
  pub next : Store
  pub answered : Answered p b o next
  pub means : Means v (after_events a.block next)
  pub gathers : OkGathers q steps o
  pub cause : WhyBatch i refusal budget p q a.block steps o
  pub sure : IsSure o

-- ---- a batch that isn't sent

nothing-done : (steps : List JournalStep) → [] ≡ map Did steps → steps ≡ []
nothing-done [] h = refl
nothing-done (s ∷ ss) h = cc

-- where the wire stays as it was
stays-over : (q : Asking) (a mid c : Stands) (p : Store) (b : Batch) (steps : List JournalStep) (o : Outcome) → a.past ≡ [] → mid ≡ a → CanHappen a p → LeadsOn a a p b o → Ended steps mid c → Over q a c.world p b steps [] o
stays-over q a mid c p b steps o none same can lead end =
    block-over q a mid c p b steps [] o none
    (record { past = ap (λ z. z.past) same ∙ none; runs = ap (λ z. z.world) same; of = tt; kept = tt; block = ap (λ z. z.block) same })
    can (subst (λ z. LeadsOn a z p b o) (sym same) lead) end

refused-gathers : (m : Mode) (rs : List Request) (q : Asking) (steps : List JournalStep) (o : Outcome) → refused_in m rs ≡ Some o → OkGathers q steps o × IsSure o
refused-gathers Live rs q steps o h = cc
refused-gathers (FailedSince n) rs q steps o h = by (is_rollback rs) h
  where
    given : (x y : Outcome) → Some x ≡ Some y → x ≡ y
    given x y h = cc

    by : (t : Bool) → cond t None (Some (Outcome.MustRollBack n)) ≡ Some o → OkGathers q steps o × IsSure o
    by true h = cc
    by false h = subst (λ x. OkGathers q steps x × IsSure x) (given (Outcome.MustRollBack n) o h) (tt, tt)
refused-gathers (Unknown ws) rs q steps o h = subst (λ x. OkGathers q steps x × IsSure x) (given (Outcome.TxnOver Says.Unknown) o h) (tt, tt)
  where
    given : (x y : Outcome) → Some x ≡ Some y → x ≡ y
    given x y h = cc
refused-gathers (OverWith s) rs q steps o h = subst (λ x. OkGathers q steps x × IsSure x) (given (Outcome.TxnOver s) o h) (tt, tt)
  where
    given : (x y : Outcome) → Some x ≡ Some y → x ≡ y
    given x y h = cc

refusal-gathers : (at : Option Stamp) (rs : List Request) (t : Option StoreTxn) (q : Asking) (steps : List JournalStep) (o : Outcome) → refused_by at rs t ≡ Some o → OkGathers q steps o × IsSure o
refusal-gathers (Some s) rs t q steps o h = cc
refusal-gathers None rs None q steps o h = cc
refusal-gathers None rs (Some t) q steps o h = refused-gathers t.mode rs q steps o h

-- ---- one that is sent

parts-alone : (w : Bool) (q : Asking) (hs : List Happening) → OfPartsIf w q hs → OfPartsIf w q (alone hs)
parts-alone true q hs of = each-alone (IsOfPart q) hs of
parts-alone false q hs of = tt

sent-gathers : (budget : ℕ) (q : Asking) (hs : List Happening) (steps : List JournalStep) (o : Outcome) → alone hs ≡ map Did steps → OfParts q hs → ShowsWhy budget q hs o → OkGathers q steps o
sent-gathers budget q hs steps (Outcome.Ok replies) are of s = (
  subst (λ ks. Gathered (accepted ks) q.items replies) are (subst (λ got. Gathered got q.items replies) (sym (accepted-alone hs)) s.gathered),
  subst (OfParts q) are (parts-alone (must_be_whole q) q hs of),
)
sent-gathers budget q hs steps (Outcome.Illegal i) are of s = tt
sent-gathers budget q hs steps (Outcome.MustRollBack n) are of s = tt
sent-gathers budget q hs steps (Outcome.TxnOver t) are of s = tt
sent-gathers budget q hs steps (Outcome.OpRequiresTxn d) are of s = tt
sent-gathers budget q hs steps (Outcome.NotOnePhase d) are of s = tt
sent-gathers budget q hs steps (Outcome.ConditionFailed i v) are of s = tt
sent-gathers budget q hs steps (Outcome.WriteTooOld i k t) are of s = tt
sent-gathers budget q hs steps (Outcome.NotInteger i) are of s = tt
sent-gathers budget q hs steps (Outcome.Overflow i) are of s = tt
sent-gathers budget q hs steps Outcome.TxnAborted are of s = tt
sent-gathers budget q hs steps (Outcome.Ambiguous n) are of s = tt
sent-gathers budget q hs steps (Outcome.RetryExhausted r l) are of s = tt
sent-gathers budget q hs steps Outcome.OutOfMemory are of s = tt

turn-sure : (p : Store) (q : Asking) (hs : List Happening) (o : Outcome) → IsTurnCause p q hs o → IsSure o
turn-sure p q hs (Outcome.Ok replies) t = tt
turn-sure p q hs (Outcome.Illegal i) t = tt
turn-sure p q hs (Outcome.MustRollBack n) t = tt
turn-sure p q hs (Outcome.TxnOver st) t = tt
turn-sure p q hs (Outcome.OpRequiresTxn d) t = tt
turn-sure p q hs (Outcome.NotOnePhase d) t = tt
turn-sure p q hs (Outcome.ConditionFailed i v) t = tt
turn-sure p q hs (Outcome.WriteTooOld i k u) t = tt
turn-sure p q hs (Outcome.NotInteger i) t = tt
turn-sure p q hs (Outcome.Overflow i) t = tt
turn-sure p q hs Outcome.TxnAborted t = tt
turn-sure p q hs (Outcome.Ambiguous n) t = t
turn-sure p q hs (Outcome.RetryExhausted r l) t = tt
turn-sure p q hs Outcome.OutOfMemory t = tt

none-lost : (m n : ℕ) → m ≡ 0 → n ≡ 0 → Rose m n → ⊥
none-lost m n none still r = never-rose (subst (λ k. Rose 0 k) still (subst (λ k. Rose k n) none r))

pub came-sent : (budget : ℕ) (q : Asking) (a mid c : Stands) (p : Store) (b : Batch) (steps : List JournalStep) (o : Outcome) → a.past ≡ [] → a.lost ≡ 0 → mid.lost ≡ 0 → CanHappen a p → CanAsk a p b q → IsGiven o → SentBy budget q a mid o → Ended steps mid c → Came None None budget q a c.world p b steps o
came-sent budget q a mid c p b steps o none start still can ask given sent end =
    let did = sent.did in
    let kept = all-kept (Rose a.lost mid.lost) did.added (none-lost a.lost mid.lost start still) sent.losses in
    let law = send_law budget b q a mid o p ask.proper ask.law given did (kept-told did.added kept) ask.ready in
    let over = block-over q a mid c p b steps did.added o none
    (record { past = did.grown ∙ ap (λ hs. hs ++ did.added) none; runs = did.runs; of = did.of; kept = kept; block = did.block })
    can law.0 end
    in
    record {
      plays = over.plays;
      next = over.next;
      answered = over.answered;
      means = over.means;
      gathers = sent-gathers budget q did.added steps o over.steps_are sent.parts did.shows;
      cause = (
        subst (λ ks. ShowsWhy budget q ks o) over.steps_are (shows-alone budget q did.added o did.shows),
        subst (λ ks. IsTurnCause p q (up_to_last_step ks) o) (sym over.all) (turn-caused budget p q did.added over.left o did.shows law.1),
        (sent.known, subst (λ ks. CauseOf budget q sent.known ks o) over.steps_are (cause-alone budget q sent.known did.added o sent.cause)),
      );
      sure = turn-sure p q did.added o law.1;
    }

-- ---- any batch

pub came : (i : Option Illegal) (refusal : Option Outcome) (budget : ℕ) (q : Asking) (a mid c : Stands) (p : Store) (b : Batch) (steps : List JournalStep) (o : Outcome) → first_illegal b ≡ i → refused_by b.at b.requests p.txn ≡ refusal → a.past ≡ [] → a.lost ≡ 0 → mid.lost ≡ 0 → CanHappen a p → Means a.world p → (i ≡ None → refusal ≡ None → CanAsk a p b q) → IsGiven o → DoneBy i refusal budget q a mid o → Ended steps mid c → Came i refusal budget q a c.world p b steps o
came (Some i) refusal budget q a mid c p b steps o broken refused none start still can means ask given done end =
    let over = stays-over q a mid c p b steps o none done.1 can (unsent_law a p b o means (inl (i, done.0))) end in
    record {
      plays = over.plays;
      next = over.next;
      answered = over.answered;
      means = over.means;
      gathers = subst (OkGathers q steps) (sym done.0) tt;
      cause = (done.0, nothing-done steps over.steps_are);
      sure = subst IsSure (sym done.0) tt;
    }
came None (Some r) budget q a mid c p b steps o broken refused none start still can means ask given done end =
    let so : refused_by b.at b.requests p.txn ≡ Some o = refused ∙ ap Some (sym done.0) in
    let over = stays-over q a mid c p b steps o none done.1 can (unsent_law a p b o means (inr so)) end in
    let refuses = refusal-gathers b.at b.requests p.txn q steps o so in
    record {
      plays = over.plays;
      next = over.next;
      answered = over.answered;
      means = over.means;
      gathers = refuses.0;
      cause = (done.0, nothing-done steps over.steps_are);
      sure = refuses.1;
    }
came None None budget q a mid c p b steps o broken refused none start still can means ask given done end =
    came-sent budget q a mid c p b steps o none start still can (ask refl refl) given done end
