-- Why a batch was answered so, told by its steps alone, and by what happened up to the last of them.
use Rattle.std.proofs.Common.{◌≡◌, ℕ, ◌+◌, ◌<◌, ◌≤◌, List, [], ◌∷◌, ◌++◌, inl, inr, refl, sym, ap, ◌∙◌, subst}
use Rattle.ds_desc.specs.declared.desc.RangeDesc.{RangeDesc}
use Rattle.ds_kind.specs.declared.batch.Item.{Item}
use Rattle.ds_kind.specs.declared.reply.Failure.{Failure}
use Rattle.ds_cell.specs.Store.{Store}
use Rattle.ds_rule.specs.declared.answer.Answer.TheVariants.{Failed, Lost}
use Rattle.ds_rule.specs.declared.answer.Outcome.{Outcome}
use Rattle.ds_rule.specs.declared.event.Timed.{Timed}
use Rattle.ds_rule.specs.declared.journal.JournalStep.TheVariants.{Send}
use Rattle.ds_rule.specs.Asking.{Asking}
use Rattle.ds_rule.specs.Blocks.{all_made, up_to_last_step}
use Rattle.ds_rule.specs.Cause.{LastFails, losses_of, lost_in, refusals_of, refused_in}
use Rattle.ds_rule.specs.Journal.{Happening, Moved, Did, accepted}
use Rattle.ds_rule.specs.Pieces.{Each}
use Rattle.ds_mean.specs.InTurn.{AreAll, IsLeft, items_of}
use Rattle.ds_mean.specs.Send.{CameToFail, IsTurnCause, ShowsWhy}
use Rattle.ds_mean.specs.Told.{IsTold}
use Rattle.ds_rule.specs.Gathered.{Gathered}
use Rattle.ds_rule.specs.Whole.{whole_of}
use Rattle.ds_flight.specs.Ends.{NoneEnds}
use Rattle.ds_flight.specs.Goes.{descs_of, known_after, told_by}
use Rattle.ds_flight.specs.Left.{failed_by, failures}
use Rattle.ds_send.specs.Batched.{BatchApart}
use Rattle.ds_send.specs.Causes.{CauseOf, HasFailed, IsInDoubt, RanOut, WasLost, WasWell, missed_in, risked_in, risks_of}
use Rattle.ds_replay.proofs.Woven.{accepted-alone, alone, up-to-step}

-- ---- what the steps show, of the steps alone

alone-append : (hs ks : List Happening) → alone (hs ++ ks) ≡ alone hs ++ alone ks
alone-append [] ks = refl
alone-append (Moved e ∷ hs) ks = alone-append hs ks
alone-append (Did s ∷ hs) ks = ap (λ zs. Did s ∷ zs) (alone-append hs ks)

told-alone : (hs : List Happening) → Each IsTold (alone hs) → Each IsTold hs
told-alone [] all = tt
told-alone (Moved e ∷ hs) all = (tt, told-alone hs all)
told-alone (Did s ∷ hs) all = (all.0, told-alone hs all.1)

refused-alone : (hs : List Happening) → refused_in (alone hs) ≡ refused_in hs
refused-alone [] = refl
refused-alone (Moved e ∷ hs) = refused-alone hs
refused-alone (Did s ∷ hs) = ap (λ n. refusals_of s + n) (refused-alone hs)

lost-alone : (hs : List Happening) → lost_in (alone hs) ≡ lost_in hs
lost-alone [] = refl
lost-alone (Moved e ∷ hs) = lost-alone hs
lost-alone (Did s ∷ hs) = ap (λ n. losses_of s + n) (lost-alone hs)

fails-alone : (f : Failure) (hs : List Happening) → LastFails f hs → LastFails f (alone hs)
fails-alone f hs l = record {
  before = alone l.before;
  node = l.node;
  piece = l.piece;
  last = ap alone l.last ∙ alone-append l.before (Did (Send l.node l.piece (Failed f)) ∷ []);
}

left-alone : (items : List Item) (hs : List Happening) → IsLeft items (items_of (accepted hs)) → IsLeft items (items_of (accepted (alone hs)))
left-alone items hs l = subst (λ got. IsLeft items (items_of got)) (sym (accepted-alone hs)) l

fail-alone : (q : Asking) (hs : List Happening) (f : Failure) → CameToFail q hs f → CameToFail q (alone hs) f
fail-alone q hs f c = record { left = left-alone q.items hs c.left; last = fails-alone f hs c.last }

pub shows-alone : (budget : ℕ) (q : Asking) (hs : List Happening) (o : Outcome) → ShowsWhy budget q hs o → ShowsWhy budget q (alone hs) o
shows-alone budget q hs (Outcome.Ok replies) s = record {
  all = subst (λ got. AreAll q.items (items_of got)) (sym (accepted-alone hs)) s.all;
  gathered = subst (λ got. Gathered got q.items replies) (sym (accepted-alone hs)) s.gathered;
}
shows-alone budget q hs (Outcome.Illegal i) s = s
shows-alone budget q hs (Outcome.MustRollBack n) s = s
shows-alone budget q hs (Outcome.TxnOver t) s = s
shows-alone budget q hs (Outcome.OpRequiresTxn d) s = left-alone q.items hs s
shows-alone budget q hs (Outcome.NotOnePhase d) s = left-alone q.items hs s
shows-alone budget q hs (Outcome.ConditionFailed i v) s = fail-alone q hs (Failure.Condition i v) s
shows-alone budget q hs (Outcome.WriteTooOld i k t) s = fail-alone q hs (Failure.TooOld i k t) s
shows-alone budget q hs (Outcome.NotInteger i) s = fail-alone q hs (Failure.NotInteger i) s
shows-alone budget q hs (Outcome.Overflow i) s = fail-alone q hs (Failure.Overflow i) s
shows-alone budget q hs Outcome.TxnAborted s = fail-alone q hs Failure.Aborted s
shows-alone budget q hs (Outcome.Ambiguous n) (inl s) = inl (fail-alone q hs Failure.Committed s)
shows-alone budget q hs (Outcome.Ambiguous n) (inr s) = inr (λ told. s (told-alone hs told))
shows-alone budget q hs (Outcome.RetryExhausted r l) s =
    (left-alone q.items hs s.0, record { refusals = refused-alone hs ∙ s.1.refusals; losses = lost-alone hs ∙ s.1.losses; sum = s.1.sum })
shows-alone budget q hs Outcome.OutOfMemory s = tt

-- ---- the causes that the sender names

failed-alone : (hs : List Happening) → failures (alone hs) ≡ failures hs
failed-alone [] = refl
failed-alone (Moved e ∷ hs) = failed-alone hs
failed-alone (Did s ∷ hs) = ap (λ fs. failed_by s ++ fs) (failed-alone hs)

risked-alone : (hs : List Happening) → risked_in (alone hs) ≡ risked_in hs
risked-alone [] = refl
risked-alone (Moved e ∷ hs) = risked-alone hs
risked-alone (Did s ∷ hs) = ap (λ n. risks_of s + n) (risked-alone hs)

known-alone : (hs : List Happening) (known : List RangeDesc) → known_after known (alone hs) ≡ known_after known hs
known-alone [] known = refl
known-alone (Moved e ∷ hs) known = known-alone hs known
known-alone (Did s ∷ hs) known = known-alone hs (known ++ descs_of (told_by s))

missed-alone : (hs : List Happening) → missed_in (alone hs) ≡ missed_in hs
missed-alone hs = ap (λ n. n + lost_in (alone hs)) (refused-alone hs) ∙ ap (λ n. refused_in hs + n) (lost-alone hs)

well-alone : (budget : ℕ) (hs : List Happening) → WasWell budget hs → WasWell budget (alone hs)
well-alone budget hs w = record { none_failed = failed-alone hs ∙ w.none_failed; within = subst (λ n. n < budget) (sym (missed-alone hs)) w.within }

came-fail : (budget : ℕ) (q : Asking) (hs : List Happening) (f : Failure) → HasFailed budget q hs f → HasFailed budget q (alone hs) f
came-fail budget q hs f h = record { only = failed-alone hs ∙ h.only; within = subst (λ n. n < budget) (sym (missed-alone hs)) h.within; came = fail-alone q hs f h.came }

ran-out : (budget : ℕ) (q : Asking) (hs : List Happening) (r l : ℕ) → RanOut budget q hs r l → RanOut budget q (alone hs) r l
ran-out budget q hs r l h = record {
  none_failed = failed-alone hs ∙ h.none_failed;
  used = record { refusals = refused-alone hs ∙ h.used.refusals; losses = lost-alone hs ∙ h.used.losses; sum = h.used.sum };
  left = left-alone q.items hs h.left;
}

unended-alone : (hs : List Happening) → NoneEnds hs → NoneEnds (alone hs)
unended-alone [] none = tt
unended-alone (Moved e ∷ hs) none = unended-alone hs none.1
unended-alone (Did s ∷ hs) none = (none.0, unended-alone hs none.1)

was-lost : (budget : ℕ) (q : Asking) (hs : List Happening) → WasLost budget q hs → WasLost budget q (alone hs)
was-lost budget q hs h =
    let l = h.at_risk in
    record {
      none_failed = failed-alone hs ∙ h.none_failed;
      within = subst (λ n. n ≤ budget) (sym (missed-alone hs)) h.within;
      at_risk = record {
        piece = l.piece;
        risky = l.risky;
        alone = l.alone;
        last = record { before = alone l.last.before; node = l.last.node; last = ap alone l.last.last ∙ alone-append l.last.before (Did (Send l.last.node l.piece Lost) ∷ []); unended = unended-alone l.last.before l.last.unended };
      };
      left = left-alone q.items hs h.left;
    }

doubt-alone : (budget : ℕ) (q : Asking) (hs : List Happening) (n : ℕ) → IsInDoubt budget q hs n → IsInDoubt budget q (alone hs) n
doubt-alone budget q hs n d = record {
  lost_is = d.lost_is ∙ sym (risked-alone hs);
  why = elim d.why [
    | inl lost ↦ inl (was-lost budget q hs lost)
    | inr rest ↦ elim rest [
      | inl fails ↦ inr (inl (came-fail budget q hs Failure.Committed fails))
      | inr out ↦ inr (inr (out.0, spent out.1))
    ]
  ];
}
  where
    spent : RanOut budget q hs (refused_in hs) (lost_in hs) → RanOut budget q (alone hs) (refused_in (alone hs)) (lost_in (alone hs))
    spent h = record {
      none_failed = failed-alone hs ∙ h.none_failed;
      used = record { refusals = refl; losses = refl; sum = missed-alone hs ∙ h.used.sum };
      left = left-alone q.items hs h.left;
    }

pub cause-alone : (budget : ℕ) (q : Asking) (known : List RangeDesc) (hs : List Happening) (o : Outcome) → CauseOf budget q known hs o → CauseOf budget q known (alone hs) o
cause-alone budget q known hs (Outcome.Ok replies) c = (well-alone budget hs c.0, shows-alone budget q hs (Outcome.Ok replies) c.1)
cause-alone budget q known hs (Outcome.Illegal i) c = c
cause-alone budget q known hs (Outcome.MustRollBack n) c = c
cause-alone budget q known hs (Outcome.TxnOver t) c = c
cause-alone budget q known hs (Outcome.OpRequiresTxn d) c = record {
  well = well-alone budget hs c.well;
  apart = subst (λ ds. BatchApart q (whole_of q) ds d) (sym (known-alone hs known)) c.apart;
  left = left-alone q.items hs c.left;
}
cause-alone budget q known hs (Outcome.NotOnePhase d) c = c
cause-alone budget q known hs (Outcome.ConditionFailed i v) c = came-fail budget q hs (Failure.Condition i v) c
cause-alone budget q known hs (Outcome.WriteTooOld i k t) c = came-fail budget q hs (Failure.TooOld i k t) c
cause-alone budget q known hs (Outcome.NotInteger i) c = came-fail budget q hs (Failure.NotInteger i) c
cause-alone budget q known hs (Outcome.Overflow i) c = came-fail budget q hs (Failure.Overflow i) c
cause-alone budget q known hs Outcome.TxnAborted c = came-fail budget q hs Failure.Aborted c
cause-alone budget q known hs (Outcome.Ambiguous n) c = doubt-alone budget q hs n c
cause-alone budget q known hs (Outcome.RetryExhausted r l) c = (risked-alone hs ∙ c.0, ran-out budget q hs r l c.1)
cause-alone budget q known hs Outcome.OutOfMemory c = tt

-- ---- a failure is the store's turn, with what happened up to the last step

fail-up-to : (q : Asking) (hs : List Happening) (ts : List Timed) (f : Failure) → CameToFail q hs f → up_to_last_step (hs ++ all_made ts) ≡ hs
fail-up-to q hs ts f c =
    let l = c.last in
    ap (λ ks. up_to_last_step (ks ++ all_made ts)) l.last ∙ up-to-step l.before (Send l.node l.piece (Failed f)) ts ∙ sym l.last

turn-up-to : (p : Store) (q : Asking) (hs : List Happening) (ts : List Timed) (o : Outcome) (f : Failure) → CameToFail q hs f → IsTurnCause p q hs o → IsTurnCause p q (up_to_last_step (hs ++ all_made ts)) o
turn-up-to p q hs ts o f c t = subst (λ ks. IsTurnCause p q ks o) (sym (fail-up-to q hs ts f c)) t

pub turn-caused : (budget : ℕ) (p : Store) (q : Asking) (hs : List Happening) (ts : List Timed) (o : Outcome) → ShowsWhy budget q hs o → IsTurnCause p q hs o → IsTurnCause p q (up_to_last_step (hs ++ all_made ts)) o
turn-caused budget p q hs ts (Outcome.Ok replies) s t = tt
turn-caused budget p q hs ts (Outcome.Illegal i) s t = tt
turn-caused budget p q hs ts (Outcome.MustRollBack n) s t = tt
turn-caused budget p q hs ts (Outcome.TxnOver st) s t = tt
turn-caused budget p q hs ts (Outcome.OpRequiresTxn d) s t = tt
turn-caused budget p q hs ts (Outcome.NotOnePhase d) s t = tt
turn-caused budget p q hs ts (Outcome.ConditionFailed i v) s t = turn-up-to p q hs ts (Outcome.ConditionFailed i v) (Failure.Condition i v) s t
turn-caused budget p q hs ts (Outcome.WriteTooOld i k u) s t = turn-up-to p q hs ts (Outcome.WriteTooOld i k u) (Failure.TooOld i k u) s t
turn-caused budget p q hs ts (Outcome.NotInteger i) s t = turn-up-to p q hs ts (Outcome.NotInteger i) (Failure.NotInteger i) s t
turn-caused budget p q hs ts (Outcome.Overflow i) s t = turn-up-to p q hs ts (Outcome.Overflow i) (Failure.Overflow i) s t
turn-caused budget p q hs ts Outcome.TxnAborted s t = turn-up-to p q hs ts Outcome.TxnAborted Failure.Aborted s t
turn-caused budget p q hs ts (Outcome.Ambiguous n) s t = absurd t
turn-caused budget p q hs ts (Outcome.RetryExhausted r l) s t = tt
turn-caused budget p q hs ts Outcome.OutOfMemory s t = tt
