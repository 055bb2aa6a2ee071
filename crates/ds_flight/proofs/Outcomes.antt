-- What one send comes to, by its answer.
use Rattle.std.proofs.Common.{◌≡◌, ◌⊎◌, ℕ, ◌+◌, ◌<◌, ◌≤◌, Bool, true, false, cond, List, [], ◌∷◌, ◌++◌, map, length, Option, Some, None, is_none, Result, Ok, Err, IfOk, OnErr, inl, inr, refl, sym, ap, ◌∙◌, subst, arith}
use Rattle.std.proofs.lemmas.List.Sums.{sum_by-insert}
use Rattle.std.specs.List.{insert, sum_by}
use Rattle.std.specs.declared.alloc.AllocError.{AllocError}
use Rattle.ds_base.proofs.SmallFacts.{and_first, and_second, append_nil}
use Rattle.ds_base.specs.declared.value.TxnNo.{TxnNo}
use Rattle.ds_cache.specs.Entries.{Cache, Entry}
use Rattle.ds_desc.specs.declared.desc.RangeDesc.{RangeDesc}
use Rattle.ds_desc.specs.declared.refusal.Refusal.{Refusal}
use Rattle.ds_desc.specs.declared.refusal.Refusal.TheVariants.{NotFound, NotLease, Mismatch}
use Rattle.ds_kind.specs.Left.{is_used_up, left_after}
use Rattle.ds_kind.specs.declared.batch.Head.{Head}
use Rattle.ds_kind.specs.declared.batch.Item.{Item}
use Rattle.ds_kind.specs.declared.batch.Piece.{Piece}
use Rattle.ds_kind.specs.declared.reply.Failure.{Failure}
use Rattle.ds_kind.specs.declared.reply.Reply.{Reply}
use Rattle.ds_cover.specs.Measures.{left_in, AllSpans}
use Rattle.ds_cover.proofs.Measuring.{some-left}
use Rattle.ds_gather.specs.Gathered.{arrivals}
use Rattle.ds_gather.specs.Gathering.{Gathering}
use Rattle.ds_lease.specs.Turns.{Places}
use Rattle.ds_retry.specs.Counted.{Counts, is_spent, one_lost, one_refused}
use Rattle.ds_retry.specs.Steps.{order_after, step_after, IsKnown}
use Rattle.ds_retry.specs.declared.outcome.PartOutcome.TheVariants as Outcome
use Rattle.ds_retry.specs.declared.step.Step.{Step}
use Rattle.ds_retry.specs.declared.step.Step.TheVariants.{SameRoute, Relook, Recut, Exhausted}
use Rattle.ds_rule.specs.declared.answer.Answer.{Answer}
use Rattle.ds_rule.specs.declared.answer.Answer.TheVariants.{Done, Failed, Refused, Lost}
use Rattle.ds_rule.specs.declared.event.Event.{Event}
use Rattle.ds_rule.specs.declared.journal.JournalStep.{JournalStep}
use Rattle.ds_rule.specs.declared.journal.JournalStep.TheVariants.{Send}
use Rattle.ds_rule.specs.Clauses.{IsLost, IsRefused, Stands, Stays, Steps, and_step}
use Rattle.ds_rule.specs.Journal.{Happening, Moved, Did}
use Rattle.ds_rule.specs.Pieces.{Each}
use Rattle.ds_rule.proofs.Resumes.{all_replies, step_in}
use Rattle.ds_flight.specs.Causes.{failed_sum, GoesOn, IsFailed, LastMissed}
use Rattle.ds_flight.specs.Counting.{counted_step, is_risky}
use Rattle.ds_flight.specs.Ends.{ends_at_once, ends_flight, NoneEnds}
use Rattle.ds_flight.specs.Fills.{tries_left}
use Rattle.ds_flight.specs.Flights.{Flight}
use Rattle.ds_flight.specs.Goes.{descs_of, told_by}
use Rattle.ds_flight.specs.Left.{arrived_by, block_by, blocks_of, failures, replies_by}
use Rattle.ds_flight.specs.Picks.{sends_by, sends_of, IsDoneAnswer, IsOneAtMost}
use Rattle.ds_flight.specs.Places.{given_back}
use Rattle.ds_flight.specs.Ran.{AreKnown, Ran}
use Rattle.ds_flight.specs.Searches.{course}
use Rattle.ds_flight.specs.Sends.{asked_by, asking_with, load, lost_sent, lost_work, sent_after, told_rows, turned_work, GoesOnIfOn, IsSendable, LearnsFrom, LessensIfGoing, PieceRan, RoutedSent, Sendable, SendFits, SentTo, TurnedAway}
use Rattle.ds_flight.specs.Works.{items_of, work_left, IsFlying, IsTask, Underway}
use Rattle.ds_flight.specs.declared.sent.Sent.{Sent}
use Rattle.ds_flight.specs.declared.sent.Sent.TheVariants.{On, Ended}
use Rattle.ds_flight.specs.declared.work.Flying.{Flying}
use Rattle.ds_flight.specs.declared.work.Task.{Task}
use Rattle.ds_flight.specs.declared.work.Task.TheVariants.{Rest, Routed}
use Rattle.ds_flight.proofs.Covers.{cover-none, cover-one}
use Rattle.ds_flight.proofs.Lessening.{left-sum, less-tries}
use Rattle.ds_flight.proofs.Placing.{underway-again, underway-given-back}
use Rattle.ds_flight.proofs.Searching.{left-none}
use Rattle.ds_flight.proofs.Sending.{after-replicas, flying-turned, none-told, sent-ran}
use Rattle.ds_flight.proofs.Stepping.{moves-unended, ran-stays, step-arrived, step-blocks, step-failures, step-known, step-left, step-unended}
use Rattle.ds_flight.proofs.Turning.{after-spent, spent-of, IsSpentStep}
use Rattle.ds_flight.proofs.Working.{each-more, underway-done, underway-instead, underway-later}

-- ---- what can be sent

task-sendable : (f : Flight) (known : List RangeDesc) (t : Task) → IsTask f known t → IsSendable t
task-sendable f known (Rest c) is = tt
task-sendable f known (Routed r) is = record { some = is.some; proper = is.of.proper; spans = is.spans }

pub underway-sendable : (f : Flight) (known : List RangeDesc) (done : List (List Item)) (work : List Task) → Underway f known done work → Each IsSendable work
underway-sendable f known done work u = each-more (IsTask f known) IsSendable work (task-sendable f known) u.each

asked-flies : (f : Flight) (known : List RangeDesc) (head : Head) (left : Option ℕ) (r : Flying) → IsFlying f known r → IsFlying f known (asking_with head left r)
asked-flies f known head left r is = record {
  some = is.some;
  of = is.of;
  spans = is.spans;
  dir = is.dir;
  desc = is.desc;
  is_known = is.is_known;
  by = record { replicas = is.by.replicas; node = is.by.node; range = is.by.range; held = is.by.held; one = is.by.one };
}

asked-underway : (f : Flight) (known : List RangeDesc) (done : List (List Item)) (head : Head) (left : Option ℕ) (r : Flying) (work : List Task) → Underway f known done (Routed r ∷ work) → Underway f known done (Routed (asking_with head left r) ∷ work)
asked-underway f known done head left r work u =
    underway-instead f known done (Routed r) (Routed (asking_with head left r)) work refl (asked-flies f known head left r u.each.0) u

-- ---- any answer

step-sends : (ms : List Event) (s : JournalStep) → sends_of (and_step ms s) ≡ sends_by s
step-sends [] s = append_nil (sends_by s)
step-sends (m ∷ ms) s = step-sends ms s

-- the same send, with its limit and its answer told otherwise
pub sent-as :
    (head : Head) (l left : Option ℕ) (a b : Stands) (r : Flying) (x y : Answer)
    → l ≡ left → x ≡ y → Steps a b (Send r.node (asked_by head l r.piece) x) → Steps a b (Send r.node (asked_by head left r.piece) y)
sent-as head l left a b r x y limit answer steps =
    subst (λ z. Steps a b (Send r.node (asked_by head left r.piece) z)) answer (subst (λ z. Steps a b (Send r.node (asked_by head z r.piece) x)) limit steps)

answer-ran :
    (f : Flight) (known : List RangeDesc) (head : Head) (left : Option ℕ) (a b : Stands) (es fs : List Entry) (c d : Counts) (r : Flying) (x : Answer)
    → GoesOn c → is_used_up left ≡ false → f.head ≡ head → IsFlying f known r → d ≡ counted_step c (Send r.node (asked_by head left r.piece) x)
    → (AreKnown known es → AreKnown (known ++ descs_of (told_by (Send r.node (asked_by head left r.piece) x))) fs)
    → (steps : Steps a b (Send r.node (asked_by head left r.piece) x))
    → Ran f known left (course a es c) (course b fs d) (and_step steps.moves (Send r.node (asked_by head left r.piece) x))
answer-ran f known head left a b es fs c d r x on room same flies counts entries steps =
    sent-ran f known left a b es fs c d (asking_with head left r) (asked_by head left r.piece) x on room (ap (λ h. asked_by h left r.piece) (sym same)) (asked-flies f known head left r flies) counts entries steps

answer-fits :
    (f : Flight) (known : List RangeDesc) (done : List (List Item)) (head : Head) (left rest : Option ℕ) (a b : Stands) (es fs : List Entry) (c d : Counts) (r : Flying) (x : Answer)
    (old new : List Task) (got more : Gathering) (s : Sent)
    → more ≡ record { wanted = got.wanted; got = got.got ++ arrived_by (Send r.node (asked_by head left r.piece) x) }
    → rest ≡ left_after left (replies_by (Send r.node (asked_by head left r.piece) x))
    → (steps : Steps a b (Send r.node (asked_by head left r.piece) x))
    → Ran f known left (course a es c) (course b fs d) (and_step steps.moves (Send r.node (asked_by head left r.piece) x))
    → SentTo f (known ++ descs_of (told_by (Send r.node (asked_by head left r.piece) x))) (done ++ block_by (Send r.node (asked_by head left r.piece) x)) d (and_step steps.moves (Send r.node (asked_by head left r.piece) x)) new s
    → f.head ≡ head → (IsDoneAnswer x → new ≡ old)
    → SendFits f known done (course a es c) (course b fs d) (load old got left) (load new more rest) r s (and_step steps.moves (Send r.node (asked_by head left r.piece) x))
answer-fits f known done head left rest a b es fs c d r x old new got more s gathers leaves steps ran to same gone =
    let st = Send r.node (asked_by head left r.piece) x in
    let hs = and_step steps.moves st in
    record {
      ran = ran;
      got = gathers ∙ ap (λ zs. record { wanted = got.wanted; got = got.got ++ zs }) (sym (step-arrived steps.moves st));
      left = leaves ∙ sym (step-left left steps.moves st);
      to = subst (λ ks. SentTo f ks (done ++ blocks_of hs) d hs new s) (sym (step-known known steps.moves st))
          (subst (λ bs. SentTo f (known ++ descs_of (told_by st)) (done ++ bs) d hs new s) (sym (step-blocks steps.moves st)) to);
      was = record {
        answer = x;
        sent = step-sends steps.moves st ∙ ap (λ h. Send r.node (asked_by h left r.piece) x ∷ []) (sym same);
        left = gone;
      };
    }

-- the work later, once what the answer told is known
later : (f : Flight) (known : List RangeDesc) (done : List (List Item)) (work : List Task) (n : ℕ) (p : Piece) (x : Answer) → Underway f known done work → Underway f (known ++ descs_of (told_by (Send n p x))) done work
later f known done work n p x u = underway-later f known done work (Did (Send n p x) ∷ []) u

none-gathered : (got : Gathering) → got ≡ record { wanted = got.wanted; got = got.got ++ [] }
none-gathered got = ap (λ zs. record { wanted = got.wanted; got = zs }) (sym (append_nil got.got))

-- what ran, whatever came of it, unless it ended the flight
pub any-ran :
    (head : Head) (left : Option ℕ) (a b : Stands) (es fs : List Entry) (c d : Counts) (r : Flying) (x : Answer) (old : List Task)
    → GoesOn c → ends_flight (Send r.node (asked_by head left r.piece) x) ≡ false → d ≡ counted_step c (Send r.node (asked_by head left r.piece) x)
    → ((known : List RangeDesc) → AreKnown known es → AreKnown (known ++ descs_of (told_by (Send r.node (asked_by head left r.piece) x))) fs)
    → Steps a b (Send r.node (asked_by head left r.piece) x)
    → PieceRan head (course a es c) (course b fs d) left (Routed r ∷ old)
any-ran head left a b es fs c d r x old on ends counts entries steps = λ f known done same all room u.
    let p = asked_by head left r.piece in
    let hs = and_step steps.moves (Send r.node p x) in (
      hs,
      record {
        ran = answer-ran f known head left a b es fs c d r x on room same u.each.0 counts (entries known) steps;
        covers = cover-one f.part.items done hs r.node p x (step-sends steps.moves (Send r.node p x)) (map items_of old, u.covered);
        sent = subst IsOneAtMost (sym (step-sends steps.moves (Send r.node p x))) refl;
        unended = step-unended steps.moves (Send r.node p x) ends;
      },
    )

step-missed : (ms : List Event) (s : JournalStep) → IsRefused s ⊎ IsLost s → LastMissed (and_step ms s)
step-missed ms s missed = record { before = map Moved ms; step = s; moves = []; last = refl; missed = missed }

moves-send : (ms : List Event) → sends_of (map Moved ms) ≡ []
moves-send [] = refl
moves-send (m ∷ ms) = moves-send ms

-- the wire wanted memory
pub none-ran :
    (head : Head) (left : Option ℕ) (a b : Stands) (es : List Entry) (c : Counts) (work : List Task)
    → Stays a b → PieceRan head (course a es c) (course b es c) left work
none-ran head left a b es c work stays = λ f known done same all room u. (
  map Moved stays.moves,
  record {
    ran = ran-stays f known left (course a es c) (course b es c) refl (λ h. h) stays;
    covers = cover-none f.part.items done (map Moved stays.moves) (moves-send stays.moves);
    sent = subst IsOneAtMost (sym (moves-send stays.moves)) tt;
    unended = moves-unended stays.moves;
  },
)

-- ---- Done

pub done-sent :
    (head : Head) (left rest : Option ℕ) (a b : Stands) (es : List Entry) (c : Counts) (r : Flying) (old : List Task) (got more : Gathering) (rs : List Reply)
    → GoesOn c → rest ≡ left_after left rs → more ≡ record { wanted = got.wanted; got = got.got ++ arrivals r.piece.items rs }
    → Steps a b (Send r.node (asked_by head left r.piece) (Done rs))
    → RoutedSent head (course a es c) (course b es c) (load old got left) (load old more rest) r On
done-sent head left rest a b es c r old got more rs on leaves gathers steps = λ f known done same all room u.
    let p = asked_by head left r.piece in
    let all_of = all_replies p.head p.items rs (step_in a b r.node p rs steps) in (
      and_step steps.moves (Send r.node p (Done rs)),
      answer-fits f known done head left rest a b es es c c r (Done rs) old old got more On gathers (leaves ∙ ap (left_after left) (sym all_of)) steps
          (answer-ran f known head left a b es es c c r (Done rs) on room same u.each.0 refl (none-told known es es (λ h. h)) steps)
          (step-failures steps.moves (Send r.node p (Done rs)), on, later f known (done ++ r.piece.items ∷ []) old r.node p (Done rs) (underway-done f known done r old u), step-unended steps.moves (Send r.node p (Done rs)) refl) same (λ is. refl),
    )

pub done-ran :
    (head : Head) (left : Option ℕ) (a b : Stands) (es : List Entry) (c : Counts) (r : Flying) (rs : List Reply) (old : List Task)
    → GoesOn c → Steps a b (Send r.node (asked_by head left r.piece) (Done rs)) → PieceRan head (course a es c) (course b es c) left (Routed r ∷ old)
done-ran head left a b es c r rs old on steps = any-ran head left a b es es c c r (Done rs) old on refl refl (λ known. none-told known es es (λ h. h)) steps

-- ---- Failed

pub failed-sent :
    (head : Head) (left : Option ℕ) (a b : Stands) (es : List Entry) (c : Counts) (r : Flying) (old new : List Task) (got : Gathering) (e : Failure)
    → GoesOn c → Steps a b (Send r.node (asked_by head left r.piece) (Failed e))
    → RoutedSent head (course a es c) (course b es c) (load old got left) (load new got left) r (Ended (Outcome.Failed e))
failed-sent head left a b es c r old new got e on steps = λ f known done same all room u.
    let p = asked_by head left r.piece in
    let hs = and_step steps.moves (Send r.node p (Failed e)) in
    let cause : IsFailed c hs e = record {
      failed = step-failures steps.moves (Send r.node p (Failed e));
      goes_on = on;
      piece = p;
      last = record { before = map Moved steps.moves; node = r.node; last = refl; unended = moves-unended steps.moves };
    } in (
      hs,
      answer-fits f known done head left left a b es es c c r (Failed e) old new got got (Ended (Outcome.Failed e)) (none-gathered got) (sym (left-none left)) steps
          (answer-ran f known head left a b es es c c r (Failed e) on room same u.each.0 refl (none-told known es es (λ h. h)) steps)
          (cause, step-blocks steps.moves (Send r.node p (Failed e))) same (λ is. absurd is),
    )

-- ---- Refused

told-refused : (n : ℕ) (p : Piece) (x : Refusal) → descs_of (told_by (Send n p (Refused x))) ≡ descs_of (told_rows x)
told-refused n p NotFound = refl
told-refused n p (NotLease l) = refl
told-refused n p (Mismatch is) = refl

pub refused-entries : (n : ℕ) (p : Piece) (x : Refusal) (before after : Cache) → LearnsFrom x before after → (known : List RangeDesc) → AreKnown known before.entries → AreKnown (known ++ descs_of (told_by (Send n p (Refused x)))) after.entries
refused-entries n p x before after learns known all = subst (λ ds. AreKnown (known ++ ds) after.entries) (sym (told-refused n p x)) (learns known all)

refused-to :
    (f : Flight) (known : List RangeDesc) (done : List (List Item)) (d : Counts) (hs : List Happening) (r : Flying) (o : Places) (at : ℕ) (old new : List Task) (s : Sent) (e : Step)
    → o.replicas ≡ r.order.replicas → IsKnown r.order e → IsSpentStep d e → s ≡ sent_after e → new ≡ turned_work e r o at old → GoesOnIfOn d s → failures hs ≡ [] → blocks_of hs ≡ [] → NoneEnds hs → LastMissed hs
    → Underway f known done (Routed r ∷ old) → SentTo f known done d hs new s
refused-to f known done d hs r o at old new s (SameRoute n) same is spent sent work on none empty unended missed u =
    let next = record r { order = o; node = n } in
    subst (SentTo f known done d hs new) (sym sent)
    (none, subst (GoesOnIfOn d) sent on, underway-again f known done r next at old new work refl (flying-turned f known r next refl same is u.each.0) u, unended)
refused-to f known done d hs r o at old new s Relook same is spent sent work on none empty unended missed u =
    subst (SentTo f known done d hs new) (sym sent) (none, subst (GoesOnIfOn d) sent on, underway-given-back f known done r at old new work u, unended)
refused-to f known done d hs r o at old new s Recut same is spent sent work on none empty unended missed u =
    subst (SentTo f known done d hs new) (sym sent) (none, subst (GoesOnIfOn d) sent on, underway-given-back f known done r at old new work u, unended)
refused-to f known done d hs r o at old new s (Exhausted refused lost) same is spent sent work on none empty unended missed u =
    subst (SentTo f known done d hs new) (sym sent) (record { none_failed = none; unended = unended; spent = spent.0; last = missed; refused_is = spent.1; lost_is = spent.2 }, empty)

refused-sent :
    (head : Head) (left : Option ℕ) (a b : Stands) (before after : Cache) (c d : Counts) (r : Flying) (at : ℕ) (old new : List Task) (got : Gathering) (x : Refusal) (s : Sent)
    → GoesOn c → d ≡ one_refused c → LearnsFrom x before after → Steps a b (Send r.node (asked_by head left r.piece) (Refused x))
    → TurnedAway x (asking_with head left r) d at before after old new s → GoesOnIfOn d s
    → RoutedSent head (course a before.entries c) (course b after.entries d) (load old got left) (load new got left) r s
refused-sent head left a b before after c d r at old new got x s low counts learns steps turned on = λ f known done same all room u.
    let p = asked_by head left r.piece in
    let st = Send r.node p (Refused x) in
    let hs = and_step steps.moves st in
    let ks = known ++ descs_of (told_by st) in
    let to = refused-to f ks done d hs (asking_with head left r) (order_after d r.order x) at old new s (step_after d r.order x)
    (after-replicas (is_spent d) r.order x) turned.known (after-spent d r.order x) turned.sent turned.work on (step-failures steps.moves st) (step-blocks steps.moves st) (step-unended steps.moves st refl) (step-missed steps.moves st (inl tt))
    (later f known done (Routed (asking_with head left r) ∷ old) r.node p (Refused x) (asked-underway f known done head left r old u)) in (
      hs,
      answer-fits f known done head left left a b before.entries after.entries c d r (Refused x) old new got got s (none-gathered got) (sym (left-none left)) steps
          (answer-ran f known head left a b before.entries after.entries c d r (Refused x) low room same u.each.0 counts (refused-entries r.node p x before after learns known) steps)
          (subst (λ ds. SentTo f ks ds d hs new s) (sym (append_nil done)) to) same (λ is. absurd is),
    )

pub refused-oks :
    (head : Head) (l left : Option ℕ) (a b : Stands) (before after : Cache) (c d : Counts) (r : Flying) (at : ℕ) (old new : List Task) (got : Gathering) (x : Refusal) (res : Result Sent AllocError)
    → GoesOn c → l ≡ left → d ≡ one_refused c → LearnsFrom x before after → Steps a b (Send r.node (asked_by head l r.piece) (Refused x))
    → IfOk res (λ s. TurnedAway x (asking_with head l r) d at before after old new s) → IfOk res (λ s. GoesOnIfOn d s)
    → IfOk res (λ s. RoutedSent head (course a before.entries c) (course b after.entries d) (load old got left) (load new got left) r s)
refused-oks head l left a b before after c d r at old new got x (Ok s) low limit counts learns steps turned on =
    subst (λ z. RoutedSent head (course a before.entries c) (course b after.entries d) (load old got z) (load new got z) r s) limit
    (refused-sent head l a b before after c d r at old new got x s low counts learns steps turned on)
refused-oks head l left a b before after c d r at old new got x (Err e) low limit counts learns steps turned on = tt

pub refused-ran :
    (head : Head) (left : Option ℕ) (a b : Stands) (before after : Cache) (c d : Counts) (r : Flying) (old : List Task) (x : Refusal)
    → GoesOn c → d ≡ one_refused c → LearnsFrom x before after → Steps a b (Send r.node (asked_by head left r.piece) (Refused x))
    → PieceRan head (course a before.entries c) (course b after.entries d) left (Routed r ∷ old)
refused-ran head left a b before after c d r old x low counts learns steps =
    any-ran head left a b before.entries after.entries c d r (Refused x) old low refl counts (refused-entries r.node (asked_by head left r.piece) x before after learns) steps

-- ---- Lost

no-txn : (txn : Option TxnNo) → is_none txn ≡ true → txn ≡ None
no-txn None h = refl
no-txn (Some t) h = let bad : false ≡ true = h in cc

lost-fits : (risky : Bool) (c d : Counts) → d ≡ one_lost risky c → GoesOn c → failed_sum d ≤ d.budget
lost-fits risky c d same on =
    let lost : d.lost ≡ c.lost + 1 = ap (λ (n : Counts). n.lost) same in
    let refused : d.refused ≡ c.refused = ap (λ (n : Counts). n.refused) same in
    let budget : d.budget ≡ c.budget = ap (λ (n : Counts). n.budget) same in
    let low : c.refused + c.lost < c.budget = on in
    omega (arith, lost, refused, budget, low)

lost-to :
    (f : Flight) (known : List RangeDesc) (done : List (List Item)) (c d : Counts) (ms : List Event) (r : Flying) (at : ℕ) (old new : List Task) (s : Sent) (risky : Bool) (t : Bool)
    → risky ≡ is_risky r.piece → d ≡ one_lost risky c → GoesOn c → ends_at_once risky r.piece.head.txn ≡ t → s ≡ lost_sent t d → new ≡ lost_work r at old s → GoesOnIfOn d s
    → Underway f known done (Routed r ∷ old) → SentTo f known done d (and_step ms (Send r.node r.piece Lost)) new s
lost-to f known done c d ms r at old new s risky true is counts low ends sent work on u =
    subst (SentTo f known done d (and_step ms (Send r.node r.piece Lost)) new) (sym sent) (
      record {
        none_failed = step-failures ms (Send r.node r.piece Lost);
        fits = lost-fits risky c d counts low;
        lost_is = refl;
        at_risk = record {
          piece = r.piece;
          risky = sym is ∙ and_first risky _ ends;
          alone = no-txn r.piece.head.txn (and_second risky _ ends);
          last = record { before = map Moved ms; node = r.node; last = refl; unended = moves-unended ms };
        };
      },
      step-blocks ms (Send r.node r.piece Lost),
    )
lost-to f known done c d ms r at old new s risky false is counts low ends sent work on u =
    let hs = and_step ms (Send r.node r.piece Lost) in
    let none = step-failures ms (Send r.node r.piece Lost) in
    let unended = step-unended ms (Send r.node r.piece Lost) (ap (λ b. ends_at_once b r.piece.head.txn) (sym is) ∙ ends) in
    elim (is_spent d) as (λ t. is_spent d ≡ t → s ≡ cond {A = Sent} t (Ended (Outcome.Exhausted d.refused d.lost)) On → SentTo f known done d hs new s) [
      | true ↦ λ h same. subst (SentTo f known done d hs new) (sym same) (
        record { none_failed = none; unended = unended; spent = spent-of d h; last = step-missed ms (Send r.node r.piece Lost) (inr tt); refused_is = refl; lost_is = refl },
        step-blocks ms (Send r.node r.piece Lost),
      )
      | false ↦ λ h same.
          subst (SentTo f known done d hs new) (sym same)
          (none, subst (GoesOnIfOn d) same on, underway-again f known done r r at old new (work ∙ ap (lost_work r at old) same) refl u.each.0 u, unended)
    ] refl sent

lost-sends :
    (head : Head) (left : Option ℕ) (a b : Stands) (es : List Entry) (c d : Counts) (r : Flying) (at : ℕ) (old new : List Task) (got : Gathering) (risky : Bool) (s : Sent)
    → GoesOn c → risky ≡ is_risky (asked_by head left r.piece) → d ≡ one_lost risky c → Steps a b (Send r.node (asked_by head left r.piece) Lost)
    → s ≡ lost_sent (ends_at_once risky head.txn) d → new ≡ lost_work (asking_with head left r) at old s → GoesOnIfOn d s
    → RoutedSent head (course a es c) (course b es d) (load old got left) (load new got left) r s
lost-sends head left a b es c d r at old new got risky s low is counts steps sent work on = λ f known done same all room u.
    let p = asked_by head left r.piece in
    let st = Send r.node p Lost in
    let hs = and_step steps.moves st in
    let ks = known ++ descs_of (told_by st) in
    let to = lost-to f ks done c d steps.moves (asking_with head left r) at old new s risky (ends_at_once risky head.txn) is counts low refl sent work on
    (later f known done (Routed (asking_with head left r) ∷ old) r.node p Lost (asked-underway f known done head left r old u)) in (
      hs,
      answer-fits f known done head left left a b es es c d r Lost old new got got s (none-gathered got) (sym (left-none left)) steps
          (answer-ran f known head left a b es es c d r Lost low room same u.each.0 (counts ∙ ap (λ t. one_lost t c) is) (none-told known es es (λ h. h)) steps)
          (subst (λ ds. SentTo f ks ds d hs new s) (sym (append_nil done)) to) same (λ is. absurd is),
    )

pub lost-oks :
    (head : Head) (l left : Option ℕ) (a b : Stands) (es : List Entry) (c d : Counts) (r : Flying) (at : ℕ) (old new : List Task) (got : Gathering) (risky : Bool) (res : Result Sent AllocError)
    → l ≡ left → GoesOn c → risky ≡ is_risky (asked_by head l r.piece) → d ≡ one_lost risky c → Steps a b (Send r.node (asked_by head l r.piece) Lost)
    → IfOk res (λ s. s ≡ lost_sent (ends_at_once risky head.txn) d) → IfOk res (λ s. new ≡ lost_work (asking_with head l r) at old s) → IfOk res (λ s. GoesOnIfOn d s)
    → IfOk res (λ s. RoutedSent head (course a es c) (course b es d) (load old got left) (load new got left) r s)
lost-oks head l left a b es c d r at old new got risky (Ok s) limit low is counts steps sent work on =
    subst (λ z. RoutedSent head (course a es c) (course b es d) (load old got z) (load new got z) r s) limit
    (lost-sends head l a b es c d r at old new got risky s low is counts steps sent work on)
lost-oks head l left a b es c d r at old new got risky (Err e) limit low is counts steps sent work on = tt

lost-ran :
    (head : Head) (l left : Option ℕ) (a b : Stands) (es : List Entry) (c d : Counts) (r : Flying) (old : List Task) (risky : Bool)
    → GoesOn c → ends_at_once risky head.txn ≡ false → l ≡ left → risky ≡ is_risky (asked_by head l r.piece) → d ≡ one_lost risky c
    → Steps a b (Send r.node (asked_by head l r.piece) Lost) → PieceRan head (course a es c) (course b es d) left (Routed r ∷ old)
lost-ran head l left a b es c d r old risky low ends limit is counts steps =
    subst (λ z. PieceRan head (course a es c) (course b es d) z (Routed r ∷ old)) limit
    (any-ran head l a b es es c d r Lost old low (ap (λ b. ends_at_once b head.txn) (sym is) ∙ ends) (counts ∙ ap (λ t. one_lost t c) is) (λ known. none-told known es es (λ h. h)) steps)

pub lost-errs :
    (head : Head) (l left : Option ℕ) (a b : Stands) (es : List Entry) (c d : Counts) (r : Flying) (old : List Task) (risky : Bool) (res : Result Sent AllocError)
    → GoesOn c → OnErr res (ends_at_once risky head.txn ≡ false) → l ≡ left → risky ≡ is_risky (asked_by head l r.piece) → d ≡ one_lost risky c
    → Steps a b (Send r.node (asked_by head l r.piece) Lost) → OnErr res (PieceRan head (course a es c) (course b es d) left (Routed r ∷ old))
lost-errs head l left a b es c d r old risky (Ok s) low ends limit is counts steps = tt
lost-errs head l left a b es c d r old risky (Err e) low ends limit is counts steps = lost-ran head l left a b es c d r old risky low ends limit is counts steps

-- ---- what is left then

pub less-refused : (c : Counts) → GoesOn c → tries_left (one_refused c) < tries_left c
less-refused c on = let low : c.refused + c.lost < c.budget = on in omega (arith, low)

pub less-lost : (risky : Bool) (c : Counts) → GoesOn c → tries_left (one_lost risky c) < tries_left c
less-lost risky c on = less-tries c.refused c.lost c.budget on

some-of : (items : List Item) → 0 < length items → AllSpans items → 0 < left_in items
some-of [] some spans = absurd (omega (arith, some))
some-of (i ∷ is) some spans = some-left i is spans

pub less-done : (c : Counts) (r : Flying) (old : List Task) → Sendable r → tries_left c + work_left old < tries_left c + work_left (Routed r ∷ old)
less-done c r old is = let some : 0 < left_in r.piece.items = some-of r.piece.items is.some is.spans in omega (arith, some)

less-put : (c d : Counts) (r : Flying) (n : Task) (at : ℕ) (old new : List Task) → tries_left d < tries_left c → items_of n ≡ r.piece.items → new ≡ insert old at n → tries_left d + work_left new < tries_left c + work_left (Routed r ∷ old)
less-put c d r n at old new fewer items work =
    let left : work_left new ≡ work_left old + left_in (items_of n) = left-sum new ∙ ap (sum_by (λ x. left_in (items_of x))) work ∙ sum_by-insert (λ x. left_in (items_of x)) old at n ∙ ap (λ m. m + left_in (items_of n)) (sym (left-sum old)) in
    let same : left_in (items_of n) ≡ left_in r.piece.items = ap left_in items in
    omega (arith, fewer, left, same)

refused-less :
    (c d : Counts) (r : Flying) (o : Places) (at : ℕ) (old new : List Task) (s : Sent) (e : Step) → tries_left d < tries_left c → s ≡ sent_after e → new ≡ turned_work e r o at old → LessensIfGoing c d (Routed r ∷ old) new s
refused-less c d r o at old new s (SameRoute n) fewer sent work =
    subst (LessensIfGoing c d (Routed r ∷ old) new) (sym sent) (less-put c d r (Routed (record r { order = o; node = n })) at old new fewer refl work)
refused-less c d r o at old new s Relook fewer sent work = subst (LessensIfGoing c d (Routed r ∷ old) new) (sym sent) (less-put c d r (given_back r.piece) at old new fewer refl work)
refused-less c d r o at old new s Recut fewer sent work = subst (LessensIfGoing c d (Routed r ∷ old) new) (sym sent) (less-put c d r (given_back r.piece) at old new fewer refl work)
refused-less c d r o at old new s (Exhausted refused lost) fewer sent work = subst (LessensIfGoing c d (Routed r ∷ old) new) (sym sent) tt

pub refused-lessens :
    (head : Head) (left : Option ℕ) (c d : Counts) (r : Flying) (at : ℕ) (before after : Cache) (old new : List Task) (x : Refusal) (res : Result Sent AllocError)
    → GoesOn c → d ≡ one_refused c → IfOk res (λ s. TurnedAway x (asking_with head left r) d at before after old new s) → IfOk res (λ s. LessensIfGoing c d (Routed r ∷ old) new s)
refused-lessens head left c d r at before after old new x (Ok s) on counts turned =
    refused-less c d (asking_with head left r) (order_after d r.order x) at old new s (step_after d r.order x) (subst (λ n. tries_left n < tries_left c) (sym counts) (less-refused c on)) turned.sent turned.work
refused-lessens head left c d r at before after old new x (Err e) on counts turned = tt

lost-less : (c d : Counts) (r : Flying) (at : ℕ) (old new : List Task) (s : Sent) → tries_left d < tries_left c → new ≡ lost_work r at old s → LessensIfGoing c d (Routed r ∷ old) new s
lost-less c d r at old new On fewer work = less-put c d r (Routed r) at old new fewer refl work
lost-less c d r at old new (Ended o) fewer work = tt

pub lost-lessens :
    (head : Head) (left : Option ℕ) (c d : Counts) (r : Flying) (at : ℕ) (old new : List Task) (risky : Bool) (res : Result Sent AllocError)
    → GoesOn c → d ≡ one_lost risky c → IfOk res (λ s. new ≡ lost_work (asking_with head left r) at old s) → IfOk res (λ s. LessensIfGoing c d (Routed r ∷ old) new s)
lost-lessens head left c d r at old new risky (Ok s) on counts work =
    lost-less c d (asking_with head left r) at old new s (subst (λ n. tries_left n < tries_left c) (sym counts) (less-lost risky c on)) work
lost-lessens head left c d r at old new risky (Err e) on counts work = tt
