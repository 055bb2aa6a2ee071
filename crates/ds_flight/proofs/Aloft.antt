-- Where a flight stands between its sends, and how it ends.
use Rattle.std.proofs.Common.{◌≡◌, ◌⊎◌, ℕ, ◌+◌, ◌<◌, ◌≤◌, false, true, List, [], ◌∷◌, ◌++◌, map, length, get_or, Option, Some, None, Result, Ok, Err, IfOk, inl, inr, refl, sym, ap, ◌∙◌, subst, arith}
use Rattle.std.proofs.lemmas.List.Sums.{sum_by-cons}
use Rattle.std.proofs.lemmas.List.Sorted.{IsPermutation-remove}
use Rattle.std.proofs.lemmas.Option.{slice_get-get_or, slice_get_within}
use Rattle.std.specs.List.{position, remove}
use Rattle.std.specs.declared.alloc.AllocError.{AllocError}
use Rattle.ds_base.proofs.SmallFacts.{append_nil, some_same}
use Rattle.ds_desc.specs.declared.desc.RangeDesc.{RangeDesc}
use Rattle.ds_kind.specs.Filled.{filled}
use Rattle.ds_kind.specs.Left.{is_used_up}
use Rattle.ds_kind.specs.declared.batch.Item.{Item}
use Rattle.ds_kind.specs.declared.batch.Part.{Part}
use Rattle.ds_kind.specs.declared.reply.Reply.{Reply}
use Rattle.ds_cover.specs.Coverage.{Covered}
use Rattle.ds_cover.specs.Cuts.{seek_key}
use Rattle.ds_cover.specs.Items.{AreProper, PositionsRise}
use Rattle.ds_cover.specs.Laws.{joined}
use Rattle.ds_gather.specs.Gathered.{gathered, wanted}
use Rattle.ds_gather.specs.Gathering.{Gathering}
use Rattle.ds_gather.specs.declared.arrival.Arrival.{Arrival}
use Rattle.ds_limit.specs.Rests.{are_inside}
use Rattle.ds_retry.specs.Counted.{Counts}
use Rattle.ds_retry.specs.declared.outcome.PartOutcome.{PartOutcome}
use Rattle.ds_retry.specs.declared.outcome.PartOutcome.TheVariants as Outcome
use Rattle.ds_rule.proofs.Eachs.{each-of, of-get}
use Rattle.ds_rule.specs.declared.journal.JournalStep.{JournalStep}
use Rattle.ds_rule.specs.declared.journal.JournalStep.TheVariants.{Look, Send}
use Rattle.ds_rule.specs.Clauses.{later_picks}
use Rattle.ds_rule.specs.Journal.{Happening, Moved, Did}
use Rattle.ds_rule.specs.Pieces.{Each, IsOneOf}
use Rattle.ds_flight.specs.Causes.{DoneWith, GoesOn, failed_sum}
use Rattle.ds_flight.specs.Covers.{AllCover, StepCovers}
use Rattle.ds_flight.specs.Ends.{NoneEnds}
use Rattle.ds_flight.specs.Fills.{Fills, FilledTo, FillingCounts, FliesSo, IsFilled, IsReady, LeavesRest, RestsRouted, RestsSought}
use Rattle.ds_flight.specs.Flights.{Flight}
use Rattle.ds_flight.specs.Flown.{Began, Flown, IsUnfinished, SomeLeft}
use Rattle.ds_flight.specs.Goes.{WholeHolds, known_after}
use Rattle.ds_flight.specs.Left.{arrived, blocks_of, failures, left_over}
use Rattle.ds_flight.specs.Picked.{most_of, AllDone, Picked, PickedIfDone}
use Rattle.ds_flight.specs.Picks.{picks_after, sends_of, IsOneAtMost, TookOneMore, TookPicks}
use Rattle.ds_flight.specs.Places.{is_rest, one_if_routed, waiting}
use Rattle.ds_flight.specs.Queues.{KeepsQueue}
use Rattle.ds_flight.specs.Ran.{AreKnown, Course, Ran}
use Rattle.ds_flight.specs.Searches.{Searched}
use Rattle.ds_flight.specs.Sends.{load, EndCause, IsProperTask, IsSendable, PieceRan, PieceSent, SentNext}
use Rattle.ds_flight.specs.Works.{items_of, IsTask, Underway}
use Rattle.ds_flight.specs.declared.fill.Filling.{Filling}
use Rattle.ds_flight.specs.declared.fill.Filling.TheVariants.{On, NotWhole, Spent}
use Rattle.ds_flight.specs.declared.sent.Sent.{Sent}
use Rattle.ds_flight.specs.declared.sent.Sent.TheVariants as Sending
use Rattle.ds_flight.specs.declared.work.Task.{Task}
use Rattle.ds_flight.specs.declared.work.Task.TheVariants.{Rest, Routed}
use Rattle.ds_flight.proofs.Caching.{entries-first}
use Rattle.ds_flight.proofs.Ending.{arrived-inside, end-append, short-cause, underway-proper}
use Rattle.ds_flight.proofs.Covers.{cover-append, cover-none, cover-one, routed-covers}
use Rattle.ds_flight.proofs.Idle.{idle}
use Rattle.ds_flight.proofs.Joins.{arrived-append, blocks-append, failures-append, known-append, over-append, ran-append, ran-none, took-or-more, took-then, unended-append}
use Rattle.ds_flight.proofs.Taking.{done-first, done-later, queue-begins, queue-ends, queue-filled, queue-sent, rest-first, Queue}
use Rattle.ds_flight.proofs.Tries.{spent-missed}
use Rattle.ds_flight.proofs.Working.{each-more, underway-first}

-- ---- where it stands

-- what is left to do, what came, and what is left of the limit, by what happened so far; and while no piece was turned away,
-- they wait in turn, fewer than so many
pub record Aloft (f : Flight) (known : List RangeDesc) (left : Option ℕ) (n : ℕ) (a b : Course) (work : List Task) (got : Gathering) (rest : Option ℕ) (hs : List Happening) : Type 0 where
  pub ran : Ran f known left a b hs
  pub covers : AllCover f.part.items [] hs
  pub picks : TookPicks a.wire.ahead b.wire.ahead hs
  pub none_failed : failures hs ≡ []
  pub unended : NoneEnds hs
  pub underway : Underway f (known_after known hs) (blocks_of hs) work
  pub got_is : got ≡ record { wanted = map wanted f.part.items; got = arrived hs }
  pub rest_is : rest ≡ left_over left hs
  pub queue : AllDone hs → Queue (most_of left) f.part.dir a.wire.ahead b.wire.ahead (blocks_of hs) work × (waiting work < n)

abbrev pub IsAloft : Flight → Option ℕ → ℕ → Course → Course → List Task → Gathering → Option ℕ → Type 0
IsAloft f left n a b work got rest = (known : List RangeDesc) → AreKnown known a.entries → (hs : List Happening) × Aloft f known left n a b work got rest hs

most-some : (left : Option ℕ) → 0 < most_of left
most-some None = omega arith
most-some (Some r) = omega arith

-- nothing happened yet
pub aloft-first :
    (f : Flight) (left : Option ℕ) (a : Course) (work : List Task) (got : Gathering) → 0 < length f.part.items → AreProper f.part.items
    → work ≡ Rest f.part ∷ [] → got ≡ record { wanted = map wanted f.part.items; got = [] } → IsAloft f left (most_of left) a a work got left
aloft-first f left a work got some proper one none =
    λ known all. (
      [],
      record {
        ran = ran-none f known left a;
        covers = tt;
        picks = refl;
        none_failed = refl;
        unended = tt;
        underway = subst (Underway f known []) (sym one) (underway-first f known some proper);
        got_is = none;
        rest_is = refl;
        queue = λ done. (
          subst (Queue (most_of left) f.part.dir a.wire.ahead a.wire.ahead []) (sym one) (queue-begins (most_of left) f.part.dir a.wire.ahead f.part),
          let none : waiting work ≡ 0 = ap waiting one in let some = most-some left in omega (arith, none, some),
        );
      },
    )

-- ---- rests are routed

picks-none : (ps : List ℕ) (hs : List Happening) → sends_of hs ≡ [] → ps ≡ picks_after ps (sends_of hs)
picks-none ps hs none = ap (λ ss. picks_after ps ss) (sym none)

searched-picks : (f : Flight) (known : List RangeDesc) (left : Option ℕ) (a b : Course) (hs : List Happening) → Searched f known left a b hs → TookPicks a.wire.ahead b.wire.ahead hs
searched-picks f known left a b hs s = s.ahead ∙ picks-none a.wire.ahead hs s.quiet.sends

-- what is left, done, arrived and failed after a search
quiet-after : {X : Type 0} (xs zs : List X) → zs ≡ [] → xs ++ zs ≡ xs
quiet-after xs zs none = ap (λ ys. xs ++ ys) none ∙ append_nil xs

quiet-unended : (hs : List Happening) → sends_of hs ≡ [] → NoneEnds hs
quiet-unended [] none = tt
quiet-unended (Moved e ∷ hs) none = (tt, quiet-unended hs none)
quiet-unended (Did (Look k d l) ∷ hs) none = (refl, quiet-unended hs none)
quiet-unended (Did (Send n p a) ∷ hs) none = cc

-- a flight that was searched on, whatever is left of the work then
pub record SearchedOn (f : Flight) (known : List RangeDesc) (left : Option ℕ) (a b : Course) (got : Gathering) (rest : Option ℕ) (xs ys : List Happening) : Type 0 where
  pub ran : Ran f known left a b (xs ++ ys)
  pub covers : AllCover f.part.items [] (xs ++ ys)
  pub picks : TookPicks a.wire.ahead b.wire.ahead (xs ++ ys)
  pub none_failed : failures (xs ++ ys) ≡ []
  pub unended : NoneEnds (xs ++ ys)
  pub blocks : blocks_of (xs ++ ys) ≡ blocks_of xs
  pub got_is : got ≡ record { wanted = map wanted f.part.items; got = arrived (xs ++ ys) }
  pub rest_is : rest ≡ left_over left (xs ++ ys)

searched-on :
    (f : Flight) (known : List RangeDesc) (left : Option ℕ) (n : ℕ) (a b c : Course) (work : List Task) (got : Gathering) (rest : Option ℕ) (xs ys : List Happening)
    → Aloft f known left n a b work got rest xs → Searched f (known_after known xs) (left_over left xs) b c ys → SearchedOn f known left a c got rest xs ys
searched-on f known left n a b c work got rest xs ys x y = record {
  ran = ran-append f known left a b c xs ys x.ran y.ran;
  covers = cover-append f.part.items [] xs ys x.covers (cover-none f.part.items (blocks_of xs) ys y.quiet.sends);
  picks = took-then a.wire.ahead b.wire.ahead c.wire.ahead xs ys x.picks (searched-picks f (known_after known xs) (left_over left xs) b c ys y);
  none_failed = failures-append xs ys ∙ quiet-after (failures xs) (failures ys) y.quiet.none_failed ∙ x.none_failed;
  unended = unended-append xs ys x.unended (quiet-unended ys y.quiet.sends);
  blocks = blocks-append xs ys ∙ quiet-after (blocks_of xs) (blocks_of ys) y.quiet.blocks;
  got_is = x.got_is ∙ ap (λ (xs : List Arrival). record { wanted = map wanted f.part.items; got = xs }) (sym (arrived-append xs ys ∙ quiet-after (arrived xs) (arrived ys) y.quiet.arrived_none));
  rest_is = x.rest_is ∙ sym (over-append left xs ys ∙ y.quiet.left (left_over left xs));
}

-- the part of this flight flies so
flies-so : (f : Flight) → WholeHolds f.whole f.part.items → FliesSo f.part.dir f.whole f
flies-so f held = record { dir = refl; whole_is = refl; holds = held }

pub aloft-filled :
    (f : Flight) (left : Option ℕ) (a b c : Course) (work new : List Task) (got : Gathering) (rest : Option ℕ) (r : Filling) → WholeHolds f.whole f.part.items
    → IsAloft f left (most_of left) a b work got rest → r ≡ On → RestsRouted f.part.dir f.whole b c work new r → KeepsQueue f.part.dir work new r → waiting new ≤ most_of left
    → IsAloft f left (most_of left + 1) a c new got rest
aloft-filled f left a b c work new got rest r held aloft is by keeps few =
    let n = most_of left in
    let routed : RestsRouted f.part.dir f.whole b c work new On = subst (RestsRouted f.part.dir f.whole b c work new) is by in
    λ known all.
    let x = aloft known all in
    let y = routed f (known_after known x.0) (left_over left x.0) (blocks_of x.0) (flies-so f held) (x.1.ran.entries all) x.1.underway in
    let on = searched-on f known left n a b c work got rest x.0 y.0 x.1 y.1 in (
      x.0 ++ y.0,
      record {
        ran = on.ran;
        covers = on.covers;
        picks = on.picks;
        none_failed = on.none_failed;
        unended = on.unended;
        underway = subst (λ bs. Underway f (known_after known (x.0 ++ y.0)) bs new) (sym on.blocks) (subst (λ ds. Underway f ds (blocks_of x.0) new) (sym (known-append known x.0 y.0)) y.2);
        got_is = on.got_is;
        rest_is = on.rest_is;
        queue = λ done. (
          subst (λ bs. Queue n f.part.dir a.wire.ahead c.wire.ahead bs new) (sym on.blocks)
              (subst (λ p. Queue n f.part.dir a.wire.ahead p (blocks_of x.0) new) (sym y.1.ahead)
              (queue-filled n f.part.dir a.wire.ahead b.wire.ahead (blocks_of x.0) work new (x.1.queue (done-first x.0 y.0 done)).0 (subst (KeepsQueue f.part.dir work new) is keeps))),
          omega (arith, few),
        );
      },
    )

-- a rest that is left is some of the part
rest-left : (f : Flight) (known : List RangeDesc) (done : List (List Item)) (hs : List Happening) → blocks_of hs ≡ done → LeavesRest f known done → SomeLeft f hs
rest-left f known done hs same left = record {
  block = left.rest.items;
  others = map items_of left.work;
  some = left.underway.each.0.0.some;
  proper = left.underway.each.0.0.of.proper;
  covered = subst (λ bs. Covered f.part.items (bs ++ left.rest.items ∷ map items_of left.work)) (sym same) left.underway.covered;
}

-- what must lie in one range doesn't
pub filled-apart :
    (f : Flight) (left : Option ℕ) (n : ℕ) (a b c : Course) (work new : List Task) (got : Gathering) (rest : Option ℕ) (r : Filling) (desc : RangeDesc) → WholeHolds f.whole f.part.items
    → IsAloft f left n a b work got rest → r ≡ NotWhole desc → RestsRouted f.part.dir f.whole b c work new r → FillingCounts c.counts r → Flown f left a c (Outcome.NotWhole desc)
filled-apart f left n a b c work new got rest r desc held aloft is by counts =
    let routed : RestsRouted f.part.dir f.whole b c work new (NotWhole desc) = subst (RestsRouted f.part.dir f.whole b c work new) is by in
    let goes : GoesOn c.counts = subst (FillingCounts c.counts) is counts in
    λ known all.
    let x = aloft known all in
    let y = routed f (known_after known x.0) (left_over left x.0) (blocks_of x.0) (flies-so f held) (x.1.ran.entries all) x.1.underway in
    let on = searched-on f known left n a b c work got rest x.0 y.0 x.1 y.1 in
    let fits = y.2 in (
      x.0 ++ y.0,
      record {
        ran = on.ran;
        covers = on.covers;
        picks = on.picks;
        cause = record {
          idle = idle f (known_after (known_after known x.0) y.0) desc left (x.0 ++ y.0) on.ran.of on.none_failed fits.1
              (subst (λ bs. LeavesRest f (known_after (known_after known x.0) y.0) bs) (sym on.blocks) fits.2);
          unended = on.unended;
          goes_on = goes;
          is_known = subst (IsOneOf desc) (sym (known-append known x.0 y.0)) fits.0;
          apart = fits.1;
        };
        picked = tt;
        unfinished = rest-left f (known_after (known_after known x.0) y.0) (blocks_of x.0) (x.0 ++ y.0) on.blocks fits.2;
      },
    )

-- no try is left after a lost lookup
pub filled-spent :
    (f : Flight) (left : Option ℕ) (n : ℕ) (a b c : Course) (work new : List Task) (got : Gathering) (rest : Option ℕ) (r : Filling) (o : PartOutcome) → GoesOn a.counts → WholeHolds f.whole f.part.items
    → IsAloft f left n a b work got rest → r ≡ Spent → RestsRouted f.part.dir f.whole b c work new r → FillingCounts c.counts r
    → o ≡ Outcome.Exhausted c.counts.refused c.counts.lost → Flown f left a c o
filled-spent f left n a b c work new got rest r o tries held aloft is by counts same =
    let routed : RestsRouted f.part.dir f.whole b c work new Spent = subst (RestsRouted f.part.dir f.whole b c work new) is by in
    let spent : failed_sum c.counts ≡ c.counts.budget = subst (FillingCounts c.counts) is counts in
    subst (Flown f left a c) (sym same) (λ known all.
    let x = aloft known all in
    let y = routed f (known_after known x.0) (left_over left x.0) (blocks_of x.0) (flies-so f held) (x.1.ran.entries all) x.1.underway in
    let on = searched-on f known left n a b c work got rest x.0 y.0 x.1 y.1 in (
      x.0 ++ y.0,
      record {
        ran = on.ran;
        covers = on.covers;
        picks = on.picks;
        picked = tt;
        cause = record {
          none_failed = on.none_failed;
          unended = on.unended;
          spent = spent;
          last = spent-missed a.counts c.counts (x.0 ++ y.0) tries on.ran.counts on.ran.went_on spent;
          refused_is = refl;
          lost_is = refl;
        };
        unfinished = rest-left f (known_after (known_after known x.0) y.0) (blocks_of x.0) (x.0 ++ y.0) on.blocks y.2;
      },
    ))

-- ---- a piece is sent

-- the piece that was sent is a block of the part
next-block :
    (f : Flight) (known : List RangeDesc) (done : List (List Item)) (p q : List ℕ) (work new : List Task) (hs : List Happening)
    → Underway f known done work → (next : SentNext p q work new hs) → StepCovers f.part.items done (Send next.flying.node next.piece next.answer)
next-block f known done p q work new hs u next =
    let t = Routed next.flying in
    let within = slice_get_within work next.at t next.there in
    let same : t ≡ get_or work next.at t = some_same t (get_or work next.at t) (sym next.there ∙ slice_get-get_or work next.at t within) in
    routed-covers f known done work (remove work next.at) next.flying next.flying.node next.piece next.answer u (IsPermutation-remove work next.at t within same) next.items

next-covers :
    (f : Flight) (known : List RangeDesc) (done : List (List Item)) (p q : List ℕ) (work new : List Task) (hs : List Happening)
    → Underway f known done work → SentNext p q work new hs → AllCover f.part.items done hs
next-covers f known done p q work new hs u next =
    cover-one f.part.items done hs next.flying.node next.piece next.answer next.sent (next-block f known done p q work new hs u next)

pub aloft-sent :
    (f : Flight) (left : Option ℕ) (n : ℕ) (a b c : Course) (work new : List Task) (got more : Gathering) (rest less : Option ℕ) (s : Sent)
    → IsAloft f left n a b work got rest → is_used_up rest ≡ false → s ≡ Sending.On → PieceSent f.head b c (load work got rest) (load new more less) s → IsFilled (most_of left) work → waiting work ≤ most_of left
    → IsAloft f left (most_of left) a c new more less
aloft-sent f left n a b c work new got more rest less s aloft room is by filled few =
    let sent : PieceSent f.head b c (load work got rest) (load new more less) Sending.On = subst (PieceSent f.head b c (load work got rest) (load new more less)) is by in
    λ known all.
    let x = aloft known all in
    let y = sent f (known_after known x.0) (blocks_of x.0) refl (x.1.ran.entries all) room x.1.underway in
    let to = y.1.to in (
      x.0 ++ y.0,
      record {
        ran = ran-append f known left a b c x.0 y.0 x.1.ran (subst (λ l. Ran f (known_after known x.0) l b c y.0) x.1.rest_is y.1.ran);
        covers = cover-append f.part.items [] x.0 y.0 x.1.covers (next-covers f (known_after known x.0) (blocks_of x.0) b.wire.ahead c.wire.ahead work new y.0 x.1.underway y.1.next);
        picks = took-then a.wire.ahead b.wire.ahead c.wire.ahead x.0 y.0 x.1.picks (y.1.next.later ∙ ap (picks_after b.wire.ahead) (sym y.1.next.sent));
        none_failed = failures-append x.0 y.0 ∙ quiet-after (failures x.0) (failures y.0) to.0 ∙ x.1.none_failed;
        unended = unended-append x.0 y.0 x.1.unended to.3;
        underway = subst (λ bs. Underway f (known_after known (x.0 ++ y.0)) bs new) (sym (blocks-append x.0 y.0)) (subst (λ ds. Underway f ds (blocks_of x.0 ++ blocks_of y.0) new) (sym (known-append known x.0 y.0)) to.2);
        got_is = y.1.got ∙ ap (λ (g : Gathering). record { wanted = g.wanted; got = g.got ++ arrived y.0 }) x.1.got_is ∙ ap (λ (xs : List Arrival). record { wanted = map wanted f.part.items; got = xs }) (sym (arrived-append x.0 y.0));
        rest_is = y.1.left ∙ ap (λ l. left_over l y.0) x.1.rest_is ∙ sym (over-append left x.0 y.0);
        queue = λ done.
            let so = queue-sent (most_of left) f.part.dir a.wire.ahead b.wire.ahead c.wire.ahead (blocks_of x.0) work new y.0 (x.1.queue (done-first x.0 y.0 done)).0 filled few y.1.next (done-later x.0 y.0 done) in
            (subst (λ bs. Queue (most_of left) f.part.dir a.wire.ahead c.wire.ahead bs new) (sym (blocks-append x.0 y.0)) so.0, so.1);
      },
    )

-- the piece of a send that ended the flight is left
piece-left :
    (f : Flight) (known : List RangeDesc) (p q : List ℕ) (work new : List Task) (xs ys : List Happening) → Underway f known (blocks_of xs) work → SentNext p q work new ys → blocks_of ys ≡ []
    → SomeLeft f (xs ++ ys)
piece-left f known p q work new xs ys u next none =
    let r = next.flying in
    let flies : IsTask f known (Routed r) = each-of (IsTask f known) (Routed r) work u.each (of-get (Routed r) work next.at next.there) in
    let covers = next-block f known (blocks_of xs) p q work new ys u next in
    record {
      block = next.piece.items;
      others = covers.0;
      some = subst (λ is. 0 < length is) (sym next.items) flies.some;
      proper = subst AreProper (sym next.items) flies.of.proper;
      covered = subst (λ bs. Covered f.part.items (bs ++ next.piece.items ∷ covers.0)) (sym (blocks-append xs ys ∙ quiet-after (blocks_of xs) (blocks_of ys) none)) covers.1;
    }

ended-left : (f : Flight) (hs ys : List Happening) (c : Counts) (o : PartOutcome) → EndCause c ys o → SomeLeft f hs → IsUnfinished f hs o
ended-left f hs ys c (Outcome.Done replies rest) cause left = tt
ended-left f hs ys c (Outcome.NotWhole desc) cause left = left
ended-left f hs ys c (Outcome.Failed failure) cause left = left
ended-left f hs ys c (Outcome.Ambiguous lost) cause left = left
ended-left f hs ys c (Outcome.Exhausted refused lost) cause left = left

ended-picked : (f : Flight) (left : Option ℕ) (picks : List ℕ) (hs ys : List Happening) (c : Counts) (o : PartOutcome) → EndCause c ys o → PickedIfDone f left picks hs o
ended-picked f left picks hs ys c (Outcome.Done replies rest) cause = absurd cause
ended-picked f left picks hs ys c (Outcome.NotWhole desc) cause = tt
ended-picked f left picks hs ys c (Outcome.Failed failure) cause = tt
ended-picked f left picks hs ys c (Outcome.Ambiguous lost) cause = tt
ended-picked f left picks hs ys c (Outcome.Exhausted refused lost) cause = tt

pub sent-ended :
    (f : Flight) (left : Option ℕ) (n : ℕ) (a b c : Course) (work new : List Task) (got more : Gathering) (rest less : Option ℕ) (s : Sent) (o : PartOutcome)
    → IsAloft f left n a b work got rest → is_used_up rest ≡ false → s ≡ Sending.Ended o → PieceSent f.head b c (load work got rest) (load new more less) s → Flown f left a c o
sent-ended f left n a b c work new got more rest less s o aloft room is by =
    let sent : PieceSent f.head b c (load work got rest) (load new more less) (Sending.Ended o) = subst (PieceSent f.head b c (load work got rest) (load new more less)) is by in
    λ known all.
    let x = aloft known all in
    let y = sent f (known_after known x.0) (blocks_of x.0) refl (x.1.ran.entries all) room x.1.underway in (
      x.0 ++ y.0,
      record {
        ran = ran-append f known left a b c x.0 y.0 x.1.ran (subst (λ l. Ran f (known_after known x.0) l b c y.0) x.1.rest_is y.1.ran);
        covers = cover-append f.part.items [] x.0 y.0 x.1.covers (next-covers f (known_after known x.0) (blocks_of x.0) b.wire.ahead c.wire.ahead work new y.0 x.1.underway y.1.next);
        picks = took-then a.wire.ahead b.wire.ahead c.wire.ahead x.0 y.0 x.1.picks (y.1.next.later ∙ ap (picks_after b.wire.ahead) (sym y.1.next.sent));
        picked = ended-picked f left a.wire.ahead (x.0 ++ y.0) y.0 c.counts o y.1.to.0;
        cause = end-append f known left c.counts x.0 y.0 o x.1.none_failed x.1.unended y.1.to.0;
        unfinished = ended-left f (x.0 ++ y.0) y.0 c.counts o y.1.to.0 (piece-left f (known_after known x.0) b.wire.ahead c.wire.ahead work new x.0 y.0 x.1.underway y.1.next y.1.to.1);
      },
    )

-- ---- memory was wanting

pub aloft-began :
    (f : Flight) (left : Option ℕ) (n : ℕ) (a b : Course) (work : List Task) (got : Gathering) (rest : Option ℕ) → GoesOn b.counts → IsAloft f left n a b work got rest → Began f left a b
aloft-began f left n a b work got rest goes aloft = λ known all.
    let x = aloft known all in (
      x.0,
      record {
        ran = x.1.ran;
        covers = x.1.covers;
        picks = inl x.1.picks;
        unended = x.1.unended;
        goes_on = goes;
      },
    )

pub began-filled :
    (f : Flight) (left : Option ℕ) (n : ℕ) (a b c : Course) (work : List Task) (got : Gathering) (rest : Option ℕ) → GoesOn c.counts → WholeHolds f.whole f.part.items
    → IsAloft f left n a b work got rest → RestsSought f.part.dir f.whole b c work → Began f left a c
began-filled f left n a b c work got rest goes held aloft sought =
    λ known all.
    let x = aloft known all in
    let y = sought f (known_after known x.0) (left_over left x.0) (blocks_of x.0) (flies-so f held) (x.1.ran.entries all) x.1.underway in
    let on = searched-on f known left n a b c work got rest x.0 y.0 x.1 y.1 in (
      x.0 ++ y.0,
      record {
        ran = on.ran;
        covers = on.covers;
        picks = inl on.picks;
        unended = on.unended;
        goes_on = goes;
      },
    )

-- one pick was used up, and one piece was sent, or none
one-picked : (a b : List ℕ) (hs : List Happening) → IsOneAtMost (sends_of hs) → b ≡ later_picks a → TookPicks a b hs ⊎ TookOneMore a b hs
one-picked a b hs one is = by (sends_of hs) one
  where
    by : (ss : List JournalStep) → IsOneAtMost ss → (b ≡ picks_after a ss) ⊎ (b ≡ later_picks (picks_after a ss))
    by [] one = inr is
    by (s ∷ ss) one = inl (is ∙ ap (picks_after (later_picks a)) (sym one))

pub began-sent :
    (f : Flight) (left : Option ℕ) (n : ℕ) (a b c : Course) (work : List Task) (got : Gathering) (rest : Option ℕ)
    → GoesOn c.counts → IsAloft f left n a b work got rest → is_used_up rest ≡ false → PieceRan f.head b c rest work → c.wire.ahead ≡ later_picks b.wire.ahead → Began f left a c
began-sent f left n a b c work got rest goes aloft room ran ahead =
    λ known all.
    let x = aloft known all in
    let y = ran f (known_after known x.0) (blocks_of x.0) refl (x.1.ran.entries all) room x.1.underway in
    let both = ran-append f known left a b c x.0 y.0 x.1.ran (subst (λ l. Ran f (known_after known x.0) l b c y.0) x.1.rest_is y.1.ran) in (
      x.0 ++ y.0,
      record {
        ran = both;
        covers = cover-append f.part.items [] x.0 y.0 x.1.covers y.1.covers;
        picks = took-or-more a.wire.ahead b.wire.ahead c.wire.ahead x.0 y.0 x.1.picks (one-picked b.wire.ahead c.wire.ahead y.0 y.1.sent ahead);
        unended = unended-append x.0 y.0 x.1.unended y.1.unended;
        goes_on = goes;
      },
    )

-- ---- nothing is left to do

none-left : (work : List Task) → waiting work ≡ 0 → position is_rest work ≡ None → work ≡ []
none-left [] none rest = refl
none-left (Rest c ∷ ts) none rest = rest-first c ts rest
none-left (Routed r ∷ ts) none rest = let more : waiting (Routed r ∷ ts) ≡ 1 + waiting ts = sum_by-cons one_if_routed (Routed r) ts in absurd (omega (arith, more, none))

no-rest : (most : ℕ) (work : List Task) → 0 < most → waiting work ≡ 0 → (most ≤ waiting work) ⊎ (position is_rest work ≡ None) → position is_rest work ≡ None
no-rest most work some none (inl full) = absurd (omega (arith, some, none, full))
no-rest most work some none (inr rest) = rest

-- the picks that the pieces took, once none waits
ends-picked :
    (f : Flight) (left : Option ℕ) (a l : List ℕ) (work : List Task) (hs : List Happening) → (AllDone hs → Queue (most_of left) f.part.dir a l (blocks_of hs) work) → waiting work ≡ 0
    → AllDone hs → Picked f left a hs
ends-picked f left a l work hs queue none done =
    let ends = queue-ends (most_of left) f.part.dir a l (blocks_of hs) work (queue done) none in
    record { blocks = ends.0; turn = ends.1; taken = ends.2 }

flown-whole :
    (f : Flight) (left : Option ℕ) (n : ℕ) (a b : Course) (most : ℕ) (work : List Task) (got : Gathering) (rest : Option ℕ) (replies : List Reply)
    → IsAloft f left n a b work got rest → GoesOn b.counts → is_used_up rest ≡ false → 0 < most → (most ≤ waiting work) ⊎ (position is_rest work ≡ None) → waiting work ≡ 0
    → replies ≡ gathered got.wanted got.got → Flown f left a b (Outcome.Done replies rest)
flown-whole f left n a b most work got rest replies aloft goes used some filled none are =
    λ known all.
    let x = aloft known all in
    let nothing : work ≡ [] = none-left work none (no-rest most work some none filled) in
    let u = subst (Underway f (known_after known x.0) (blocks_of x.0)) nothing x.1.underway in (
      x.0,
      record {
        ran = x.1.ran;
        covers = x.1.covers;
        picks = x.1.picks;
        picked = ends-picked f left a.wire.ahead b.wire.ahead work x.0 (λ done. (x.1.queue done).0) none;
        unfinished = tt;
        cause = record {
          none_failed = x.1.none_failed;
          unended = x.1.unended;
          goes_on = goes;
          left_is = x.1.rest_is;
          with = subst (λ t. DoneWith t f replies x.0) (sym used) (record {
            covered = subst (Covered f.part.items) (append_nil (blocks_of x.0)) u.covered;
            replies_are = are ∙ ap (λ (g : Gathering). gathered g.wanted g.got) x.1.got_is;
          });
        };
      },
    )

-- after a fill nothing is left
pub filled-whole :
    (f : Flight) (left : Option ℕ) (n : ℕ) (a c : Course) (m d : Counts) (work new : List Task) (got : Gathering) (rest : Option ℕ) (r : Filling) (replies : List Reply)
    → IsAloft f left n a c new got rest → r ≡ On → FillingCounts c.counts r → FilledTo (most_of left) m d work new r
    → is_used_up rest ≡ false → waiting new ≡ 0 → replies ≡ gathered got.wanted got.got → Flown f left a c (Outcome.Done replies rest)
filled-whole f left n a c m d work new got rest r replies aloft is counts filled used none are =
    let fills : Fills (most_of left) m d work new = subst (FilledTo (most_of left) m d work new) is filled in
    flown-whole f left n a c (most_of left) new got rest replies aloft (subst (FillingCounts c.counts) is counts) used (most-some left) fills.filled none are

-- ---- what each part of the loop needs

task-ready : (f : Flight) (known : List RangeDesc) (t : Task) → IsTask f known t → IsReady f.part.dir t
task-ready f known (Rest c) is = (is.0.some, is.1)
task-ready f known (Routed r) is = tt

pub aloft-ready : (f : Flight) (left : Option ℕ) (n : ℕ) (a b : Course) (work : List Task) (got : Gathering) (rest : Option ℕ) → IsAloft f left n a b work got rest → Each (IsReady f.part.dir) work
aloft-ready f left n a b work got rest aloft =
    let known = map (λ e. e.1.desc) a.entries in
    let x = aloft known (entries-first a.entries) in
    each-more (IsTask f (known_after known x.0)) (IsReady f.part.dir) work (task-ready f (known_after known x.0)) x.1.underway.each

task-sendable : (f : Flight) (known : List RangeDesc) (t : Task) → IsTask f known t → IsSendable t
task-sendable f known (Rest c) is = tt
task-sendable f known (Routed r) is = record { some = is.some; proper = is.of.proper; spans = is.spans }

pub aloft-sendable : (f : Flight) (left : Option ℕ) (n : ℕ) (a b : Course) (work : List Task) (got : Gathering) (rest : Option ℕ) → IsAloft f left n a b work got rest → Each IsSendable work
aloft-sendable f left n a b work got rest aloft =
    let known = map (λ e. e.1.desc) a.entries in
    let x = aloft known (entries-first a.entries) in
    each-more (IsTask f (known_after known x.0)) IsSendable work (task-sendable f (known_after known x.0)) x.1.underway.each

pub aloft-proper : (f : Flight) (left : Option ℕ) (n : ℕ) (a b : Course) (work : List Task) (got : Gathering) (rest : Option ℕ) → IsAloft f left n a b work got rest → Each (IsProperTask f.part.dir) work
aloft-proper f left n a b work got rest aloft =
    let known = map (λ e. e.1.desc) a.entries in
    let x = aloft known (entries-first a.entries) in
    underway-proper f (known_after known x.0) (blocks_of x.0) work x.1.underway

pub aloft-inside :
    (f : Flight) (left : Option ℕ) (n : ℕ) (a b : Course) (work : List Task) (got : Gathering) (rest : Option ℕ) → PositionsRise f.part.items → IsAloft f left n a b work got rest
    → are_inside f.part.items (gathered got.wanted got.got) ≡ true
aloft-inside f left n a b work got rest rise aloft =
    let x = aloft (map (λ e. e.1.desc) a.entries) (entries-first a.entries) in
    subst (λ (g : Gathering). are_inside f.part.items (gathered g.wanted g.got) ≡ true) (sym x.1.got_is)
    (arrived-inside f left a.wire.world b.wire.world x.0 rise x.1.ran.runs x.1.ran.of)

-- ---- the limit is used up

-- there was a limit
limited : (left : Option ℕ) (rest : Option ℕ) (hs : List Happening) → rest ≡ left_over left hs → is_used_up rest ≡ true → most_of left ≡ 1
limited None rest hs is used = let bad : false ≡ true = sym (ap is_used_up (is ∙ none-over hs)) ∙ used in cc
  where
    none-over : (hs : List Happening) → left_over None hs ≡ None
    none-over [] = refl
    none-over (Moved e ∷ hs) = none-over hs
    none-over (Did s ∷ hs) = none-over hs
limited (Some r) rest hs is used = refl

flown-short :
    (f : Flight) (left : Option ℕ) (a b : Course) (work : List Task) (got : Gathering) (rest : Option ℕ) (o : PartOutcome)
    → IsAloft f left (most_of left) a b work got rest → GoesOn b.counts → is_used_up rest ≡ true
    → o ≡ Outcome.Done (filled f.part.dir (seek_key f.part.dir (joined (map items_of work))) f.part.items (gathered got.wanted got.got)) rest → Flown f left a b o
flown-short f left a b work got rest o aloft goes used is =
    subst (Flown f left a b) (sym is) (λ known all.
    let x = aloft known all in
    let one = limited left rest x.0 x.1.rest_is used in (
      x.0,
      record {
        ran = x.1.ran;
        covers = x.1.covers;
        picks = x.1.picks;
        picked = λ done.
            let q = x.1.queue done in
            let low : waiting work < most_of left = q.1 in
            ends-picked f left a.wire.ahead b.wire.ahead work x.0 (λ d. (x.1.queue d).0) (omega (arith, low, one)) done;
        cause = short-cause f known (known_after known x.0) left rest b.counts x.0 work _ x.1.none_failed x.1.unended goes x.1.rest_is used x.1.underway
            (ap (λ (g : Gathering). filled f.part.dir (seek_key f.part.dir (joined (map items_of work))) f.part.items (gathered g.wanted g.got)) x.1.got_is);
        unfinished = tt;
      },
    ))

pub short-if :
    (f : Flight) (left : Option ℕ) (a b : Course) (work : List Task) (got : Gathering) (rest : Option ℕ) (r : Result PartOutcome AllocError)
    → IsAloft f left (most_of left) a b work got rest → GoesOn b.counts → is_used_up rest ≡ true
    → IfOk r (λ o. o ≡ Outcome.Done (filled f.part.dir (seek_key f.part.dir (joined (map items_of work))) f.part.items (gathered got.wanted got.got)) rest) → IfOk r (Flown f left a b)
short-if f left a b work got rest (Ok o) aloft goes used is = flown-short f left a b work got rest o aloft goes used is
short-if f left a b work got rest (Err e) aloft goes used is = tt

-- ---- what holds at the next round

pub sent-goes :
    (f : Flight) (left : Option ℕ) (n : ℕ) (a b c : Course) (work new : List Task) (got more : Gathering) (rest less : Option ℕ) (s : Sent)
    → IsAloft f left n a b work got rest → is_used_up rest ≡ false → s ≡ Sending.On → PieceSent f.head b c (load work got rest) (load new more less) s → GoesOn c.counts
sent-goes f left n a b c work new got more rest less s aloft room is by =
    let sent : PieceSent f.head b c (load work got rest) (load new more less) Sending.On = subst (PieceSent f.head b c (load work got rest) (load new more less)) is by in
    let x = aloft (map (λ e. e.1.desc) a.entries) (entries-first a.entries) in
    let y = sent f (known_after (map (λ e. e.1.desc) a.entries) x.0) (blocks_of x.0) refl (x.1.ran.entries (entries-first a.entries)) room x.1.underway in
    y.1.to.1

pub filled-few : (most : ℕ) (c d : Counts) (work new : List Task) (r : Filling) → r ≡ On → FilledTo most c d work new r → waiting work ≤ most → waiting new ≤ most
filled-few most c d work new r is filled few =
    let fills : Fills most c d work new = subst (FilledTo most c d work new) is filled in
    fills.few few

pub filled-full : (most : ℕ) (c d : Counts) (work new : List Task) (r : Filling) → r ≡ On → FilledTo most c d work new r → IsFilled most new
filled-full most c d work new r is filled =
    let fills : Fills most c d work new = subst (FilledTo most c d work new) is filled in
    fills.filled

pub few-first : (most : ℕ) (c : Part) (work : List Task) → work ≡ Rest c ∷ [] → waiting work ≤ most
few-first most c work is = let none : waiting work ≡ 0 = ap waiting is in omega (arith, none)
