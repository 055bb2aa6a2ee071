-- How a flight ends: after a send, and where the limit is used up.
use Rattle.std.proofs.Common.{◌≡◌, ℕ, Bool, true, false, cond, List, [], ◌∷◌, ◌++◌, map, reverse, Option, Some, None, inl, inr, refl, sym, ap, ◌∙◌, subst}
use Rattle.std.proofs.lemmas.Bool.{eqb-true}
use Rattle.std.specs.Option.{option_or}
use Rattle.ds_base.specs.Order.{Extent, key_lt}
use Rattle.ds_base.proofs.ListFacts.{last_first}
use Rattle.ds_base.proofs.OrderedFacts.{le_trans}
use Rattle.ds_base.proofs.SmallFacts.{and_both}
use Rattle.ds_desc.specs.declared.desc.RangeDesc.{RangeDesc}
use Rattle.ds_kind.specs.Bodies.{in_order, put_in_order, stands_at, those_at}
use Rattle.ds_kind.specs.Filled.{filled}
use Rattle.ds_kind.specs.Left.{is_used_up, left_after}
use Rattle.ds_kind.specs.Request.{span_of}
use Rattle.ds_kind.specs.declared.batch.Item.{Item}
use Rattle.ds_kind.specs.declared.reply.Failure.{Failure}
use Rattle.ds_kind.specs.declared.reply.Reply.{Reply}
use Rattle.ds_cover.specs.Cuts.{seek_key}
use Rattle.ds_cover.specs.Items.{IsOneOf, PositionsRise}
use Rattle.ds_cover.specs.Laws.{joined}
use Rattle.ds_cover.specs.Origins.{IsCut, LiesIn}
use Rattle.ds_cover.proofs.Tracing.{cut-at-position}
use Rattle.ds_gather.specs.Gathered.{arrivals, gathered, in_direction, pos_of, reply_of, resume_at, start_of, wanted}
use Rattle.ds_gather.specs.Gathered as Gathered
use Rattle.ds_gather.specs.declared.arrival.Arrival.{Arrival}
use Rattle.ds_limit.specs.Rests.{are_inside, is_inside}
use Rattle.ds_retry.specs.Counted.{Counts}
use Rattle.ds_retry.specs.declared.outcome.PartOutcome.{PartOutcome}
use Rattle.ds_retry.specs.declared.outcome.PartOutcome.TheVariants as Outcome
use Rattle.ds_rule.specs.declared.answer.Answer.TheVariants.{Done, Failed, Refused, Lost}
use Rattle.ds_rule.specs.declared.journal.JournalStep.TheVariants.{Look, Send}
use Rattle.ds_rule.specs.Journal.{Happening, Moved, Did, Runs}
use Rattle.ds_rule.specs.Pieces.{Each}
use Rattle.ds_rule.specs.World.{World}
use Rattle.ds_rule.proofs.Eachs.{each-append}
use Rattle.ds_rule.proofs.Passing.{told}
use Rattle.ds_rule.proofs.Resumes.{done_in, AllLeftIn, LeftIn}
use Rattle.ds_flight.specs.Causes.{all_gathered, CutShort, DoneWith, GoesOn, PartCause}
use Rattle.ds_flight.specs.Ends.{NoneEnds}
use Rattle.ds_flight.specs.Flights.{Flight, AllOfPart}
use Rattle.ds_flight.specs.Left.{arrived, blocks_of, failures, left_over, replies_by}
use Rattle.ds_flight.specs.Sends.{EndCause, IsProperTask}
use Rattle.ds_flight.specs.Works.{items_of, IsTask, Underway}
use Rattle.ds_flight.specs.declared.work.Task.{Task}
use Rattle.ds_flight.specs.declared.work.Task.TheVariants.{Rest, Routed}
use Rattle.ds_flight.proofs.Joins.{failures-append, last-append, missed-append, unended-append}
use Rattle.ds_flight.proofs.Working.{each-more}

-- ---- a send ended it

failures-more : (xs ys : List Happening) (x : List Failure) → failures xs ≡ [] → failures ys ≡ x → failures (xs ++ ys) ≡ x
failures-more xs ys x none last = failures-append xs ys ∙ ap (λ zs. zs ++ failures ys) none ∙ last

-- why the last send ended it is why all ended so
pub end-append :
    (f : Flight) (known : List RangeDesc) (left : Option ℕ) (c : Counts) (xs ys : List Happening) (o : PartOutcome)
    → failures xs ≡ [] → NoneEnds xs → EndCause c ys o → PartCause f known left c (xs ++ ys) o
end-append f known left c xs ys (Outcome.Done replies rest) none unended cause = absurd cause
end-append f known left c xs ys (Outcome.NotWhole desc) none unended cause = absurd cause
end-append f known left c xs ys (Outcome.Failed failure) none unended cause = record {
  failed = failures-more xs ys _ none cause.failed;
  goes_on = cause.goes_on;
  piece = cause.piece;
  last = last-append _ _ xs ys unended cause.last;
}
end-append f known left c xs ys (Outcome.Ambiguous lost) none unended cause = record {
  none_failed = failures-more xs ys [] none cause.none_failed;
  fits = cause.fits;
  lost_is = cause.lost_is;
  at_risk = record {
    piece = cause.at_risk.piece;
    risky = cause.at_risk.risky;
    alone = cause.at_risk.alone;
    last = last-append _ _ xs ys unended cause.at_risk.last;
  };
}
end-append f known left c xs ys (Outcome.Exhausted refused lost) none unended cause = record {
  none_failed = failures-more xs ys [] none cause.none_failed;
  unended = unended-append xs ys unended cause.unended;
  spent = cause.spent;
  last = missed-append xs ys cause.last;
  refused_is = cause.refused_is;
  lost_is = cause.lost_is;
}

-- ---- the limit is used up

task-proper : (f : Flight) (known : List RangeDesc) (t : Task) → IsTask f known t → IsProperTask f.part.dir t
task-proper f known (Rest c) is = record { proper = is.0.of.proper; dir = is.1 }
task-proper f known (Routed r) is = record { proper = is.of.proper; dir = is.dir }

pub underway-proper : (f : Flight) (known : List RangeDesc) (done : List (List Item)) (work : List Task) → Underway f known done work → Each (IsProperTask f.part.dir) work
underway-proper f known done work u = each-more (IsTask f known) (IsProperTask f.part.dir) work (task-proper f known) u.each

-- what is left is as the used up limit leaves it
pub short-cause :
    (f : Flight) (known later : List RangeDesc) (left rest : Option ℕ) (c : Counts) (hs : List Happening) (work : List Task) (replies : List Reply)
    → failures hs ≡ [] → NoneEnds hs → GoesOn c → rest ≡ left_over left hs → is_used_up rest ≡ true → Underway f later (blocks_of hs) work
    → replies ≡ filled f.part.dir (seek_key f.part.dir (joined (map items_of work))) f.part.items (all_gathered f hs)
    → PartCause f known left c hs (Outcome.Done replies rest)
short-cause f known later left rest c hs work replies none unended on leaves used u are = record {
  none_failed = none;
  unended = unended;
  goes_on = on;
  left_is = leaves;
  with = let short : CutShort f replies hs = record { rest = map items_of work; covered = u.covered; replies_are = are } in subst (λ t. DoneWith t f replies hs) (sym used) short;
}

-- ---- what is left of an item, as it came, lies in the item's span

-- of each item at its position, if there is one
abbrev ArrivedIn : List Item → Arrival → Type 0
ArrivedIn items a = (i : Item) → IsOneOf i items → i.pos ≡ a.pos → LeftIn (span_of i.request) a.reply.resume

lies-wider : (x y : Extent) (o : Option Extent) → LiesIn x y → LeftIn x o → LeftIn y o
lies-wider x y None wide left = tt
lies-wider x y (Some r) wide left = (le_trans y.start x.start r.start wide.0 left.0, le_trans r.end x.end y.end left.1 wide.1)

arrived-of :
    (items block : List Item) (rs : List Reply) → ((c : Item) → IsOneOf c block → (i : Item) → IsOneOf i items → i.pos ≡ c.pos → IsCut i c) → AllLeftIn block rs
    → Each (ArrivedIn items) (arrivals block rs)
arrived-of items [] [] cuts all = tt
arrived-of items [] (r ∷ rs) cuts all = absurd all
arrived-of items (c ∷ cs) [] cuts all = absurd all
arrived-of items (c ∷ cs) (r ∷ rs) cuts all = (
  λ i own same. lies-wider (span_of c.request) (span_of i.request) r.resume (cuts c (inl refl) i own same).inside all.0,
  arrived-of items cs rs (λ d there. cuts d (inr there)) all.1,
)

all-arrived : (f : Flight) (left : Option ℕ) (w v : World) (hs : List Happening) → PositionsRise f.part.items → Runs w hs v → AllOfPart f left hs → Each (ArrivedIn f.part.items) (arrived hs)
all-arrived f left w v [] rise runs of = tt
all-arrived f left w v (Moved e ∷ hs) rise runs of = all-arrived f left runs.0 v hs rise runs.2 of
all-arrived f left w v (Did (Look k d l) ∷ hs) rise runs of = all-arrived f (left_after left (replies_by (Look k d l))) runs.0 v hs rise runs.2 of.1
all-arrived f left w v (Did (Send n p (Done rs)) ∷ hs) rise runs of =
    let t = told w (Send n p (Done rs)) runs.0 runs.1 in
    each-append (ArrivedIn f.part.items) (arrivals p.items rs) (arrived hs)
    (arrived-of f.part.items p.items rs (λ c there i own same. cut-at-position f.part.items p.items rise of.0.of.cuts c there i own same) (done_in w n p rs t.0))
    (all-arrived f (left_after left (replies_by (Send n p (Done rs)))) runs.0 v hs rise runs.2 of.1)
all-arrived f left w v (Did (Send n p (Failed e)) ∷ hs) rise runs of = all-arrived f (left_after left (replies_by (Send n p (Failed e)))) runs.0 v hs rise runs.2 of.1
all-arrived f left w v (Did (Send n p (Refused x)) ∷ hs) rise runs of = all-arrived f (left_after left (replies_by (Send n p (Refused x)))) runs.0 v hs rise runs.2 of.1
all-arrived f left w v (Did (Send n p Lost) ∷ hs) rise runs of = all-arrived f (left_after left (replies_by (Send n p Lost))) runs.0 v hs rise runs.2 of.1

-- gathered

abbrev InSpan : Extent → Arrival → Type 0
InSpan e a = LeftIn e a.reply.resume

those-in : (items : List Item) (i : Item) → IsOneOf i items → (got : List Arrival) → Each (ArrivedIn items) got → Each (InSpan (span_of i.request)) (those_at pos_of i.pos got)
those-in items i own [] all = tt
those-in items i own (a ∷ got) all =
    elim (stands_at pos_of i.pos a) as (λ t. stands_at pos_of i.pos a ≡ t → Each (InSpan (span_of i.request)) (cond t (a ∷ those_at pos_of i.pos got) (those_at pos_of i.pos got))) [
      | true ↦ λ h. (all.0 i own (sym (eqb-true a.pos i.pos h)), those-in items i own got all.1)
      | false ↦ λ h. those-in items i own got all.1
    ] refl

put-each : {X : Type 0} (P : X → Type 0) (key : X → List ℕ) (x : X) (xs : List X) → P x → Each P xs → Each P (put_in_order key x xs)
put-each P key x [] p all = (p, tt)
put-each P key x (y ∷ ys) p all =
    elim (key_lt (key y) (key x)) as (λ t. Each P (cond t (y ∷ put_in_order key x ys) (x ∷ y ∷ ys))) [
      | true ↦ (all.0, put-each P key x ys p all.1)
      | false ↦ (p, all)
    ]

order-each : {X : Type 0} (P : X → Type 0) (key : X → List ℕ) (xs : List X) → Each P xs → Each P (in_order key xs)
order-each P key [] all = tt
order-each P key (x ∷ xs) all = put-each P key x (in_order key xs) all.0 (order-each P key xs all.1)

reverse-each : {X : Type 0} (P : X → Type 0) (xs : List X) → Each P xs → Each P (reverse xs)
reverse-each P [] all = tt
reverse-each P (x ∷ xs) all = subst (Each P) (sym (last_first x xs)) (each-append P (reverse xs) (x ∷ []) (reverse-each P xs all.1) (all.0, tt))

direction-each : (P : Arrival → Type 0) (down : Bool) (xs : List Arrival) → Each P xs → Each P (in_direction down xs)
direction-each P true xs all = reverse-each P xs all
direction-each P false xs all = all

first-in : (e : Extent) (xs : List Arrival) → Each (InSpan e) xs → LeftIn e (resume_at xs)
first-in e [] all = tt
first-in e (a ∷ xs) all =
    elim a.reply.resume as (λ o. LeftIn e o → LeftIn e (option_or o (resume_at xs))) [
      | None ↦ λ left. first-in e xs all.1
      | Some r ↦ λ left. left
    ] all.0

left-inside : (e : Extent) (o : Option Extent) → LeftIn e o → is_inside e o ≡ true
left-inside e None left = refl
left-inside e (Some r) left = and_both _ _ left.0 left.1

gathered-inside : (items is : List Item) (got : List Arrival) → ((i : Item) → IsOneOf i is → IsOneOf i items) → Each (ArrivedIn items) got → are_inside is (gathered (map wanted is) got) ≡ true
gathered-inside items [] got own all = refl
gathered-inside items (i ∷ is) got own all =
    let down = (wanted i).down in
    let mine = those-in items i (own i (inl refl)) got all in
    let left = first-in (span_of i.request) (Gathered.arrived (wanted i) got)
    (direction-each (InSpan (span_of i.request)) down (in_order start_of (those_at pos_of i.pos got)) (order-each (InSpan (span_of i.request)) start_of (those_at pos_of i.pos got) mine)) in
    and_both _ _ (left-inside (span_of i.request) (reply_of got (wanted i)).resume left) (gathered-inside items is got (λ j there. own j (inr there)) all)

-- each resume span of a part's replies lies in its item's span
pub arrived-inside :
    (f : Flight) (left : Option ℕ) (w v : World) (hs : List Happening) → PositionsRise f.part.items → Runs w hs v → AllOfPart f left hs → are_inside f.part.items (all_gathered f hs) ≡ true
arrived-inside f left w v hs rise runs of = gathered-inside f.part.items f.part.items (arrived hs) (λ i there. there) (all-arrived f left w v hs rise runs of)
