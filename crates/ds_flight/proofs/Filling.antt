-- Rests are routed, one after another.
use Rattle.std.proofs.Common.{◌≡◌, ℕ, ◌<◌, true, false, List, [], ◌∷◌, ◌++◌, length, Option, Some, None, refl, sym, ap, ◌∙◌, subst, arith}
use Rattle.std.proofs.lemmas.List.Sorted.{IsPermutation-insert}
use Rattle.std.specs.List.{insert}
use Rattle.ds_base.specs.Order.{Extent}
use Rattle.ds_base.specs.declared.value.Dir.{Dir}
use Rattle.ds_base.specs.declared.value.Dir.TheVariants.{Forward, Reverse}
use Rattle.ds_desc.specs.Contains.{contains}
use Rattle.ds_desc.specs.declared.desc.Info.{Info}
use Rattle.ds_desc.specs.declared.desc.RangeDesc.{RangeDesc}
use Rattle.ds_kind.specs.declared.batch.Head.{Head}
use Rattle.ds_kind.specs.declared.batch.Item.{Item}
use Rattle.ds_kind.specs.declared.batch.Part.{Part}
use Rattle.ds_kind.specs.declared.batch.Piece.{Piece}
use Rattle.ds_cover.specs.Cuts.{cut_items, seek_key}
use Rattle.ds_cover.specs.Measures.{AllSpans, IsSpan}
use Rattle.ds_cut.specs.Pieces.{ContainsSeek}
use Rattle.ds_rule.specs.Journal.{Happening}
use Rattle.ds_retry.specs.Counted.{Counts, one_lost}
use Rattle.ds_flight.specs.Causes.{GoesOn, LiesApart}
use Rattle.ds_flight.specs.Fills.{FillingCounts, FillingFits, RestsRouted}
use Rattle.ds_flight.specs.Flights.{Flight, AllAtOnce}
use Rattle.ds_flight.specs.Goes.{known_after, InOne}
use Rattle.ds_flight.specs.Left.{blocks_of, arrived, failures, left_over}
use Rattle.ds_flight.specs.Picks.{sends_of}
use Rattle.ds_flight.specs.Places.{lies_in_one, CutAt}
use Rattle.ds_flight.specs.Queues.{IsCutAt}
use Rattle.ds_flight.specs.Ran.{Course, Ran}
use Rattle.ds_flight.specs.Routes.{RouteContains, RouteCounts, RouteFound, RouteSought}
use Rattle.ds_flight.specs.Searches.{Quiet, Searched}
use Rattle.ds_flight.specs.Works.{Underway}
use Rattle.ds_flight.specs.declared.fill.Filling.{Filling}
use Rattle.ds_flight.specs.declared.fill.Filling.TheVariants.{On, NotWhole, Spent}
use Rattle.ds_flight.specs.declared.route.Routing.{Routing}
use Rattle.ds_flight.specs.declared.route.Routing.TheVariants as Route
use Rattle.ds_flight.specs.declared.work.Task.{Task}
use Rattle.ds_flight.specs.declared.work.Task.TheVariants.{Rest}
use Rattle.ds_flight.proofs.Cutting.{piece-items}
use Rattle.ds_flight.proofs.Joins.{arrived-append, blocks-append, failures-append, known-append, over-append, ran-append, sends-append}
use Rattle.ds_flight.proofs.Placing.{underway-cut-at}
use Rattle.ds_flight.proofs.Working.{underway-later, underway-permuted}

-- ---- one search after another

quiet-append : (xs ys : List Happening) → Quiet xs → Quiet ys → Quiet (xs ++ ys)
quiet-append xs ys x y = record {
  sends = sends-append xs ys ∙ ap (λ ss. ss ++ sends_of ys) x.sends ∙ y.sends;
  blocks = blocks-append xs ys ∙ ap (λ bs. bs ++ blocks_of ys) x.blocks ∙ y.blocks;
  arrived_none = arrived-append xs ys ∙ ap (λ bs. bs ++ arrived ys) x.arrived_none ∙ y.arrived_none;
  none_failed = failures-append xs ys ∙ ap (λ bs. bs ++ failures ys) x.none_failed ∙ y.none_failed;
  left = λ l. over-append l xs ys ∙ y.left (left_over l xs) ∙ x.left l;
}

pub searched-append :
    (f : Flight) (known : List RangeDesc) (left : Option ℕ) (a b c : Course) (xs ys : List Happening)
    → Searched f known left a b xs → Searched f (known_after known xs) left b c ys → Searched f known left a c (xs ++ ys)
searched-append f known left a b c xs ys x y = record {
  ran = ran-append f known left a b c xs ys x.ran (subst (λ l. Ran f (known_after known xs) l b c ys) (sym (x.quiet.left left)) y.ran);
  quiet = quiet-append xs ys x.quiet y.quiet;
  ahead = y.ahead ∙ x.ahead;
}

-- rests are routed after others
pub rests-then :
    (d : Dir) (whole : Option Extent) (a b c : Course) (old mid new : List Task) (r : Filling)
    → RestsRouted d whole a b old mid On → RestsRouted d whole b c mid new r → RestsRouted d whole a c old new r
rests-then d whole a b c old mid new r x y =
    λ f known left done flies all u.
    let one = x f known left done flies all u in
    let two = y f (known_after known one.0) left done flies (one.1.ran.entries all) one.2 in (
      one.0 ++ two.0,
      searched-append f known left a b c one.0 two.0 one.1 two.1,
      subst (λ ds. FillingFits f ds done new r) (sym (known-append known one.0 two.0)) two.2,
    )

-- ---- one rest

in-one : (o : Option Extent) (span : Extent) → lies_in_one o span ≡ true → InOne o span
in-one None span h = tt
in-one (Some w) span h = h

pub seeks : (d : Dir) (items : List Item) → 0 < length items → (s : List ℕ) × (seek_key d items ≡ Some s)
seeks d [] some = absurd (omega (arith, some))
seeks Forward (i ∷ is) some = (_, refl)
seeks Reverse (i ∷ is) some = (_, refl)

lies-apart :
    (f : Flight) (o : Option Extent) (desc : RangeDesc) (items : List Item) → AllAtOnce o f.part.items items → 0 < length items
    → ((s : List ℕ) → seek_key f.part.dir items ≡ Some s → contains f.part.dir s desc.span ≡ true) → lies_in_one o desc.span ≡ false → LiesApart f o desc
lies-apart f None desc items all some seek h = let bad : true ≡ false = h in cc
lies-apart f (Some w) desc items all some seek h =
    let s = seeks f.part.dir items some in
    (h, (s.0, subst (λ is. seek_key f.part.dir is ≡ Some s.0) all s.1, seek s.0 s.1))

-- its route holds not all that must lie in one range
pub rest-not-whole :
    (d : Dir) (whole : Option Extent) (a b : Course) (c : Part) (i : Info) (t : ℕ) (s : Routing) (old new : List Task)
    → s ≡ Route.Found i t → RouteFound d a b s → RouteContains d c.items s → lies_in_one whole i.desc.span ≡ false
    → RestsRouted d whole a b (Rest c ∷ old) new (NotWhole i.desc)
rest-not-whole d whole a b c i t s old new is found contained h =
    λ f known left done flies all u.
    let went = (subst (RouteFound d a b) is found) f known left flies.dir all in
    let seek = subst (RouteContains d c.items) is contained in (
      went.0,
      went.1,
      (
        went.2,
        lies-apart f f.whole i.desc c.items u.each.0.0.of.all u.each.0.0.some
            (subst (λ e. (s : List ℕ) → seek_key e c.items ≡ Some s → contains e s i.desc.span ≡ true) flies.dir seek)
            (subst (λ o. lies_in_one o i.desc.span ≡ false) flies.whole_is h),
        record { rest = c; work = old; underway = underway-later f known done (Rest c ∷ old) went.0 u },
      ),
    )

-- it is cut at its route
pub rest-cut :
    (d : Dir) (whole : Option Extent) (a b : Course) (c : Part) (head : Head) (i : Info) (t at : ℕ) (s : Routing) (old new : List Task)
    → s ≡ Route.Found i t → RouteFound d a b s → ContainsSeek i.desc c → lies_in_one whole i.desc.span ≡ true → IsSpan i.desc.span → AllSpans c.items
    → CutAt head i c t at old new → RestsRouted d whole a b (Rest c ∷ old) new On
rest-cut d whole a b c head i t at s old new is found seek h span spans cut =
    λ f known left done flies all u.
    let went = (subst (RouteFound d a b) is found) f known left flies.dir all in (
      went.0,
      went.1,
      underway-cut-at f (known_after known went.0) done head i c t at old new flies.holds
          (record { is_known = went.2; seek = seek; one = in-one f.whole i.desc.span (subst (λ o. lies_in_one o i.desc.span ≡ true) flies.whole_is h); span = span })
          spans cut (underway-later f known done (Rest c ∷ old) went.0 u),
    )

-- its lookup was lost, and it stands in its place again
pub rest-again :
    (d : Dir) (whole : Option Extent) (a b : Course) (c : Part) (at : ℕ) (s : Routing) (old new : List Task)
    → s ≡ Route.Again → RouteFound d a b s → new ≡ insert old at (Rest c) → RestsRouted d whole a b (Rest c ∷ old) new On
rest-again d whole a b c at s old new is found same =
    λ f known left done flies all u.
    let went = (subst (RouteFound d a b) is found) f known left flies.dir all in (
      went.0,
      went.1,
      subst (Underway f (known_after known went.0) done) (sym same)
          (underway-permuted f (known_after known went.0) done (Rest c ∷ old) (insert old at (Rest c)) (IsPermutation-insert old at (Rest c))
          (underway-later f known done (Rest c ∷ old) went.0 u)),
    )

-- its lookup was lost, and no try is left
pub rest-spent : (d : Dir) (whole : Option Extent) (a b : Course) (c : Part) (s : Routing) (old new : List Task) → s ≡ Route.Spent → RouteFound d a b s → RestsRouted d whole a b (Rest c ∷ old) new Spent
rest-spent d whole a b c s old new is found =
    λ f known left done flies all u.
    let went = (subst (RouteFound d a b) is found) f known left flies.dir all in
    (went.0, went.1, record { rest = c; work = old; underway = underway-later f known done (Rest c ∷ old) went.0 u })

pub found-sought : (d : Dir) (a b : Course) (r : Routing) → RouteFound d a b r → RouteSought d a b
found-sought d a b r found = λ f known left dir all. let went = found f known left dir all in (went.0, went.1)

-- a route that is found contains the key at which the rest is sought
pub contains-seek : (d : Dir) (c : Part) (i : Info) (t : ℕ) (s : Routing) → s ≡ Route.Found i t → c.dir ≡ d → RouteContains d c.items s → ContainsSeek i.desc c
contains-seek d c i t s is dir contained =
    subst (λ e. (k : List ℕ) → seek_key e c.items ≡ Some k → contains e k i.desc.span ≡ true) (sym dir) (subst (RouteContains d c.items) is contained)

-- ---- the counts

pub found-counts : (m n : Counts) (i : Info) (t : ℕ) (s : Routing) → s ≡ Route.Found i t → RouteCounts m n s → n ≡ m
found-counts m n i t s is counts = subst (RouteCounts m n) is counts

pub found-goes : (m n : Counts) (i : Info) (t : ℕ) (s : Routing) → s ≡ Route.Found i t → RouteCounts m n s → GoesOn m → GoesOn n
found-goes m n i t s is counts on = subst GoesOn (sym (found-counts m n i t s is counts)) on

pub again-counts : (m n : Counts) (s : Routing) → s ≡ Route.Again → RouteCounts m n s → (n ≡ one_lost false m) × GoesOn n
again-counts m n s is counts = subst (RouteCounts m n) is counts

pub spent-counts : (m n : Counts) (s : Routing) → s ≡ Route.Spent → RouteCounts m n s → FillingCounts n Spent
spent-counts m n s is counts = (subst (RouteCounts m n) is counts).1

-- ---- where the rest stood

pub placed-cut :
    (head : Head) (i : Info) (c : Part) (t at : ℕ) (old new : List Task) → ContainsSeek i.desc c → IsSpan i.desc.span → AllSpans c.items → CutAt head i c t at old new → IsCutAt c at old new
placed-cut head i c t at old new seek span spans cut = record {
  desc = i.desc;
  flying = cut.flying;
  items = ap (λ (p : Piece). p.items) (piece-items head i.desc.id c.dir (cut_items i.desc.span c.items) cut.flying.piece cut.taken.piece);
  seek = seek;
  span = span;
  spans = spans;
  work = cut.work;
}
