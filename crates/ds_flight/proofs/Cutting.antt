-- A rest cut at the route of its first key.
use Rattle.std.proofs.Common.{◌≡◌, ℕ, ◌<◌, true, false, cond, List, [], ◌∷◌, ◌++◌, map, length, Option, Some, None, refl, sym, ap, ◌∙◌, subst, append_assoc, arith}
use Rattle.ds_base.proofs.KeyFacts.{max_first, min_first}
use Rattle.ds_base.proofs.OrderedFacts.{le_trans}
use Rattle.ds_base.proofs.SmallFacts.{and_both, and_first, and_second, none_some, some_same}
use Rattle.ds_base.specs.Order.{Extent, key_le, key_lt, holds, after}
use Rattle.ds_base.specs.declared.value.Dir.{Dir}
use Rattle.ds_base.specs.declared.value.Dir.TheVariants.{Forward, Reverse}
use Rattle.ds_desc.specs.declared.desc.RangeDesc.{RangeDesc}
use Rattle.ds_kind.proofs.RequestFacts.{reach_cut}
use Rattle.ds_kind.specs.CutReach.{cut_reach}
use Rattle.ds_kind.specs.Reach.{Reach, At, Over, extent_of}
use Rattle.ds_kind.specs.Request.{cut_to, reach_of, span_of}
use Rattle.ds_kind.specs.declared.batch.Head.{Head}
use Rattle.ds_kind.specs.declared.batch.Item.{Item}
use Rattle.ds_kind.specs.declared.batch.Part.{Part}
use Rattle.ds_kind.specs.declared.batch.Piece.{Piece}
use Rattle.ds_kind.specs.declared.request.Request.{Request}
use Rattle.ds_cover.proofs.Cutting.{cut-near, near-covered, point-kept, within-keeps}
use Rattle.ds_cover.proofs.Lessening.{cut_items-spans}
use Rattle.ds_cover.proofs.Measuring.{keeps-left}
use Rattle.ds_cover.proofs.Moving.{drops-empty}
use Rattle.ds_cover.proofs.Proper.{cuts-proper, rest-proper}
use Rattle.ds_cover.proofs.Tracing.{stay-cuts}
use Rattle.ds_cover.specs.Coverage.{Covered}
use Rattle.ds_cover.specs.Cuts.{cut_items, rest_items, within, AllNear}
use Rattle.ds_cover.specs.Items.{AreProper}
use Rattle.ds_cover.specs.Measures.{left_in, AllSpans, IsSpan}
use Rattle.ds_cut.proofs.Whole.{all-cut, below_is_within, none-left}
use Rattle.ds_cut.specs.Pieces.{cut_piece, rest_part, piece_with, ContainsSeek}
use Rattle.ds_cut.specs.Within.{none_past}
use Rattle.ds_lease.specs.Turns.{is_among}
use Rattle.ds_rule.specs.Path.{holds_span}
use Rattle.ds_rule.specs.Pieces.{IsOneOf}
use Rattle.ds_flight.specs.Flights.{Flight, AreOfPart, AllAtOnce}
use Rattle.ds_flight.specs.Goes.{HoldsAll, InOne, WholeHolds}
use Rattle.ds_flight.specs.Works.{items_of, IsFlying, IsRest, IsTask, Underway, work_left}
use Rattle.ds_flight.specs.declared.work.Flying.{Flying}
use Rattle.ds_flight.specs.declared.work.Task.{Task}
use Rattle.ds_flight.specs.declared.work.Task.TheVariants.{Rest, Routed}

-- ---- what is cut to a span lies in it

point-in : (span : Extent) (k : List ℕ) → key_lt (within span (extent_of (At k))).start (within span (extent_of (At k))).end ≡ true → holds_span span (extent_of (At k)) ≡ true
point-in span k some =
    let kept : holds span.start span.end k ≡ true = point-kept (within span (extent_of (At k))) (holds span.start span.end) k (within-keeps span (extent_of (At k))) some in
    and_both (key_le span.start k) (key_le (after k) span.end) (and_first (key_le span.start k) (key_lt k span.end) kept)
    (sym (below_is_within k span.end) ∙ and_second (key_le span.start k) (key_lt k span.end) kept)

reach-in : (span : Extent) (reach : Reach) → key_lt (within span (extent_of reach)).start (within span (extent_of reach)).end ≡ true
    → holds_span span (extent_of (cut_reach (within span (extent_of reach)).start (within span (extent_of reach)).end reach)) ≡ true
reach-in span (At k) some = point-in span k some
reach-in span (Over s e) some = and_both _ _ (max_first span.start s) (min_first span.end e)

request-in : (span : Extent) (r : Request) → key_lt (within span (span_of r)).start (within span (span_of r)).end ≡ true
    → holds_span span (span_of (cut_to (within span (span_of r)).start (within span (span_of r)).end r)) ≡ true
request-in span r some =
    subst (λ reach. holds_span span (extent_of reach) ≡ true) (sym (reach_cut (within span (span_of r)).start (within span (span_of r)).end r)) (reach-in span (reach_of r) some)

pub cut-held : (span : Extent) (items : List Item) → HoldsAll span (cut_items span items)
cut-held span [] = refl
cut-held span (i ∷ is) =
    let x = span_of i.request in
    let one = record i { request = cut_to (within span x).start (within span x).end i.request } in
    elim (key_lt (within span x).start (within span x).end) as (λ t. key_lt (within span x).start (within span x).end ≡ t → HoldsAll span (cond t (one ∷ []) [] ++ cut_items span is)) [
      | true ↦ λ e. and_both _ _ (request-in span i.request e) (cut-held span is)
      | false ↦ λ e. cut-held span is
    ] refl

-- ---- where a span must lie in one range, all is cut at once

holds-through : (a b : Extent) (items : List Item) → holds_span a b ≡ true → HoldsAll b items → HoldsAll a items
holds-through a b [] h all = refl
holds-through a b (i ∷ is) h all =
    let x = span_of i.request in
    let one = and_first (holds_span b x) _ all in
    and_both _ _
    (and_both _ _
    (le_trans a.start b.start x.start (and_first (key_le a.start b.start) _ h) (and_first (key_le b.start x.start) _ one))
    (le_trans x.end b.end a.end (and_second (key_le b.start x.start) _ one) (and_second (key_le a.start b.start) _ h)))
    (holds-through a b is h (and_second (holds_span b x) _ all))

held-within : (d : Dir) (span : Extent) (items : List Item) → HoldsAll span items → none_past d span items ≡ true
held-within d span [] all = refl
held-within Forward span (i ∷ is) all =
    let one = and_first (holds_span span (span_of i.request)) _ all in
    and_both _ _ (and_second (key_le span.start (span_of i.request).start) _ one) (held-within Forward span is (and_second (holds_span span (span_of i.request)) _ all))
held-within Reverse span (i ∷ is) all =
    let one = and_first (holds_span span (span_of i.request)) _ all in
    and_both _ _ (and_first (key_le span.start (span_of i.request).start) _ one) (held-within Reverse span is (and_second (holds_span span (span_of i.request)) _ all))

all-at-once : (whole : Option Extent) (d : Dir) (span : Extent) (all items : List Item) → WholeHolds whole all → InOne whole span → AreProper items → AllNear d span items
    → AllAtOnce whole all items → AllAtOnce whole all (cut_items span items)
all-at-once None d span all items held one proper near same = tt
all-at-once (Some w) d span all items held one proper near same =
    let inside : HoldsAll span items = subst (HoldsAll span) (sym same) (holds-through span w all one held) in
    all-cut d span items proper near (held-within d span items inside) ∙ same

pub no-items : {G : Type 0} (xs : List Item) → xs ≡ [] → 0 < length xs → G
no-items xs none some = let l : length xs ≡ 0 = ap length none in absurd (omega (arith, l, some))

none-at-once : (whole : Option Extent) (d : Dir) (span : Extent) (all items : List Item) → WholeHolds whole all → InOne whole span
    → AllAtOnce whole all items → 0 < length (rest_items d span items) → AllAtOnce whole all (rest_items d span items)
none-at-once None d span all items held one same some = tt
none-at-once (Some w) d span all items held one same some =
    let inside : HoldsAll span items = subst (HoldsAll span) (sym same) (holds-through span w all one held) in
    let none : rest_items d span items ≡ [] = none-left d span items (held-within d span items inside) in
    no-items (rest_items d span items) none some

-- ---- the piece and the rest

pub cut-of-part : (f : Flight) (d : Dir) (span : Extent) (items : List Item) → WholeHolds f.whole f.part.items → InOne f.whole span → AllNear d span items → AreOfPart f items → AreOfPart f (cut_items span items)
cut-of-part f d span items held one near of = record {
  cuts = (stay-cuts d span f.part.items items of.cuts).0;
  proper = cuts-proper (within span) items of.proper;
  all = all-at-once f.whole d span f.part.items items held one of.proper near of.all;
}

pub rest-of-part : (f : Flight) (d : Dir) (span : Extent) (items : List Item) → WholeHolds f.whole f.part.items → InOne f.whole span → AreOfPart f items → 0 < length (rest_items d span items) → IsRest f (rest_items d span items)
rest-of-part f d span items held one of some = record {
  some = some;
  of = record {
    cuts = (stay-cuts d span f.part.items items of.cuts).1;
    proper = rest-proper d span items of.proper;
    all = none-at-once f.whole d span f.part.items items held one of.all some;
  };
}

-- a route was found for the rest's first key, by this descriptor, which is known
pub record Routes (f : Flight) (known : List RangeDesc) (desc : RangeDesc) (c : Part) : Type 0 where
  pub is_known : IsOneOf desc known
  pub seek : ContainsSeek desc c
  pub one : InOne f.whole desc.span
  pub span : IsSpan desc.span

pub piece-items : (head : Head) (range : ℕ) (d : Dir) (items : List Item) (p : Piece) → piece_with head range d items ≡ Some p → p ≡ record { head = head; range = range; items = items; dir = d }
piece-items head range d [] p h = none_some p h
piece-items head range d (i ∷ is) p h = sym (some_same _ p h)

some-items : (head : Head) (range : ℕ) (d : Dir) (items : List Item) (p : Piece) → piece_with head range d items ≡ Some p → 0 < length items
some-items head range d [] p h = none_some p h
some-items head range d (i ∷ is) p h = omega arith

-- the piece that is cut of a rest flies by the route
pub piece-flies :
    (f : Flight) (known : List RangeDesc) (desc : RangeDesc) (c : Part) (head : Head) (p : Piece) (r : Flying)
    → WholeHolds f.whole f.part.items → Routes f known desc c → IsTask f known (Rest c) → AllSpans c.items
    → cut_piece head desc c ≡ Some p → r.piece ≡ p → r.order.replicas ≡ desc.nodes → is_among r.node desc.nodes ≡ true
    → IsFlying f known r × (r.piece.items ≡ cut_items desc.span c.items)
piece-flies f known desc c head p r held routes task spans cut same replicas node =
    let made : r.piece ≡ record { head = head; range = desc.id; items = cut_items desc.span c.items; dir = c.dir } = same ∙ piece-items head desc.id c.dir (cut_items desc.span c.items) p cut in
    let items : r.piece.items ≡ cut_items desc.span c.items = ap (λ (x : Piece). x.items) made in
    let near = cut-near c.dir desc.span c.items routes.seek in (
      record {
        some = subst (λ (is : List Item). 0 < length is) (sym items) (some-items head desc.id c.dir (cut_items desc.span c.items) p cut);
        of = subst (AreOfPart f) (sym items) (cut-of-part f c.dir desc.span c.items held routes.one near task.0.of);
        spans = subst AllSpans (sym items) (cut_items-spans desc.span c.items routes.span spans);
        dir = ap (λ (x : Piece). x.dir) made ∙ task.1;
        desc = desc;
        is_known = routes.is_known;
        by = record {
          replicas = replicas;
          node = node;
          range = ap (λ (x : Piece). x.range) made;
          held = subst (HoldsAll desc.span) (sym items) (cut-held desc.span c.items);
          one = routes.one;
        };
      },
      items,
    )

-- the rest in the work is replaced by the piece and what is left of it
cut-underway :
    (f : Flight) (known : List RangeDesc) (done : List (List Item)) (desc : RangeDesc) (c : Part) (r : Flying) (work : List Task)
    → Routes f known desc c → IsFlying f known r → r.piece.items ≡ cut_items desc.span c.items
    → Underway f known done (Rest c ∷ work)
    → Covered f.part.items (done ++ r.piece.items ∷ rest_items c.dir desc.span c.items ∷ map items_of work)
cut-underway f known done desc c r work routes flies items u =
    subst (λ b. Covered f.part.items (done ++ b ∷ rest_items c.dir desc.span c.items ∷ map items_of work)) (sym items)
    (near-covered c.dir desc.span f.part.items c.items done (map items_of work) (cut-near c.dir desc.span c.items routes.seek) u.covered)

pub underway-cut :
    (f : Flight) (known : List RangeDesc) (done : List (List Item)) (desc : RangeDesc) (c : Part) (r : Flying) (work : List Task)
    → WholeHolds f.whole f.part.items → Routes f known desc c → IsFlying f known r → r.piece.items ≡ cut_items desc.span c.items
    → 0 < length (rest_items c.dir desc.span c.items) → Underway f known done (Rest c ∷ work)
    → Underway f known done (Routed r ∷ Rest (rest_part desc c) ∷ work)
underway-cut f known done desc c r work held routes flies items some u = record {
  covered = cut-underway f known done desc c r work routes flies items u;
  each = (flies, ((rest-of-part f c.dir desc.span c.items held routes.one u.each.0.0.of some, u.each.0.1), u.each.1));
}

-- where nothing is left of the rest, the piece alone stands in its place
pub underway-all :
    (f : Flight) (known : List RangeDesc) (done : List (List Item)) (desc : RangeDesc) (c : Part) (r : Flying) (work : List Task)
    → Routes f known desc c → IsFlying f known r → r.piece.items ≡ cut_items desc.span c.items
    → rest_items c.dir desc.span c.items ≡ [] → Underway f known done (Rest c ∷ work)
    → Underway f known done (Routed r ∷ work)
underway-all f known done desc c r work routes flies items none u = record {
  covered =
      subst (Covered f.part.items) (append_assoc done (r.piece.items ∷ []) (map items_of work))
      (drops-empty f.part.items (done ++ r.piece.items ∷ []) (map items_of work)
      (subst (Covered f.part.items) (sym (append_assoc done (r.piece.items ∷ []) ([] ∷ map items_of work)))
      (subst (λ b. Covered f.part.items (done ++ r.piece.items ∷ b ∷ map items_of work)) none
      (cut-underway f known done desc c r work routes flies items u))));
  each = (flies, u.each.1);
}

-- ---- how much is left

-- a cut neither adds nor takes
pub cut-keeps : (desc : RangeDesc) (c : Part) (r : Flying) (work : List Task) → IsSpan desc.span → AllSpans c.items → ContainsSeek desc c → r.piece.items ≡ cut_items desc.span c.items
    → work_left (Routed r ∷ Rest (rest_part desc c) ∷ work) ≡ work_left (Rest c ∷ work)
cut-keeps desc c r work span spans seek items =
    let cut : left_in r.piece.items ≡ left_in (cut_items desc.span c.items) = ap left_in items in
    let all = keeps-left c.dir desc.span c.items span spans (cut-near c.dir desc.span c.items seek) in
    omega (arith, cut, all)
