-- Where nothing reaches past the span on the far side, all is cut and nothing is left.
use Rattle.std.proofs.Common.{◌≡◌, ℕ, true, false, cond, List, [], ◌∷◌, ◌++◌, refl, sym, ap, ◌∙◌, subst, Option}
use Rattle.ds_base.proofs.KeyFacts.{max_first, min_first}
use Rattle.ds_base.proofs.KeyOrder.{below-after, key_le-antisymm}
use Rattle.ds_base.proofs.NextKeys.{next_le}
use Rattle.ds_base.proofs.OrderedFacts.{le_trans, lt_le_trans, not_lt_of_le}
use Rattle.ds_base.proofs.SmallFacts.{and_first, and_second}
use Rattle.ds_base.specs.Order.{Extent, key_lt, key_le, after, max_key, min_key}
use Rattle.ds_base.specs.declared.value.Dir.{Dir}
use Rattle.ds_base.specs.declared.value.Dir.TheVariants.{Forward, Reverse}
use Rattle.ds_desc.specs.declared.desc.RangeDesc.{RangeDesc}
use Rattle.ds_kind.proofs.RequestFacts.{proper_some}
use Rattle.ds_kind.specs.Asks.{has_proper_span}
use Rattle.ds_kind.specs.Request.{cut_to, span_of}
use Rattle.ds_kind.specs.declared.batch.Head.{Head}
use Rattle.ds_kind.specs.declared.batch.Item.{Item}
use Rattle.ds_kind.specs.declared.batch.Part.{Part}
use Rattle.ds_kind.specs.declared.batch.Piece.{Piece}
use Rattle.ds_cover.specs.Cuts.{cut_item, cut_by, within, from, up_to, cut_items, rest_items, AllNear}
use Rattle.ds_cover.specs.Items.{AreProper}
use Rattle.ds_cover.proofs.Cutting.{cut-near}
use Rattle.ds_cover.proofs.Tests.{same_test}
use Rattle.ds_cover.proofs.Tracing.{uncut}
use Rattle.ds_cut.specs.Pieces.{piece_with, cut_piece, rest_part, ContainsSeek, CutsOff}
use Rattle.ds_cut.specs.Within.{stays_within, none_past}
use Rattle.ds_cut.proofs.Meaning.{cut-meaning}
use Rattle.ds_cut.proofs.Seeking.{greater}

pub below_is_within : (k e : List ℕ) → key_lt k e ≡ key_le (after k) e
below_is_within k e = same_test (key_lt k e) (key_le (after k) e) (next_le k e) (lt_le_trans k (after k) e (below-after k))

pub lesser : (a b : List ℕ) → key_le b a ≡ true → b ≡ min_key a b
lesser a b h =
    elim (key_lt b a) as (λ t. key_lt b a ≡ t → b ≡ cond t b a) [
      | true ↦ λ e. refl
      | false ↦ λ e. key_le-antisymm b a h e
    ] refl

-- one item

abbrev pub cut_so : Item → List ℕ → List ℕ → List Item
cut_so i s e = cond (key_lt s e) (record i { request = cut_to s e i.request } ∷ []) []

pub whole : (i : Item) → has_proper_span i.request ≡ true → cut_so i (span_of i.request).start (span_of i.request).end ≡ i ∷ []
whole i proper =
    ap (λ t. cond t (record i { request = cut_to (span_of i.request).start (span_of i.request).end i.request } ∷ []) []) (proper_some i.request proper)
    ∙ ap (λ r. record i { request = r } ∷ []) (sym (uncut i.request))

pub cut_whole : (span : Extent) (i : Item) → has_proper_span i.request ≡ true → key_le span.start (span_of i.request).start ≡ true → key_le (span_of i.request).end span.end ≡ true → cut_item (within span) i ≡ i ∷ []
cut_whole span i proper low high =
    ap (λ s. cut_so i s (min_key span.end (span_of i.request).end)) (sym (greater span.start (span_of i.request).start low))
    ∙ ap (cut_so i (span_of i.request).start) (sym (lesser span.end (span_of i.request).end high))
    ∙ whole i proper

pub after_none : (span : Extent) (i : Item) → key_le (span_of i.request).end span.end ≡ true → cut_item (from span.end) i ≡ []
after_none span i high =
    let x = span_of i.request in
    let m = max_key span.end x.start in
    ap (λ t. cond t (record i { request = cut_to m x.end i.request } ∷ []) []) (not_lt_of_le x.end m (le_trans x.end span.end m high (max_first span.end x.start)))

pub before_none : (span : Extent) (i : Item) → key_le span.start (span_of i.request).start ≡ true → cut_item (up_to span.start) i ≡ []
before_none span i low =
    let x = span_of i.request in
    let m = min_key span.start x.end in
    ap (λ t. cond t (record i { request = cut_to x.start m i.request } ∷ []) []) (not_lt_of_le m x.start (le_trans m span.start x.start (min_first span.start x.end) low))

-- items

both : (f : Extent → Extent) (i : Item) (is cut more : List Item) → cut_item f i ≡ cut → cut_by f is ≡ more → cut_by f (i ∷ is) ≡ cut ++ more
both f i is cut more p q = ap (λ z. z ++ cut_by f is) p ∙ ap (λ z. cut ++ z) q

pub all-cut : (d : Dir) (span : Extent) (items : List Item) → AreProper items → AllNear d span items → none_past d span items ≡ true → cut_items span items ≡ items
all-cut d span [] proper near far = refl
all-cut Forward span (i ∷ is) proper near far =
    both (within span) i is (i ∷ []) is (cut_whole span i (and_first _ _ proper) near.0 (and_first _ _ far))
    (all-cut Forward span is (and_second (has_proper_span i.request) _ proper) near.1 (and_second (stays_within Forward span (span_of i.request)) _ far))
all-cut Reverse span (i ∷ is) proper near far =
    both (within span) i is (i ∷ []) is (cut_whole span i (and_first _ _ proper) (and_first _ _ far) near.0)
    (all-cut Reverse span is (and_second (has_proper_span i.request) _ proper) near.1 (and_second (stays_within Reverse span (span_of i.request)) _ far))

pub none-left : (d : Dir) (span : Extent) (items : List Item) → none_past d span items ≡ true → rest_items d span items ≡ []
none-left Forward span [] far = refl
none-left Reverse span [] far = refl
none-left Forward span (i ∷ is) far =
    both (from span.end) i is [] [] (after_none span i (and_first _ _ far)) (none-left Forward span is (and_second (stays_within Forward span (span_of i.request)) _ far))
none-left Reverse span (i ∷ is) far =
    both (up_to span.start) i is [] [] (before_none span i (and_first _ _ far)) (none-left Reverse span is (and_second (stays_within Reverse span (span_of i.request)) _ far))

-- what is taken is the piece, and nothing is left

abbrev part_with : List Item → Dir → Part
part_with items dir = record { items = items; dir = dir }

abbrev pub IsTaken : Head → RangeDesc → Part → Option Piece → Part → Type 0
IsTaken head desc old piece new = (piece ≡ cut_piece head desc old) × (new ≡ rest_part desc old) × CutsOff desc.span old.items piece new.items

pub all-taken : (head : Head) (desc : RangeDesc) (old : Part) (left : List Item) (dir : Dir) (piece : Option Piece) (kept : List Item)
    → part_with left dir ≡ old → AreProper left → ContainsSeek desc old → none_past old.dir desc.span old.items ≡ true
    → piece ≡ piece_with head desc.id dir left → kept ≡ [] → IsTaken head desc old piece (part_with kept dir)
all-taken head desc old left dir piece kept view proper seek far is none =
    let P : Part → Type 0 = λ o. ContainsSeek desc o → none_past o.dir desc.span o.items ≡ true → IsTaken head desc o piece (part_with kept dir) in
    subst P view
    (λ s f.
    let all : left ≡ cut_items desc.span left = sym (all-cut dir desc.span left proper (cut-near dir desc.span left s) f) in
    let rest : kept ≡ rest_items dir desc.span left = none ∙ sym (none-left dir desc.span left f) in (
      is ∙ ap (piece_with head desc.id dir) all,
      ap (λ z. part_with z dir) rest,
      cut-meaning head desc (part_with left dir) left dir left piece kept refl proper s is all rest,
    ))
    seek far
