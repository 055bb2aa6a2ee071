-- Batches that must see one state without a transaction: all of their keys must lie in one range.
use Rattle.std.specs.Prelude.{◌≡◌, Bool, true, false, ◌&&◌, List, [], ◌∷◌, map, Option, Some, None, is_none, refl}
use Rattle.std.specs.List.{list_any}
use Rattle.std.proofs.Common.{ap, inl, inr}
use Rattle.ds_base.specs.Order.{Extent, key_le}
use Rattle.ds_base.specs.declared.value.Dir.TheVariants.{Forward}
use Rattle.ds_kind.specs.Asks.{flags_at}
use Rattle.ds_kind.specs.Parts.{requests_of}
use Rattle.ds_kind.specs.Request.{span_of}
use Rattle.ds_kind.specs.WholeSpan.{whole_span}
use Rattle.ds_kind.specs.declared.batch.Head.{Head}
use Rattle.ds_kind.specs.declared.batch.Item.{Item}
use Rattle.ds_kind.specs.declared.request.Request.{Request}
use Rattle.ds_kind.specs.declared.request.Request.TheVariants.{AdminSplit, Scan}
use Rattle.ds_rule.specs.declared.answer.Answer.TheVariants.{Lost}
use Rattle.ds_rule.specs.declared.journal.JournalStep.TheVariants.{Look, Send}
use Rattle.ds_rule.specs.Asking.{Asking}
use Rattle.ds_rule.specs.Journal.{Happening, Moved, Did}
use Rattle.ds_rule.specs.Pieces.{Each, IsOneOf, parts_apart}

-- some request is of a kind that sees or makes a state
abbrev pub any_transactional : List Request → Bool
any_transactional rs = list_any (λ r. (flags_at r).txn) rs

-- a consistent batch without a transaction that has such a request must see one state
abbrev pub must_be_whole : Asking → Bool
must_be_whole q = q.consistent && is_none q.head.txn && any_transactional (requests_of q.items)

-- what must lie in one range, if anything: the least span over all requests
abbrev pub span_if : Bool → List Item → Option Extent
span_if true items = Some (whole_span items)
span_if false items = None

abbrev pub whole_of : Asking → Option Extent
whole_of q = span_if (must_be_whole q) q.items

-- the piece of a send is a part of the batch, whole
abbrev pub IsOfPart : Asking → Happening → Type 0
IsOfPart q (Moved e) = Unit {0}
IsOfPart q (Did (Look k d l)) = Unit {0}
IsOfPart q (Did (Send n p a)) = IsOneOf p.items (map (λ t. t.items) (parts_apart q.items))

abbrev pub OfPartsIf : Bool → Asking → List Happening → Type 0
OfPartsIf true q hs = Each (IsOfPart q) hs
OfPartsIf false q hs = Unit {0}

-- where all must lie in one range, each piece is a part, whole
abbrev pub OfParts : Asking → List Happening → Type 0
OfParts q hs = OfPartsIf (must_be_whole q) q hs

-- a scan of [a, c), which must lie in one range where it is consistent and of no transaction

abbrev asked_once : Head
asked_once = record { at = record { 0 = 5 }; txn = None; left = None; epoch = 0 }

abbrev item_of : Request → Item
item_of r = record { pos = 0; seq = record { 0 = 0 }; request = r }

abbrev a_scan : Asking
a_scan = record { head = asked_once; consistent = true; items = item_of (Scan (record { start = 97 ∷ []; end = 99 ∷ [] })) ∷ [] }

a_scan_is_whole : whole_of a_scan ≡ Some (record { start = 97 ∷ []; end = 99 ∷ [] })
a_scan_is_whole = refl

not_where_it_may_be_inconsistent : whole_of (record a_scan { consistent = false }) ≡ None
not_where_it_may_be_inconsistent = refl

not_a_split : whole_of (record { head = asked_once; consistent = true; items = item_of (AdminSplit (record { key = 97 ∷ [] })) ∷ [] }) ≡ None
not_a_split = refl

-- half of the scan is no part of it
abbrev half_a_scan : Happening
half_a_scan = Did (Send 1 (record { head = asked_once; range = 1; items = item_of (Scan (record { start = 97 ∷ []; end = 98 ∷ [] })) ∷ []; dir = Forward }) Lost)

abbrev ends_at_b : List Item → Bool
ends_at_b [] = false
ends_at_b (i ∷ is) = key_le (span_of i.request).end (98 ∷ [])

not_in_two_pieces : OfParts a_scan (half_a_scan ∷ []) → ⊥
not_in_two_pieces h = never h.0 where
  never : IsOneOf (item_of (Scan (record { start = 97 ∷ []; end = 98 ∷ [] })) ∷ []) (map (λ t. t.items) (parts_apart a_scan.items)) → ⊥
  never (inl e) = let same : true ≡ false = ap ends_at_b e in cc
  never (inr x) = elim x [ ]
