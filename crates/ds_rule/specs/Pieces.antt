-- Which pieces a batch may be sent in.
use Rattle.std.specs.Prelude.{◌≡◌, ℕ, ◌<◌, ◌⊎◌, Bool, true, false, ◌&&◌, List, [], ◌∷◌, map, Option, Some, None, ◌==◌, find, length, refl}
use Rattle.std.specs.List.{list_any}
use Rattle.ds_base.specs.Order.{key_lt, key_le}
use Rattle.ds_base.specs.declared.value.Dir.{Dir}
use Rattle.ds_base.specs.declared.value.Dir.TheVariants.{Forward, Reverse}
use Rattle.ds_kind.specs.Asks.{is_end}
use Rattle.ds_kind.specs.Groups.{groups}
use Rattle.ds_kind.specs.Parts.{all_fit, item_may_join, part_of, requests_of}
use Rattle.ds_kind.specs.Request.{cut_to, span_of}
use Rattle.ds_kind.specs.declared.batch.Item.{Item}
use Rattle.ds_kind.specs.declared.batch.Part.{Part}
use Rattle.ds_kind.specs.declared.batch.Piece.{Piece}
use Rattle.ds_kind.specs.declared.request.Request.TheVariants.{Scan, ReverseScan}
use Rattle.ds_cell.specs.Content.{Rises}
use Rattle.ds_rule.specs.Asking.{Asking}

abbrev pub Each : {X : Type 0} → (X → Type 0) → List X → Type 0
Each P [] = Unit {0}
Each P (x ∷ xs) = P x × Each P xs

abbrev pub IsOneOf : {X : Type 0} → X → List X → Type 0
IsOneOf x [] = ⊥
IsOneOf x (y ∷ ys) = (x ≡ y) ⊎ IsOneOf x ys

-- the item is a request of the batch, with its own number, cut to a span inside its own
pub record IsCut (items : List Item) (i : Item) : Type 0 where
  pub whole : Item
  pub there : IsOneOf whole items
  pub position : i.pos ≡ whole.pos
  pub number : i.seq ≡ whole.seq
  pub request : i.request ≡ cut_to (span_of i.request).start (span_of i.request).end whole.request
  pub some : key_lt (span_of i.request).start (span_of i.request).end ≡ true
  pub from : key_le (span_of whole.request).start (span_of i.request).start ≡ true
  pub to : key_le (span_of i.request).end (span_of whole.request).end ≡ true

-- an end of the transaction by itself
abbrev pub is_lone_end : List Item → Bool
is_lone_end [] = false
is_lone_end (i ∷ is) = is_end i.request && (length is == 0)

abbrev pub has_position : ℕ → Part → Bool
has_position n p = list_any (λ i. i.pos == n) p.items

abbrev pub dir_of_part : Option Part → Dir
dir_of_part None = Forward
dir_of_part (Some p) = p.dir

-- the parts of a batch whose end stands apart
abbrev pub parts_apart : List Item → List Part
parts_apart items = map part_of (groups (item_may_join true) items)

-- the direction of the part of the first item
abbrev pub dir_of_first : List Item → List Item → Dir
dir_of_first whole [] = Forward
dir_of_first whole (i ∷ is) = dir_of_part (find (has_position i.pos) (parts_apart whole))

abbrev pub unless_lone : Bool → Dir → Dir
unless_lone true d = Forward
unless_lone false d = d

-- the direction of a piece of these items
abbrev pub dir_for : List Item → List Item → Dir
dir_for whole items = unless_lone (is_lone_end items) (dir_of_first whole items)

-- a part whose end stands with the others
abbrev pub IsWholePart : List Item → List Item → Type 0
IsWholePart whole items = IsOneOf items (map (λ p. p.items) (map part_of (groups (item_may_join false) whole)))

abbrev pub position_of : Item → ℕ
position_of i = i.pos

-- the piece is of the batch, with so much left of its limit: its head; requests by rising position, cut to spans
-- inside their own, which may stand together; an end by itself or with its part whole; and the direction of its part
pub record PieceOf (q : Asking) (left : Option ℕ) (p : Piece) : Type 0 where
  pub head : p.head ≡ record (q.head) { left = left }
  pub some : 0 < length p.items
  pub rising : Rises position_of p.items
  pub cuts : Each (IsCut q.items) p.items
  pub fit : all_fit (requests_of p.items) ≡ true
  pub ends : list_any is_end (requests_of p.items) ≡ true → (is_lone_end p.items ≡ true) ⊎ IsWholePart q.items p.items
  pub dir : p.dir ≡ dir_for q.items p.items

-- a scan goes forward, and a scan in reverse back
a_scan_goes_forward : dir_for (record { pos = 0; seq = record { 0 = 0 }; request = Scan (record { start = 97 ∷ []; end = 98 ∷ [] }) } ∷ []) (record { pos = 0; seq = record { 0 = 0 }; request = Scan (record { start = 97 ∷ []; end = 98 ∷ [] }) } ∷ []) ≡ Forward
a_scan_goes_forward = refl

a_reverse_scan_goes_back : dir_for (record { pos = 0; seq = record { 0 = 0 }; request = ReverseScan (record { start = 97 ∷ []; end = 98 ∷ [] }) } ∷ []) (record { pos = 0; seq = record { 0 = 0 }; request = ReverseScan (record { start = 97 ∷ []; end = 98 ∷ [] }) } ∷ []) ≡ Reverse
a_reverse_scan_goes_back = refl
