-- The piece that is cut off a part, what is left then, and what becomes of each key.
use Rattle.std.specs.Prelude.{◌≡◌, ◌⊎◌, ◌↔◌, ℕ, true, false, List, [], ◌∷◌, Option, Some, None, refl}
use Rattle.ds_base.specs.Order.{Extent, holds}
use Rattle.ds_base.specs.declared.value.Dir.{Dir}
use Rattle.ds_base.specs.declared.value.Dir.TheVariants.{Forward}
use Rattle.ds_desc.specs.Contains.{contains}
use Rattle.ds_desc.specs.declared.desc.RangeDesc.{RangeDesc}
use Rattle.ds_kind.specs.declared.batch.Head.{Head}
use Rattle.ds_kind.specs.declared.batch.Item.{Item}
use Rattle.ds_kind.specs.declared.batch.Part.{Part}
use Rattle.ds_kind.specs.declared.batch.Piece.{Piece}
use Rattle.ds_kind.specs.declared.request.Request.TheVariants.{Scan}
use Rattle.ds_cover.specs.Coverage.{positions_at}
use Rattle.ds_cover.specs.Cuts.{cut_items, rest_items, seek_key}
use Rattle.ds_cover.specs.Items.{AreProper}
use Rattle.ds_cover.specs.Origins.{CutsOf}

-- a piece of these items, if there are any
abbrev pub piece_with : Head → ℕ → Dir → List Item → Option Piece
piece_with head range dir [] = None
piece_with head range dir (i ∷ is) = Some (record { head = head; range = range; items = i ∷ is; dir = dir })

-- the part cut to the range, and what is left of it then
abbrev pub cut_piece : Head → RangeDesc → Part → Option Piece
cut_piece head desc part = piece_with head desc.id part.dir (cut_items desc.span part.items)

abbrev pub rest_part : RangeDesc → Part → Part
rest_part desc part = record part { items = rest_items part.dir desc.span part.items }

-- where something is left, the range contains the key at which it is sought
abbrev pub ContainsSeek : RangeDesc → Part → Type 0
ContainsSeek desc part = (s : List ℕ) → seek_key part.dir part.items ≡ Some s → contains part.dir s desc.span ≡ true

abbrev pub items_in : Option Piece → List Item
items_in None = []
items_in (Some p) = p.items

-- what a cut means, by what was left before, the piece, and what is left then
pub record CutsOff (span : Extent) (old : List Item) (cut : Option Piece) (new : List Item) : Type 0 where
  -- there is no piece exactly where no key of the span is left
  pub none : (cut ≡ None) ↔ ((k : List ℕ) → holds span.start span.end k ≡ true → positions_at k old ≡ [])
  -- at each key one of the piece and the rest has the positions of all that was left there, in order, and the other none
  pub one : (k : List ℕ) → ((positions_at k (items_in cut) ≡ positions_at k old) × (positions_at k new ≡ [])) ⊎ ((positions_at k (items_in cut) ≡ []) × (positions_at k new ≡ positions_at k old))
  -- the piece's items may be cut again
  pub proper : AreProper (items_in cut)
  -- what is in the piece, and what is left, is what was left before, cut, under the same positions and numbers
  pub its_cuts : CutsOf old (items_in cut)
  pub left_cuts : CutsOf old new

no_piece : (head : Head) → piece_with head 7 Forward [] ≡ None
no_piece head = refl

-- a scan of [b, d), cut at [a, c), and sought at b

abbrev scan_of : List ℕ → List ℕ → Item
scan_of s e = record { pos = 2; seq = record { 0 = 0 }; request = Scan (record { start = s; end = e }) }

abbrev range_from : List ℕ → List ℕ → RangeDesc
range_from s e = record { id = 7; span = record { start = s; end = e }; nodes = 1 ∷ []; generation = 1 }

abbrev one_scan : Part
one_scan = record { items = scan_of (98 ∷ []) (100 ∷ []) ∷ []; dir = Forward }

its_front : (head : Head) → cut_piece head (range_from (97 ∷ []) (99 ∷ [])) one_scan ≡ Some (record { head = head; range = 7; items = scan_of (98 ∷ []) (99 ∷ []) ∷ []; dir = Forward })
its_front head = refl

what_is_left : rest_part (range_from (97 ∷ []) (99 ∷ [])) one_scan ≡ record { items = scan_of (99 ∷ []) (100 ∷ []) ∷ []; dir = Forward }
what_is_left = refl

nothing_of_a_range_beside : (head : Head) → cut_piece head (range_from (100 ∷ []) (101 ∷ [])) one_scan ≡ None
nothing_of_a_range_beside head = refl

not_past_the_seek_key : ContainsSeek (range_from (99 ∷ []) (101 ∷ [])) one_scan → ⊥
not_past_the_seek_key h = let low : false ≡ true = h (98 ∷ []) refl in cc
