-- What coverage by blocks promises.
use Rattle.std.specs.Prelude.{◌≡◌, ◌↔◌, ℕ, ◌+◌, ◌<◌, Bool, true, List, [], ◌∷◌, ◌++◌, Some}
use Rattle.std.specs.List.{flat_map}
use Rattle.std.specs.List.Sorted.{IsPermutation}
use Rattle.ds_base.specs.Order.{Extent, holds}
use Rattle.ds_base.specs.declared.value.Dir.{Dir}
use Rattle.ds_desc.specs.Contains.{contains}
use Rattle.ds_base.specs.declared.value.Seq.{Seq}
use Rattle.ds_kind.specs.Parts.{parts_of}
use Rattle.ds_kind.specs.declared.batch.Item.{Item}
use Rattle.ds_kind.specs.declared.batch.Part.{Part}
use Rattle.ds_kind.specs.declared.request.Request.{Request}
use Rattle.ds_cover.specs.Coverage.{positions_at, Covered, AllCovered}
use Rattle.ds_cover.specs.Cuts.{cut_by, cut_items, rest_items, seek_key}
use Rattle.ds_cover.specs.Items.{AreProper, IsOneOf, PositionsRise}
use Rattle.ds_cover.specs.Limits.{cut_each, KeepsTaken, NoneTaken}
use Rattle.ds_cover.specs.Measures.{left_in, IsSpan, AllSpans}
use Rattle.ds_cover.specs.Origins.{IsCut, CutsOf}

abbrev pub joined : List (List Item) → List Item
joined blocks = flat_map (λ b. b) blocks

-- the order of the blocks doesn't matter
abbrev pub StaysCovered : Type 0
StaysCovered = (items : List Item) (xs ys : List (List Item)) → IsPermutation xs ys → Covered items xs → Covered items ys

-- the positions of the items at a key are those of the blocks there, put together
abbrev pub CoversAll : Type 0
CoversAll = (items : List Item) (blocks : List (List Item)) → Covered items blocks → (k : List ℕ) → positions_at k (joined blocks) ≡ positions_at k items

-- a block without items may go
abbrev pub DropsEmpty : Type 0
DropsEmpty = (items : List Item) (xs ys : List (List Item)) → Covered items (xs ++ [] ∷ ys) → Covered items (xs ++ ys)

-- a block cut at a span that contains its seek key is two blocks
abbrev pub CutsCovered : Type 0
CutsCovered =
    (d : Dir) (span : Extent) (s : List ℕ) (items block : List Item) (xs ys : List (List Item)) → seek_key d block ≡ Some s → contains d s span ≡ true
    → Covered items (xs ++ block ∷ ys) → Covered items (xs ++ cut_items span block ∷ rest_items d span block ∷ ys)

-- items are cuts of themselves
abbrev pub CutsOfAll : Type 0
CutsOfAll = (items : List Item) → CutsOf items items

-- what is cut of a block of cuts of items, and what is left of it, are cuts of the items again
abbrev pub StayCuts : Type 0
StayCuts = (d : Dir) (span : Extent) (items block : List Item) → CutsOf items block → CutsOf items (cut_items span block) × CutsOf items (rest_items d span block)

-- each item of a block of cuts is a cut of one of the items
abbrev pub CutsKnown : Type 0
CutsKnown = (items block : List Item) → CutsOf items block → (c : Item) → IsOneOf c block → (i : Item) × IsOneOf i items × IsCut i c

-- where positions rise, it is a cut of the item at its position
abbrev pub CutsAtPositions : Type 0
CutsAtPositions =
    (items block : List Item) → PositionsRise items → CutsOf items block → (c : Item) → IsOneOf c block
    → (i : Item) → IsOneOf i items → i.pos ≡ c.pos → IsCut i c

-- the positions of each part of a batch rise
abbrev pub PartsRise : Type 0
PartsRise = (split_end : Bool) (requests : List Request) (seqs : List Seq) (p : Part) → IsOneOf p (parts_of split_end requests seqs) → PositionsRise p.items

-- the positions of all parts' blocks at a key, in order, are those of the parts there, in order
abbrev pub AllInOrder : Type 0
AllInOrder =
    (parts : List (List Item)) (work : List (List (List Item))) → AllCovered parts work
    → (k : List ℕ) → positions_at k (joined (flat_map (λ w. w) work)) ≡ positions_at k (joined parts)

-- nothing is cut exactly where no key of the span is held
abbrev pub ExactlyNone : Type 0
ExactlyNone = (span : Extent) (items : List Item) → (cut_items span items ≡ []) ↔ ((k : List ℕ) → holds span.start span.end k ≡ true → positions_at k items ≡ [])

-- nothing is gained or lost where a block is cut at a span that contains its seek key
abbrev pub KeepsLeft : Type 0
KeepsLeft =
    (d : Dir) (span : Extent) (s : List ℕ) (block : List Item) → IsSpan span → AllSpans block → seek_key d block ≡ Some s → contains d s span ≡ true
    → left_in (cut_items span block) + left_in (rest_items d span block) ≡ left_in block

-- a cut at a span that contains the seek key takes something, so the rest has less
abbrev pub RestHasLess : Type 0
RestHasLess =
    (d : Dir) (span : Extent) (s : List ℕ) (block : List Item) → IsSpan span → AllSpans block → seek_key d block ≡ Some s → contains d s span ≡ true
    → left_in (rest_items d span block) < left_in block

-- what is cut of spans of keys, and what is left of them, are spans of keys again
abbrev pub StaySpans : Type 0
StaySpans =
    (d : Dir) (span : Extent) (items : List Item) → IsSpan span → AllSpans items → AllSpans (cut_items span items) × AllSpans (rest_items d span items)

-- whatever is cut of proper items is proper
abbrev pub CutsProper : Type 0
CutsProper = (f : Extent → Extent) (items : List Item) → AreProper items → AreProper (cut_by f items)

-- spans of keys are proper
abbrev pub SpansProper : Type 0
SpansProper = (items : List Item) → AllSpans items → AreProper items

-- where a part is covered by what was accepted and what is left, the accepted items without their resume spans
-- have at each key the positions that the part's items have there without theirs
abbrev pub TakenCovers : Type 0
TakenCovers =
    (taken : ℕ → List ℕ → Bool) (f g : Item → Extent → Extent) (items : List Item) (accepted left : List (List Item))
    → Covered items (accepted ++ left) → KeepsTaken taken f items → KeepsTaken taken g (joined accepted) → NoneTaken taken (joined left)
    → (k : List ℕ) → positions_at k (cut_each g (joined accepted)) ≡ positions_at k (cut_each f items)
