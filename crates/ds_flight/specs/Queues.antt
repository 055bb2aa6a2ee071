-- The order in which the pieces of a part wait while none is turned away.
use Rattle.std.specs.Prelude.{◌≡◌, ◌⊎◌, ℕ, List, [], ◌∷◌, ◌++◌}
use Rattle.std.specs.List.{insert}
use Rattle.ds_base.specs.declared.value.Dir.{Dir}
use Rattle.ds_desc.specs.declared.desc.RangeDesc.{RangeDesc}
use Rattle.ds_kind.specs.declared.batch.Item.{Item}
use Rattle.ds_kind.specs.declared.batch.Part.{Part}
use Rattle.ds_cover.specs.Cuts.{cut_items}
use Rattle.ds_cover.specs.Measures.{AllSpans, IsSpan}
use Rattle.ds_cut.specs.Pieces.{rest_part, ContainsSeek}
use Rattle.ds_flight.specs.Picked.{InTurn}
use Rattle.ds_flight.specs.Places.{placed}
use Rattle.ds_flight.specs.declared.fill.Filling.{Filling}
use Rattle.ds_flight.specs.declared.fill.Filling.TheVariants.{On, NotWhole, Spent}
use Rattle.ds_flight.specs.declared.work.Flying.{Flying}
use Rattle.ds_flight.specs.declared.work.Task.{Task}
use Rattle.ds_flight.specs.declared.work.Task.TheVariants.{Rest, Routed}

-- the items of the pieces that wait, and of the rests
abbrev pub pieces_in : List Task → List (List Item)
pieces_in [] = []
pieces_in (Rest c ∷ ts) = pieces_in ts
pieces_in (Routed r ∷ ts) = r.piece.items ∷ pieces_in ts

abbrev pub rests_in : List Task → List (List Item)
rests_in [] = []
rests_in (Rest c ∷ ts) = c.items ∷ rests_in ts
rests_in (Routed r ∷ ts) = rests_in ts

-- pieces that wait, and then one rest, if anything of the part isn't routed yet
abbrev pub IsQueue : List Task → Type 0
IsQueue [] = Unit {0}
IsQueue (Rest c ∷ ts) = ts ≡ []
IsQueue (Routed r ∷ ts) = IsQueue ts

-- the rest is cut at its route, whatever that is, in its place
pub record IsCutAt (c : Part) (at : ℕ) (old new : List Task) : Type 0 where
  pub desc : RangeDesc
  pub flying : Flying
  pub items : flying.piece.items ≡ cut_items desc.span c.items
  pub seek : ContainsSeek desc c
  pub span : IsSpan desc.span
  pub spans : AllSpans c.items
  pub work : new ≡ placed flying (rest_part desc c) at old

-- or it stands there again
abbrev pub RestPlaced : Part → ℕ → List Task → List Task → Filling → Type 0
RestPlaced c at old new On = IsCutAt c at old new ⊎ (new ≡ insert old at (Rest c))
RestPlaced c at old new (NotWhole desc) = Unit {0}
RestPlaced c at old new Spent = Unit {0}

-- after these pieces that were cut before, more were cut in turn, and now wait after the others, before the rest; where there
-- was no rest, none came
pub record Queued (d : Dir) (cut : List (List Item)) (old new : List Task) : Type 0 where
  pub queue : IsQueue new
  pub more : List (List Item)
  pub pieces : pieces_in new ≡ pieces_in old ++ more
  pub turn : InTurn d ((cut ++ more) ++ rests_in new)
  pub none : rests_in old ≡ [] → (more ≡ []) × (rests_in new ≡ [])

abbrev pub KeepsQueue : Dir → List Task → List Task → Filling → Type 0
KeepsQueue d old new On = (cut : List (List Item)) → IsQueue old → InTurn d (cut ++ rests_in old) → Queued d cut old new
KeepsQueue d old new (NotWhole desc) = Unit {0}
KeepsQueue d old new Spent = Unit {0}
