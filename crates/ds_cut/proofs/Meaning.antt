-- What cutting a part means.
use Rattle.std.proofs.Common.{◌≡◌, ℕ, Bool, true, false, cond, List, [], ◌∷◌, refl, sym, ap, ◌∙◌, subst, ◌⊎◌, inl, inr, Option, Some, None}
use Rattle.ds_base.specs.Order.{holds}
use Rattle.ds_base.specs.declared.value.Dir.{Dir}
use Rattle.ds_desc.specs.declared.desc.RangeDesc.{RangeDesc}
use Rattle.ds_kind.specs.declared.batch.Head.{Head}
use Rattle.ds_kind.specs.declared.batch.Item.{Item}
use Rattle.ds_kind.specs.declared.batch.Part.{Part}
use Rattle.ds_kind.specs.declared.batch.Piece.{Piece}
use Rattle.ds_cover.specs.Coverage.{positions_at}
use Rattle.ds_cover.specs.Cuts.{cut_items, rest_items, within}
use Rattle.ds_cover.specs.Items.{AreProper}
use Rattle.ds_cover.proofs.Cutting.{cut-near, cut_items-positions, rest_items-positions}
use Rattle.ds_cover.proofs.Exact.{none-out, out-none}
use Rattle.ds_cover.specs.Origins.{CutsOf}
use Rattle.ds_cover.proofs.Proper.{cuts-proper}
use Rattle.ds_cover.proofs.Tracing.{cuts-of-all, stay-cuts}
use Rattle.ds_cut.specs.Pieces.{piece_with, cut_piece, rest_part, items_in, ContainsSeek, CutsOff}

never : {G : Type 0} {p : Piece} → ◌≡◌ {A = Option Piece} (Some p) None → G
never h = cc

its-items : (head : Head) (range : ℕ) (dir : Dir) (items : List Item) → items_in (piece_with head range dir items) ≡ items
its-items head range dir [] = refl
its-items head range dir (i ∷ is) = refl

none-empty : (head : Head) (range : ℕ) (dir : Dir) (items : List Item) → piece_with head range dir items ≡ None → items ≡ []
none-empty head range dir [] h = refl
none-empty head range dir (i ∷ is) h = never h

pub empty-none : (head : Head) (range : ℕ) (dir : Dir) (items : List Item) → items ≡ [] → piece_with head range dir items ≡ None
empty-none head range dir items h = ap (piece_with head range dir) h

either : (t : Bool) (cut rest ws : List ℕ) → cut ≡ cond t ws [] → rest ≡ cond t [] ws → ((cut ≡ ws) × (rest ≡ [])) ⊎ ((cut ≡ []) × (rest ≡ ws))
either true cut rest ws p q = inl (p, q)
either false cut rest ws p q = inr (p, q)

pub cuts-off : (head : Head) (desc : RangeDesc) (part : Part) → AreProper part.items → ContainsSeek desc part → CutsOff desc.span part.items (cut_piece head desc part) (rest_part desc part).items
cuts-off head desc part proper seek =
    let cut = cut_items desc.span part.items in
    let kept = stay-cuts part.dir desc.span part.items part.items (cuts-of-all part.items) in
    let own : items_in (cut_piece head desc part) ≡ cut = its-items head desc.id part.dir cut in
    record {
      none = (
        (λ h. none-out desc.span part.items (none-empty head desc.id part.dir cut h)),
        (λ h. empty-none head desc.id part.dir cut (out-none desc.span part.items h)),
      );
      one = λ k.
          either (holds desc.span.start desc.span.end k) _ _ (positions_at k part.items)
          (ap (positions_at k) own ∙ cut_items-positions desc.span k part.items)
          (rest_items-positions part.dir desc.span k part.items (cut-near part.dir desc.span part.items seek));
      proper = subst AreProper (sym own) (cuts-proper (within desc.span) part.items proper);
      its_cuts = subst (CutsOf part.items) (sym own) kept.0;
      left_cuts = kept.1;
    }

-- the same of what was cut and kept
pub cut-meaning : (head : Head) (desc : RangeDesc) (old : Part) (left : List Item) (dir : Dir) (cut : List Item) (piece : Option Piece) (kept : List Item) → record { items = left; dir = dir } ≡ old → AreProper left → ContainsSeek desc old → piece ≡ piece_with head desc.id dir cut → cut ≡ cut_items desc.span left → kept ≡ rest_items dir desc.span left → CutsOff desc.span old.items piece kept
cut-meaning head desc old left dir cut piece kept view proper seek p q r =
    subst (λ o. ContainsSeek desc o → CutsOff desc.span o.items piece kept) view
    (λ s.
    subst (λ z. CutsOff desc.span left piece z) (sym r)
    (subst (λ z. CutsOff desc.span left z (rest_items dir desc.span left)) (sym (p ∙ ap (piece_with head desc.id dir) q))
    (cuts-off head desc (record { items = left; dir = dir }) proper s)))
    seek
