-- Two neighbours that are merged.
use Rattle.std.proofs.Common.{◌≡◌, ℕ, false, List, [], ◌∷◌, refl, sym, ap, ◌∙◌, subst}
use Rattle.ds_base.specs.Order.{Extent}
use Rattle.ds_desc.specs.Descs.{overlap}
use Rattle.ds_desc.specs.declared.desc.RangeDesc.{RangeDesc}
use Rattle.ds_lineage.specs.Last.{IsNewestAt, Joins}
use Rattle.ds_lineage.proofs.Spans.{joins-neighbours, newest-kept, newest-new}

-- from one byte up to another
abbrev pub bytes : ℕ → ℕ → Extent
bytes a b = record { start = a ∷ []; end = b ∷ [] }

pub two-joined : (ds : List RangeDesc) (d e : RangeDesc) (s : Extent) → ds ≡ d ∷ e ∷ [] → d.span ≡ bytes 97 99 → e.span ≡ bytes 99 102 → s ≡ bytes 97 102 → Joins ds s 0 1
two-joined ds d e s made left right whole =
    let meet : d.span.end ≡ e.span.start = ap (λ (z : Extent). z.end) left ∙ sym (ap (λ (z : Extent). z.start) right) in
    let beside : overlap e.span d.span ≡ false = subst (λ y. overlap y d.span ≡ false) (sym right) (subst (λ z. overlap (bytes 99 102) z ≡ false) (sym left) refl) in
    let first : IsNewestAt (d ∷ e ∷ []) d 0 = newest-kept (d ∷ []) d e 0 beside (newest-new [] d) in
    let span : Joins (d ∷ e ∷ []) (record { start = d.span.start; end = e.span.end }) 0 1 = joins-neighbours (d ∷ e ∷ []) d e 0 1 meet first (newest-new (d ∷ []) e) in
    let both : ◌≡◌ {A = Extent} (record { start = d.span.start; end = e.span.end }) (bytes 97 102) = λ i. record { start = (left i).start; end = (right i).end } in
    subst (λ zs. Joins zs s 0 1) (sym made) (subst (λ z. Joins (d ∷ e ∷ []) z 0 1) (both ∙ sym whole) span)
