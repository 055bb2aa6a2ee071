-- A cut between two bounds, for points and spans.
use Rattle.std.proofs.Common.{◌≡◌, ℕ, true, false, cond, List, [], ◌∷◌, ◌++◌, refl, sym, ap, ◌∙◌, Option, Some, None}
use Rattle.std.proofs.lemmas.List.{flat_map_more}
use Rattle.ds_base.proofs.KeyOrder.{key_le_lt-trans}
use Rattle.ds_base.proofs.SmallFacts.{and_first, and_second, and_both}
use Rattle.ds_base.specs.Order.{Extent, key_lt, key_le, holds, after}
use Rattle.ds_base.proofs.KeyFacts.{max_second, min_second, own_span}
use Rattle.ds_kind.specs.Reach.{Reach, At, Over, extent_of}
use Rattle.ds_kind.specs.Request.{cut_to, reach_of}
use Rattle.ds_kind.specs.declared.batch.Item.{Item}
use Rattle.ds_kind.specs.declared.request.Request.{Request}
use Rattle.ds_kind.specs.declared.request.Request.TheVariants.{Get, Scan, ReverseScan, Put, ConditionalPut, InitPut, Increment, Delete, DeleteRange, EndTxn, QueryIntent, ResolveIntent, ResolveIntentRange, AdminSplit, AdminTransferLease}
use Rattle.ds_cover.specs.Clips.{not_below, not_above, clip, passes}
use Rattle.ds_cover.specs.Cuts.{cut_item, cut_by}
use Rattle.ds_cover.proofs.Cutting.{Keeps, within-keeps, from-keeps, up_to-keeps, point-kept}
use Rattle.ds_cover.proofs.Tests.{le_itself, not_both, and_true}

pub clip-keeps : (low high : Option (List ℕ)) → Keeps (clip low high) (passes low high)
clip-keeps None None = λ x k. sym (and_true (holds x.start x.end k))
clip-keeps (Some s) None = from-keeps s
clip-keeps None (Some e) = up_to-keeps e
clip-keeps (Some s) (Some e) = within-keeps (record { start = s; end = e })

cut-point : (s e k : List ℕ) (r : Request) → At k ≡ reach_of r → cut_to s e r ≡ r
cut-point s e k (Get a) h = refl
cut-point s e k (Scan a) h = cc
cut-point s e k (ReverseScan a) h = cc
cut-point s e k (Put a) h = refl
cut-point s e k (ConditionalPut a) h = refl
cut-point s e k (InitPut a) h = refl
cut-point s e k (Increment a) h = refl
cut-point s e k (Delete a) h = refl
cut-point s e k (DeleteRange a) h = cc
cut-point s e k (EndTxn a) h = refl
cut-point s e k (QueryIntent a) h = refl
cut-point s e k (ResolveIntent a) h = refl
cut-point s e k (ResolveIntentRange a) h = cc
cut-point s e k (AdminSplit a) h = refl
cut-point s e k (AdminTransferLease a) h = refl

-- whether anything is left of a point
point-some : (low high : Option (List ℕ)) (k : List ℕ) → passes low high k ≡ true → key_lt (clip low high (extent_of (At k))).start (clip low high (extent_of (At k))).end ≡ true
point-some low high k h =
    let x = clip low high (extent_of (At k)) in
    let there : holds x.start x.end k ≡ true = clip-keeps low high (extent_of (At k)) k ∙ and_both _ _ (own_span k) h in
    key_le_lt-trans x.start k x.end (and_first _ _ there) (and_second (key_le x.start k) _ there)

-- the cut of an item whose reach is known
abbrev cut_at : Option (List ℕ) → Option (List ℕ) → Item → Reach → List Item
cut_at low high i reach =
    cond (key_lt (not_below low (extent_of reach).start) (not_above high (extent_of reach).end))
    (record i { request = cut_to (not_below low (extent_of reach).start) (not_above high (extent_of reach).end) i.request } ∷ []) []

pub point-in : (low high : Option (List ℕ)) (k : List ℕ) (i : Item) → At k ≡ reach_of i.request → passes low high k ≡ true → i ∷ [] ≡ cut_item (clip low high) i
point-in low high k i is h =
    ap (λ r. record i { request = r } ∷ []) (sym (cut-point (not_below low k) (not_above high (after k)) k i.request is))
    ∙ ap (λ t. cond t (record i { request = cut_to (not_below low k) (not_above high (after k)) i.request } ∷ []) []) (sym (point-some low high k h))
    ∙ ap (cut_at low high i) is

pub point-out : (low high : Option (List ℕ)) (k : List ℕ) (i : Item) → At k ≡ reach_of i.request → passes low high k ≡ false → [] ≡ cut_item (clip low high) i
point-out low high k i is h =
    ap (λ t. cond t (record i { request = cut_to (not_below low k) (not_above high (after k)) i.request } ∷ []) []) (sym none)
    ∙ ap (cut_at low high i) is
  where
    none : key_lt (not_below low k) (not_above high (after k)) ≡ false
    none =
        elim (key_lt (not_below low k) (not_above high (after k))) as (λ t. key_lt (not_below low k) (not_above high (after k)) ≡ t → t ≡ false) [
          | true ↦ λ e. not_both (passes low high k) (point-kept (clip low high (extent_of (At k))) (passes low high) k (clip-keeps low high (extent_of (At k))) e) h
          | false ↦ λ e. refl
        ] refl

pub over-in : (low high : Option (List ℕ)) (s e : List ℕ) (i : Item) → Over s e ≡ reach_of i.request → key_lt (not_below low s) (not_above high e) ≡ true → record i { request = cut_to (not_below low s) (not_above high e) i.request } ∷ [] ≡ cut_item (clip low high) i
over-in low high s e i is h =
    ap (λ t. cond t (record i { request = cut_to (not_below low s) (not_above high e) i.request } ∷ []) []) (sym h)
    ∙ ap (cut_at low high i) is

pub over-out : (low high : Option (List ℕ)) (s e : List ℕ) (i : Item) → Over s e ≡ reach_of i.request → key_lt (not_below low s) (not_above high e) ≡ false → [] ≡ cut_item (clip low high) i
over-out low high s e i is h =
    ap (λ t. cond t (record i { request = cut_to (not_below low s) (not_above high e) i.request } ∷ []) []) (sym h)
    ∙ ap (cut_at low high i) is

pub below-le : (low : Option (List ℕ)) (k : List ℕ) → key_le k (not_below low k) ≡ true
below-le None k = le_itself k
below-le (Some m) k = max_second m k

pub above-le : (high : Option (List ℕ)) (k : List ℕ) → key_le (not_above high k) k ≡ true
above-le None k = le_itself k
above-le (Some m) k = min_second m k

-- one item more
pub cut-more : (f : Extent → Extent) (xs : List Item) (x : Item) (kept : List Item) (more : List Item) → kept ≡ cut_by f xs → more ≡ cut_item f x → kept ++ more ≡ cut_by f (xs ++ x ∷ [])
cut-more f xs x kept more p q = ap (λ z. z ++ more) p ∙ ap (λ z. cut_by f xs ++ z) q ∙ flat_map_more (cut_item f) [] xs x
