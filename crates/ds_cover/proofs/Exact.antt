-- What is cut has keys, and nothing is cut exactly where no key of it lies in the span.
use Rattle.std.proofs.Common.{◌≡◌, ℕ, true, false, cond, List, [], ◌∷◌, ◌++◌, refl, sym, ap, ◌∙◌, subst}
use Rattle.ds_base.proofs.KeyOrder.{below-after}
use Rattle.ds_base.proofs.SmallFacts.{and_both}
use Rattle.ds_base.specs.Order.{Extent, key_lt, holds}
use Rattle.ds_base.specs.declared.value.Dir.{Dir}
use Rattle.ds_base.specs.declared.value.Dir.TheVariants.{Forward, Reverse}
use Rattle.ds_kind.specs.Reach.{Reach, At, Over, extent_of}
use Rattle.ds_kind.specs.Request.{cut_to, reach_of, span_of}
use Rattle.ds_kind.specs.declared.batch.Item.{Item}
use Rattle.ds_kind.specs.CutReach.{cut_reach}
use Rattle.ds_kind.proofs.RequestFacts.{reach_cut}
use Rattle.ds_cover.specs.Coverage.{holds_at, positions_at}
use Rattle.ds_cover.specs.Cuts.{cut_by, within, from, up_to, cut_items, rest_items}
use Rattle.ds_cover.specs.Items.{AllSome, item_span}
use Rattle.ds_cover.proofs.Cutting.{cut_items-positions}
use Rattle.ds_cover.proofs.Tests.{le_itself}

reach-some : (s e : List ℕ) (reach : Reach) → key_lt s e ≡ true → key_lt (extent_of (cut_reach s e reach)).start (extent_of (cut_reach s e reach)).end ≡ true
reach-some s e (At k) h = below-after k
reach-some s e (Over a b) h = h

-- whatever is cut has a key
pub cut-some : (f : Extent → Extent) (items : List Item) → AllSome item_span (cut_by f items)
cut-some f [] = tt
cut-some f (i ∷ is) =
    let x = span_of i.request in
    let cut = record i { request = cut_to (f x).start (f x).end i.request } in
    elim (key_lt (f x).start (f x).end) as (λ t. key_lt (f x).start (f x).end ≡ t → AllSome item_span (cond t (cut ∷ []) [] ++ cut_by f is)) [
      | true ↦ λ some. (
        subst (λ reach. key_lt (extent_of reach).start (extent_of reach).end ≡ true) (sym (reach_cut (f x).start (f x).end i.request)) (reach-some (f x).start (f x).end (reach_of i.request) some),
        cut-some f is,
      )
      | false ↦ λ none. cut-some f is
    ] refl

pub rest-some : (d : Dir) (span : Extent) (items : List Item) → AllSome item_span (rest_items d span items)
rest-some Forward span items = cut-some (from span.end) items
rest-some Reverse span items = cut-some (up_to span.start) items

pub none-out : (span : Extent) (items : List Item) → cut_items span items ≡ [] → (k : List ℕ) → holds span.start span.end k ≡ true → positions_at k items ≡ []
none-out span items none k h =
    ap (λ t. cond t (positions_at k items) []) (sym h) ∙ sym (cut_items-positions span k items) ∙ ap (positions_at k) none

nothing : (xs : List Item) → AllSome item_span xs → ((k : List ℕ) → positions_at k xs ≡ []) → xs ≡ []
nothing [] some h = refl
nothing (x ∷ xs) some h =
    let here : holds_at (item_span x).start x ≡ true = and_both _ _ (le_itself (item_span x).start) some.0 in
    absurd (never (sym (h (item_span x).start) ∙ ap (λ t. cond t (x.pos ∷ positions_at (item_span x).start xs) (positions_at (item_span x).start xs)) here))
  where
    never : {w : ℕ} {ws : List ℕ} → [] ≡ w ∷ ws → ⊥
    never h = cc

pub out-none : (span : Extent) (items : List Item) → ((k : List ℕ) → holds span.start span.end k ≡ true → positions_at k items ≡ []) → cut_items span items ≡ []
out-none span items h =
    nothing (cut_items span items) (cut-some (within span) items) (λ k.
    cut_items-positions span k items
    ∙ elim (holds span.start span.end k) as (λ t. holds span.start span.end k ≡ t → cond t (positions_at k items) [] ≡ []) [
      | true ↦ λ e. h k e
      | false ↦ λ e. refl
    ] refl)
