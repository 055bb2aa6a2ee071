-- What stands at each key after one was changed. It stands here since the laws of the trait `Acts` cite it.
use Rattle.std.proofs.Common.{◌≡◌, ℕ, true, false, cond, List, [], ◌∷◌, refl, sym, ap, ◌∙◌, subst, Some, None}
use Rattle.std.specs.BTreeMap.{insert_entry}
use Rattle.std.specs.Ordering.{is_lt, is_eq, match_ordering, ordering_reverse}
use Rattle.std.specs.declared.cmp.Ordering.{Ordering}
use Rattle.std.specs.declared.cmp.Ordering.TheVariants.{Less, Equal, Greater}
use Rattle.std.proofs.lemmas.Cmp.{nat_list_cmp_total}
use Rattle.ds_base.specs.Order.{key_cmp, key_lt}
use Rattle.ds_base.specs.Ordered.{key_eq, AllOver, Ascends, at_key}
use Rattle.ds_base.proofs.OrderedFacts.{eq_same, eq_itself, gt_not_eq, over-below}
use Rattle.ds_cell.specs.Content.{Content}
use Rattle.ds_cell.specs.Ask.{Cells, key_of, content_of, content_at}
use Rattle.ds_cell.specs.Store.{put_cell}

over-insert : (q k : List ℕ) (c : Content) (cells : Cells) → key_lt q k ≡ true → AllOver key_of q cells → AllOver key_of q (insert_entry key_cmp cells k c)
over-insert q k c [] h all = (h, tt)
over-insert q k c (p ∷ ps) h all =
    elim (key_cmp k p.0) as (λ o. AllOver key_of q (match_ordering o ((k, c) ∷ p ∷ ps) ((p.0, c) ∷ ps) (p ∷ insert_entry key_cmp ps k c))) [
      | Less ↦ (h, all)
      | Equal ↦ all
      | Greater ↦ (all.0, over-insert q k c ps h all.1)
    ]

turned : (o : Ordering) → o ≡ Greater → is_lt (ordering_reverse o) ≡ true
turned Less h = cc
turned Equal h = cc
turned Greater h = refl

pub below : (k q : List ℕ) → key_cmp k q ≡ Greater → key_lt q k ≡ true
below k q h = ap is_lt (nat_list_cmp_total.antisymm q k) ∙ turned (key_cmp k q) h

-- the keys ascend still
pub ascends-insert : (k : List ℕ) (c : Content) (cells : Cells) → Ascends key_of cells → Ascends key_of (insert_entry key_cmp cells k c)
ascends-insert k c [] asc = (tt, tt)
ascends-insert k c (p ∷ ps) asc =
    elim (key_cmp k p.0) as (λ o. key_cmp k p.0 ≡ o → Ascends key_of (match_ordering o ((k, c) ∷ p ∷ ps) ((p.0, c) ∷ ps) (p ∷ insert_entry key_cmp ps k c))) [
      | Less ↦ λ h. let low : key_lt k p.0 ≡ true = ap is_lt h in ((low, over-below key_of k p.0 ps low asc.0), asc)
      | Equal ↦ λ h. (asc.0, asc.1)
      | Greater ↦ λ h. (over-insert p.0 k c ps (below k p.0 h) asc.0, ascends-insert k c ps asc.1)
    ] refl

pub equal_same : (k q : List ℕ) → key_cmp k q ≡ Equal → k ≡ q
equal_same k q h = eq_same k q (ap is_eq h)

insert-at : (k q : List ℕ) (c : Content) (cells : Cells) → content_at q (insert_entry key_cmp cells k c) ≡ cond (key_eq k q) c (content_at q cells)
insert-at k q c [] = elim (key_eq k q) as (λ t. content_of (cond t (Some (k, c)) None) ≡ cond t c (content_at q [])) [ true ↦ refl | false ↦ refl ]
insert-at k q c (p ∷ ps) =
    elim (key_cmp k p.0) as (λ o. key_cmp k p.0 ≡ o → content_at q (match_ordering o ((k, c) ∷ p ∷ ps) ((p.0, c) ∷ ps) (p ∷ insert_entry key_cmp ps k c)) ≡ cond (key_eq k q) c (content_at q (p ∷ ps))) [
      | Less ↦ λ h. elim (key_eq k q) as (λ t. content_of (cond t (Some (k, c)) (at_key key_of q (p ∷ ps))) ≡ cond t c (content_at q (p ∷ ps))) [ true ↦ refl | false ↦ refl ]
      | Equal ↦ λ h.
          subst (λ z. content_of (cond (key_eq p.0 q) (Some (p.0, c)) (at_key key_of q ps)) ≡ cond (key_eq z q) c (content_of (cond (key_eq p.0 q) (Some p) (at_key key_of q ps)))) (sym (equal_same k p.0 h))
          (elim (key_eq p.0 q) as (λ t. content_of (cond t (Some (p.0, c)) (at_key key_of q ps)) ≡ cond t c (content_of (cond t (Some p) (at_key key_of q ps)))) [ true ↦ refl | false ↦ refl ])
      | Greater ↦ λ h.
          elim (key_eq p.0 q) as (λ t. key_eq p.0 q ≡ t → content_of (cond t (Some p) (at_key key_of q (insert_entry key_cmp ps k c))) ≡ cond (key_eq k q) c (content_of (cond t (Some p) (at_key key_of q ps)))) [
            | true ↦ λ e. ap (λ t. cond t c p.1) (sym (subst (λ z. key_eq k z ≡ false) (eq_same p.0 q e) (gt_not_eq p.0 k (below k p.0 h))))
            | false ↦ λ e. insert-at k q c ps
          ] refl
    ] refl

pub content-put : (k q : List ℕ) (f : Content → Content) (cells : Cells) → content_at q (put_cell k f cells) ≡ cond (key_eq k q) (f (content_at k cells)) (content_at q cells)
content-put k q f cells = insert-at k q (f (content_at k cells)) cells

pub put-itself : (k : List ℕ) (f : Content → Content) (cells : Cells) → content_at k (put_cell k f cells) ≡ f (content_at k cells)
put-itself k f cells = content-put k k f cells ∙ ap (λ t. cond t (f (content_at k cells)) (content_at k cells)) (eq_itself k)

pub put-other : (k q : List ℕ) (f : Content → Content) (cells : Cells) → key_eq k q ≡ false → content_at q (put_cell k f cells) ≡ content_at q cells
put-other k q f cells other = content-put k q f cells ∙ ap (λ t. cond t (f (content_at k cells)) (content_at q cells)) other
