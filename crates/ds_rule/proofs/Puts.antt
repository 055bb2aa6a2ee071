-- Changing one key's content, in one range and in all contents.
use Rattle.std.proofs.Common.{◌≡◌, ℕ, true, false, cond, ◌&&◌, List, [], ◌∷◌, ◌++◌, Some, refl, sym, ap, ◌∙◌, subst}
use Rattle.std.specs.Ordering.{is_lt, match_ordering, ordering_reverse}
use Rattle.std.specs.declared.cmp.Ordering.{Ordering}
use Rattle.std.specs.declared.cmp.Ordering.TheVariants.{Less, Equal, Greater}
use Rattle.std.specs.BTreeMap.{insert_entry}
use Rattle.std.proofs.lemmas.Cmp.{nat_list_cmp_total}
use Rattle.ds_base.specs.Order.{key_cmp, key_lt, key_le, bound}
use Rattle.ds_base.specs.Ordered.{key_eq, AllOver, AllBelow, Ascends, at_key}
use Rattle.ds_base.proofs.OrderedFacts.{le_of_not_lt, at-none, lt_not_eq, not_lt_of_le}
use Rattle.ds_cell.specs.Content.{Content}
use Rattle.ds_cell.specs.Ask.{Cells, key_of, content_of, content_at}
use Rattle.ds_cell.specs.Store.{put_cell}
use Rattle.ds_cell.specs.StoreProofs.{content-put}
use Rattle.ds_rule.specs.World.{Range, start_of, end_of, contents, Tiles, holds_key, replaced}
use Rattle.ds_rule.proofs.Routes.{inside-below, contents-from, over-of-from, le_itself}

insert-over : (k : List ℕ) (c : Content) (ys : Cells) → AllOver key_of k ys → insert_entry key_cmp ys k c ≡ (k, c) ∷ ys
insert-over k c [] all = refl
insert-over k c (y ∷ ys) all =
    elim (key_cmp k y.0) as (λ o. is_lt o ≡ true → match_ordering o ((k, c) ∷ y ∷ ys) ((y.0, c) ∷ ys) (y ∷ insert_entry key_cmp ys k c) ≡ (k, c) ∷ y ∷ ys) [
      | Less ↦ λ h. refl
      | Equal ↦ λ h. cc
      | Greater ↦ λ h. cc
    ] all.0

-- a key below all that follows is put among those before
pub insert-left : (k : List ℕ) (c : Content) (xs ys : Cells) → AllOver key_of k ys → insert_entry key_cmp (xs ++ ys) k c ≡ insert_entry key_cmp xs k c ++ ys
insert-left k c [] ys all = insert-over k c ys all
insert-left k c (x ∷ xs) ys all =
    elim (key_cmp k x.0) as (λ o. match_ordering o ((k, c) ∷ x ∷ (xs ++ ys)) ((x.0, c) ∷ (xs ++ ys)) (x ∷ insert_entry key_cmp (xs ++ ys) k c) ≡ match_ordering o ((k, c) ∷ x ∷ xs) ((x.0, c) ∷ xs) (x ∷ insert_entry key_cmp xs k c) ++ ys) [
      | Less ↦ refl
      | Equal ↦ refl
      | Greater ↦ ap (λ zs. x ∷ zs) (insert-left k c xs ys all)
    ]

turned : (o : Ordering) → is_lt (ordering_reverse o) ≡ true → o ≡ Greater
turned Less h = cc
turned Equal h = cc
turned Greater h = refl

pub greater : (k q : List ℕ) → key_lt q k ≡ true → key_cmp k q ≡ Greater
greater k q h = turned (key_cmp k q) (ap is_lt (sym (nat_list_cmp_total.antisymm q k)) ∙ h)

-- a key above all that precedes is put among those after
pub insert-right : (k : List ℕ) (c : Content) (xs ys : Cells) → AllBelow key_of k xs → insert_entry key_cmp (xs ++ ys) k c ≡ xs ++ insert_entry key_cmp ys k c
insert-right k c [] ys all = refl
insert-right k c (x ∷ xs) ys all =
    ap (λ o. match_ordering o ((k, c) ∷ x ∷ (xs ++ ys)) ((x.0, c) ∷ (xs ++ ys)) (x ∷ insert_entry key_cmp (xs ++ ys) k c)) (greater k x.0 all.0)
    ∙ ap (λ zs. x ∷ zs) (insert-right k c xs ys all.1)

pub content-left : (k : List ℕ) (xs ys : Cells) → AllOver key_of k ys → content_at k (xs ++ ys) ≡ content_at k xs
content-left k [] ys all = ap content_of (at-none key_of k ys all)
content-left k (x ∷ xs) ys all =
    elim (key_eq x.0 k) as (λ t. content_of (cond t (Some x) (at_key key_of k (xs ++ ys))) ≡ content_of (cond t (Some x) (at_key key_of k xs))) [
      | true ↦ refl
      | false ↦ content-left k xs ys all
    ]

pub content-right : (k : List ℕ) (xs ys : Cells) → AllBelow key_of k xs → content_at k (xs ++ ys) ≡ content_at k ys
content-right k [] ys all = refl
content-right k (x ∷ xs) ys all =
    ap (λ t. content_of (cond t (Some x) (at_key key_of k (xs ++ ys)))) (lt_not_eq x.0 k all.0) ∙ content-right k xs ys all.1

put-left : (k : List ℕ) (f : Content → Content) (xs ys : Cells) → AllOver key_of k ys → put_cell k f xs ++ ys ≡ put_cell k f (xs ++ ys)
put-left k f xs ys all =
    sym (insert-left k (f (content_at k xs)) xs ys all) ∙ ap (λ c. insert_entry key_cmp (xs ++ ys) k (f c)) (sym (content-left k xs ys all))

put-right : (k : List ℕ) (f : Content → Content) (xs ys : Cells) → AllBelow key_of k xs → xs ++ put_cell k f ys ≡ put_cell k f (xs ++ ys)
put-right k f xs ys all =
    sym (insert-right k (f (content_at k ys)) xs ys all) ∙ ap (λ c. insert_entry key_cmp (xs ++ ys) k (f c)) (sym (content-right k xs ys all))

-- changing a key's content in the range that holds it is changing it in all contents
pub contents-put : (k : List ℕ) (f : Content → Content) (s : List ℕ) (rs : List Range) → Tiles s rs → key_le s k ≡ true → key_lt k bound ≡ true → contents (replaced (holds_key k) (λ r. record r { cells = put_cell k f r.cells }) rs) ≡ put_cell k f (contents rs)
contents-put k f s [] t low high =
    let no_more : key_lt k bound ≡ false = subst (λ z. key_lt k z ≡ false) t (not_lt_of_le s k low) in cc
contents-put k f s (r ∷ rs) t low high =
    let put = λ (r : Range). record r { cells = put_cell k f r.cells } in
    elim (key_lt k (end_of r)) as (λ b. key_lt k (end_of r) ≡ b → contents (cond (key_le (start_of r) k && b) (put r ∷ rs) (r ∷ replaced (holds_key k) put rs)) ≡ put_cell k f (r.cells ++ contents rs)) [
      | true ↦ λ e.
          ap (λ t. contents (cond (t && true) (put r ∷ rs) (r ∷ replaced (holds_key k) put rs))) from
          ∙ put-left k f r.cells (contents rs) (over-of-from k (end_of r) (contents rs) e (contents-from (end_of r) (end_of r) rs (le_itself (end_of r)) t.1))
      | false ↦ λ e.
          ap (λ t. contents (cond (t && false) (put r ∷ rs) (r ∷ replaced (holds_key k) put rs))) from
          ∙ ap (λ zs. r.cells ++ zs) (contents-put k f (end_of r) rs t.1 (le_of_not_lt k (end_of r) e) high)
          ∙ put-right k f r.cells (contents rs) (inside-below s (end_of r) k r.cells (le_of_not_lt k (end_of r) e) t.0.inside)
    ] refl
  where
    from : key_le (start_of r) k ≡ true
    from = subst (λ z. key_le z k ≡ true) (sym t.0.begins) low

-- what stands at each key after one was changed
pub put-at : (k q : List ℕ) (f : Content → Content) (cells : Cells) → Ascends key_of cells → content_at q (put_cell k f cells) ≡ cond (key_eq k q) (f (content_at k cells)) (content_at q cells)
put-at k q f cells asc = content-put k q f cells
