-- Cuts of a batch's items act as the items at their positions.
use Rattle.std.proofs.Common.{◌≡◌, ℕ, ◌<◌, true, false, cond, List, [], ◌∷◌, inl, inr, refl, sym, ap, ◌∙◌, subst, arith}
use Rattle.ds_kind.specs.declared.batch.Item.{Item}
use Rattle.ds_cell.specs.Content.{AllAbove, Rises}
use Rattle.ds_cell.specs.Requests.{deed_of}
use Rattle.ds_rule.specs.Turn.{speaks_of, items_at}
use Rattle.ds_rule.specs.Pieces.{Each, IsOneOf, IsCut, position_of}
use Rattle.ds_turn.specs.Cuts.{ActsAs}
use Rattle.ds_turn.proofs.Parts.{cut_deed}

-- where positions rise, one item stands at each

pub above-all : (m : ℕ) (xs : List Item) (x : Item) → AllAbove position_of m xs → IsOneOf x xs → m < x.pos
above-all m [] x all h = absurd h
above-all m (y ∷ ys) x all (inl same) = subst (λ z. m < position_of z) (sym same) all.0
above-all m (y ∷ ys) x all (inr rest) = above-all m ys x all.1 rest

pub one-position : (items : List Item) (u w : Item) → Rises position_of items → IsOneOf u items → IsOneOf w items → u.pos ≡ w.pos → u ≡ w
one-position [] u w r hu hw e = absurd hu
one-position (y ∷ ys) u w r (inl here) (inl too) e = here ∙ sym too
one-position (y ∷ ys) u w r (inl here) (inr rest) e =
    let low : y.pos < w.pos = above-all y.pos ys w r.0 rest in
    let same : u.pos ≡ y.pos = ap position_of here in
    absurd (omega (arith, low, same, e))
one-position (y ∷ ys) u w r (inr there) (inl too) e =
    let low : y.pos < u.pos = above-all y.pos ys u r.0 there in
    let same : w.pos ≡ y.pos = ap position_of too in
    absurd (omega (arith, low, same, e))
one-position (y ∷ ys) u w r (inr there) (inr rest) e = one-position ys u w r.1 there rest e

-- the items at a key are of the batch

one-of-more : (y : Item) (items is : List Item) → Each (λ i. IsOneOf i items) is → Each (λ i. IsOneOf i (y ∷ items)) is
one-of-more y items [] all = tt
one-of-more y items (i ∷ is) all = (inr all.0, one-of-more y items is all.1)

pub items-of : (k : List ℕ) (items : List Item) → Each (λ i. IsOneOf i items) (items_at k items)
items-of k [] = tt
items-of k (i ∷ is) =
    elim (speaks_of k i) as (λ t. Each (λ j. IsOneOf j (i ∷ is)) (cond t (i ∷ items_at k is) (items_at k is))) [
      | true ↦ (inl refl, one-of-more i is (items_at k is) (items-of k is))
      | false ↦ one-of-more i is (items_at k is) (items-of k is)
    ]

pub cut-acts : (items : List Item) (j i : Item) → Rises position_of items → IsCut items j → IsOneOf i items → j.pos ≡ i.pos → ActsAs j i
cut-acts items j i r cut there e =
    let same : cut.whole ≡ i = one-position items cut.whole i r cut.there there (sym cut.position ∙ e) in
    record {
      position = e;
      number = cut.number ∙ ap (λ z. z.seq) same;
      deed = ap deed_of cut.request ∙ cut_deed _ _ cut.whole.request ∙ ap (λ z. deed_of z.request) same;
    }
