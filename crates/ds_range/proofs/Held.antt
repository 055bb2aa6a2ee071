-- Where an item's span lies in a range.
use Rattle.std.proofs.Common.{◌≡◌, ℕ, Bool, true, false, not, ◌&&◌, List, refl, sym, ap, ◌∙◌}
use Rattle.std.specs.Ordering.{is_gt, is_le}
use Rattle.std.specs.declared.cmp.Ordering.{Ordering}
use Rattle.std.specs.declared.cmp.Ordering.TheVariants.{Less, Equal, Greater}
use Rattle.ds_base.specs.Order.{key_cmp, key_lt, key_le, after, holds}
use Rattle.ds_base.proofs.KeyOrder.{after-above}
use Rattle.ds_kind.specs.declared.batch.Item.{Item}
use Rattle.ds_kind.specs.Reach.{At, extent_of}
use Rattle.ds_kind.specs.Request.{reach_of}
use Rattle.ds_rule.specs.World.{Range, start_of, end_of}
use Rattle.ds_rule.specs.Deliver.{holds_item}

le_of_gt : (o : Ordering) → is_le o ≡ not (is_gt o)
le_of_gt Less = refl
le_of_gt Equal = refl
le_of_gt Greater = refl

not_twice : (t : Bool) → not (not t) ≡ t
not_twice true = refl
not_twice false = refl

-- the point span of k ends within e exactly where k lies below e
pub after_within : (k e : List ℕ) → key_le (after k) e ≡ key_lt k e
after_within k e = le_of_gt (key_cmp (after k) e) ∙ ap not (after-above k e) ∙ not_twice (key_lt k e)

-- the item's span lies in the range exactly where its key does
pub held_at : (r : Range) (i : Item) (k : List ℕ) → At k ≡ reach_of i.request → holds (start_of r) (end_of r) k ≡ holds_item r i
held_at r i k h =
    ap (λ t. key_le (start_of r) k && t) (sym (after_within k (end_of r)))
    ∙ ap (λ e. key_le (start_of r) (extent_of e).start && key_le (extent_of e).end (end_of r)) h
