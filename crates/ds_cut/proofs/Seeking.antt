-- The first of two reaches, and of all items, is met at the seek key.
use Rattle.std.proofs.Common.{◌≡◌, ℕ, true, false, cond, List, [], ◌∷◌, refl, sym, ap, Some, None}
use Rattle.ds_base.specs.Order.{key_lt, key_le, max_key, min_key}
use Rattle.ds_base.specs.declared.value.Dir.{Dir}
use Rattle.ds_base.specs.declared.value.Dir.TheVariants.{Forward, Reverse}
use Rattle.ds_base.proofs.KeyOrder.{key_le-antisymm}
use Rattle.ds_base.proofs.NextKeys.{after_le, le_after, lt_of_not_le, next_le}
use Rattle.ds_base.proofs.OrderedFacts.{le_of_lt, le_of_not_lt, not_lt_of_le}
use Rattle.ds_kind.specs.Reach.{Reach, At, Over, extent_of}
use Rattle.ds_kind.specs.Request.{reach_of}
use Rattle.ds_kind.specs.declared.batch.Item.{Item}
use Rattle.ds_cover.specs.Cuts.{seek_from, seek_key}
use Rattle.ds_cut.specs.Seek.{near_end, first_met, first_over, ends_above, comes_first}

-- two reaches

above-yes : (r q : Reach) → ends_above r q ≡ true → key_le (extent_of q).end (extent_of r).end ≡ true
above-yes (At a) (At b) h = after_le b a h
above-yes (At a) (Over s e) h = le_after e a h
above-yes (Over s e) (At b) h = next_le b e h
above-yes (Over s e) (Over t f) h = h

above-no : (r q : Reach) → ends_above r q ≡ false → key_le (extent_of r).end (extent_of q).end ≡ true
above-no (At a) (At b) h = after_le a b (le_of_lt a b (lt_of_not_le b a h))
above-no (At a) (Over s e) h = next_le a e (lt_of_not_le e a h)
above-no (Over s e) (At b) h = le_after e b (le_of_not_lt b e h)
above-no (Over s e) (Over t f) h = le_of_lt e f (lt_of_not_le f e h)

pub first-yes : (d : Dir) (r q : Reach) → comes_first d r q ≡ true → near_end d r ≡ first_met d (near_end d r) (near_end d q)
first-yes Forward r q h =
    let a = (extent_of r).start in
    let b = (extent_of q).start in
    sym (ap (λ t. cond t b a) (not_lt_of_le a b h))
first-yes Reverse r q h =
    let a = (extent_of r).end in
    let b = (extent_of q).end in
    sym (ap (λ t. cond t b a) (not_lt_of_le b a (above-yes r q h)))

pub greater : (a b : List ℕ) → key_le a b ≡ true → b ≡ max_key a b
greater a b h =
    elim (key_lt a b) as (λ t. key_lt a b ≡ t → b ≡ cond t b a) [
      | true ↦ λ e. refl
      | false ↦ λ e. sym (key_le-antisymm a b h e)
    ] refl

pub first-no : (d : Dir) (r q : Reach) → comes_first d r q ≡ false → near_end d q ≡ first_met d (near_end d r) (near_end d q)
first-no Forward r q h =
    let a = (extent_of r).start in
    let b = (extent_of q).start in
    sym (ap (λ t. cond t b a) (lt_of_not_le a b h))
first-no Reverse r q h = greater (extent_of r).end (extent_of q).end (above-no r q h)

-- all items

over-some : (d : Dir) (k : List ℕ) (items : List Item) → first_over d (Some k) items ≡ Some (seek_from d k items)
over-some Forward k [] = refl
over-some Reverse k [] = refl
over-some Forward k (i ∷ is) = over-some Forward (min_key k (extent_of (reach_of i.request)).start) is
over-some Reverse k (i ∷ is) = over-some Reverse (max_key k (extent_of (reach_of i.request)).end) is

pub over_seek : (d : Dir) (items : List Item) → first_over d None items ≡ seek_key d items
over_seek Forward [] = refl
over_seek Reverse [] = refl
over_seek Forward (i ∷ is) = over-some Forward (extent_of (reach_of i.request)).start is
over_seek Reverse (i ∷ is) = over-some Reverse (extent_of (reach_of i.request)).end is
