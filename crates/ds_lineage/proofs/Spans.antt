-- What a descriptor comes after, told by whole spans.
use Rattle.std.proofs.Common.{◌≡◌, ℕ, true, false, List, [], ◌∷◌, ◌++◌, Some, refl, sym, ◌∙◌, subst, length, reverse}
use Rattle.std.specs.List.{find}
use Rattle.ds_base.specs.Order.{Extent, key_lt, key_le}
use Rattle.ds_base.specs.declared.value.Dir.TheVariants.{Forward}
use Rattle.ds_base.proofs.KeyOrder.{key_le_lt-trans}
use Rattle.ds_base.proofs.OrderedFacts.{le_of_not_lt, le_trans, lt_le_trans}
use Rattle.ds_base.proofs.SmallFacts.{and_first, and_second, and_both}
use Rattle.ds_desc.specs.Contains.{contains}
use Rattle.ds_desc.specs.Descs.{containing, overlap}
use Rattle.ds_desc.specs.declared.desc.RangeDesc.{RangeDesc}
use Rattle.ds_lineage.specs.Last.{IsNewestAt, Begins, Follows, Joins}
use Rattle.ds_lineage.proofs.Lasts.{last-found, last-kept, last-new, none-kept, there-kept, there-new}

-- no key is in two spans that don't overlap
pub apart : (a b : Extent) (k : List ℕ) → overlap a b ≡ false → contains Forward k b ≡ true → contains Forward k a ≡ false
apart a b k over into =
    elim (contains Forward k a) as (λ t. contains Forward k a ≡ t → t ≡ false) [
      | true ↦ λ h.
          let low : key_lt a.start b.end ≡ true = key_le_lt-trans a.start k b.end (and_first _ _ h) (and_second (key_le b.start k) _ into) in
          let high : key_lt b.start a.end ≡ true = key_le_lt-trans b.start k a.end (and_first _ _ into) (and_second (key_le a.start k) _ h) in
          sym (and_both _ _ low high) ∙ over
      | false ↦ λ h. refl
    ] refl

-- a key of a span inside another is one of the other
pub within : (a b : Extent) (k : List ℕ) → key_le b.start a.start ≡ true → key_le a.end b.end ≡ true → contains Forward k a ≡ true → contains Forward k b ≡ true
within a b k start end into =
    and_both _ _ (le_trans b.start a.start k start (and_first _ _ into)) (lt_le_trans k a.end b.end (and_second (key_le a.start k) _ into) end)

-- ---- begins

pub begins-first : (s : Extent) → Begins [] s
begins-first s k into = refl

-- one more descriptor that doesn't overlap the span
pub begins-kept : (ds : List RangeDesc) (s : Extent) (e : RangeDesc) → overlap e.span s ≡ false → Begins ds s → Begins (ds ++ e ∷ []) s
begins-kept ds s e over h k into = none-kept ds k e (apart e.span s k over into) ∙ h k into

-- ---- follows

-- one more descriptor that doesn't overlap the span
pub follows-kept : (ds : List RangeDesc) (s : Extent) (i : ℕ) (e : RangeDesc) → overlap e.span s ≡ false → Follows ds s i → Follows (ds ++ e ∷ []) s i
follows-kept ds s i e over h k into = last-kept ds k i e (apart e.span s k over into) (h k into)

-- a part of the span of the newest
pub follows-newest : (ds : List RangeDesc) (s : Extent) (d : RangeDesc) (i : ℕ) → key_le d.span.start s.start ≡ true → key_le s.end d.span.end ≡ true → IsNewestAt ds d i → Follows ds s i
follows-newest ds s d i start end h k into = h.last k (within s d.span k start end into)

-- ---- joins

-- the newest of two neighbours
pub joins-neighbours : (ds : List RangeDesc) (d e : RangeDesc) (left right : ℕ) → d.span.end ≡ e.span.start → IsNewestAt ds d left → IsNewestAt ds e right → Joins ds (record { start = d.span.start; end = e.span.end }) left right
joins-neighbours ds d e left right meet l r = record {
  second = e;
  there = r.there;
  below = λ k into low. l.last k (and_both _ _ (and_first _ _ into) (subst (λ z. key_lt k z ≡ true) (sym meet) low));
  from = λ k into high. r.last k (and_both _ _ (le_of_not_lt k e.span.start high) (and_second (key_le d.span.start k) _ into));
}

-- ---- the newest

-- a new descriptor is the newest
pub newest-new : (ds : List RangeDesc) (e : RangeDesc) → IsNewestAt (ds ++ e ∷ []) e (length ds)
newest-new ds e = record { there = there-new ds e; last = λ k into. last-new ds k e into }

-- it stays so beside one that it doesn't overlap
pub newest-kept : (ds : List RangeDesc) (d e : RangeDesc) (i : ℕ) → overlap e.span d.span ≡ false → IsNewestAt ds d i → IsNewestAt (ds ++ e ∷ []) d i
newest-kept ds d e i over h = record {
  there = there-kept ds i d e h.there;
  last = follows-kept ds d.span i e over h.last;
}

-- it is the last of those that contain one of its keys
pub newest-found : (ds : List RangeDesc) (d : RangeDesc) (i : ℕ) (k : List ℕ) → IsNewestAt ds d i → contains Forward k d.span ≡ true → find (λ _. true) (reverse (containing k ds)) ≡ Some d
newest-found ds d i k h into = last-found ds k i d h.there (h.last k into)
