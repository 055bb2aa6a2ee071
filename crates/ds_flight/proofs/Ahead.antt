-- The key at which something is sought has some key of the key space ahead of it.
use Rattle.std.proofs.Common.{◌≡◌, ℕ, true, List, [], ◌∷◌, Some, subst}
use Rattle.ds_base.proofs.KeyFacts.{least, max_first, min_first}
use Rattle.ds_base.proofs.KeyOrder.{key_le_lt-trans}
use Rattle.ds_base.proofs.OrderedFacts.{lt_le_trans}
use Rattle.ds_base.proofs.SmallFacts.{none_some, not_greater, some_same}
use Rattle.ds_base.specs.Order.{key_lt, max_key, min_key, bound}
use Rattle.ds_base.specs.declared.value.Dir.{Dir}
use Rattle.ds_base.specs.declared.value.Dir.TheVariants.{Forward, Reverse}
use Rattle.ds_desc.specs.Contains.{lies_ahead}
use Rattle.ds_kind.specs.Request.{span_of}
use Rattle.ds_kind.specs.declared.batch.Item.{Item}
use Rattle.ds_cover.specs.Cuts.{seek_from, seek_key}
use Rattle.ds_cover.specs.Measures.{AllSpans}

seek-below : (k : List ℕ) (is : List Item) → key_lt k bound ≡ true → key_lt (seek_from Forward k is) bound ≡ true
seek-below k [] low = low
seek-below k (i ∷ is) low =
    let s = (span_of i.request).start in
    seek-below (min_key k s) is (key_le_lt-trans (min_key k s) k bound (min_first k s) low)

seek-above : (k : List ℕ) (is : List Item) → key_lt [] k ≡ true → key_lt [] (seek_from Reverse k is) ≡ true
seek-above k [] low = low
seek-above k (i ∷ is) low =
    let e = (span_of i.request).end in
    seek-above (max_key k e) is (lt_le_trans [] k (max_key k e) low (max_first k e))

pub seek-ahead : (d : Dir) (items : List Item) (k : List ℕ) → AllSpans items → seek_key d items ≡ Some k → lies_ahead d k ≡ true
seek-ahead Forward [] k spans is = none_some k is
seek-ahead Reverse [] k spans is = none_some k is
seek-ahead Forward (i ∷ is) k spans same =
    let x = span_of i.request in
    subst (λ s. key_lt s bound ≡ true) (some_same _ k same)
    (seek-below x.start is (lt_le_trans x.start x.end bound spans.0.some (not_greater _ spans.0.end.low)))
seek-ahead Reverse (i ∷ is) k spans same =
    let x = span_of i.request in
    subst (λ s. key_lt [] s ≡ true) (some_same _ k same)
    (seek-above x.end is (key_le_lt-trans [] x.start x.end (least x.start) spans.0.some))
