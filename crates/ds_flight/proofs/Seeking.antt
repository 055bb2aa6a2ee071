-- A piece that is cut off a rest is sought where the rest was, and what is left of the rest is sought later.
use Rattle.std.proofs.Common.{◌≡◌, ℕ, true, false, not, ◌&&◌, cond, List, [], ◌∷◌, ◌++◌, Some, refl, sym, ap, ◌∙◌, subst}
use Rattle.ds_base.proofs.KeyFacts.{le_itself, max_first, max_second, min_first, min_second}
use Rattle.ds_base.proofs.KeyOrder.{after-above, after-tight, key_le-antisymm, key_le_lt-trans}
use Rattle.ds_base.proofs.OrderedFacts.{le_of_lt, le_of_not_lt, lt_le_trans, not_lt_of_le}
use Rattle.ds_base.proofs.SmallFacts.{and_both, and_first, and_second, none_some, not_greater, some_same}
use Rattle.ds_base.proofs.TestFacts.{not_both}
use Rattle.ds_base.specs.Order.{Extent, after, holds, key_cmp, key_le, key_lt, max_key, min_key}
use Rattle.ds_base.specs.declared.value.Dir.{Dir}
use Rattle.ds_base.specs.declared.value.Dir.TheVariants.{Forward, Reverse}
use Rattle.ds_desc.specs.Contains.{contains}
use Rattle.ds_kind.proofs.RequestFacts.{reach_cut}
use Rattle.ds_kind.specs.CutReach.{cut_reach}
use Rattle.ds_kind.specs.Reach.{Reach, At, Over, extent_of}
use Rattle.ds_kind.specs.Request.{cut_to, reach_of, span_of}
use Rattle.ds_kind.specs.declared.batch.Item.{Item}
use Rattle.ds_cover.proofs.Cutting.{none-kept, within-keeps}
use Rattle.ds_cover.specs.Cuts.{cut_by, cut_items, from, rest_items, seek_from, seek_key, up_to, within, AllNear}
use Rattle.ds_cover.specs.Measures.{AllSpans}
use Rattle.ds_flight.specs.Picked.{comes_first}

-- ---- the lesser and the greater of two keys

max-stays : (m s : List ℕ) → key_le m s ≡ true → max_key m s ≡ s
max-stays m s le =
    elim (key_lt m s) as (λ t. key_lt m s ≡ t → cond t s m ≡ s) [
      | true ↦ λ e. refl
      | false ↦ λ e. key_le-antisymm m s le e
    ] refl

min-stays : (m e : List ℕ) → key_le e m ≡ true → min_key m e ≡ e
min-stays m e le =
    elim (key_lt e m) as (λ t. key_lt e m ≡ t → cond t e m ≡ e) [
      | true ↦ λ h. refl
      | false ↦ λ h. sym (key_le-antisymm e m le h)
    ] refl

min-first : (k s : List ℕ) → key_le k s ≡ true → min_key k s ≡ k
min-first k s le = ap (λ t. cond t s k) (not_lt_of_le k s le)

max-first : (k e : List ℕ) → key_le e k ≡ true → max_key k e ≡ k
max-first k e le = ap (λ t. cond t e k) (not_lt_of_le e k le)

le-min : (a b c : List ℕ) → key_le a b ≡ true → key_le a c ≡ true → key_le a (min_key b c) ≡ true
le-min a b c p q = elim (key_lt c b) as (λ t. key_le a (cond t c b) ≡ true) [ true ↦ q | false ↦ p ]

max-le : (a b c : List ℕ) → key_le a c ≡ true → key_le b c ≡ true → key_le (max_key a b) c ≡ true
max-le a b c p q = elim (key_lt a b) as (λ t. key_le (cond t b a) c ≡ true) [ true ↦ q | false ↦ p ]

max-below : (a b k : List ℕ) → key_lt a k ≡ true → key_lt b k ≡ true → key_lt (max_key a b) k ≡ true
max-below a b k p q = elim (key_lt a b) as (λ t. key_lt (cond t b a) k ≡ true) [ true ↦ q | false ↦ p ]

-- ---- which items are cut, and where the cut ones start and end

kept-below : (span x : Extent) → key_lt (within span x).start (within span x).end ≡ true → key_lt x.start span.end ≡ true
kept-below span x h =
    let y = within span x in
    lt_le_trans x.start y.end span.end (key_le_lt-trans x.start y.start y.end (max_second span.start x.start) h) (min_first span.end x.end)

kept-above : (span x : Extent) → key_lt (within span x).start (within span x).end ≡ true → key_lt span.start x.end ≡ true
kept-above span x h =
    let y = within span x in
    lt_le_trans span.start y.end x.end (key_le_lt-trans span.start y.start y.end (max_first span.start x.start) h) (min_second span.end x.end)

dropped-past : (span x : Extent) → key_lt x.start x.end ≡ true → key_le span.start x.start ≡ true → key_lt (within span x).start (within span x).end ≡ false → key_le span.end x.start ≡ true
dropped-past span x some near h =
    let none : (holds x.start x.end x.start && holds span.start span.end x.start) ≡ false = none-kept (within span x) x (holds span.start span.end) (within-keeps span x) h x.start in
    elim (key_lt x.start span.end) as (λ t. key_lt x.start span.end ≡ t → key_le span.end x.start ≡ true) [
      | true ↦ λ e.
          not_both (holds x.start x.end x.start && holds span.start span.end x.start)
          (and_both (holds x.start x.end x.start) _ (and_both (key_le x.start x.start) _ (le_itself x.start) some) (and_both (key_le span.start x.start) _ near e)) none
      | false ↦ λ e. le_of_not_lt x.start span.end e
    ] refl

dropped-before : (span x : Extent) → key_lt x.start x.end ≡ true → key_le x.end span.end ≡ true → key_lt (within span x).start (within span x).end ≡ false → key_le x.end span.start ≡ true
dropped-before span x some near h =
    let k = max_key span.start x.start in
    let none : (holds x.start x.end k && holds span.start span.end k) ≡ false = none-kept (within span x) x (holds span.start span.end) (within-keeps span x) h k in
    elim (key_lt span.start x.end) as (λ t. key_lt span.start x.end ≡ t → key_le x.end span.start ≡ true) [
      | true ↦ λ e.
          let below = max-below span.start x.start x.end e some in
          not_both (holds x.start x.end k && holds span.start span.end k)
          (and_both (holds x.start x.end k) _ (and_both (key_le x.start k) _ (max_second span.start x.start) below) (and_both (key_le span.start k) _ (max_first span.start x.start) (lt_le_trans k x.end span.end below near))) none
      | false ↦ λ e. le_of_not_lt span.start x.end e
    ] refl

reach-start : (span : Extent) (x : Reach) → key_le span.start (extent_of x).start ≡ true → (extent_of (cut_reach (within span (extent_of x)).start (within span (extent_of x)).end x)).start ≡ (extent_of x).start
reach-start span (At k) near = refl
reach-start span (Over s e) near = max-stays span.start s near

reach-end : (span : Extent) (x : Reach) → key_le (extent_of x).end span.end ≡ true → (extent_of (cut_reach (within span (extent_of x)).start (within span (extent_of x)).end x)).end ≡ (extent_of x).end
reach-end span (At k) near = refl
reach-end span (Over s e) near = min-stays span.end e near

item-start : (span : Extent) (i : Item) → key_le span.start (span_of i.request).start ≡ true → (span_of (cut_to (within span (span_of i.request)).start (within span (span_of i.request)).end i.request)).start ≡ (span_of i.request).start
item-start span i near = ap (λ x. (extent_of x).start) (reach_cut (within span (span_of i.request)).start (within span (span_of i.request)).end i.request) ∙ reach-start span (reach_of i.request) near

item-end : (span : Extent) (i : Item) → key_le (span_of i.request).end span.end ≡ true → (span_of (cut_to (within span (span_of i.request)).start (within span (span_of i.request)).end i.request)).end ≡ (span_of i.request).end
item-end span i near = ap (λ x. (extent_of x).end) (reach_cut (within span (span_of i.request)).start (within span (span_of i.request)).end i.request) ∙ reach-end span (reach_of i.request) near

-- ---- forward

kept-forward : (span : Extent) (k : List ℕ) (is : List Item) → key_lt k span.end ≡ true → AllNear Forward span is → AllSpans is → seek_from Forward k (cut_items span is) ≡ seek_from Forward k is
kept-forward span k [] low near spans = refl
kept-forward span k (i ∷ is) low near spans =
    let x = span_of i.request in
    let y = within span x in
    let one = record i { request = cut_to y.start y.end i.request } in
    elim (key_lt y.start y.end) as (λ t. key_lt y.start y.end ≡ t → seek_from Forward k (cond t (one ∷ []) [] ++ cut_items span is) ≡ seek_from Forward (min_key k x.start) is) [
      | true ↦ λ e.
          ap (λ s. seek_from Forward (min_key k s) (cut_items span is)) (item-start span i near.0)
          ∙ kept-forward span (min_key k x.start) is (key_le_lt-trans (min_key k x.start) k span.end (min_first k x.start) low) near.1 spans.1
      | false ↦ λ e.
          let past = dropped-past span x spans.0.some near.0 e in
          kept-forward span k is low near.1 spans.1
          ∙ ap (λ s. seek_from Forward s is) (sym (min-first k x.start (le_of_lt k x.start (lt_le_trans k span.end x.start low past))))
    ] refl

later-forward : (span : Extent) (m s : List ℕ) (is : List Item) → key_le span.end m ≡ true → seek_from Forward m is ≡ s → key_lt s span.end ≡ true → AllNear Forward span is → AllSpans is → seek_key Forward (cut_items span is) ≡ Some s
later-forward span m s [] past same low near spans = not_both (key_lt m span.end) (subst (λ k. key_lt k span.end ≡ true) (sym same) low) (not_lt_of_le span.end m past)
later-forward span m s (i ∷ is) past same low near spans =
    let x = span_of i.request in
    let y = within span x in
    let one = record i { request = cut_to y.start y.end i.request } in
    elim (key_lt y.start y.end) as (λ t. key_lt y.start y.end ≡ t → seek_key Forward (cond t (one ∷ []) [] ++ cut_items span is) ≡ Some s) [
      | true ↦ λ e.
          let below = kept-below span x e in
          ap Some (ap (λ z. seek_from Forward z (cut_items span is)) (item-start span i near.0)
          ∙ kept-forward span x.start is below near.1 spans.1
          ∙ ap (λ z. seek_from Forward z is) (sym (min-stays m x.start (le_of_lt x.start m (lt_le_trans x.start span.end m below past))))
          ∙ same)
      | false ↦ λ e. later-forward span (min_key m x.start) s is (le-min span.end m x.start past (dropped-past span x spans.0.some near.0 e)) same low near.1 spans.1
    ] refl

cut-forward : (span : Extent) (s : List ℕ) (is : List Item) → seek_key Forward is ≡ Some s → contains Forward s span ≡ true → AllNear Forward span is → AllSpans is → seek_key Forward (cut_items span is) ≡ Some s
cut-forward span s [] sought in_it near spans = none_some s sought
cut-forward span s (i ∷ is) sought in_it near spans =
    let x = span_of i.request in
    let y = within span x in
    let one = record i { request = cut_to y.start y.end i.request } in
    let same = some_same _ s sought in
    let low = and_second (key_le span.start s) _ in_it in
    elim (key_lt y.start y.end) as (λ t. key_lt y.start y.end ≡ t → seek_key Forward (cond t (one ∷ []) [] ++ cut_items span is) ≡ Some s) [
      | true ↦ λ e. ap Some (ap (λ z. seek_from Forward z (cut_items span is)) (item-start span i near.0) ∙ kept-forward span x.start is (kept-below span x e) near.1 spans.1 ∙ same)
      | false ↦ λ e. later-forward span x.start s is (dropped-past span x spans.0.some near.0 e) same low near.1 spans.1
    ] refl

-- ---- in reverse

kept-reverse : (span : Extent) (k : List ℕ) (is : List Item) → key_lt span.start k ≡ true → AllNear Reverse span is → AllSpans is → seek_from Reverse k (cut_items span is) ≡ seek_from Reverse k is
kept-reverse span k [] low near spans = refl
kept-reverse span k (i ∷ is) low near spans =
    let x = span_of i.request in
    let y = within span x in
    let one = record i { request = cut_to y.start y.end i.request } in
    elim (key_lt y.start y.end) as (λ t. key_lt y.start y.end ≡ t → seek_from Reverse k (cond t (one ∷ []) [] ++ cut_items span is) ≡ seek_from Reverse (max_key k x.end) is) [
      | true ↦ λ e.
          ap (λ s. seek_from Reverse (max_key k s) (cut_items span is)) (item-end span i near.0)
          ∙ kept-reverse span (max_key k x.end) is (lt_le_trans span.start k (max_key k x.end) low (max_first k x.end)) near.1 spans.1
      | false ↦ λ e.
          let before = dropped-before span x spans.0.some near.0 e in
          kept-reverse span k is low near.1 spans.1
          ∙ ap (λ s. seek_from Reverse s is) (sym (max-first k x.end (le_of_lt x.end k (key_le_lt-trans x.end span.start k before low))))
    ] refl

later-reverse : (span : Extent) (m s : List ℕ) (is : List Item) → key_le m span.start ≡ true → seek_from Reverse m is ≡ s → key_lt span.start s ≡ true → AllNear Reverse span is → AllSpans is → seek_key Reverse (cut_items span is) ≡ Some s
later-reverse span m s [] before same low near spans = not_both (key_lt span.start m) (subst (λ k. key_lt span.start k ≡ true) (sym same) low) (not_lt_of_le m span.start before)
later-reverse span m s (i ∷ is) before same low near spans =
    let x = span_of i.request in
    let y = within span x in
    let one = record i { request = cut_to y.start y.end i.request } in
    elim (key_lt y.start y.end) as (λ t. key_lt y.start y.end ≡ t → seek_key Reverse (cond t (one ∷ []) [] ++ cut_items span is) ≡ Some s) [
      | true ↦ λ e.
          let above = kept-above span x e in
          ap Some (ap (λ z. seek_from Reverse z (cut_items span is)) (item-end span i near.0)
          ∙ kept-reverse span x.end is above near.1 spans.1
          ∙ ap (λ z. seek_from Reverse z is) (sym (max-stays m x.end (le_of_lt m x.end (key_le_lt-trans m span.start x.end before above))))
          ∙ same)
      | false ↦ λ e. later-reverse span (max_key m x.end) s is (max-le m x.end span.start before (dropped-before span x spans.0.some near.0 e)) same low near.1 spans.1
    ] refl

cut-reverse : (span : Extent) (s : List ℕ) (is : List Item) → seek_key Reverse is ≡ Some s → contains Reverse s span ≡ true → AllNear Reverse span is → AllSpans is → seek_key Reverse (cut_items span is) ≡ Some s
cut-reverse span s [] sought in_it near spans = none_some s sought
cut-reverse span s (i ∷ is) sought in_it near spans =
    let x = span_of i.request in
    let y = within span x in
    let one = record i { request = cut_to y.start y.end i.request } in
    let same = some_same _ s sought in
    let low = and_first (key_lt span.start s) _ in_it in
    elim (key_lt y.start y.end) as (λ t. key_lt y.start y.end ≡ t → seek_key Reverse (cond t (one ∷ []) [] ++ cut_items span is) ≡ Some s) [
      | true ↦ λ e. ap Some (ap (λ z. seek_from Reverse z (cut_items span is)) (item-end span i near.0) ∙ kept-reverse span x.end is (kept-above span x e) near.1 spans.1 ∙ same)
      | false ↦ λ e. later-reverse span x.end s is (dropped-before span x spans.0.some near.0 e) same low near.1 spans.1
    ] refl

-- what is cut where the items are sought is sought there
pub cut-sought : (d : Dir) (span : Extent) (s : List ℕ) (is : List Item) → seek_key d is ≡ Some s → contains d s span ≡ true → AllNear d span is → AllSpans is → seek_key d (cut_items span is) ≡ Some s
cut-sought Forward span s is = cut-forward span s is
cut-sought Reverse span s is = cut-reverse span s is

-- ---- what is left is past the span

next-le : (a b : List ℕ) → key_lt a b ≡ true → key_le (after a) b ≡ true
next-le a b h = not_greater (key_cmp (after a) b) (after-above a b ∙ ap not h)

far-start : (m : List ℕ) (x : Reach) → key_lt (from m (extent_of x)).start (from m (extent_of x)).end ≡ true → key_le m (extent_of (cut_reach (from m (extent_of x)).start (from m (extent_of x)).end x)).start ≡ true
far-start m (At k) some = le_of_not_lt k m (after-tight k m (key_le_lt-trans m (max_key m k) (after k) (max_first m k) some))
far-start m (Over s e) some = max_first m s

far-end : (m : List ℕ) (x : Reach) → key_lt (up_to m (extent_of x)).start (up_to m (extent_of x)).end ≡ true → key_le (extent_of (cut_reach (up_to m (extent_of x)).start (up_to m (extent_of x)).end x)).end m ≡ true
far-end m (At k) some = next-le k m (lt_le_trans k (min_key m (after k)) m some (min_first m (after k)))
far-end m (Over s e) some = min_first m e

item-far-start : (m : List ℕ) (i : Item) → key_lt (from m (span_of i.request)).start (from m (span_of i.request)).end ≡ true → key_le m (span_of (cut_to (from m (span_of i.request)).start (from m (span_of i.request)).end i.request)).start ≡ true
item-far-start m i some = subst (λ x. key_le m (extent_of x).start ≡ true) (sym (reach_cut (from m (span_of i.request)).start (from m (span_of i.request)).end i.request)) (far-start m (reach_of i.request) some)

item-far-end : (m : List ℕ) (i : Item) → key_lt (up_to m (span_of i.request)).start (up_to m (span_of i.request)).end ≡ true → key_le (span_of (cut_to (up_to m (span_of i.request)).start (up_to m (span_of i.request)).end i.request)).end m ≡ true
item-far-end m i some = subst (λ x. key_le (extent_of x).end m ≡ true) (sym (reach_cut (up_to m (span_of i.request)).start (up_to m (span_of i.request)).end i.request)) (far-end m (reach_of i.request) some)

all-far : (m k : List ℕ) (is : List Item) → key_le m k ≡ true → key_le m (seek_from Forward k (cut_by (from m) is)) ≡ true
all-far m k [] le = le
all-far m k (i ∷ is) le =
    let y = from m (span_of i.request) in
    let one = record i { request = cut_to y.start y.end i.request } in
    elim (key_lt y.start y.end) as (λ t. key_lt y.start y.end ≡ t → key_le m (seek_from Forward k (cond t (one ∷ []) [] ++ cut_by (from m) is)) ≡ true) [
      | true ↦ λ e. all-far m (min_key k (span_of one.request).start) is (le-min m k (span_of one.request).start le (item-far-start m i e))
      | false ↦ λ e. all-far m k is le
    ] refl

all-near : (m k : List ℕ) (is : List Item) → key_le k m ≡ true → key_le (seek_from Reverse k (cut_by (up_to m) is)) m ≡ true
all-near m k [] le = le
all-near m k (i ∷ is) le =
    let y = up_to m (span_of i.request) in
    let one = record i { request = cut_to y.start y.end i.request } in
    elim (key_lt y.start y.end) as (λ t. key_lt y.start y.end ≡ t → key_le (seek_from Reverse k (cond t (one ∷ []) [] ++ cut_by (up_to m) is)) m ≡ true) [
      | true ↦ λ e. all-near m (max_key k (span_of one.request).end) is (max-le k (span_of one.request).end m le (item-far-end m i e))
      | false ↦ λ e. all-near m k is le
    ] refl

sought-far : (m t : List ℕ) (is : List Item) → seek_key Forward (cut_by (from m) is) ≡ Some t → key_le m t ≡ true
sought-far m t [] h = none_some t h
sought-far m t (i ∷ is) h =
    let y = from m (span_of i.request) in
    let one = record i { request = cut_to y.start y.end i.request } in
    (elim (key_lt y.start y.end) as (λ b. key_lt y.start y.end ≡ b → seek_key Forward (cond b (one ∷ []) [] ++ cut_by (from m) is) ≡ Some t → key_le m t ≡ true) [
      | true ↦ λ e g. subst (λ z. key_le m z ≡ true) (some_same _ t g) (all-far m (span_of one.request).start is (item-far-start m i e))
      | false ↦ λ e g. sought-far m t is g
    ]) refl h

sought-near : (m t : List ℕ) (is : List Item) → seek_key Reverse (cut_by (up_to m) is) ≡ Some t → key_le t m ≡ true
sought-near m t [] h = none_some t h
sought-near m t (i ∷ is) h =
    let y = up_to m (span_of i.request) in
    let one = record i { request = cut_to y.start y.end i.request } in
    (elim (key_lt y.start y.end) as (λ b. key_lt y.start y.end ≡ b → seek_key Reverse (cond b (one ∷ []) [] ++ cut_by (up_to m) is) ≡ Some t → key_le t m ≡ true) [
      | true ↦ λ e g. subst (λ z. key_le z m ≡ true) (some_same _ t g) (all-near m (span_of one.request).end is (item-far-end m i e))
      | false ↦ λ e g. sought-near m t is g
    ]) refl h

-- what is left of a rest is sought later
pub rest-sought : (d : Dir) (span : Extent) (s t : List ℕ) (is : List Item) → contains d s span ≡ true → seek_key d (rest_items d span is) ≡ Some t → comes_first d s t ≡ true
rest-sought Forward span s t is in_it h = lt_le_trans s span.end t (and_second (key_le span.start s) _ in_it) (sought-far span.end t is h)
rest-sought Reverse span s t is in_it h = key_le_lt-trans t span.start s (sought-near span.start t is h) (and_first (key_lt span.start s) _ in_it)
