-- A cut at a span that contains the seek key takes something.
use Rattle.std.proofs.Common.{◌≡◌, ℕ, ◌+◌, ◌<◌, ◌⊎◌, inl, inr, true, false, cond, List, [], ◌∷◌, ◌++◌, refl, sym, ◌∙◌, subst, arith, Some}
use Rattle.ds_base.proofs.KeyNumber.{key_number-rises}
use Rattle.ds_base.proofs.KeyOrder.{key_le_lt-trans}
use Rattle.ds_base.proofs.OrderedFacts.{lt_le_trans}
use Rattle.ds_base.proofs.SmallFacts.{and_first, and_second, none_some, some_same}
use Rattle.ds_base.specs.Order.{Extent, IsKey, key_lt, key_le, max_key, min_key}
use Rattle.ds_base.specs.declared.value.Dir.{Dir}
use Rattle.ds_base.specs.declared.value.Dir.TheVariants.{Forward, Reverse}
use Rattle.ds_desc.specs.Contains.{contains}
use Rattle.ds_kind.specs.Reach.{Reach, At, Over, extent_of}
use Rattle.ds_kind.specs.Request.{cut_to, reach_of, span_of}
use Rattle.ds_kind.specs.declared.batch.Item.{Item}
use Rattle.ds_kind.specs.CutReach.{cut_reach}
use Rattle.ds_kind.proofs.RequestFacts.{reach_cut}
use Rattle.ds_cover.specs.Cuts.{cut_item, cut_by, within, from, up_to, cut_items, rest_items, seek_from, seek_key}
use Rattle.ds_cover.specs.Items.{IsOneOf}
use Rattle.ds_cover.specs.Measures.{span_left, left_in, IsSpan, AllSpans}
use Rattle.ds_cover.proofs.Cutting.{seek-near}
use Rattle.ds_cover.proofs.Measuring.{keeps-left, left-append, max-key, min-key}

-- the item whose start or end the seek key is

abbrev Begins : List ℕ → List Item → Type 0
Begins s is = (i : Item) × IsOneOf i is × ((span_of i.request).start ≡ s)

abbrev Ends : List ℕ → List Item → Type 0
Ends s is = (i : Item) × IsOneOf i is × ((span_of i.request).end ≡ s)

begins-later : (s : List ℕ) (j : Item) (is : List Item) → Begins s is → Begins s (j ∷ is)
begins-later s j is b = (b.0, inr b.1, b.2)

ends-later : (s : List ℕ) (j : Item) (is : List Item) → Ends s is → Ends s (j ∷ is)
ends-later s j is b = (b.0, inr b.1, b.2)

seek-begins : (k : List ℕ) (is : List Item) → (k ≡ seek_from Forward k is) ⊎ Begins (seek_from Forward k is) is
seek-begins k [] = inl refl
seek-begins k (j ∷ js) =
    let s = (span_of j.request).start in
    elim (seek-begins (min_key k s) js) [
      | inl e ↦ elim (key_lt s k) as (λ t. (cond t s k ≡ seek_from Forward (min_key k s) js) → (k ≡ seek_from Forward (min_key k s) js) ⊎ Begins (seek_from Forward (min_key k s) js) (j ∷ js)) [
        | true ↦ λ g. inr (j, inl refl, g)
        | false ↦ λ g. inl g
      ] e
      | inr b ↦ inr (begins-later _ j js b)
    ]

seek-ends : (k : List ℕ) (is : List Item) → (k ≡ seek_from Reverse k is) ⊎ Ends (seek_from Reverse k is) is
seek-ends k [] = inl refl
seek-ends k (j ∷ js) =
    let s = (span_of j.request).end in
    elim (seek-ends (max_key k s) js) [
      | inl e ↦ elim (key_lt k s) as (λ t. (cond t s k ≡ seek_from Reverse (max_key k s) js) → (k ≡ seek_from Reverse (max_key k s) js) ⊎ Ends (seek_from Reverse (max_key k s) js) (j ∷ js)) [
        | true ↦ λ g. inr (j, inl refl, g)
        | false ↦ λ g. inl g
      ] e
      | inr b ↦ inr (ends-later _ j js b)
    ]

-- where two spans meet

max-below : (a b k : List ℕ) → key_lt a k ≡ true → key_lt b k ≡ true → key_lt (max_key a b) k ≡ true
max-below a b k p q =
    elim (key_lt a b) as (λ t. key_lt (cond t b a) k ≡ true) [
      | true ↦ q
      | false ↦ p
    ]

min-above : (a b k : List ℕ) → key_lt k a ≡ true → key_lt k b ≡ true → key_lt k (min_key a b) ≡ true
min-above a b k p q =
    elim (key_lt b a) as (λ t. key_lt k (cond t b a) ≡ true) [
      | true ↦ q
      | false ↦ p
    ]

meets : (span x : Extent) → key_lt span.start span.end ≡ true → key_lt x.start x.end ≡ true → key_lt span.start x.end ≡ true → key_lt x.start span.end ≡ true → key_lt (within span x).start (within span x).end ≡ true
meets span x p q r s =
    min-above span.end x.end (max_key span.start x.start) (max-below span.start x.start span.end p s) (max-below span.start x.start x.end r q)

-- what is cut of an item that the span meets has something left

rises-left : (x : Extent) → IsSpan x → 0 < span_left x
rises-left x keys = let low = key_number-rises x.start x.end keys.start keys.end keys.some in omega (arith, low)

reach-left : (span : Extent) (reach : Reach) → IsSpan span → IsSpan (extent_of reach) → key_lt (within span (extent_of reach)).start (within span (extent_of reach)).end ≡ true → 0 < span_left (extent_of (cut_reach (within span (extent_of reach)).start (within span (extent_of reach)).end reach))
reach-left span (At k) keys its some = rises-left (extent_of (At k)) its
reach-left span (Over s e) keys its some =
    rises-left (within span (record { start = s; end = e })) (record { start = max-key span.start s keys.start its.start; end = min-key span.end e keys.end its.end; some = some })

plus_none : (n : ℕ) → 0 < n → 0 < n + 0
plus_none n h = omega (arith, h)

met-left : (span : Extent) (i : Item) → IsSpan span → IsSpan (span_of i.request) → key_lt (within span (span_of i.request)).start (within span (span_of i.request)).end ≡ true → 0 < left_in (cut_item (within span) i)
met-left span i keys its some =
    let y = within span (span_of i.request) in
    subst (λ t. 0 < left_in (cond t (record i { request = cut_to y.start y.end i.request } ∷ []) [])) (sym some)
    (plus_none (span_left (span_of (cut_to y.start y.end i.request)))
    (subst (λ reach. 0 < span_left (extent_of reach)) (sym (reach_cut y.start y.end i.request)) (reach-left span (reach_of i.request) keys its some)))

some-cut : (span : Extent) (i : Item) (block : List Item) → IsOneOf i block → 0 < left_in (cut_item (within span) i) → 0 < left_in (cut_items span block)
some-cut span i [] there h = absurd there
some-cut span i (j ∷ js) there h =
    elim there [
      | inl e ↦
          let all = left-append (cut_item (within span) j) (cut_items span js) in
          let here : 0 < left_in (cut_item (within span) j) = subst (λ z. 0 < left_in (cut_item (within span) z)) e h in
          omega (arith, all, here)
      | inr g ↦
          let all = left-append (cut_item (within span) j) (cut_items span js) in
          let later = some-cut span i js g h in
          omega (arith, all, later)
    ]

span-in : (i : Item) (block : List Item) → AllSpans block → IsOneOf i block → IsSpan (span_of i.request)
span-in i [] all there = absurd there
span-in i (j ∷ js) all there =
    elim there [
      | inl e ↦ subst (λ z. IsSpan (span_of z.request)) (sym e) all.0
      | inr g ↦ span-in i js all.1 g
    ]

begins-there : (s : List ℕ) (block : List Item) → seek_key Forward block ≡ Some s → Begins s block
begins-there s [] h = none_some s h
begins-there s (i ∷ is) h =
    elim (seek-begins (span_of i.request).start is) [
      | inl e ↦ (i, inl refl, e ∙ some_same _ _ h)
      | inr b ↦ (b.0, inr b.1, b.2 ∙ some_same _ _ h)
    ]

ends-there : (s : List ℕ) (block : List Item) → seek_key Reverse block ≡ Some s → Ends s block
ends-there s [] h = none_some s h
ends-there s (i ∷ is) h =
    elim (seek-ends (span_of i.request).end is) [
      | inl e ↦ (i, inl refl, e ∙ some_same _ _ h)
      | inr b ↦ (b.0, inr b.1, b.2 ∙ some_same _ _ h)
    ]

pub cut-takes : (d : Dir) (span : Extent) (s : List ℕ) (block : List Item) → IsSpan span → AllSpans block → seek_key d block ≡ Some s → contains d s span ≡ true → 0 < left_in (cut_items span block)
cut-takes Forward span s block keys its is in_it =
    let b = begins-there s block is in
    let x = span_of b.0.request in
    let own = span-in b.0 block its b.1 in
    let near : key_le span.start x.start ≡ true = subst (λ k. key_le span.start k ≡ true) (sym b.2) (and_first _ _ in_it) in
    let low : key_lt x.start span.end ≡ true = subst (λ k. key_lt k span.end ≡ true) (sym b.2) (and_second (key_le span.start s) _ in_it) in
    some-cut span b.0 block b.1 (met-left span b.0 keys own (meets span x keys.some own.some (key_le_lt-trans span.start x.start x.end near own.some) low))
cut-takes Reverse span s block keys its is in_it =
    let b = ends-there s block is in
    let x = span_of b.0.request in
    let own = span-in b.0 block its b.1 in
    let low : key_lt span.start x.end ≡ true = subst (λ k. key_lt span.start k ≡ true) (sym b.2) (and_first _ _ in_it) in
    let near : key_le x.end span.end ≡ true = subst (λ k. key_le k span.end ≡ true) (sym b.2) (and_second (key_lt span.start s) _ in_it) in
    some-cut span b.0 block b.1 (met-left span b.0 keys own (meets span x keys.some own.some low (lt_le_trans x.start x.end span.end own.some near)))

pub rest-less : (d : Dir) (span : Extent) (s : List ℕ) (block : List Item) → IsSpan span → AllSpans block → seek_key d block ≡ Some s → contains d s span ≡ true → left_in (rest_items d span block) < left_in block
rest-less d span s block keys its is in_it =
    let all = keeps-left d span block keys its (seek-near d span s block is in_it) in
    let some = cut-takes d span s block keys its is in_it in
    omega (arith, all, some)

-- cuts and rests are spans of keys again

reach-span : (f : Extent → Extent) → ((x : Extent) → IsSpan x → IsKey (f x).start × IsKey (f x).end) → (reach : Reach) → IsSpan (extent_of reach) → key_lt (f (extent_of reach)).start (f (extent_of reach)).end ≡ true → IsSpan (extent_of (cut_reach (f (extent_of reach)).start (f (extent_of reach)).end reach))
reach-span f keep (At k) its some = its
reach-span f keep (Over s e) its some =
    let keys = keep (record { start = s; end = e }) its in
    record { start = keys.0; end = keys.1; some = some }

cut-spans : (f : Extent → Extent) → ((x : Extent) → IsSpan x → IsKey (f x).start × IsKey (f x).end) → (block : List Item) → AllSpans block → AllSpans (cut_by f block)
cut-spans f keep [] all = tt
cut-spans f keep (i ∷ is) all =
    let x = span_of i.request in
    let cut = record i { request = cut_to (f x).start (f x).end i.request } in
    elim (key_lt (f x).start (f x).end) as (λ t. key_lt (f x).start (f x).end ≡ t → AllSpans (cond t (cut ∷ []) [] ++ cut_by f is)) [
      | true ↦ λ some. (
        subst (λ reach. IsSpan (extent_of reach)) (sym (reach_cut (f x).start (f x).end i.request)) (reach-span f keep (reach_of i.request) all.0 some),
        cut-spans f keep is all.1,
      )
      | false ↦ λ none. cut-spans f keep is all.1
    ] refl

pub cut_items-spans : (span : Extent) (block : List Item) → IsSpan span → AllSpans block → AllSpans (cut_items span block)
cut_items-spans span block keys all =
    cut-spans (within span) (λ x its. (max-key span.start x.start keys.start its.start, min-key span.end x.end keys.end its.end)) block all

pub rest_items-spans : (d : Dir) (span : Extent) (block : List Item) → IsSpan span → AllSpans block → AllSpans (rest_items d span block)
rest_items-spans Forward span block keys all =
    cut-spans (from span.end) (λ x its. (max-key span.end x.start keys.end its.start, its.end)) block all
rest_items-spans Reverse span block keys all =
    cut-spans (up_to span.start) (λ x its. (its.start, min-key span.start x.end keys.start its.end)) block all
