-- What is left in a block is what is left in its cut and in its rest.
use Rattle.std.proofs.Common.{◌≡◌, ℕ, ◌+◌, ◌-◌, ◌<◌, ◌≤◌, ◌⊎◌, inl, inr, Bool, true, false, cond, List, [], ◌∷◌, ◌++◌, refl, sym, ap, ◌∙◌, arith, Option, Some, None, not, ◌&&◌}
use Rattle.ds_base.proofs.KeyNumber.{key_number-rises}
use Rattle.ds_base.proofs.KeyOrder.{key_le-antisymm, key_le-not_lt, not-key_le}
use Rattle.ds_base.proofs.OrderedFacts.{le_of_lt, le_of_not_lt, lt_le_trans}
use Rattle.ds_base.specs.Number.{key_number}
use Rattle.ds_base.specs.Order.{Extent, IsKey, key_lt, key_le, after, max_key, min_key}
use Rattle.ds_base.specs.declared.value.Dir.{Dir}
use Rattle.ds_base.specs.declared.value.Dir.TheVariants.{Forward, Reverse}
use Rattle.ds_kind.specs.Reach.{At, Over, extent_of}
use Rattle.ds_kind.specs.Request.{cut_to, reach_of, span_of}
use Rattle.ds_kind.specs.declared.batch.Item.{Item}
use Rattle.ds_kind.specs.CutReach.{cut_reach}
use Rattle.ds_kind.proofs.RequestFacts.{reach_cut}
use Rattle.ds_cover.specs.Clips.{clip, passes}
use Rattle.ds_cover.specs.Cuts.{cut_item, within, from, up_to, cut_items, rest_items, AllNear}
use Rattle.ds_cover.specs.Measures.{span_left, left_in, IsSpan, AllSpans}
use Rattle.ds_cover.proofs.Clipping.{point-in, point-out}
use Rattle.ds_cover.proofs.Tests.{and_true, zero_plus, plus_zero}

-- numbers of keys

number-le : (a b : List ℕ) → IsKey a → IsKey b → key_le a b ≡ true → key_number a ≤ key_number b
number-le a b p q h =
    elim (key_lt a b) as (λ t. key_lt a b ≡ t → key_number a ≤ key_number b) [
      | true ↦ λ e. let low = key_number-rises a b p q e in omega (arith, low)
      | false ↦ λ e. let same : key_number a ≡ key_number b = ap key_number (key_le-antisymm a b h e) in omega (arith, same)
    ] refl

max-number : (a b : List ℕ) → IsKey a → IsKey b → ((key_number (max_key a b) ≡ key_number a) × (key_number b ≤ key_number a)) ⊎ ((key_number (max_key a b) ≡ key_number b) × (key_number a ≤ key_number b))
max-number a b p q =
    elim (key_lt a b) as (λ t. key_lt a b ≡ t → ((key_number (cond t b a) ≡ key_number a) × (key_number b ≤ key_number a)) ⊎ ((key_number (cond t b a) ≡ key_number b) × (key_number a ≤ key_number b))) [
      | true ↦ λ e. inr (refl, number-le a b p q (le_of_lt a b e))
      | false ↦ λ e. inl (refl, number-le b a q p (le_of_not_lt a b e))
    ] refl

min-number : (a b : List ℕ) → IsKey a → IsKey b → ((key_number (min_key a b) ≡ key_number a) × (key_number a ≤ key_number b)) ⊎ ((key_number (min_key a b) ≡ key_number b) × (key_number b ≤ key_number a))
min-number a b p q =
    elim (key_lt b a) as (λ t. key_lt b a ≡ t → ((key_number (cond t b a) ≡ key_number a) × (key_number a ≤ key_number b)) ⊎ ((key_number (cond t b a) ≡ key_number b) × (key_number b ≤ key_number a))) [
      | true ↦ λ e. inr (refl, number-le b a q p (le_of_lt b a e))
      | false ↦ λ e. inl (refl, number-le a b p q (le_of_not_lt b a e))
    ] refl

pub max-key : (a b : List ℕ) → IsKey a → IsKey b → IsKey (max_key a b)
max-key a b p q =
    elim (key_lt a b) as (λ t. IsKey (cond t b a)) [
      | true ↦ q
      | false ↦ p
    ]

pub min-key : (a b : List ℕ) → IsKey a → IsKey b → IsKey (min_key a b)
min-key a b p q =
    elim (key_lt b a) as (λ t. IsKey (cond t b a)) [
      | true ↦ q
      | false ↦ p
    ]

-- over plain numbers: a and b bound what is cut, and s and e what there was
forward-sum : (a b s e low high rest : ℕ) → a ≤ s → s ≤ e → ((low ≡ a) × (s ≤ a)) ⊎ ((low ≡ s) × (a ≤ s)) → ((high ≡ b) × (b ≤ e)) ⊎ ((high ≡ e) × (e ≤ b)) → ((rest ≡ b) × (s ≤ b)) ⊎ ((rest ≡ s) × (b ≤ s)) → (high - low) + (e - rest) ≡ e - s
forward-sum a b s e low high rest near le p q r =
    elim p [
      | inl p ↦ elim q [
        | inl q ↦ elim r [ inl r ↦ omega (arith, near, le, p.0, p.1, q.0, q.1, r.0, r.1) | inr r ↦ omega (arith, near, le, p.0, p.1, q.0, q.1, r.0, r.1) ]
        | inr q ↦ elim r [ inl r ↦ omega (arith, near, le, p.0, p.1, q.0, q.1, r.0, r.1) | inr r ↦ omega (arith, near, le, p.0, p.1, q.0, q.1, r.0, r.1) ]
      ]
      | inr p ↦ elim q [
        | inl q ↦ elim r [ inl r ↦ omega (arith, near, le, p.0, p.1, q.0, q.1, r.0, r.1) | inr r ↦ omega (arith, near, le, p.0, p.1, q.0, q.1, r.0, r.1) ]
        | inr q ↦ elim r [ inl r ↦ omega (arith, near, le, p.0, p.1, q.0, q.1, r.0, r.1) | inr r ↦ omega (arith, near, le, p.0, p.1, q.0, q.1, r.0, r.1) ]
      ]
    ]

reverse-sum : (a b s e low high rest : ℕ) → e ≤ b → s ≤ e → ((low ≡ a) × (s ≤ a)) ⊎ ((low ≡ s) × (a ≤ s)) → ((high ≡ b) × (b ≤ e)) ⊎ ((high ≡ e) × (e ≤ b)) → ((rest ≡ a) × (a ≤ e)) ⊎ ((rest ≡ e) × (e ≤ a)) → (high - low) + (rest - s) ≡ e - s
reverse-sum a b s e low high rest near le p q r =
    elim p [
      | inl p ↦ elim q [
        | inl q ↦ elim r [ inl r ↦ omega (arith, near, le, p.0, p.1, q.0, q.1, r.0, r.1) | inr r ↦ omega (arith, near, le, p.0, p.1, q.0, q.1, r.0, r.1) ]
        | inr q ↦ elim r [ inl r ↦ omega (arith, near, le, p.0, p.1, q.0, q.1, r.0, r.1) | inr r ↦ omega (arith, near, le, p.0, p.1, q.0, q.1, r.0, r.1) ]
      ]
      | inr p ↦ elim q [
        | inl q ↦ elim r [ inl r ↦ omega (arith, near, le, p.0, p.1, q.0, q.1, r.0, r.1) | inr r ↦ omega (arith, near, le, p.0, p.1, q.0, q.1, r.0, r.1) ]
        | inr q ↦ elim r [ inl r ↦ omega (arith, near, le, p.0, p.1, q.0, q.1, r.0, r.1) | inr r ↦ omega (arith, near, le, p.0, p.1, q.0, q.1, r.0, r.1) ]
      ]
    ]

-- one item

nothing-left : (s e : List ℕ) → IsKey s → IsKey e → key_lt s e ≡ false → 0 ≡ key_number e - key_number s
nothing-left s e p q h = let low = number-le e s q p (le_of_not_lt s e h) in omega (arith, low)

over-left : (f : Extent → Extent) (i : Item) (s e : List ℕ) → Over s e ≡ reach_of i.request → IsKey (f (record { start = s; end = e })).start → IsKey (f (record { start = s; end = e })).end → left_in (cut_item f i) ≡ span_left (f (record { start = s; end = e }))
over-left f i s e is p q =
    let y = f (record { start = s; end = e }) in
    sym (ap (λ reach. left_in (cond (key_lt (f (extent_of reach)).start (f (extent_of reach)).end) (record i { request = cut_to (f (extent_of reach)).start (f (extent_of reach)).end i.request } ∷ []) [])) is)
    ∙ elim (key_lt y.start y.end) as (λ t. key_lt y.start y.end ≡ t → left_in (cond t (record i { request = cut_to y.start y.end i.request } ∷ []) []) ≡ span_left y) [
      | true ↦ λ h.
          plus_zero _
          ∙ ap (λ reach. span_left (extent_of reach)) (reach_cut y.start y.end i.request)
          ∙ ap (λ reach. span_left (extent_of (cut_reach y.start y.end reach))) (sym is)
      | false ↦ λ h. nothing-left y.start y.end p q h
    ] refl

-- a point goes whole to the one side or the other
point-left : (low high other_low other_high : Option (List ℕ)) (k : List ℕ) (i : Item) (t : Bool) → At k ≡ reach_of i.request → passes low high k ≡ t → passes other_low other_high k ≡ not t → left_in (cut_item (clip low high) i) + left_in (cut_item (clip other_low other_high) i) ≡ span_left (span_of i.request)
point-left low high other_low other_high k i true is p q =
    ap (λ xs. left_in xs + left_in (cut_item (clip other_low other_high) i)) (sym (point-in low high k i is p))
    ∙ ap (λ xs. left_in (i ∷ []) + left_in xs) (sym (point-out other_low other_high k i is q))
    ∙ plus_zero _ ∙ plus_zero _
point-left low high other_low other_high k i false is p q =
    ap (λ xs. left_in xs + left_in (cut_item (clip other_low other_high) i)) (sym (point-out low high k i is p))
    ∙ ap (λ xs. 0 + left_in xs) (sym (point-in other_low other_high k i is q))
    ∙ zero_plus _ ∙ plus_zero _

item-forward : (span : Extent) (i : Item) → IsSpan span → IsSpan (span_of i.request) → key_le span.start (span_of i.request).start ≡ true → left_in (cut_item (within span) i) + left_in (cut_item (from span.end) i) ≡ span_left (span_of i.request)
item-forward span i keys its near =
    elim (reach_of i.request) as (λ reach. reach ≡ reach_of i.request → IsSpan (extent_of reach) → key_le span.start (extent_of reach).start ≡ true → left_in (cut_item (within span) i) + left_in (cut_item (from span.end) i) ≡ span_left (span_of i.request)) [
      | At k ↦ λ is x n.
          point-left (Some span.start) (Some span.end) (Some span.end) None k i (key_lt k span.end) is
          (ap (λ t. t && key_lt k span.end) n) (key_le-not_lt span.end k)
      | Over s e ↦ λ is x n.
          ap (λ m. m + left_in (cut_item (from span.end) i)) (over-left (within span) i s e is (max-key span.start s keys.start x.start) (min-key span.end e keys.end x.end))
          ∙ ap (λ m. span_left (within span (record { start = s; end = e })) + m) (over-left (from span.end) i s e is (max-key span.end s keys.end x.start) x.end)
          ∙ forward-sum (key_number span.start) (key_number span.end) (key_number s) (key_number e) (key_number (max_key span.start s)) (key_number (min_key span.end e)) (key_number (max_key span.end s))
          (number-le span.start s keys.start x.start n) (number-le s e x.start x.end (le_of_lt s e x.some))
          (max-number span.start s keys.start x.start) (min-number span.end e keys.end x.end) (max-number span.end s keys.end x.start)
          ∙ ap (λ reach. span_left (extent_of reach)) is
    ] refl its near

item-reverse : (span : Extent) (i : Item) → IsSpan span → IsSpan (span_of i.request) → key_le (span_of i.request).end span.end ≡ true → left_in (cut_item (within span) i) + left_in (cut_item (up_to span.start) i) ≡ span_left (span_of i.request)
item-reverse span i keys its near =
    elim (reach_of i.request) as (λ reach. reach ≡ reach_of i.request → IsSpan (extent_of reach) → key_le (extent_of reach).end span.end ≡ true → left_in (cut_item (within span) i) + left_in (cut_item (up_to span.start) i) ≡ span_left (span_of i.request)) [
      | At k ↦ λ is x n.
          point-left (Some span.start) (Some span.end) None (Some span.start) k i (key_le span.start k) is
          (ap (λ t. key_le span.start k && t) (lt_le_trans k (after k) span.end x.some n) ∙ and_true _) (sym (not-key_le span.start k))
      | Over s e ↦ λ is x n.
          ap (λ m. m + left_in (cut_item (up_to span.start) i)) (over-left (within span) i s e is (max-key span.start s keys.start x.start) (min-key span.end e keys.end x.end))
          ∙ ap (λ m. span_left (within span (record { start = s; end = e })) + m) (over-left (up_to span.start) i s e is x.start (min-key span.start e keys.start x.end))
          ∙ reverse-sum (key_number span.start) (key_number span.end) (key_number s) (key_number e) (key_number (max_key span.start s)) (key_number (min_key span.end e)) (key_number (min_key span.start e))
          (number-le e span.end x.end keys.end n) (number-le s e x.start x.end (le_of_lt s e x.some))
          (max-number span.start s keys.start x.start) (min-number span.end e keys.end x.end) (min-number span.start e keys.start x.end)
          ∙ ap (λ reach. span_left (extent_of reach)) is
    ] refl its near

-- all items

pub left-append : (xs ys : List Item) → left_in (xs ++ ys) ≡ left_in xs + left_in ys
left-append [] ys = sym (zero_plus _)
left-append (x ∷ xs) ys = ap (λ m. span_left (span_of x.request) + m) (left-append xs ys) ∙ regroup (span_left (span_of x.request)) (left_in xs) (left_in ys)
  where
    regroup : (a b c : ℕ) → a + (b + c) ≡ (a + b) + c
    regroup a b c = omega arith

four-sums : (a b c d p q l m : ℕ) → p ≡ a + b → q ≡ c + d → a + c ≡ l → b + d ≡ m → p + q ≡ l + m
four-sums a b c d p q l m e f g h = omega (arith, e, f, g, h)

pub keeps-left : (d : Dir) (span : Extent) (block : List Item) → IsSpan span → AllSpans block → AllNear d span block → left_in (cut_items span block) + left_in (rest_items d span block) ≡ left_in block
keeps-left Forward span [] keys its near = refl
keeps-left Reverse span [] keys its near = refl
keeps-left Forward span (i ∷ is) keys its near =
    four-sums (left_in (cut_item (within span) i)) (left_in (cut_items span is)) (left_in (cut_item (from span.end) i)) (left_in (rest_items Forward span is)) _ _ _ _
    (left-append (cut_item (within span) i) (cut_items span is)) (left-append (cut_item (from span.end) i) (rest_items Forward span is))
    (item-forward span i keys its.0 near.0) (keeps-left Forward span is keys its.1 near.1)
keeps-left Reverse span (i ∷ is) keys its near =
    four-sums (left_in (cut_item (within span) i)) (left_in (cut_items span is)) (left_in (cut_item (up_to span.start) i)) (left_in (rest_items Reverse span is)) _ _ _ _
    (left-append (cut_item (within span) i) (cut_items span is)) (left-append (cut_item (up_to span.start) i) (rest_items Reverse span is))
    (item-reverse span i keys its.0 near.0) (keeps-left Reverse span is keys its.1 near.1)

-- a block with an item has something left
pub some-left : (i : Item) (is : List Item) → AllSpans (i ∷ is) → 0 < left_in (i ∷ is)
some-left i is its =
    let x = span_of i.request in
    let low = key_number-rises x.start x.end its.0.start its.0.end its.0.some in
    omega (arith, low)
