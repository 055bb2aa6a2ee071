-- A block cut at a span is two blocks.
use Rattle.std.proofs.Common.{◌≡◌, ℕ, Bool, true, false, not, cond, ◌&&◌, List, [], ◌∷◌, ◌++◌, map, refl, sym, ap, ◌∙◌, subst, inl, inr, Some}
use Rattle.ds_base.proofs.KeyOrder.{point-holds, key_lt-trans, key_le-not_lt, key_le_lt-trans, not-key_le}
use Rattle.ds_base.proofs.OrderedFacts.{le_of_lt, le_of_not_lt, le_trans, lt_le_trans}
use Rattle.ds_base.proofs.SmallFacts.{and_first, and_second, and_both, some_same}
use Rattle.ds_base.specs.Order.{Extent, key_lt, key_le, holds, after, max_key, min_key}
use Rattle.ds_base.specs.declared.value.Dir.{Dir}
use Rattle.ds_base.specs.declared.value.Dir.TheVariants.{Forward, Reverse}
use Rattle.ds_base.proofs.KeyFacts.{min_first, min_second, max_first, max_second}
use Rattle.ds_base.proofs.TestFacts.{and_pairs}
use Rattle.ds_desc.specs.Contains.{contains}
use Rattle.ds_kind.specs.CutReach.{cut_reach}
use Rattle.ds_kind.specs.Reach.{Reach, At, Over, extent_of}
use Rattle.ds_kind.specs.Request.{cut_to, reach_of, span_of}
use Rattle.ds_kind.specs.declared.batch.Item.{Item}
use Rattle.ds_kind.specs.declared.request.Request.{Request}
use Rattle.ds_kind.proofs.RequestFacts.{reach_cut}
use Rattle.ds_cover.specs.Coverage.{holds_at, positions_at, AllNone, Shares, Covered}
use Rattle.ds_cover.specs.Cuts.{cut_by, within, from, up_to, cut_items, rest_items, AllNear, seek_from, seek_key}
use Rattle.ds_cover.proofs.Tests.{never, same_test, and_no, le_itself}

-- the greater of two is below a key where both are

max_le : (a b k : List ℕ) → key_le (max_key a b) k ≡ (key_le b k && key_le a k)
max_le a b k =
    elim (key_lt a b) as (λ t. key_lt a b ≡ t → key_le (cond t b a) k ≡ (key_le b k && key_le a k)) [
      | true ↦ λ e. same_test _ _ (λ h. and_both _ _ h (le_trans a b k (le_of_lt a b e) h)) (λ h. and_first _ _ h)
      | false ↦ λ e. same_test _ _ (λ h. and_both _ _ (le_trans b a k (le_of_not_lt a b e) h) h) (λ h. and_second (key_le b k) _ h)
    ] refl

lt_min : (a b k : List ℕ) → key_lt k (min_key a b) ≡ (key_lt k b && key_lt k a)
lt_min a b k =
    elim (key_lt b a) as (λ t. key_lt b a ≡ t → key_lt k (cond t b a) ≡ (key_lt k b && key_lt k a)) [
      | true ↦ λ e. same_test _ _ (λ h. and_both _ _ h (key_lt-trans k b a h e)) (λ h. and_first _ _ h)
      | false ↦ λ e. same_test _ _ (λ h. and_both _ _ (lt_le_trans k a b h (le_of_not_lt b a e)) h) (λ h. and_second (key_lt k b) _ h)
    ] refl

-- what a cut keeps of a span: the keys that pass a test

abbrev pub KeepsOf : Extent → (List ℕ → Bool) → Extent → Type 0
KeepsOf y p x = (k : List ℕ) → holds y.start y.end k ≡ (holds x.start x.end k && p k)

abbrev pub Keeps : (Extent → Extent) → (List ℕ → Bool) → Type 0
Keeps f p = (x : Extent) → KeepsOf (f x) p x

three : (a b c : Bool) → ((a && b) && c) ≡ ((a && c) && b)
three true true true = refl
three true true false = refl
three true false true = refl
three true false false = refl
three false b c = refl

assoc : (a b c : Bool) → (a && (b && c)) ≡ ((a && b) && c)
assoc true b c = refl
assoc false b c = refl

pub within-keeps : (span : Extent) → Keeps (within span) (holds span.start span.end)
within-keeps span x k =
    ap (λ t. t && key_lt k (min_key span.end x.end)) (max_le span.start x.start k)
    ∙ ap (λ t. (key_le x.start k && key_le span.start k) && t) (lt_min span.end x.end k)
    ∙ and_pairs (key_le x.start k) (key_le span.start k) (key_lt k x.end) (key_lt k span.end)

pub from-keeps : (m : List ℕ) → Keeps (from m) (key_le m)
from-keeps m x k =
    ap (λ t. t && key_lt k x.end) (max_le m x.start k) ∙ three (key_le x.start k) (key_le m k) (key_lt k x.end)

pub up_to-keeps : (m : List ℕ) → Keeps (up_to m) (λ k. key_lt k m)
up_to-keeps m x k =
    ap (λ t. key_le x.start k && t) (lt_min m x.end k) ∙ assoc (key_le x.start k) (key_lt k x.end) (key_lt k m)

-- a cut of a request

-- what is kept of a point is all of it, if it is anything
pub point-kept : (y : Extent) (p : List ℕ → Bool) (a : List ℕ) → KeepsOf y p (extent_of (At a)) → key_lt y.start y.end ≡ true → p a ≡ true
point-kept y p a keeps some =
    let s = y.start in
    let kept : (holds a (after a) s && p s) ≡ true = sym (keeps s) ∙ and_both _ _ (le_itself s) some in
    subst (λ k. p k ≡ true) (point-holds a s (and_first _ _ kept)) (and_second (holds a (after a) s) (p s) kept)

reach-holds : (y : Extent) (p : List ℕ → Bool) (reach : Reach) → KeepsOf y p (extent_of reach) → key_lt y.start y.end ≡ true → KeepsOf (extent_of (cut_reach y.start y.end reach)) p (extent_of reach)
reach-holds y p (Over a b) keeps some k = keeps k
reach-holds y p (At a) keeps some k =
    same_test _ _
    (λ h. and_both _ _ h (ap p (point-holds a k h) ∙ point-kept y p a keeps some))
    (λ h. and_first _ _ h)

pub cut-holds : (y : Extent) (p : List ℕ → Bool) (r : Request) → KeepsOf y p (span_of r) → key_lt y.start y.end ≡ true → KeepsOf (span_of (cut_to y.start y.end r)) p (span_of r)
cut-holds y p r keeps some k =
    ap (λ reach. holds (extent_of reach).start (extent_of reach).end k) (reach_cut y.start y.end r)
    ∙ reach-holds y p (reach_of r) keeps some k

-- where nothing is kept, no key of it passes
pub none-kept : (y x : Extent) (p : List ℕ → Bool) → KeepsOf y p x → key_lt y.start y.end ≡ false → (k : List ℕ) → (holds x.start x.end k && p k) ≡ false
none-kept y x p keeps none k =
    sym (keeps k)
    ∙ same_test _ _ (λ h. sym none ∙ key_le_lt-trans y.start k y.end (and_first _ _ h) (and_second (key_le y.start k) _ h)) (λ h. never h)

-- a cut of items

step : (h p : Bool) (n : ℕ) (xs ys : List ℕ) → ys ≡ cond p xs [] → cond (h && p) (n ∷ ys) ys ≡ cond p (cond h (n ∷ xs) xs) []
step true true n xs ys e = ap (λ zs. n ∷ zs) e
step true false n xs ys e = e
step false true n xs ys e = e
step false false n xs ys e = e

none_either : (t : Bool) → ◌≡◌ {A = List ℕ} [] (cond t [] [])
none_either true = refl
none_either false = refl

pub cut-positions : (f : Extent → Extent) (p : List ℕ → Bool) → Keeps f p → (k : List ℕ) (items : List Item) → positions_at k (cut_by f items) ≡ cond (p k) (positions_at k items) []
cut-positions f p keeps k [] = none_either (p k)
cut-positions f p keeps k (i ∷ is) =
    let x = span_of i.request in
    let more = cut_by f is in
    let cut = record i { request = cut_to (f x).start (f x).end i.request } in
    elim (key_lt (f x).start (f x).end) as (λ t. key_lt (f x).start (f x).end ≡ t → positions_at k (cond t (cut ∷ []) [] ++ more) ≡ cond (p k) (cond (holds_at k i) (i.pos ∷ positions_at k is) (positions_at k is)) []) [
      | true ↦ λ some.
          ap (λ t. cond t (i.pos ∷ positions_at k more) (positions_at k more)) (cut-holds (f x) p i.request (keeps x) some k)
          ∙ step (holds_at k i) (p k) i.pos (positions_at k is) (positions_at k more) (cut-positions f p keeps k is)
      | false ↦ λ none.
          sym (ap (λ t. cond t (i.pos ∷ positions_at k more) (positions_at k more)) (none-kept (f x) x p (keeps x) none k))
          ∙ step (holds_at k i) (p k) i.pos (positions_at k is) (positions_at k more) (cut-positions f p keeps k is)
    ] refl

-- no item holds a key on the near side

cut_out : (t : Bool) (n : ℕ) (xs : List ℕ) → t ≡ false → xs ≡ [] → cond t (n ∷ xs) xs ≡ []
cut_out true n xs p q = never (sym p)
cut_out false n xs p q = q

near-forward : (span : Extent) (k : List ℕ) (items : List Item) → AllNear Forward span items → key_le span.start k ≡ false → positions_at k items ≡ []
near-forward span k [] near out = refl
near-forward span k (i ∷ is) near out =
    cut_out _ i.pos _
    (ap (λ t. t && key_lt k (span_of i.request).end) (same_test _ _ (λ h. sym out ∙ le_trans span.start (span_of i.request).start k near.0 h) (λ h. never h)))
    (near-forward span k is near.1 out)

near-reverse : (span : Extent) (k : List ℕ) (items : List Item) → AllNear Reverse span items → key_lt k span.end ≡ false → positions_at k items ≡ []
near-reverse span k [] near out = refl
near-reverse span k (i ∷ is) near out =
    cut_out _ i.pos _
    (ap (λ t. key_le (span_of i.request).start k && t) (same_test _ _ (λ h. sym out ∙ lt_le_trans k (span_of i.request).end span.end h near.0) (λ h. never h)) ∙ and_no _)
    (near-reverse span k is near.1 out)

pub cut_items-positions : (span : Extent) (k : List ℕ) (items : List Item) → positions_at k (cut_items span items) ≡ cond (holds span.start span.end k) (positions_at k items) []
cut_items-positions span k items = cut-positions (within span) (holds span.start span.end) (within-keeps span) k items

far-reverse : (a b : Bool) (ws : List ℕ) → (b ≡ false → ws ≡ []) → cond (not a) ws [] ≡ cond (a && b) [] ws
far-reverse true true ws h = refl
far-reverse true false ws h = sym (h refl)
far-reverse false b ws h = refl

pub rest_items-positions : (d : Dir) (span : Extent) (k : List ℕ) (items : List Item) → AllNear d span items → positions_at k (rest_items d span items) ≡ cond (holds span.start span.end k) [] (positions_at k items)
rest_items-positions Forward span k items near =
    cut-positions (from span.end) (key_le span.end) (from-keeps span.end) k items
    ∙ ap (λ t. cond t (positions_at k items) []) (key_le-not_lt span.end k)
    ∙ far-forward (key_le span.start k) (key_lt k span.end) (positions_at k items) (near-forward span k items near)
  where
    far-forward : (a b : Bool) (ws : List ℕ) → (a ≡ false → ws ≡ []) → cond (not b) ws [] ≡ cond (a && b) [] ws
    far-forward true true ws h = refl
    far-forward true false ws h = refl
    far-forward false true ws h = sym (h refl)
    far-forward false false ws h = refl
rest_items-positions Reverse span k items near =
    cut-positions (up_to span.start) (λ q. key_lt q span.start) (up_to-keeps span.start) k items
    ∙ ap (λ t. cond t (positions_at k items) []) (sym (not-key_le span.start k))
    ∙ far-reverse (key_le span.start k) (key_lt k span.end) (positions_at k items) (near-reverse span k items near)

-- a block in two

split-shares : (t : Bool) (ws b : List ℕ) (bs : List (List ℕ)) → Shares ws (b ∷ bs) → Shares ws (cond t b [] ∷ cond t [] b ∷ bs)
split-shares true ws b bs h =
    elim h [
      | inl g ↦ inl (g.0, (refl, g.1))
      | inr g ↦ inr (g.0, inr (refl, g.1))
    ]
split-shares false ws b bs h = inr (refl, h)

split-none : (t : Bool) (b : List ℕ) (bs : List (List ℕ)) → AllNone (b ∷ bs) → AllNone (cond t b [] ∷ cond t [] b ∷ bs)
split-none true b bs h = (h.0, (refl, h.1))
split-none false b bs h = (refl, h)

none-there : (k : List ℕ) (t : Bool) (xs ys : List (List Item)) (block one two : List Item) → positions_at k one ≡ cond t (positions_at k block) [] → positions_at k two ≡ cond t [] (positions_at k block) → AllNone (map (positions_at k) (xs ++ block ∷ ys)) → AllNone (map (positions_at k) (xs ++ one ∷ two ∷ ys))
none-there k t [] ys block one two p q h =
    subst (λ b. AllNone (b ∷ positions_at k two ∷ map (positions_at k) ys)) (sym p)
    (subst (λ b. AllNone (cond t (positions_at k block) [] ∷ b ∷ map (positions_at k) ys)) (sym q)
    (split-none t (positions_at k block) (map (positions_at k) ys) h))
none-there k t (x ∷ xs) ys block one two p q h = (h.0, none-there k t xs ys block one two p q h.1)

shares-there : (ws k : List ℕ) (t : Bool) (xs ys : List (List Item)) (block one two : List Item) → positions_at k one ≡ cond t (positions_at k block) [] → positions_at k two ≡ cond t [] (positions_at k block) → Shares ws (map (positions_at k) (xs ++ block ∷ ys)) → Shares ws (map (positions_at k) (xs ++ one ∷ two ∷ ys))
shares-there ws k t [] ys block one two p q h =
    subst (λ b. Shares ws (b ∷ positions_at k two ∷ map (positions_at k) ys)) (sym p)
    (subst (λ b. Shares ws (cond t (positions_at k block) [] ∷ b ∷ map (positions_at k) ys)) (sym q)
    (split-shares t ws (positions_at k block) (map (positions_at k) ys) h))
shares-there ws k t (x ∷ xs) ys block one two p q h =
    elim h [
      | inl g ↦ inl (g.0, none-there k t xs ys block one two p q g.1)
      | inr g ↦ inr (g.0, shares-there ws k t xs ys block one two p q g.1)
    ]

pub near-covered : (d : Dir) (span : Extent) (items block : List Item) (xs ys : List (List Item)) → AllNear d span block → Covered items (xs ++ block ∷ ys) → Covered items (xs ++ cut_items span block ∷ rest_items d span block ∷ ys)
near-covered d span items block xs ys near h k =
    shares-there (positions_at k items) k (holds span.start span.end k) xs ys block _ _ (cut_items-positions span k block) (rest_items-positions d span k block near) (h k)

-- the seek key is the nearest

forward-low : (k m : List ℕ) (items : List Item) → key_le m (seek_from Forward k items) ≡ true → key_le m k ≡ true
forward-low k m [] h = h
forward-low k m (i ∷ is) h =
    let s = (span_of i.request).start in
    le_trans m (min_key k s) k (forward-low (min_key k s) m is h) (min_first k s)

forward-near : (k : List ℕ) (span : Extent) (items : List Item) → key_le span.start (seek_from Forward k items) ≡ true → AllNear Forward span items
forward-near k span [] h = tt
forward-near k span (i ∷ is) h =
    let s = (span_of i.request).start in
    (le_trans span.start (min_key k s) s (forward-low (min_key k s) span.start is h) (min_second k s), forward-near (min_key k s) span is h)

reverse-high : (k m : List ℕ) (items : List Item) → key_le (seek_from Reverse k items) m ≡ true → key_le k m ≡ true
reverse-high k m [] h = h
reverse-high k m (i ∷ is) h =
    let e = (span_of i.request).end in
    le_trans k (max_key k e) m (max_first k e) (reverse-high (max_key k e) m is h)

reverse-near : (k : List ℕ) (span : Extent) (items : List Item) → key_le (seek_from Reverse k items) span.end ≡ true → AllNear Reverse span items
reverse-near k span [] h = tt
reverse-near k span (i ∷ is) h =
    let e = (span_of i.request).end in
    (le_trans e (max_key k e) span.end (max_second k e) (reverse-high (max_key k e) span.end is h), reverse-near (max_key k e) span is h)

pub seek-near : (d : Dir) (span : Extent) (s : List ℕ) (items : List Item) → seek_key d items ≡ Some s → contains d s span ≡ true → AllNear d span items
seek-near Forward span s [] is in_it = tt
seek-near Reverse span s [] is in_it = tt
seek-near Forward span s (i ∷ more) is in_it =
    let low : key_le span.start (seek_from Forward (span_of i.request).start more) ≡ true = subst (λ k. key_le span.start k ≡ true) (sym (some_same _ _ is)) (and_first _ _ in_it) in
    (forward-low (span_of i.request).start span.start more low, forward-near (span_of i.request).start span more low)
seek-near Reverse span s (i ∷ more) is in_it =
    let high : key_le (seek_from Reverse (span_of i.request).end more) span.end ≡ true = subst (λ k. key_le k span.end ≡ true) (sym (some_same _ _ is)) (and_second (key_lt span.start s) _ in_it) in
    (reverse-high (span_of i.request).end span.end more high, reverse-near (span_of i.request).end span more high)

pub cuts-covered : (d : Dir) (span : Extent) (s : List ℕ) (items block : List Item) (xs ys : List (List Item)) → seek_key d block ≡ Some s → contains d s span ≡ true → Covered items (xs ++ block ∷ ys) → Covered items (xs ++ cut_items span block ∷ rest_items d span block ∷ ys)
cuts-covered d span s items block xs ys is in_it h = near-covered d span items block xs ys (seek-near d span s block is in_it) h

-- the same where the block may have no item
pub cut-near : (d : Dir) (span : Extent) (block : List Item) → ((s : List ℕ) → seek_key d block ≡ Some s → contains d s span ≡ true) → AllNear d span block
cut-near Forward span [] h = tt
cut-near Reverse span [] h = tt
cut-near Forward span (i ∷ is) h = seek-near Forward span (seek_from Forward (span_of i.request).start is) (i ∷ is) refl (h _ refl)
cut-near Reverse span (i ∷ is) h = seek-near Reverse span (seek_from Reverse (span_of i.request).end is) (i ∷ is) refl (h _ refl)
