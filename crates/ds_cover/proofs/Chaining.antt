-- Spans that hold each key once are a chain, and a chain holds each key once.
use Rattle.std.proofs.Common.{◌≡◌, ℕ, ◌+◌, ◌≤◌, Bool, true, false, not, cond, ◌&&◌, List, [], ◌∷◌, refl, sym, ap, ◌∙◌, subst, arith}
use Rattle.std.specs.List.Sorted.{IsPermutation}
use Rattle.ds_base.specs.Order.{Extent, key_lt, key_le, holds}
use Rattle.ds_base.specs.Ordered.{AllFrom, AllOver, Ascends}
use Rattle.ds_base.proofs.KeyOrder.{key_lt-irrefl, key_lt-trans, key_le-not_lt, key_le-antisymm}
use Rattle.ds_base.proofs.OrderedFacts.{le_of_lt, le_of_not_lt, not_le_of_lt, not_lt_of_le, le_trans, lt_le_trans}
use Rattle.ds_base.proofs.SmallFacts.{and_first, and_second, and_both}
use Rattle.ds_kind.specs.Bodies.{put_in_order}
use Rattle.ds_cover.specs.Items.{AllSome}
use Rattle.ds_cover.specs.Chains.{one_if, times_held, Sorts, starts, by_start, Chain, joined_over}
use Rattle.ds_cover.proofs.Tests.{not_both, zero_plus, le_itself, exchange}
use Rattle.ds_cover.proofs.InOrder.{sorts, ascend-differ, keyed-sorted, same-order}

some-put : {X : Type 0} (f : X → Extent) (a : X) (xs : List X) → key_lt (f a).start (f a).end ≡ true → AllSome f xs → AllSome f (put_in_order (starts f) a xs)
some-put f a [] h all = (h, tt)
some-put f a (b ∷ bs) h all =
    elim (key_lt (f b).start (f a).start) as (λ t. AllSome f (cond t (b ∷ put_in_order (starts f) a bs) (a ∷ b ∷ bs))) [
      | true ↦ (all.0, some-put f a bs h all.1)
      | false ↦ (h, all)
    ]

some-sorted : {X : Type 0} (f : X → Extent) (xs : List X) → AllSome f xs → AllSome f (by_start f xs)
some-sorted f [] all = tt
some-sorted f (x ∷ xs) all = some-put f x (by_start f xs) all.0 (some-sorted f xs all.1)

held-put : {X : Type 0} (f : X → Extent) (k : List ℕ) (a : X) (xs : List X) → times_held f k (put_in_order (starts f) a xs) ≡ one_if (holds (f a).start (f a).end k) + times_held f k xs
held-put f k a [] = refl
held-put f k a (b ∷ bs) =
    elim (key_lt (f b).start (f a).start) as (λ t. times_held f k (cond t (b ∷ put_in_order (starts f) a bs) (a ∷ b ∷ bs)) ≡ one_if (holds (f a).start (f a).end k) + (one_if (holds (f b).start (f b).end k) + times_held f k bs)) [
      | true ↦
          ap (λ n. one_if (holds (f b).start (f b).end k) + n) (held-put f k a bs)
          ∙ exchange (one_if (holds (f b).start (f b).end k)) (one_if (holds (f a).start (f a).end k)) (times_held f k bs)
      | false ↦ refl
    ]

pub held-sorted : {X : Type 0} (f : X → Extent) (k : List ℕ) (xs : List X) → times_held f k (by_start f xs) ≡ times_held f k xs
held-sorted f k [] = refl
held-sorted f k (x ∷ xs) = held-put f k x (by_start f xs) ∙ ap (λ n. one_if (holds (f x).start (f x).end k) + n) (held-sorted f k xs)

-- the chain

held-there : (t u : Bool) (n : ℕ) → t ≡ true → one_if t + n ≡ one_if u → u ≡ true
held-there t true n p q = refl
held-there true false n p q = absurd (never n q)
  where
    never : (n : ℕ) → 1 + n ≡ 0 → ⊥
    never n h = omega (arith, h)
held-there false false n p q = p

not-held : {G : Type 0} (t : Bool) (n : ℕ) → t ≡ true → n ≡ one_if t → n ≡ 0 → G
not-held true n p q r = absurd (never n q r)
  where
    never : (n : ℕ) → n ≡ 1 → n ≡ 0 → ⊥
    never n q r = omega (arith, q, r)
not-held false n p q r = not_both false p refl

none-held : {X : Type 0} (f : X → Extent) (k m : List ℕ) (xs : List X) → key_lt k m ≡ true → AllFrom (starts f) m xs → times_held f k xs ≡ 0
none-held f k m [] low all = refl
none-held f k m (x ∷ xs) low all =
    let out : key_le (f x).start k ≡ false = not_le_of_lt k (f x).start (lt_le_trans k m (f x).start low all.0) in
    ap (λ t. one_if (t && key_lt k (f x).end) + times_held f k xs) out ∙ zero_more (times_held f k xs) (none-held f k m xs low all.1)
  where
    zero_more : (n : ℕ) → n ≡ 0 → 0 + n ≡ 0
    zero_more n h = omega (arith, h)

-- a span in two, counted
in-two : (a b c d : Bool) → c ≡ not b → (b ≡ true → d ≡ true) → (c ≡ true → a ≡ true) → one_if (a && d) ≡ one_if (a && b) + one_if (c && d)
in-two true true true d p q r = not_both true refl p
in-two true true false d p q r = ap one_if (q refl)
in-two true false true d p q r = sym (zero_plus (one_if d))
in-two true false false d p q r = not_both true refl (sym p)
in-two false b true d p q r = not_both true refl (sym (r refl))
in-two false b false d p q r = refl

pub span-in-two : (s m e k : List ℕ) → key_le s m ≡ true → key_le m e ≡ true → one_if (holds s e k) ≡ one_if (holds s m k) + one_if (holds m e k)
span-in-two s m e k sm me =
    in-two (key_le s k) (key_lt k m) (key_le m k) (key_lt k e) (key_le-not_lt m k) (λ h. lt_le_trans k m e h me) (λ h. le_trans s m k sm h)

less : (a b c d : ℕ) → a + b ≡ c → c ≡ a + d → b ≡ d
less a b c d p q = omega (arith, p, q)

chain-empty : (s e : List ℕ) → key_le s e ≡ true → 0 ≡ one_if (holds s e s) → s ≡ e
chain-empty s e le none =
    elim (key_lt s e) as (λ t. key_lt s e ≡ t → s ≡ e) [
      | true ↦ λ h. not-held (holds s e s) 0 (and_both _ _ (le_itself s) h) none refl
      | false ↦ λ h. key_le-antisymm s e le h
    ] refl

-- where each key of the span is held once, the first starts at its start, no later one there or before,
-- and what is left of the span is held once by the others
sorted-chain : {X : Type 0} (f : X → Extent) (s e : List ℕ) (xs : List X) → Sorts (starts f) xs → AllSome f xs → key_le s e ≡ true → ((k : List ℕ) → times_held f k xs ≡ one_if (holds s e k)) → Chain f s e xs
sorted-chain f s e [] up some le once = chain-empty s e le (once s)
sorted-chain f s e (x ∷ xs) up some le once =
    let a = (f x).start in
    let b = (f x).end in
    let there : holds s e a ≡ true = held-there (holds a b a) (holds s e a) (times_held f a xs) (and_both _ _ (le_itself a) some.0) (once a) in
    let begins : a ≡ s = elim (key_lt s a) as (λ t. key_lt s a ≡ t → a ≡ s) [
      | true ↦ λ h. not-held (holds s e s) (times_held f s (x ∷ xs)) (and_both _ _ (le_itself s) (key_lt-trans s a e h (and_second (key_le s a) _ there))) (once s) (none-held f s a (x ∷ xs) h (le_itself a, up.0))
      | false ↦ λ h. sym (key_le-antisymm s a (and_first _ _ there) h)
    ] refl in
    let ends : key_le b e ≡ true = elim (key_lt e b) as (λ t. key_lt e b ≡ t → key_le b e ≡ true) [
      | true ↦ λ h.
          let in_it : holds s e e ≡ true = held-there (holds a b e) (holds s e e) (times_held f e xs) (and_both _ _ (le_of_lt a e (and_second (key_le s a) _ there)) h) (once e) in
          not_both (key_lt e e) (and_second (key_le s e) _ in_it) (key_lt-irrefl e)
      | false ↦ λ h. le_of_not_lt e b h
    ] refl in
    let low : key_lt s b ≡ true = subst (λ k. key_lt k b ≡ true) begins some.0 in (
      begins,
      low,
      sorted-chain f b e xs up.1 some.1 ends (λ k.
          less (one_if (holds a b k)) (times_held f k xs) (one_if (holds s e k)) (one_if (holds b e k)) (once k)
          (span-in-two s b e k (le_of_lt s b low) ends ∙ ap (λ z. one_if (holds z b k) + one_if (holds b e k)) (sym begins))),
    )

pub once-chain : {X : Type 0} (f : X → Extent) (s e : List ℕ) (xs : List X) → AllSome f xs → key_le s e ≡ true → ((k : List ℕ) → times_held f k xs ≡ one_if (holds s e k)) → Chain f s e (by_start f xs)
once-chain f s e xs some le once =
    sorted-chain f s e (by_start f xs) (sorts (starts f) xs) (some-sorted f xs some) le (λ k. held-sorted f k xs ∙ once k)

-- and back

pub chain-le : {X : Type 0} (f : X → Extent) (s e : List ℕ) (xs : List X) → Chain f s e xs → key_le s e ≡ true
chain-le f s e [] c = subst (λ k. key_le s k ≡ true) c (le_itself s)
chain-le f s e (x ∷ xs) c = le_trans s (f x).end e (le_of_lt s (f x).end c.1) (chain-le f (f x).end e xs c.2)

chain-over : {X : Type 0} (f : X → Extent) (k m e : List ℕ) (xs : List X) → key_lt k m ≡ true → Chain f m e xs → AllOver (starts f) k xs
chain-over f k m e [] low c = tt
chain-over f k m e (x ∷ xs) low c =
    (subst (λ s. key_lt k s ≡ true) (sym c.0) low, chain-over f k (f x).end e xs (key_lt-trans k m (f x).end low c.1) c.2)

pub chain-ascends : {X : Type 0} (f : X → Extent) (s e : List ℕ) (xs : List X) → Chain f s e xs → Ascends (starts f) xs
chain-ascends f s e [] c = tt
chain-ascends f s e (x ∷ xs) c =
    (chain-over f (f x).start (f x).end e xs (subst (λ k. key_lt k (f x).end ≡ true) (sym c.0) c.1) c.2, chain-ascends f (f x).end e xs c.2)

empty-held : (s k : List ℕ) → 0 ≡ one_if (holds s s k)
empty-held s k =
    elim (key_le s k) as (λ t. key_le s k ≡ t → 0 ≡ one_if (t && key_lt k s)) [
      | true ↦ λ h. ap one_if (sym (not_lt_of_le s k h))
      | false ↦ λ h. refl
    ] refl

-- in a chain each key is held once
pub chain-once : {X : Type 0} (f : X → Extent) (s e : List ℕ) (xs : List X) → Chain f s e xs → (k : List ℕ) → times_held f k xs ≡ one_if (holds s e k)
chain-once f s e [] c k = empty-held s k ∙ ap (λ z. one_if (holds s z k)) c
chain-once f s e (x ∷ xs) c k =
    ap (λ n. one_if (holds (f x).start (f x).end k) + n) (chain-once f (f x).end e xs c.2 k)
    ∙ ap (λ z. one_if (holds z (f x).end k) + one_if (holds (f x).end e k)) c.0
    ∙ sym (span-in-two s (f x).end e k (le_of_lt s (f x).end c.1) (chain-le f (f x).end e xs c.2))

-- the order of arrival

pub same-chain : {X : Type 0} (f : X → Extent) (s e : List ℕ) (xs ys : List X) → IsPermutation xs ys → Chain f s e (by_start f xs) → by_start f ys ≡ by_start f xs
same-chain f s e xs ys p c =
    same-order (starts f) xs ys p
    (λ k. subst (λ n. n ≤ 1) (keyed-sorted (starts f) k xs) (ascend-differ (starts f) (by_start f xs) (chain-ascends f s e (by_start f xs) c) k))

pub same-join : {X B : Type 0} (f : X → Extent) (body : X → B) (join : B → B → B) (none : B) (s e : List ℕ) (xs ys : List X) → IsPermutation xs ys → Chain f s e (by_start f xs) → joined_over body join none (by_start f ys) ≡ joined_over body join none (by_start f xs)
same-join f body join none s e xs ys p c = ap (joined_over body join none) (same-chain f s e xs ys p c)
