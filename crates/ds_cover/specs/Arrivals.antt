-- What chains and orders of arrival promise.
use Rattle.std.specs.Prelude.{◌≡◌, ℕ, true, List, filter}
use Rattle.std.specs.List.{flat_map}
use Rattle.std.specs.List.Sorted.{IsPermutation}
use Rattle.ds_base.specs.Order.{Extent, key_le, holds}
use Rattle.ds_base.specs.Ordered.{Ascends}
use Rattle.ds_kind.specs.Request.{span_of}
use Rattle.ds_kind.specs.declared.batch.Item.{Item}
use Rattle.ds_kind.specs.declared.reply.Body.{Body}
use Rattle.ds_cover.specs.Items.{item_span, is_at, AllSome, PositionsRise, IsOneOf}
use Rattle.ds_cover.specs.Coverage.{Covered}
use Rattle.ds_cover.specs.Chains.{one_if, times_held, starts, by_start, Chain, joined_over, KeysDiffer}

-- spans that hold each key of [s, e) once, and no other, are a chain when sorted
abbrev pub OnceChains : Type 0
OnceChains =
    (s e : List ℕ) (xs : List Extent) → AllSome (λ x. x) xs → key_le s e ≡ true
    → ((k : List ℕ) → times_held (λ x. x) k xs ≡ one_if (holds s e k)) → Chain (λ x. x) s e (by_start (λ x. x) xs)

-- a chain holds each key of its span once and no other, and its starts ascend
abbrev pub ChainsOnce : Type 0
ChainsOnce =
    (s e : List ℕ) (xs : List Extent) → Chain (λ x. x) s e xs
    → Ascends (starts (λ x. x)) xs × ((k : List ℕ) → times_held (λ x. x) k xs ≡ one_if (holds s e k))

-- an item with the body that it was answered
abbrev pub span_at : Item × Body → Extent
span_at p = item_span p.0

-- items that start at different keys come in one order, whatever the order of arrival
abbrev pub OrdersTheSame : Type 0
OrdersTheSame =
    (xs ys : List (Item × Body)) → IsPermutation xs ys → KeysDiffer (starts span_at) xs → by_start span_at ys ≡ by_start span_at xs

-- whatever the order of arrival, bodies of items whose spans are a chain when sorted join to the same
abbrev pub JoinsTheSame : Type 0
JoinsTheSame =
    (join : Body → Body → Body) (none : Body) (s e : List ℕ) (xs ys : List (Item × Body)) → IsPermutation xs ys → Chain span_at s e (by_start span_at xs)
    → joined_over (λ p. p.1) join none (by_start span_at ys) ≡ joined_over (λ p. p.1) join none (by_start span_at xs)

-- where blocks of cuts cover items at different positions, those at one position are a chain over its item's span
abbrev pub CoveredChains : Type 0
CoveredChains =
    (items : List Item) (blocks : List (List Item)) → PositionsRise items → Covered items blocks → AllSome item_span (flat_map (λ b. b) blocks)
    → (i : Item) → IsOneOf i items → key_le (span_of i.request).start (span_of i.request).end ≡ true
    → Chain item_span (span_of i.request).start (span_of i.request).end (by_start item_span (filter (is_at i.pos) (flat_map (λ b. b) blocks)))
