-- What gathering promises beyond what it is.
use Rattle.std.specs.Prelude.{◌≡◌, ℕ, Bool, List, [], ◌∷◌, reverse, if◌then◌else◌}
use Rattle.std.specs.List.Sorted.{IsPermutation}
use Rattle.ds_base.specs.Order.{Extent}
use Rattle.ds_base.specs.Ordered.{AllFrom, AllBelow, Ascends}
use Rattle.ds_kind.specs.Bodies.{in_order, join_bodies, empty_body, goes_down, those_at}
use Rattle.ds_kind.specs.declared.reply.Body.{Body}
use Rattle.ds_kind.specs.declared.reply.Body.TheVariants.{Got, Rows, Unit as Done, Number, Gone, Ended, Found}
use Rattle.ds_kind.specs.declared.request.Request.{Request}
use Rattle.ds_kind.specs.declared.reply.Row.{Row}
use Rattle.ds_cover.specs.Chains.{Chain, KeysDiffer, joined_over}
use Rattle.ds_gather.specs.Gathered.{pos_of, start_of, rows_in, keys_in, in_direction, joined, reply_of, gathered}
use Rattle.ds_gather.specs.declared.arrival.Arrival.{Arrival}
use Rattle.ds_gather.specs.declared.arrival.Wanted.{Wanted}

-- no two answers of one request start at one key
abbrev pub StartsDiffer : List Arrival → Type 0
StartsDiffer got = (n : ℕ) → KeysDiffer start_of (those_at pos_of n got)

-- the order of arrival doesn't matter
abbrev pub OrderFree : Type 0
OrderFree = (ws : List Wanted) (xs ys : List Arrival) → IsPermutation xs ys → StartsDiffer xs → gathered ws ys ≡ gathered ws xs

-- a body of the kind of this one
abbrev pub SameKind : Body → Body → Type 0
SameKind (Got a) (Got b) = Unit {0}
SameKind (Rows a) (Rows b) = Unit {0}
SameKind Done Done = Unit {0}
SameKind (Number a) (Number b) = Unit {0}
SameKind (Gone a) (Gone b) = Unit {0}
SameKind (Ended a) (Ended b) = Unit {0}
SameKind (Found a) (Found b) = Unit {0}
SameKind a b = ⊥

abbrev pub AllOfKind : Body → List Arrival → Type 0
AllOfKind none [] = Unit {0}
AllOfKind none (a ∷ more) = SameKind none a.reply.body × AllOfKind none more

-- what is joined in key order, body by body, is the body that the reply has
abbrev pub BodiesJoined : Type 0
BodiesJoined =
    (r : Request) (xs : List Arrival) → AllOfKind (empty_body r) xs
    → joined_over (λ a. a.reply.body) (join_bodies (goes_down r)) (empty_body r) xs ≡ joined (empty_body r) (in_direction (goes_down r) xs)

-- rows and deleted keys are in key order

abbrev pub row_key : Row → List ℕ
row_key r = r.key

abbrev pub key_itself : List ℕ → List ℕ
key_itself k = k

-- each key is below the later ones, or above them where it goes down
abbrev pub InDirection : {X : Type 0} → Bool → (X → List ℕ) → List X → Type 0
InDirection down key xs = Ascends key (if down then reverse xs else xs)

-- the span of an answer, by where it ends
abbrev pub span_to : (Arrival → List ℕ) → Arrival → Extent
span_to end a = record { start = a.start; end = end a }

-- what each answer gives is in key order and lies in its span
abbrev pub EachLies : {X : Type 0} → Bool → (X → List ℕ) → (Arrival → List X) → (Arrival → List ℕ) → List Arrival → Type 0
EachLies down key give end [] = Unit {0}
EachLies down key give end (a ∷ more) = InDirection down key (give a) × AllFrom key a.start (give a) × AllBelow key (end a) (give a) × EachLies down key give end more

-- where the spans of what came for a request are a chain, and each answer's rows are in key order and lie in its span,
-- the rows of the reply are in key order
abbrev pub RowsInOrder : Type 0
RowsInOrder =
    (w : Wanted) (got : List Arrival) (end : Arrival → List ℕ) (s e : List ℕ) (none : List Row) → w.empty ≡ Rows none
    → Chain (span_to end) s e (in_order start_of (those_at pos_of w.pos got))
    → EachLies w.down row_key (λ a. rows_in a.reply.body) end (those_at pos_of w.pos got)
    → InDirection w.down row_key (rows_in (reply_of got w).body)

-- the same for deleted keys
abbrev pub KeysInOrder : Type 0
KeysInOrder =
    (w : Wanted) (got : List Arrival) (end : Arrival → List ℕ) (s e : List ℕ) (none : List (List ℕ)) → w.empty ≡ Gone none
    → Chain (span_to end) s e (in_order start_of (those_at pos_of w.pos got))
    → EachLies w.down key_itself (λ a. keys_in a.reply.body) end (those_at pos_of w.pos got)
    → InDirection w.down key_itself (keys_in (reply_of got w).body)
