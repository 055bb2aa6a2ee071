-- A request of which a limit lets only so much be taken stays in its range.
use Rattle.std.proofs.Common.{◌≡◌, ℕ, zero, suc, Bool, true, false, cond, List, [], ◌∷◌, map, Option, Some, None, refl, ◌⊎◌, inl, inr}
use Rattle.std.specs.List.{filter}
use Rattle.ds_base.specs.Order.{Extent, after, holds, key_le}
use Rattle.ds_base.proofs.KeyFacts.{own_span}
use Rattle.ds_base.proofs.NextKeys.{next_le}
use Rattle.ds_base.proofs.OrderedFacts.{le_trans}
use Rattle.ds_base.proofs.SmallFacts.{and_both, and_first, and_second}
use Rattle.ds_kind.specs.Bodies.{goes_down}
use Rattle.ds_kind.specs.Reach.{Reach, At as Point, Over, extent_of}
use Rattle.ds_kind.specs.Request.{cut_to, reach_of, span_of}
use Rattle.ds_kind.specs.declared.batch.Head.{Head}
use Rattle.ds_kind.specs.declared.batch.Item.{Item}
use Rattle.ds_kind.specs.declared.request.Request.{Request}
use Rattle.ds_kind.specs.declared.request.Request.TheVariants.{Get, Scan, ReverseScan, Put, ConditionalPut, InitPut, Increment, Delete, DeleteRange, EndTxn, QueryIntent, ResolveIntent, ResolveIntentRange, AdminSplit, AdminTransferLease}
use Rattle.ds_cell.specs.declared.entry.At.{At}
use Rattle.ds_cell.specs.Ask.{AllIn, Cell, Cells, key_of, places}
use Rattle.ds_rule.specs.Asking.{Made, ask_item, at_of}
use Rattle.ds_rule.specs.Deliver.{holds_item}
use Rattle.ds_rule.specs.Limited.{ask_left, ask_up_to, held_off, in_turn, item_in, last_taken, part_to, taken_keys, with_rest}
use Rattle.ds_rule.specs.Pieces.{Each, IsOneOf}
use Rattle.ds_rule.specs.World.{Range, start_of, end_of}
use Rattle.ds_rule.proofs.Eachs.{each-of, of-get, of-reverse}
use Rattle.ds_rule.proofs.Routes.{le_itself}
use Rattle.ds_rule.proofs.Writes.{in_between}

-- the one span lies in the other
abbrev pub LiesIn : Extent → Extent → Type 0
LiesIn a b = (key_le b.start a.start ≡ true) × (key_le a.end b.end ≡ true)

lies-itself : (e : Extent) → LiesIn e e
lies-itself e = (le_itself e.start, le_itself e.end)

cut-lies : (e : Extent) (r : Request) → LiesIn e (span_of r) → LiesIn (span_of (cut_to e.start e.end r)) (span_of r)
cut-lies e (Get a) h = lies-itself (span_of (Get a))
cut-lies e (Scan a) h = h
cut-lies e (ReverseScan a) h = h
cut-lies e (Put a) h = lies-itself (span_of (Put a))
cut-lies e (ConditionalPut a) h = lies-itself (span_of (ConditionalPut a))
cut-lies e (InitPut a) h = lies-itself (span_of (InitPut a))
cut-lies e (Increment a) h = lies-itself (span_of (Increment a))
cut-lies e (Delete a) h = lies-itself (span_of (Delete a))
cut-lies e (DeleteRange a) h = h
cut-lies e (EndTxn a) h = lies-itself (span_of (EndTxn a))
cut-lies e (QueryIntent a) h = lies-itself (span_of (QueryIntent a))
cut-lies e (ResolveIntent a) h = lies-itself (span_of (ResolveIntent a))
cut-lies e (ResolveIntentRange a) h = h
cut-lies e (AdminSplit a) h = lies-itself (span_of (AdminSplit a))
cut-lies e (AdminTransferLease a) h = lies-itself (span_of (AdminTransferLease a))

part-lies : (down : Bool) (e : Extent) (k : List ℕ) → holds e.start e.end k ≡ true → LiesIn (part_to down e k) e
part-lies false e k h = (le_itself e.start, next_le k e.end (and_second (key_le e.start k) _ h))
part-lies true e k h = (and_first _ _ h, le_itself e.end)

-- a key at which one was taken is one of the request's
abbrev pub IsIn : Extent → List ℕ → Type 0
IsIn e k = holds e.start e.end k ≡ true

filtered-in : (e : Extent) (f : Cell → Bool) (ps : Cells) → AllIn key_of e.start e.end ps → Each (IsIn e) (map key_of (filter f ps))
filtered-in e f [] all = tt
filtered-in e f (p ∷ ps) all =
    elim (f p) as (λ b. Each (IsIn e) (map key_of (cond b (p ∷ filter f ps) (filter f ps)))) [
      | true ↦ (all.0, filtered-in e f ps all.1)
      | false ↦ filtered-in e f ps all.1
    ]

places-in : (x : Reach) (cells : Cells) → AllIn key_of (extent_of x).start (extent_of x).end (places x cells)
places-in (Point k) cells = (own_span k, tt)
places-in (Over s e) cells = in_between s e cells

of-turn : {X : Type 0} (down : Bool) (x : X) (xs : List X) → IsOneOf x (in_turn down xs) → IsOneOf x xs
of-turn false x xs h = h
of-turn true x xs h = of-reverse x xs h

pub taken-in : (r : Request) (at : At) (cells : Cells) (n : ℕ) (k : List ℕ) → last_taken n (taken_keys r at cells) ≡ Some k → IsIn (span_of r) k
taken-in r at cells n k h =
    each-of (IsIn (span_of r)) k _ (filtered-in (span_of r) _ (places (reach_of r) cells) (places-in (reach_of r) cells))
    (of-turn (goes_down r) k _ (of-get k (taken_keys r at cells) n h))

short-held : (r : Range) (i : Item) (e : Extent) → LiesIn e (span_of i.request) → holds_item r i ≡ true → holds_item r (item_in e i) ≡ true
short-held r i e lies h =
    let cut = cut-lies e i.request lies in
    and_both _ _
    (le_trans (start_of r) (span_of i.request).start (span_of (cut_to e.start e.end i.request)).start (and_first _ _ h) cut.0)
    (le_trans (span_of (cut_to e.start e.end i.request)).end (span_of i.request).end (end_of r) cut.1 (and_second (key_le (start_of r) (span_of i.request).start) _ h))

-- the item itself, or a part of it
abbrev pub IsShort : Item → Item → Type 0
IsShort i j = (j ≡ i) ⊎ ((e : Extent) × (j ≡ item_in e i))

-- what holds of an item and of its parts that no range loses, holds of it where only so much may be taken
pub left-by : (P : Made → Type 0) (h : Head) (left : Option ℕ) (i : Item) (cells : Cells) → ((rest : Option Extent) (m : Made) → P m → P (with_rest rest m)) → P (held_off i cells) → ((j : Item) → IsShort i j → ((r : Range) → holds_item r i ≡ true → holds_item r j ≡ true) → P (ask_item h j cells)) → P (ask_left h left i cells)
left-by P h None i cells rest off one = one i (inl refl) (λ r held. held)
left-by P h (Some zero) i cells rest off one = off
left-by P h (Some (suc n)) i cells rest off one =
    elim (last_taken n (taken_keys i.request (at_of h i.seq.0) cells)) as (λ o. last_taken n (taken_keys i.request (at_of h i.seq.0) cells) ≡ o → P (ask_up_to h o i cells)) [
      | None ↦ λ e. one i (inl refl) (λ r held. held)
      | Some k ↦ λ e.
          rest _ _ (one (item_in (part_to (goes_down i.request) (span_of i.request) k) i) (inr (part_to (goes_down i.request) (span_of i.request) k, refl)) (λ r held.
          short-held r i (part_to (goes_down i.request) (span_of i.request) k) (part-lies (goes_down i.request) (span_of i.request) k (taken-in i.request (at_of h i.seq.0) cells n k e)) held))
    ] refl
