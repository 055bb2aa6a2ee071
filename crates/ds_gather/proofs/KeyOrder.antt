-- What is joined over a chain of spans is in key order where each answer is.
use Rattle.std.proofs.Common.{◌≡◌, ℕ, Bool, true, false, cond, List, [], ◌∷◌, ◌++◌, reverse, refl, sym, ap, ◌∙◌, subst}
use Rattle.std.proofs.lemmas.List.{reverse-append}
use Rattle.ds_base.specs.Order.{key_lt}
use Rattle.ds_base.specs.Ordered.{AllOver, AllFrom, AllBelow, Ascends}
use Rattle.ds_base.proofs.OrderedFacts.{le_of_lt, lt_le_trans, over-append}
use Rattle.ds_base.proofs.KeyFacts.{from_lower}
use Rattle.ds_base.proofs.ListFacts.{last_first}
use Rattle.ds_kind.specs.Bodies.{put_in_order, in_order, those_at}
use Rattle.ds_kind.specs.declared.reply.Body.TheVariants.{Rows, Gone}
use Rattle.ds_kind.specs.declared.reply.Row.{Row}
use Rattle.ds_cover.specs.Chains.{Chain}
use Rattle.ds_gather.specs.Gathered.{pos_of, start_of, rows_in, keys_in, in_direction, joined, reply_of}
use Rattle.ds_gather.specs.Laws.{row_key, key_itself, span_to, InDirection, EachLies}
use Rattle.ds_gather.specs.declared.arrival.Arrival.{Arrival}
use Rattle.ds_gather.specs.declared.arrival.Wanted.{Wanted}
use Rattle.ds_gather.proofs.Joining.{all_of, all_push, rows_all, keys_all}

abbrev turned : {X : Type 0} → Bool → List X → List X
turned down xs = cond down (reverse xs) xs

-- bounds of lists put together, and turned

from-append : {X : Type 0} (key : X → List ℕ) (k : List ℕ) (xs ys : List X) → AllFrom key k xs → AllFrom key k ys → AllFrom key k (xs ++ ys)
from-append key k [] ys p q = q
from-append key k (x ∷ xs) ys p q = (p.0, from-append key k xs ys p.1 q)

below-append : {X : Type 0} (key : X → List ℕ) (k : List ℕ) (xs ys : List X) → AllBelow key k xs → AllBelow key k ys → AllBelow key k (xs ++ ys)
below-append key k [] ys p q = q
below-append key k (x ∷ xs) ys p q = (p.0, below-append key k xs ys p.1 q)

from-reverse : {X : Type 0} (key : X → List ℕ) (k : List ℕ) (xs : List X) → AllFrom key k xs → AllFrom key k (reverse xs)
from-reverse key k [] h = tt
from-reverse key k (x ∷ xs) h = subst (AllFrom key k) (sym (last_first x xs)) (from-append key k (reverse xs) (x ∷ []) (from-reverse key k xs h.1) (h.0, tt))

below-reverse : {X : Type 0} (key : X → List ℕ) (k : List ℕ) (xs : List X) → AllBelow key k xs → AllBelow key k (reverse xs)
below-reverse key k [] h = tt
below-reverse key k (x ∷ xs) h = subst (AllBelow key k) (sym (last_first x xs)) (below-append key k (reverse xs) (x ∷ []) (below-reverse key k xs h.1) (h.0, tt))

from-turned : {X : Type 0} (down : Bool) (key : X → List ℕ) (k : List ℕ) (xs : List X) → AllFrom key k xs → AllFrom key k (turned down xs)
from-turned true key k xs h = from-reverse key k xs h
from-turned false key k xs h = h

below-turned : {X : Type 0} (down : Bool) (key : X → List ℕ) (k : List ℕ) (xs : List X) → AllBelow key k xs → AllBelow key k (turned down xs)
below-turned true key k xs h = below-reverse key k xs h
below-turned false key k xs h = h

over-from : {X : Type 0} (key : X → List ℕ) (k m : List ℕ) (xs : List X) → key_lt k m ≡ true → AllFrom key m xs → AllOver key k xs
over-from key k m [] h all = tt
over-from key k m (x ∷ xs) h all = (lt_le_trans k m (key x) h all.0, over-from key k m xs h all.1)

ascends-append : {X : Type 0} (key : X → List ℕ) (m : List ℕ) (xs ys : List X) → Ascends key xs → Ascends key ys → AllBelow key m xs → AllFrom key m ys → Ascends key (xs ++ ys)
ascends-append key m [] ys p q low high = q
ascends-append key m (x ∷ xs) ys p q low high =
    (over-append key (key x) xs ys p.0 (over-from key (key x) m ys low.0 high), ascends-append key m xs ys p.1 q low.1 high)

-- the first answer's, and then the others'

none_of : {X : Type 0} (down : Bool) (give : Arrival → List X) → turned down (all_of give (in_direction down [])) ≡ []
none_of true give = refl
none_of false give = refl

one_of : {X : Type 0} (down : Bool) (give : Arrival → List X) (a : Arrival) (more : List Arrival) → turned down (all_of give (in_direction down (a ∷ more))) ≡ turned down (give a) ++ turned down (all_of give (in_direction down more))
one_of true give a more =
    ap (λ z. reverse (all_of give z)) (last_first a more) ∙ ap reverse (all_push give (reverse more) a) ∙ reverse-append (all_of give (reverse more)) (give a)
one_of false give a more = refl

over-chain : {X : Type 0} (down : Bool) (key : X → List ℕ) (give : Arrival → List X) (end : Arrival → List ℕ) (s e : List ℕ) (xs : List Arrival)
    → Chain (span_to end) s e xs → EachLies down key give end xs
    → Ascends key (turned down (all_of give (in_direction down xs))) × AllFrom key s (turned down (all_of give (in_direction down xs)))
over-chain down key give end s e [] chain lies =
    let P : _ → Type 0 = λ zs. Ascends key zs × AllFrom key s zs in
    subst P (sym (none_of down give)) (tt, tt)
over-chain {X} down key give end s e (a ∷ more) chain lies =
    let m = end a in
    let one = turned down (give a) in
    let rest = over-chain down key give end m e more chain.2 lies.3 in
    let P : List X → Type 0 = λ zs. Ascends key zs × AllFrom key s zs in
    subst P (sym (one_of down give a more)) (
      ascends-append key m one _ lies.0 rest.0 (below-turned down key m (give a) lies.2) rest.1,
      from-append key s one _ (from-turned down key s (give a) (subst (λ k. AllFrom key k (give a)) chain.0 lies.1)) (from_lower key s m _ (le_of_lt s m chain.1) rest.1),
    )

-- each lies in its span, in whatever order they stand

lies-put : {X : Type 0} (down : Bool) (key : X → List ℕ) (give : Arrival → List X) (end : Arrival → List ℕ) (a : Arrival) (xs : List Arrival) → EachLies down key give end (a ∷ xs) → EachLies down key give end (put_in_order start_of a xs)
lies-put down key give end a [] h = h
lies-put down key give end a (b ∷ bs) h =
    elim (key_lt b.start a.start) as (λ t. EachLies down key give end (cond t (b ∷ put_in_order start_of a bs) (a ∷ b ∷ bs))) [
      | true ↦ (h.3.0, h.3.1, h.3.2, lies-put down key give end a bs (h.0, h.1, h.2, h.3.3))
      | false ↦ h
    ]

lies-order : {X : Type 0} (down : Bool) (key : X → List ℕ) (give : Arrival → List X) (end : Arrival → List ℕ) (xs : List Arrival) → EachLies down key give end xs → EachLies down key give end (in_order start_of xs)
lies-order down key give end [] h = tt
lies-order down key give end (a ∷ bs) h = lies-put down key give end a (in_order start_of bs) (h.0, h.1, h.2, lies-order down key give end bs h.3)

-- replies

pub rows-in-order : (w : Wanted) (got : List Arrival) (end : Arrival → List ℕ) (s e : List ℕ) (none : List Row) → w.empty ≡ Rows none
    → Chain (span_to end) s e (in_order start_of (those_at pos_of w.pos got))
    → EachLies w.down row_key (λ a. rows_in a.reply.body) end (those_at pos_of w.pos got)
    → InDirection w.down row_key (rows_in (reply_of got w).body)
rows-in-order w got end s e none is chain lies =
    let give : Arrival → List Row = λ a. rows_in a.reply.body in
    let xs = in_order start_of (those_at pos_of w.pos got) in
    let same : all_of give (in_direction w.down xs) ≡ rows_in (joined w.empty (in_direction w.down xs)) =
    sym (rows_all (in_direction w.down xs)) ∙ ap (λ b. rows_in (joined b (in_direction w.down xs))) (sym is) in
    subst (InDirection w.down row_key) same
    (over-chain w.down row_key give end s e xs chain (lies-order w.down row_key give end (those_at pos_of w.pos got) lies)).0

pub keys-in-order : (w : Wanted) (got : List Arrival) (end : Arrival → List ℕ) (s e : List ℕ) (none : List (List ℕ)) → w.empty ≡ Gone none
    → Chain (span_to end) s e (in_order start_of (those_at pos_of w.pos got))
    → EachLies w.down key_itself (λ a. keys_in a.reply.body) end (those_at pos_of w.pos got)
    → InDirection w.down key_itself (keys_in (reply_of got w).body)
keys-in-order w got end s e none is chain lies =
    let give : Arrival → List (List ℕ) = λ a. keys_in a.reply.body in
    let xs = in_order start_of (those_at pos_of w.pos got) in
    let same : all_of give (in_direction w.down xs) ≡ keys_in (joined w.empty (in_direction w.down xs)) =
    sym (keys_all (in_direction w.down xs)) ∙ ap (λ b. keys_in (joined b (in_direction w.down xs))) (sym is) in
    subst (InDirection w.down key_itself) same
    (over-chain w.down key_itself give end s e xs chain (lies-order w.down key_itself give end (those_at pos_of w.pos got) lies)).0
