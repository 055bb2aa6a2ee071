-- What a piece is served takes at most what is left of its limit.
use Rattle.std.proofs.Common.{◌≡◌, ◌⊎◌, ℕ, zero, suc, ◌+◌, ◌<◌, ◌≤◌, Bool, true, false, cond, List, [], ◌∷◌, ◌++◌, map, reverse, length, nat_lt, Option, Some, None, inl, inr, refl, sym, ap, ◌∙◌, subst, arith}
use Rattle.std.specs.List.{filter, find, slice_get}
use Rattle.std.proofs.lemmas.List.{length-map, length-reverse}
use Rattle.std.proofs.lemmas.List.Sums.{sum_by-cons}
use Rattle.ds_base.specs.Order.{Extent, after, holds, key_le, key_lt}
use Rattle.ds_base.specs.Ordered.{AllFrom, AllOver, Ascends, between}
use Rattle.ds_base.specs.declared.value.Stamp.{Stamp}
use Rattle.ds_base.proofs.ListFacts.{found_at, last_first}
use Rattle.ds_base.proofs.NextKeys.{next_le}
use Rattle.ds_base.proofs.OrderedFacts.{le_trans, lt_le_trans, none-from, not_le_of_lt}
use Rattle.ds_base.proofs.SmallFacts.{and_both, and_first, and_second, ge_of, lt_of, none_some, some_none, some_same}
use Rattle.ds_base.proofs.TestFacts.{not_both}
use Rattle.ds_kind.specs.Bodies.{empty_body, goes_down}
use Rattle.ds_kind.specs.Left.{taken_by, taken_in, left_after, is_used_up, LeavesRoom}
use Rattle.ds_kind.specs.Reach.{Reach, At as Point, Over}
use Rattle.ds_kind.specs.Request.{cut_to, reach_of, span_of}
use Rattle.ds_kind.specs.declared.batch.Head.{Head}
use Rattle.ds_kind.specs.declared.batch.Item.{Item}
use Rattle.ds_kind.specs.declared.batch.Piece.{Piece}
use Rattle.ds_kind.specs.declared.reply.Body.TheVariants.{Got}
use Rattle.ds_kind.specs.declared.reply.Reply.{Reply}
use Rattle.ds_kind.specs.declared.reply.Row.{Row}
use Rattle.ds_kind.specs.declared.request.Request.{Request}
use Rattle.ds_kind.specs.declared.request.Request.TheVariants.{Get, Scan, ReverseScan, Put, ConditionalPut, InitPut, Increment, Delete, DeleteRange, EndTxn, QueryIntent, ResolveIntent, ResolveIntentRange, AdminSplit, AdminTransferLease}
use Rattle.ds_kind.proofs.LeftFacts.{room-append}
use Rattle.ds_cell.specs.declared.entry.At.{At}
use Rattle.ds_cell.specs.declared.verdict.Bit.{Bit}
use Rattle.ds_cell.specs.declared.verdict.Bit.TheVariants.{Nothing, Value as Shown, Gone, Hit}
use Rattle.ds_cell.specs.declared.verdict.Verdict.{Verdict}
use Rattle.ds_cell.specs.declared.verdict.Verdict.TheVariants.{Keep, Put as Write, Refuse}
use Rattle.ds_cell.specs.Ask.{Asked, Cell, Cells, Failed, Gave, ask_each, content_at, key_of, one_more, places}
use Rattle.ds_cell.specs.Content.{Content}
use Rattle.ds_cell.specs.Deed.{deed}
use Rattle.ds_cell.specs.Kinds.{judge_read, nothing}
use Rattle.ds_cell.specs.LawProofs.{guarded-keep}
use Rattle.ds_cell.specs.Replies.{Bits, body_of, gone_keys, rows_of, value_in, value_of, with_gone, with_row}
use Rattle.ds_cell.specs.Requests.{ask_request, deed_of}
use Rattle.ds_cell.specs.Seen.{too_old}
use Rattle.ds_cell.specs.Store.{WriteAt}
use Rattle.ds_cell.proofs.LaterFacts.{ascends-written}
use Rattle.ds_rule.specs.declared.answer.Answer.TheVariants.{Done}
use Rattle.ds_rule.specs.declared.record.TxnRecord.{TxnRecord}
use Rattle.ds_rule.specs.Asking.{Made, Gives, Fails, and_before, ask_item, at_of, made_by}
use Rattle.ds_rule.specs.Deliver.{deliver_answer}
use Rattle.ds_rule.specs.Limited.{ask_left, ask_up_to, held_off, in_turn, is_gone, item_in, last_taken, part_to, rest_after, resuming, taken_keys, takes, takes_bit, with_rest}
use Rattle.ds_rule.specs.Pieces.{Each, IsOneOf}
use Rattle.ds_rule.specs.Records.{record_of}
use Rattle.ds_rule.specs.Serve.{and_left, decided, resolved, resolved_for, resolved_left, resolves, serve, settle_as}
use Rattle.ds_rule.specs.World.{World, Range, Tiles, end_of, has_id}
use Rattle.ds_rule.proofs.Delivered.{ascends_in}
use Rattle.ds_rule.proofs.Eachs.{each-of, of-get, of-reverse}
use Rattle.ds_rule.proofs.Service.{service}
use Rattle.ds_rule.proofs.Short.{left-by, taken-in}

-- ---- what a request shows is no more than the keys at which it takes one

abbrev taking : (Content → Verdict) → Cell → Bool
taking d p = takes (d p.1)

-- what was asked shows at most so much
abbrev AtMost : (Bits → ℕ) → ℕ → Asked → Type 0
AtMost size n (Failed k f) = Unit {0}
AtMost size n (Gave bits ws) = size bits ≤ n

one-more : (n m : ℕ) → n ≤ m → n ≤ suc m
one-more n m h = omega (arith, h)

both-more : (n m : ℕ) → n ≤ m → suc n ≤ suc m
both-more n m h = omega (arith, h)

-- rows, of what keeps each key as it is

abbrev Reads : (Content → Verdict) → Type 0
Reads d = (c : Content) → (b : Bit) × (d c ≡ Keep b)

abbrev rows_size : Bits → ℕ
rows_size bits = length (rows_of bits)

row-kept : (p : Cell) (b : Bit) (rows : List Row) (fs : Cells) → length rows ≤ length fs → length (with_row p.0 b rows) ≤ length (cond (takes_bit b) (p ∷ fs) fs)
row-kept p Nothing rows fs h = h
row-kept p (Shown None) rows fs h = h
row-kept p (Shown (Some v)) rows fs h = both-more (length rows) (length fs) h
row-kept p Gone rows fs h = one-more (length rows) (length fs) h
row-kept p Hit rows fs h = h

rows-kept : (p : Cell) (b : Bit) (r : Asked) (fs : Cells) → AtMost rows_size (length fs) r → AtMost rows_size (length (cond (takes_bit b) (p ∷ fs) fs)) (one_more p.0 (Keep b) r)
rows-kept p b (Failed k f) fs h = tt
rows-kept p b (Gave bits ws) fs h = row-kept p b (rows_of bits) fs h

rows-each : (d : Content → Verdict) → Reads d → (ps : Cells) → AtMost rows_size (length (filter (taking d) ps)) (ask_each d ps)
rows-each d reads [] = omega arith
rows-each d reads (p ∷ ps) =
    let kept = reads p.1 in
    let fs = filter (taking d) ps in
    subst (λ v. AtMost rows_size (length (cond (takes v) (p ∷ fs) fs)) (one_more p.0 v (ask_each d ps))) (sym kept.1)
    (rows-kept p kept.0 (ask_each d ps) fs (rows-each d reads ps))

-- the value of one key

abbrev value_size : Bits → ℕ
value_size bits = taken_in (Got (value_in bits))

value-kept : (p : Cell) (b : Bit) → taken_in (Got (value_of b)) ≤ length (cond (takes_bit b) (p ∷ []) [])
value-kept p Nothing = omega arith
value-kept p (Shown None) = omega arith
value-kept p (Shown (Some v)) = omega arith
value-kept p Gone = omega arith
value-kept p Hit = omega arith

value-one : (d : Content → Verdict) → Reads d → (p : Cell) → AtMost value_size (length (filter (taking d) (p ∷ []))) (ask_each d (p ∷ []))
value-one d reads p =
    let kept = reads p.1 in
    subst (λ v. AtMost value_size (length (cond (takes v) (p ∷ []) [])) (one_more p.0 v (Gave [] []))) (sym kept.1) (value-kept p kept.0)

-- keys that are deleted

abbrev keys_size : Bits → ℕ
keys_size bits = length (gone_keys bits)

key-kept : (p : Cell) (b : Bit) (keys : List (List ℕ)) (fs : Cells) → length keys ≤ length fs → length (with_gone p.0 b keys) ≤ length (cond (takes_bit b) (p ∷ fs) fs)
key-kept p Nothing keys fs h = h
key-kept p (Shown None) keys fs h = h
key-kept p (Shown (Some v)) keys fs h = one-more (length keys) (length fs) h
key-kept p Gone keys fs h = both-more (length keys) (length fs) h
key-kept p Hit keys fs h = h

key-put : (p : Cell) (b : Bit) (keys : List (List ℕ)) (fs : Cells) → length keys ≤ length fs → length (with_gone p.0 b keys) ≤ length (cond (is_gone b) (p ∷ fs) fs)
key-put p Nothing keys fs h = h
key-put p (Shown v) keys fs h = h
key-put p Gone keys fs h = both-more (length keys) (length fs) h
key-put p Hit keys fs h = h

keys-one : (p : Cell) (v : Verdict) (r : Asked) (fs : Cells) → AtMost keys_size (length fs) r → AtMost keys_size (length (cond (takes v) (p ∷ fs) fs)) (one_more p.0 v r)
keys-one p (Refuse f) r fs h = tt
keys-one p (Keep b) (Failed k f) fs h = tt
keys-one p (Write w b) (Failed k f) fs h = tt
keys-one p (Keep b) (Gave bits ws) fs h = key-kept p b (gone_keys bits) fs h
keys-one p (Write w b) (Gave bits ws) fs h = key-put p b (gone_keys bits) fs h

keys-each : (d : Content → Verdict) (ps : Cells) → AtMost keys_size (length (filter (taking d) ps)) (ask_each d ps)
keys-each d [] = omega arith
keys-each d (p ∷ ps) = keys-one p (d p.1) (ask_each d ps) (filter (taking d) ps) (keys-each d ps)

-- any request

reads-so : (at : At) → Reads (deed false judge_read nothing at)
reads-so at c = (_, guarded-keep (too_old at c) _)

same-size : (f g : Bits → ℕ) (n : ℕ) (r : Asked) → ((bits : Bits) → g bits ≡ f bits) → AtMost f n r → AtMost g n r
same-size f g n (Failed k e) same h = tt
same-size f g n (Gave bits ws) same h = subst (λ m. m ≤ n) (sym (same bits)) h

shows-none : (n : ℕ) (r : Asked) → AtMost (λ bits. 0) n r
shows-none n (Failed k f) = tt
shows-none n (Gave bits ws) = omega arith

abbrev taken_size : Request → Bits → ℕ
taken_size r bits = taken_in (body_of r bits)

abbrev takers : Request → At → Cells → Cells
takers r at cells = filter (taking (deed_of r at)) (places (reach_of r) cells)

asked-takes : (r : Request) (at : At) (cells : Cells) → AtMost (taken_size r) (length (takers r at cells)) (ask_request r at cells)
asked-takes (Get a) at cells = value-one (deed_of (Get a) at) (reads-so at) (a.key, content_at a.key cells)
asked-takes (Scan a) at cells = rows-each (deed_of (Scan a) at) (reads-so at) (places (reach_of (Scan a)) cells)
asked-takes (ReverseScan a) at cells =
    same-size rows_size (taken_size (ReverseScan a)) _ (ask_request (ReverseScan a) at cells) (λ bits. length-reverse (rows_of bits))
    (rows-each (deed_of (ReverseScan a) at) (reads-so at) (places (reach_of (ReverseScan a)) cells))
asked-takes (Put a) at cells = shows-none _ (ask_request (Put a) at cells)
asked-takes (ConditionalPut a) at cells = shows-none _ (ask_request (ConditionalPut a) at cells)
asked-takes (InitPut a) at cells = shows-none _ (ask_request (InitPut a) at cells)
asked-takes (Increment a) at cells = shows-none _ (ask_request (Increment a) at cells)
asked-takes (Delete a) at cells = shows-none _ (ask_request (Delete a) at cells)
asked-takes (DeleteRange a) at cells = keys-each (deed_of (DeleteRange a) at) (places (reach_of (DeleteRange a)) cells)
asked-takes (EndTxn a) at cells = shows-none _ (ask_request (EndTxn a) at cells)
asked-takes (QueryIntent a) at cells = shows-none _ (ask_request (QueryIntent a) at cells)
asked-takes (ResolveIntent a) at cells = shows-none _ (ask_request (ResolveIntent a) at cells)
asked-takes (ResolveIntentRange a) at cells = shows-none _ (ask_request (ResolveIntentRange a) at cells)
asked-takes (AdminSplit a) at cells = shows-none _ (ask_request (AdminSplit a) at cells)
asked-takes (AdminTransferLease a) at cells = shows-none _ (ask_request (AdminTransferLease a) at cells)

-- ---- what was made takes at most what is left

abbrev pub Within : Option ℕ → Made → Type 0
Within left (Fails f) = Unit {0}
Within left (Gives cells ws rs) = LeavesRoom left rs

within-made : (n : ℕ) (h : Head) (i : Item) (cells : Cells) (a : Asked) → AtMost (taken_size i.request) n a → Within (Some n) (made_by h i a cells)
within-made n h i cells (Failed k f) few = tt
within-made n h i cells (Gave bits ws) few = let one : taken_in (body_of i.request bits) ≤ n = few in omega (arith, one)

within-item : (h : Head) (i : Item) (cells : Cells) → Within (Some (length (takers i.request (at_of h i.seq.0) cells))) (ask_item h i cells)
within-item h i cells = within-made _ h i cells (ask_request i.request (at_of h i.seq.0) cells) (asked-takes i.request (at_of h i.seq.0) cells)

through : (a b c : ℕ) → a ≤ b → b ≤ c → a ≤ c
through a b c x y = omega (arith, x, y)

within-more : (n m : ℕ) (x : Made) → n ≤ m → Within (Some n) x → Within (Some m) x
within-more n m (Fails f) le h = tt
within-more n m (Gives cells ws rs) le h = through (taken_by rs) n m h le

resumed-takes : (rest : Option Extent) (rs : List Reply) → taken_by (map (resuming rest) rs) ≡ taken_by rs
resumed-takes rest [] = refl
resumed-takes rest (r ∷ rs) =
    sum_by-cons (λ q. taken_in q.body) (resuming rest r) (map (resuming rest) rs)
    ∙ ap (λ n. taken_in r.body + n) (resumed-takes rest rs)
    ∙ sym (sum_by-cons (λ q. taken_in q.body) r rs)

within-rest : (n : ℕ) (rest : Option Extent) (m : Made) → Within (Some n) m → Within (Some n) (with_rest rest m)
within-rest n rest (Fails f) h = tt
within-rest n rest (Gives cells ws rs) h = subst (λ t. t ≤ n) (sym (resumed-takes rest rs)) h

empty-takes : (r : Request) → taken_in (empty_body r) ≡ 0
empty-takes (Get a) = refl
empty-takes (Scan a) = refl
empty-takes (ReverseScan a) = refl
empty-takes (Put a) = refl
empty-takes (ConditionalPut a) = refl
empty-takes (InitPut a) = refl
empty-takes (Increment a) = refl
empty-takes (Delete a) = refl
empty-takes (DeleteRange a) = refl
empty-takes (EndTxn a) = refl
empty-takes (QueryIntent a) = refl
empty-takes (ResolveIntent a) = refl
empty-takes (ResolveIntentRange a) = refl
empty-takes (AdminSplit a) = refl
empty-takes (AdminTransferLease a) = refl

within-off : (n : ℕ) (i : Item) (cells : Cells) → Within (Some n) (held_off i cells)
within-off n i cells = let none = empty-takes i.request in omega (arith, none)

-- ---- up to the key at which the limit is used up, it takes no more

-- the keys of a span at which one is taken
abbrev taken_over : (Cell → Bool) → List ℕ → List ℕ → Cells → Cells
taken_over t s e cells = filter t (between key_of s e cells)

count-more : (t : Cell → Bool) (x : Bool) (p : Cell) (ps : Cells) (m : ℕ) → length (filter t ps) ≤ m → length (filter t (cond x (p ∷ ps) ps)) ≤ suc m
count-more t false p ps m h = one-more (length (filter t ps)) m h
count-more t true p ps m h = elim (t p) as (λ u. length (cond u (p ∷ filter t ps) (filter t ps)) ≤ suc m) [
  | true ↦ both-more (length (filter t ps)) m h
  | false ↦ one-more (length (filter t ps)) m h
]

-- one that takes none, or lies outside, adds none
count-same : (t : Cell → Bool) (x : Bool) (p : Cell) (ps : Cells) (m : ℕ) → t p ≡ false → length (filter t ps) ≤ m → length (filter t (cond x (p ∷ ps) ps)) ≤ m
count-same t false p ps m none h = h
count-same t true p ps m none h = subst (λ u. length (cond u (p ∷ filter t ps) (filter t ps)) ≤ m) (sym none) h

count-out : (t : Cell → Bool) (x : Bool) (p : Cell) (ps : Cells) (m : ℕ) → x ≡ false → length (filter t ps) ≤ m → length (filter t (cond x (p ∷ ps) ps)) ≤ m
count-out t x p ps m out h = subst (λ b. length (filter t (cond b (p ∷ ps) ps)) ≤ m) (sym out) h

false-of : (b : Bool) → (b ≡ true → ⊥) → b ≡ false
false-of true h = absurd (h refl)
false-of false h = refl

-- going up

after-all : (k : List ℕ) (ps : Cells) → AllOver key_of k ps → AllFrom key_of (after k) ps
after-all k [] all = tt
after-all k (p ∷ ps) all = (next_le k p.0 all.0, after-all k ps all.1)

none-after : (t : Cell → Bool) (s k : List ℕ) (ps : Cells) → AllOver key_of k ps → length (taken_over t s (after k) ps) ≤ 0
none-after t s k ps all = subst (λ (qs : Cells). length (filter t qs) ≤ 0) (sym (none-from key_of s (after k) ps (after-all k ps all))) (omega arith)

inside-up : (s e k q : List ℕ) → key_le (after k) e ≡ true → holds s (after k) q ≡ true → holds s e q ≡ true
inside-up s e k q le h = and_both _ _ (and_first _ _ h) (lt_le_trans q (after k) e (and_second (key_le s q) _ h) le)

up-first : (t : Cell → Bool) (s k : List ℕ) (p : Cell) (ps : Cells) (ks : List (List ℕ)) (n : ℕ) → AllOver key_of p.0 ps
    → ((m : ℕ) → slice_get ks m ≡ Some k → length (taken_over t s (after k) ps) ≤ suc m)
    → slice_get (p.0 ∷ ks) n ≡ Some k → length (filter t (cond (holds s (after k) p.0) (p ∷ between key_of s (after k) ps) (between key_of s (after k) ps))) ≤ suc n
up-first t s k p ps ks zero all more is =
    count-more t _ p (between key_of s (after k) ps) 0 (none-after t s k ps (subst (λ q. AllOver key_of q ps) (some_same p.0 k is) all))
up-first t s k p ps ks (suc m) all more is = count-more t _ p (between key_of s (after k) ps) (suc m) (more m is)

up-counts : (t : Cell → Bool) (s e k : List ℕ) (cells : Cells) (n : ℕ) → Ascends key_of cells → key_le (after k) e ≡ true → slice_get (map key_of (taken_over t s e cells)) n ≡ Some k → length (taken_over t s (after k) cells) ≤ suc n
up-counts t s e k [] n asc le is = none_some k is
up-counts t s e k (p ∷ ps) n asc le is =
    let qs = between key_of s e ps in
    let us = between key_of s (after k) ps in
    elim (holds s e p.0) as (λ b. holds s e p.0 ≡ b → slice_get (map key_of (filter t (cond b (p ∷ qs) qs))) n ≡ Some k → length (filter t (cond (holds s (after k) p.0) (p ∷ us) us)) ≤ suc n) [
      | true ↦ λ h.
          elim (t p) as (λ u. t p ≡ u → slice_get (map key_of (cond u (p ∷ filter t qs) (filter t qs))) n ≡ Some k → length (filter t (cond (holds s (after k) p.0) (p ∷ us) us)) ≤ suc n) [
            | true ↦ λ takes is. up-first t s k p ps (map key_of (filter t qs)) n asc.0 (λ m. up-counts t s e k ps m asc.1 le) is
            | false ↦ λ takes is. count-same t _ p us (suc n) takes (up-counts t s e k ps n asc.1 le is)
          ] refl
      | false ↦ λ h is. count-out t _ p us (suc n) (false-of _ (λ g. not_both (holds s e p.0) (inside-up s e k p.0 le g) h)) (up-counts t s e k ps n asc.1 le is)
    ] refl is

-- going down

inside-down : (s e k q : List ℕ) → key_le s k ≡ true → holds k e q ≡ true → holds s e q ≡ true
inside-down s e k q le h = and_both _ _ (le_trans s k q le (and_first _ _ h)) (and_second (key_le k q) _ h)

fewer-in : (t : Cell → Bool) (s e k : List ℕ) (cells : Cells) → key_le s k ≡ true → length (taken_over t k e cells) ≤ length (taken_over t s e cells)
fewer-in t s e k [] le = omega arith
fewer-in t s e k (p ∷ ps) le =
    let qs = between key_of s e ps in
    let us = between key_of k e ps in
    elim (holds s e p.0) as (λ b. holds s e p.0 ≡ b → length (filter t (cond (holds k e p.0) (p ∷ us) us)) ≤ length (filter t (cond b (p ∷ qs) qs))) [
      | true ↦ λ h.
          elim (t p) as (λ u. t p ≡ u → length (filter t (cond (holds k e p.0) (p ∷ us) us)) ≤ length (cond u (p ∷ filter t qs) (filter t qs))) [
            | true ↦ λ takes. count-more t _ p us (length (filter t qs)) (fewer-in t s e k ps le)
            | false ↦ λ takes. count-same t _ p us (length (filter t qs)) takes (fewer-in t s e k ps le)
          ] refl
      | false ↦ λ h. count-out t _ p us (length (filter t qs)) (false-of _ (λ g. not_both (holds s e p.0) (inside-down s e k p.0 le g) h)) (fewer-in t s e k ps le)
    ] refl

get-last : {X : Type 0} (xs : List X) (y k : X) (n : ℕ) → slice_get (xs ++ y ∷ []) n ≡ Some k → (slice_get xs n ≡ Some k) ⊎ (n ≡ length xs)
get-last [] y k zero h = inr refl
get-last [] y k (suc n) h = none_some k h
get-last (x ∷ xs) y k zero h = inl h
get-last (x ∷ xs) y k (suc n) h = elim (get-last xs y k n h) [
  | inl l ↦ inl l
  | inr r ↦ inr (let last : n ≡ length xs = r in omega (arith, last))
]

abbrev Above : List ℕ → List ℕ → Type 0
Above k q = key_lt k q ≡ true

above-all : (t : Cell → Bool) (s e k : List ℕ) (ps : Cells) → AllOver key_of k ps → Each (Above k) (map key_of (taken_over t s e ps))
above-all t s e k [] all = tt
above-all t s e k (p ∷ ps) all =
    let qs = between key_of s e ps in
    elim (holds s e p.0) as (λ b. Each (Above k) (map key_of (filter t (cond b (p ∷ qs) qs)))) [
      | true ↦ elim (t p) as (λ u. Each (Above k) (map key_of (cond u (p ∷ filter t qs) (filter t qs)))) [
        | true ↦ (all.0, above-all t s e k ps all.1)
        | false ↦ above-all t s e k ps all.1
      ]
      | false ↦ above-all t s e k ps all.1
    ]

below-out : (e p k : List ℕ) → key_lt p k ≡ true → holds k e p ≡ false
below-out e p k low = false-of _ (λ h. not_both (key_le k p) (and_first _ _ h) (not_le_of_lt p k low))

down-first : (t : Cell → Bool) (s e k : List ℕ) (p : Cell) (ps : Cells) (n : ℕ) → AllOver key_of p.0 ps → key_le s k ≡ true
    → ((m : ℕ) → slice_get (reverse (map key_of (taken_over t s e ps))) m ≡ Some k → length (taken_over t k e ps) ≤ suc m)
    → slice_get (reverse (p.0 ∷ map key_of (taken_over t s e ps))) n ≡ Some k → length (filter t (cond (holds k e p.0) (p ∷ between key_of k e ps) (between key_of k e ps))) ≤ suc n
down-first t s e k p ps n all le more is =
    let ks = map key_of (taken_over t s e ps) in
    elim (get-last (reverse ks) p.0 k n (subst (λ xs. slice_get xs n ≡ Some k) (last_first p.0 ks) is)) [
      | inl l ↦
          let above = each-of (Above p.0) k ks (above-all t s e p.0 ps all) (of-reverse k ks (of-get k (reverse ks) n l)) in
          count-out t _ p (between key_of k e ps) (suc n) (below-out e p.0 k above) (more n l)
      | inr r ↦
          let long : n ≡ length (taken_over t s e ps) = r ∙ length-reverse ks ∙ length-map (taken_over t s e ps) key_of in
          count-more t _ p (between key_of k e ps) n (subst (λ m. length (taken_over t k e ps) ≤ m) (sym long) (fewer-in t s e k ps le))
    ]

down-counts : (t : Cell → Bool) (s e k : List ℕ) (cells : Cells) (n : ℕ) → Ascends key_of cells → key_le s k ≡ true → slice_get (reverse (map key_of (taken_over t s e cells))) n ≡ Some k → length (taken_over t k e cells) ≤ suc n
down-counts t s e k [] n asc le is = none_some k is
down-counts t s e k (p ∷ ps) n asc le is =
    let qs = between key_of s e ps in
    let us = between key_of k e ps in
    elim (holds s e p.0) as (λ b. holds s e p.0 ≡ b → slice_get (reverse (map key_of (filter t (cond b (p ∷ qs) qs)))) n ≡ Some k → length (filter t (cond (holds k e p.0) (p ∷ us) us)) ≤ suc n) [
      | true ↦ λ h.
          elim (t p) as (λ u. t p ≡ u → slice_get (reverse (map key_of (cond u (p ∷ filter t qs) (filter t qs)))) n ≡ Some k → length (filter t (cond (holds k e p.0) (p ∷ us) us)) ≤ suc n) [
            | true ↦ λ takes is. down-first t s e k p ps n asc.0 le (λ m. down-counts t s e k ps m asc.1 le) is
            | false ↦ λ takes is. count-same t _ p us (suc n) takes (down-counts t s e k ps n asc.1 le is)
          ] refl
      | false ↦ λ h is. count-out t _ p us (suc n) (false-of _ (λ g. not_both (holds s e p.0) (inside-down s e k p.0 le g) h)) (down-counts t s e k ps n asc.1 le is)
    ] refl is

-- one key

one-key : (d : Content → Verdict) (k : List ℕ) (cells : Cells) (n : ℕ) → length (filter (taking d) (places (Point k) cells)) ≤ suc n
one-key d k cells n =
    let p : Cell = (k, content_at k cells) in
    elim (taking d p) as (λ u. length (cond u (p ∷ []) []) ≤ suc n) [
      | true ↦ omega arith
      | false ↦ omega arith
    ]

-- the request cut at this key
abbrev short_of : Request → List ℕ → Request
short_of r k = cut_to (part_to (goes_down r) (span_of r) k).start (part_to (goes_down r) (span_of r) k).end r

short-takes : (r : Request) (at : At) (cells : Cells) (n : ℕ) (k : List ℕ) → Ascends key_of cells → holds (span_of r).start (span_of r).end k ≡ true → last_taken n (taken_keys r at cells) ≡ Some k → length (takers (short_of r k) at cells) ≤ suc n
short-takes (Get a) at cells n k asc held is = one-key (deed_of (Get a) at) a.key cells n
short-takes (Scan a) at cells n k asc held is = up-counts (taking (deed_of (Scan a) at)) a.start a.end k cells n asc (next_le k a.end (and_second (key_le a.start k) _ held)) is
short-takes (ReverseScan a) at cells n k asc held is = down-counts (taking (deed_of (ReverseScan a) at)) a.start a.end k cells n asc (and_first _ _ held) is
short-takes (Put a) at cells n k asc held is = one-key (deed_of (Put a) at) a.key cells n
short-takes (ConditionalPut a) at cells n k asc held is = one-key (deed_of (ConditionalPut a) at) a.key cells n
short-takes (InitPut a) at cells n k asc held is = one-key (deed_of (InitPut a) at) a.key cells n
short-takes (Increment a) at cells n k asc held is = one-key (deed_of (Increment a) at) a.key cells n
short-takes (Delete a) at cells n k asc held is = one-key (deed_of (Delete a) at) a.key cells n
short-takes (DeleteRange a) at cells n k asc held is = up-counts (taking (deed_of (DeleteRange a) at)) a.start a.end k cells n asc (next_le k a.end (and_second (key_le a.start k) _ held)) is
short-takes (EndTxn a) at cells n k asc held is = one-key (deed_of (EndTxn a) at) a.key cells n
short-takes (QueryIntent a) at cells n k asc held is = one-key (deed_of (QueryIntent a) at) a.key cells n
short-takes (ResolveIntent a) at cells n k asc held is = one-key (deed_of (ResolveIntent a) at) a.key cells n
short-takes (ResolveIntentRange a) at cells n k asc held is = up-counts (taking (deed_of (ResolveIntentRange a) at)) a.start a.end k cells n asc (next_le k a.end (and_second (key_le a.start k) _ held)) is
short-takes (AdminSplit a) at cells n k asc held is = one-key (deed_of (AdminSplit a) at) a.key cells n
short-takes (AdminTransferLease a) at cells n k asc held is = one-key (deed_of (AdminTransferLease a) at) a.key cells n

-- ---- one request

turned-length : {X : Type 0} (d : Bool) (xs : List X) → length (in_turn d xs) ≡ length xs
turned-length false xs = refl
turned-length true xs = length-reverse xs

no-more : {X : Type 0} (xs : List X) (n : ℕ) → slice_get xs n ≡ None → length xs ≤ n
no-more xs n none =
    elim (nat_lt n (length xs)) as (λ b. nat_lt n (length xs) ≡ b → length xs ≤ n) [
      | true ↦ λ h. let one = found_at xs n (lt_of n (length xs) h) in some_none one.0 (sym one.1 ∙ none)
      | false ↦ λ h. ge_of n (length xs) h
    ] refl

taken-length : (r : Request) (at : At) (cells : Cells) → length (taken_keys r at cells) ≡ length (takers r at cells)
taken-length r at cells = turned-length (goes_down r) (map key_of (takers r at cells)) ∙ length-map (takers r at cells) key_of

within-left : (h : Head) (left : Option ℕ) (i : Item) (cells : Cells) → Ascends key_of cells → Within left (ask_left h left i cells)
within-left h None i cells asc =
    let any : (m : Made) → Within None m = λ m. elim m as (λ x. Within None x) [ Gives c ws rs ↦ tt | Fails f ↦ tt ] in
    any (ask_left h None i cells)
within-left h (Some zero) i cells asc = within-off 0 i cells
within-left h (Some (suc n)) i cells asc =
    let at = at_of h i.seq.0 in
    let keys = taken_keys i.request at cells in
    elim (last_taken n keys) as (λ o. last_taken n keys ≡ o → Within (Some (suc n)) (ask_up_to h o i cells)) [
      | None ↦ λ e.
          let few : length (takers i.request at cells) ≤ n = subst (λ m. m ≤ n) (taken-length i.request at cells) (no-more keys n e) in
          within-more (length (takers i.request at cells)) (suc n) (ask_item h i cells) (one-more _ n few) (within-item h i cells)
      | Some k ↦ λ e.
          let part = part_to (goes_down i.request) (span_of i.request) k in
          let j = item_in part i in
          within-rest (suc n) (rest_after (goes_down i.request) (span_of i.request) k) (ask_item h j cells)
          (within-more (length (takers j.request at cells)) (suc n) (ask_item h j cells)
          (short-takes i.request at cells n k asc (taken-in i.request at cells n k e) e) (within-item h j cells))
    ] refl

-- ---- the requests of a piece

-- the keys of what was made ascend
abbrev StillAscends : Made → Type 0
StillAscends (Fails f) = Unit {0}
StillAscends (Gives cells ws rs) = Ascends key_of cells

ascends-made : (h : Head) (i : Item) (cells : Cells) (a : Asked) → Ascends key_of cells → StillAscends (made_by h i a cells)
ascends-made h i cells (Failed k f) asc = tt
ascends-made h i cells (Gave bits ws) asc = ascends-written (at_of h i.seq.0) ws cells asc

ascends-rest : (rest : Option Extent) (m : Made) → StillAscends m → StillAscends (with_rest rest m)
ascends-rest rest (Fails f) asc = tt
ascends-rest rest (Gives cells ws rs) asc = asc

ascends-left : (h : Head) (left : Option ℕ) (i : Item) (cells : Cells) → Ascends key_of cells → StillAscends (ask_left h left i cells)
ascends-left h left i cells asc = left-by StillAscends h left i cells ascends-rest asc (λ j short keep. ascends-made h j cells (ask_request j.request (at_of h j.seq.0) cells) asc)

ascends-as : (e : Extent) (n : ℕ) (o : Option (Option Stamp)) (cells : Cells) → Ascends key_of cells → Ascends key_of (settle_as e n o cells)
ascends-as e n None cells asc = asc
ascends-as e n (Some c) cells asc = ascends_in e n c cells asc

ascends-for : (ts : List TxnRecord) (e : Extent) (o : Option ℕ) (cells : Cells) → Ascends key_of cells → Ascends key_of (resolved_for ts e o cells)
ascends-for ts e None cells asc = asc
ascends-for ts e (Some n) cells asc = ascends-as e n (decided (record_of n ts)) cells asc

ascends-resolved : (ts : List TxnRecord) (left : Option ℕ) (q : Request) (cells : Cells) → Ascends key_of cells → Ascends key_of (resolved_left ts left q cells)
ascends-resolved ts left q cells asc =
    elim (is_used_up left) as (λ b. Ascends key_of (cond b cells (resolved ts q cells))) [
      | true ↦ asc
      | false ↦ ascends-for ts (span_of q) (resolves q) cells asc
    ]

within-before : (left : Option ℕ) (ws : List WriteAt) (rs : List Reply) (m : Made) → LeavesRoom left rs → Within (left_after left rs) m → Within left (and_before ws rs m)
within-before left ws rs (Fails f) room h = tt
within-before left ws rs (Gives cells more later) room h = room-append left rs later room h

within-then : (ts : List TxnRecord) (left : Option ℕ) (q : Request) (m : Made) (next : Option ℕ → Cells → Made) → Within left m → StillAscends m → ((o : Option ℕ) (cells : Cells) → Ascends key_of cells → Within o (next o cells)) → Within left (and_left ts left q m next)
within-then ts left q (Fails f) next h asc go = tt
within-then ts left q (Gives cells ws rs) next h asc go =
    within-before left ws rs (next (left_after left rs) (resolved_left ts left q cells)) h (go (left_after left rs) (resolved_left ts left q cells) (ascends-resolved ts left q cells asc))

-- what a piece is served takes at most what is left
pub served_within : (ts : List TxnRecord) (h : Head) (left : Option ℕ) (items : List Item) (cells : Cells) → Ascends key_of cells → Within left (serve ts h left items cells)
served_within ts h None [] cells asc = tt
served_within ts h (Some n) [] cells asc = omega arith
served_within ts h left (i ∷ is) cells asc =
    within-then ts left i.request (ask_left h left i cells) (λ rest now. serve ts h rest is now) (within-left h left i cells asc) (ascends-left h left i cells asc)
    (λ o next up. served_within ts h o is next up)

-- ---- a delivery

found-ascends : (p : Range → Bool) (s : List ℕ) (rs : List Range) (r : Range) → Tiles s rs → find p rs ≡ Some r → Ascends key_of r.cells
found-ascends p s [] r tiles is = none_some r is
found-ascends p s (q ∷ qs) r tiles is =
    elim (p q) as (λ b. cond b (Some q) (find p qs) ≡ Some r → Ascends key_of r.cells) [
      | true ↦ λ g. subst (λ (x : Range). Ascends key_of x.cells) (some_same q r g) tiles.0.rising
      | false ↦ λ g. found-ascends p (end_of q) qs r tiles.1 g
    ] is

-- where the ranges tile the keys, a piece that is served takes at most what is left of its limit
pub done_within : (s : List ℕ) (w : World) (node : ℕ) (p : Piece) (rs : List Reply) → Tiles s w.ranges → Done rs ≡ deliver_answer w node p → LeavesRoom p.head.left rs
done_within s w node p rs tiles h =
    let it = service w node p rs h in
    subst (Within p.head.left) it.gives
    (served_within w.records p.head p.head.left p.items it.range.cells (found-ascends (has_id p.range) s w.ranges it.range tiles it.found))
