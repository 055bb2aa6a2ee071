-- The bodies of a read's pieces join to the body of the whole.
use Rattle.std.proofs.Common.{◌≡◌, ℕ, true, false, cond, ◌&&◌, List, [], ◌∷◌, map, None, refl, sym, ap, ◌∙◌, subst}
use Rattle.ds_base.specs.Order.{key_lt, key_le, holds, after}
use Rattle.ds_base.specs.Ordered.{Ascends, between}
use Rattle.ds_base.proofs.KeyOrder.{below-after, key_lt-irrefl}
use Rattle.ds_base.proofs.OrderedFacts.{le_of_lt, le_trans, not_lt_of_le, cut}
use Rattle.ds_kind.specs.Asks.{is_get_or_scan}
use Rattle.ds_kind.specs.Flags.{flags_of}
use Rattle.ds_kind.specs.Reach.{Over}
use Rattle.ds_kind.specs.Request.{cut_to, kind_of, reach_of, span_of}
use Rattle.ds_base.specs.declared.value.Seq.{Seq}
use Rattle.ds_kind.specs.declared.reads.GetArgs.{GetArgs}
use Rattle.ds_kind.specs.declared.batch.Head.{Head}
use Rattle.ds_kind.specs.declared.batch.Item.{Item}
use Rattle.ds_kind.specs.declared.reply.Body.{Body}
use Rattle.ds_kind.specs.declared.reply.Reply.{Reply}
use Rattle.ds_kind.specs.declared.request.Request.{Request}
use Rattle.ds_kind.specs.declared.request.Request.TheVariants.{Get, Scan, ReverseScan, Put, ConditionalPut, InitPut, Increment, Delete, DeleteRange, EndTxn, QueryIntent, ResolveIntent, ResolveIntentRange, AdminSplit, AdminTransferLease}
use Rattle.ds_cell.specs.Ask.{Cells, key_of, places}
use Rattle.ds_kind.specs.Bodies.{goes_down, join_bodies}
use Rattle.ds_cell.specs.Replies.{body_of}
use Rattle.ds_cell.specs.Seen.{seen}
use Rattle.ds_cell.specs.BodyProofs.{bodies_join}
use Rattle.ds_rule.specs.Asking.{Gives, ask_all, at_of}
use Rattle.ds_rule.specs.Gathered.{begins_at, put_by_start, by_start, is_at, at_position, Joins, IsGathered, Gathered}
use Rattle.ds_rule.specs.Journal.{Accepted}
use Rattle.ds_rule.specs.Pieces.{Each}
use Rattle.ds_law.proofs.Reading.{read_bits, shown_by, shown-append, body-cut}
use Rattle.ds_rule.proofs.Routes.{le_itself}
use Rattle.ds_law.proofs.Truth.{IsRead, IsTrue, reply_of, all-read}

-- what holds of all that was accepted holds of what was accepted at one position, in any order

each-put : (P : Accepted → Type 0) (a : Accepted) (xs : List Accepted) → P a → Each P xs → Each P (put_by_start a xs)
each-put P a [] here all = (here, tt)
each-put P a (b ∷ bs) here all =
    elim (key_lt (begins_at b) (begins_at a)) as (λ t. Each P (cond t (b ∷ put_by_start a bs) (a ∷ b ∷ bs))) [
      | true ↦ (all.0, each-put P a bs here all.1)
      | false ↦ (here, all)
    ]

each-sorted : (P : Accepted → Type 0) (xs : List Accepted) → Each P xs → Each P (by_start xs)
each-sorted P [] all = tt
each-sorted P (a ∷ xs) all = each-put P a (by_start xs) all.0 (each-sorted P xs all.1)

each-at : (P : Accepted → Type 0) (n : ℕ) (xs : List Accepted) → Each P xs → Each P (at_position n xs)
each-at P n [] all = tt
each-at P n (a ∷ xs) all =
    elim (is_at n a) as (λ t. Each P (cond t (a ∷ at_position n xs) (at_position n xs))) [
      | true ↦ (all.0, each-at P n xs all.1)
      | false ↦ each-at P n xs all.1
    ]

-- nothing lies between a key and itself
between-nothing : (s : List ℕ) (cells : Cells) → between key_of s s cells ≡ []
between-nothing s [] = refl
between-nothing s (p ∷ ps) =
    ap (λ t. cond t (p ∷ between key_of s s ps) (between key_of s s ps)) (out p.0) ∙ between-nothing s ps
  where
    out : (k : List ℕ) → holds s s k ≡ false
    out k =
        elim (key_le s k) as (λ t. key_le s k ≡ t → (t && key_lt k s) ≡ false) [
          | true ↦ λ low. not_lt_of_le s k low
          | false ↦ λ low. refl
        ] refl

pub joins-le : (i : Item) (s e : List ℕ) (got : List Accepted) (body : Body) → Joins i s e got body → key_le s e ≡ true
joins-le i s e [] body j = subst (λ k. key_le s k ≡ true) j.0 (le_itself s)
joins-le i s e (a ∷ more) body j = le_trans s j.0 e (le_of_lt s j.0 j.2) (joins-le i j.0 e more j.1 j.4)

-- a read over a span
abbrev pub over_span : Item → Head → List ℕ → List ℕ → Cells → Body
over_span i h s e cells = body_of i.request (shown_by (seen (at_of h i.seq.0) i.seq.0) (between key_of s e cells))

-- its reach, cut
abbrev pub IsOver : Request → Type 0
IsOver r = (s e : List ℕ) → reach_of (cut_to s e r) ≡ Over s e

piece-body : (h : Head) (i : Item) (s m : List ℕ) (cells : Cells) (a : Accepted) → IsOver i.request → IsTrue h cells a → a.item ≡ record i { request = cut_to s m i.request } → a.reply.body ≡ over_span i h s m cells
piece-body h i s m cells a over true_ is =
    true_
    ∙ ap (λ z. body_of z.request (read_bits z.request (at_of h z.seq.0) cells)) is
    ∙ body-cut s m i.request _
    ∙ ap (λ reach. body_of i.request (shown_by (seen (at_of h i.seq.0) i.seq.0) (places reach cells))) (over s m)

joined-span : (h : Head) (i : Item) (cells : Cells) → Ascends key_of cells → IsOver i.request → (flags_of (kind_of i.request)).range ≡ true → (s e : List ℕ) (got : List Accepted) (body : Body) → Each (IsTrue h cells) got → Joins i s e got body → body ≡ over_span i h s e cells
joined-span h i cells asc over range s e [] body all j =
    j.1
    ∙ ap (λ ps. body_of i.request (shown_by (seen (at_of h i.seq.0) i.seq.0) ps)) (sym (between-nothing s cells))
    ∙ ap (λ k. over_span i h s k cells) j.0
joined-span h i cells asc over range s e (a ∷ more) body all j =
    let look = seen (at_of h i.seq.0) i.seq.0 in
    j.5
    ∙ ap (λ b. join_bodies (goes_down i.request) b j.1) (piece-body h i s j.0 cells a over all.0 j.3)
    ∙ ap (join_bodies (goes_down i.request) (over_span i h s j.0 cells)) (joined-span h i cells asc over range j.0 e more j.1 all.1 j.4)
    ∙ sym (bodies_join i.request (shown_by look (between key_of s j.0 cells)) (shown_by look (between key_of j.0 e cells)) range)
    ∙ ap (body_of i.request) (sym (shown-append look (between key_of s j.0 cells) (between key_of j.0 e cells)))
    ∙ ap (λ ps. body_of i.request (shown_by look ps)) (sym (cut key_of s j.0 e cells asc (le_of_lt s j.0 j.2) (joins-le i j.0 e more j.1 j.4)))

-- one request

same-reply : (r : Reply) (h : Head) (cells : Cells) (i : Item) → r.resume ≡ None → r.body ≡ body_of i.request (read_bits i.request (at_of h i.seq.0) cells) → r ≡ reply_of h cells i
same-reply r h cells i resume body = λ j. record { body = body j; resume = resume j }

never-itself : (k : List ℕ) → k ≡ after k → ⊥
never-itself k h = let low : key_lt k k ≡ true = subst (λ z. key_lt k z ≡ true) (sym h) (below-after k) in let not_low = key_lt-irrefl k in cc

point-body : (pos : ℕ) (seq : Seq) (g : GetArgs) (h : Head) (cells : Cells) (got : List Accepted) (body : Body) → Each (IsTrue h cells) got → Joins (record { pos = pos; seq = seq; request = Get g }) g.key (after g.key) got body → body ≡ body_of (Get g) (read_bits (Get g) (at_of h seq.0) cells)
point-body pos seq g h cells [] body all j = absurd (never-itself g.key j.0)
point-body pos seq g h cells (a ∷ more) body all j =
    j.5
    ∙ ap (λ b. join_bodies false b j.1) (all.0 ∙ ap (λ z. body_of z.request (read_bits z.request (at_of h z.seq.0) cells)) j.3)

read-body : (pos : ℕ) (seq : Seq) (r : Request) (h : Head) (cells : Cells) (got : List Accepted) (body : Body) → is_get_or_scan r ≡ true → Ascends key_of cells → Each (IsTrue h cells) got → Joins (record { pos = pos; seq = seq; request = r }) (span_of r).start (span_of r).end got body → body ≡ body_of r (read_bits r (at_of h seq.0) cells)
read-body pos seq (Get g) h cells got body read asc all j = point-body pos seq g h cells got body all j
read-body pos seq (Scan a) h cells got body read asc all j = joined-span h (record { pos = pos; seq = seq; request = Scan a }) cells asc (λ s e. refl) refl a.start a.end got body all j
read-body pos seq (ReverseScan a) h cells got body read asc all j = joined-span h (record { pos = pos; seq = seq; request = ReverseScan a }) cells asc (λ s e. refl) refl a.start a.end got body all j
read-body pos seq (Put a) h cells got body read asc all j = cc
read-body pos seq (ConditionalPut a) h cells got body read asc all j = cc
read-body pos seq (InitPut a) h cells got body read asc all j = cc
read-body pos seq (Increment a) h cells got body read asc all j = cc
read-body pos seq (Delete a) h cells got body read asc all j = cc
read-body pos seq (DeleteRange a) h cells got body read asc all j = cc
read-body pos seq (EndTxn a) h cells got body read asc all j = cc
read-body pos seq (QueryIntent a) h cells got body read asc all j = cc
read-body pos seq (ResolveIntent a) h cells got body read asc all j = cc
read-body pos seq (ResolveIntentRange a) h cells got body read asc all j = cc
read-body pos seq (AdminSplit a) h cells got body read asc all j = cc
read-body pos seq (AdminTransferLease a) h cells got body read asc all j = cc

gathered-one : (h : Head) (cells : Cells) (got : List Accepted) (i : Item) (r : Reply) → Ascends key_of cells → IsRead i → Each (IsTrue h cells) got → IsGathered got i r → r ≡ reply_of h cells i
gathered-one h cells got i r asc read all g =
    same-reply r h cells i g.whole
    (read-body i.pos i.seq i.request h cells (by_start (at_position i.pos got)) r.body read asc (each-sorted (IsTrue h cells) _ (each-at (IsTrue h cells) i.pos got all)) g.joins)

gathered-all : (h : Head) (cells : Cells) (got : List Accepted) (items : List Item) (rs : List Reply) → Ascends key_of cells → Each IsRead items → Each (IsTrue h cells) got → Gathered got items rs → rs ≡ map (reply_of h cells) items
gathered-all h cells got [] [] asc read all g = refl
gathered-all h cells got [] (r ∷ rs) asc read all g = absurd g
gathered-all h cells got (i ∷ is) [] asc read all g = absurd g
gathered-all h cells got (i ∷ is) (r ∷ rs) asc read all g =
    ap (λ z. z ∷ rs) (gathered-one h cells got i r asc read.0 all g.0) ∙ ap (λ zs. reply_of h cells i ∷ zs) (gathered-all h cells got is rs asc read.1 all g.1)

-- replies that are gathered of true answers are those of the batch asked at once
pub gathered-asks : (h : Head) (cells : Cells) (got : List Accepted) (items : List Item) (rs : List Reply) → Ascends key_of cells → Each IsRead items → Each (IsTrue h cells) got → Gathered got items rs → ask_all h items cells ≡ Gives cells [] rs
gathered-asks h cells got items rs asc read all g =
    all-read h items cells read ∙ ap (Gives cells []) (sym (gathered-all h cells got items rs asc read all g))

-- something was accepted, where a request is gathered

pub joined-some : (i : Item) (got : List Accepted) (body : Body) → IsRead i → key_lt (span_of i.request).start (span_of i.request).end ≡ true → Joins i (span_of i.request).start (span_of i.request).end got body → got ≡ [] → ⊥
joined-some i got body read some j e =
    let j' = subst (λ xs. Joins i (span_of i.request).start (span_of i.request).end xs body) e j in
    let same = subst (λ z. key_lt (span_of i.request).start z ≡ true) (sym j'.0) some in
    let never = key_lt-irrefl (span_of i.request).start in cc
