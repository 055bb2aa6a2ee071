-- A legal batch that can be sent is one that is sent over moving ranges: what its parts are like.
use Rattle.std.proofs.Common.{◌≡◌, ℕ, ◌+◌, ◌<◌, Bool, true, false, not, ◌&&◌, ◌||◌, List, [], ◌∷◌, length, Option, Some, None, is_some, is_none, refl, sym, ap, ◌∙◌, subst, arith}
use Rattle.std.specs.List.{list_all, list_any, All}
use Rattle.std.proofs.lemmas.List.{length-map}
use Rattle.std.proofs.lemmas.List.Elements.{All-head, All-tail}
use Rattle.std.proofs.lemmas.List.Folds.{flat_map-map}
use Rattle.ds_base.specs.declared.value.Seq.{Seq}
use Rattle.ds_base.specs.declared.value.Stamp.{Stamp}
use Rattle.ds_base.specs.declared.value.TxnNo.{TxnNo}
use Rattle.ds_base.proofs.SmallFacts.{and_both, and_first, and_second, or_neither}
use Rattle.ds_base.proofs.TestFacts.{never, not_both}
use Rattle.ds_kind.specs.Asks.{acts, flags_at, has_proper_span, is_end, is_get_or_scan, takes_number}
use Rattle.ds_kind.specs.Groups.{groups}
use Rattle.ds_kind.specs.Numbers.{next_number, numbers_from}
use Rattle.ds_kind.specs.Parts.{EachRequest, IsPart, all_items, item_may_join, items_from, part_of, parts_of, requests_of}
use Rattle.ds_kind.specs.declared.batch.Batch.{Batch}
use Rattle.ds_kind.specs.declared.batch.Item.{Item}
use Rattle.ds_kind.specs.declared.batch.Part.{Part}
use Rattle.ds_kind.specs.declared.request.Request.{Request}
use Rattle.ds_kind.specs.declared.request.Request.TheVariants.{Get, Scan, ReverseScan, Put, ConditionalPut, InitPut, Increment, Delete, DeleteRange, EndTxn, QueryIntent, ResolveIntent, ResolveIntentRange, AdminSplit, AdminTransferLease}
use Rattle.ds_cover.specs.Items.{AllAfter, PositionsRise, item_pos}
use Rattle.ds_legal.specs.Legal.{IsLegal}
use Rattle.ds_legal.proofs.GroupFacts.{groups_joined}
use Rattle.ds_legal.proofs.PartFacts.{are_parts, each_request, one_if_acting}
use Rattle.ds_mean.specs.Send.{WritesAlone}
use Rattle.ds_rule.specs.Asking.{Asking, asking, asking_by}
use Rattle.ds_rule.specs.Pieces.{Each, parts_apart}
use Rattle.ds_rule.specs.Whole.{any_transactional, must_be_whole}
use Rattle.ds_send.specs.Asked.{asker_in, last_in}
use Rattle.ds_send.specs.Forms.{is_value_write}
use Rattle.ds_send.specs.Forms.{can_ask, can_ask_alone, can_send, is_admin}
use Rattle.ds_send.specs.Moving.{GoesAtOnce, IsMovable, IsSound}
use Rattle.ds_send.specs.declared.txn.Txn.{Txn}
use Rattle.ds_send.proofs.PartSteps.{rises-left, rises-right}

-- ---- no limit

none-limit : (o : Option ℕ) → is_none o ≡ true → o ≡ None
none-limit None h = refl
none-limit (Some n) h = cc

-- ---- the requests

ask-alone : (at : Option Stamp) (r : Request) → can_ask at r ≡ true → can_ask_alone r ≡ true
ask-alone None r h = ap (λ t. t || is_value_write r || is_admin r) h
ask-alone (Some s) r h = h

alone-endless : (r : Request) → can_ask_alone r ≡ true → is_end r ≡ false
alone-endless (EndTxn a) h = sym h
alone-endless r h = refl

none-ends : (at : Option Stamp) (rs : List Request) → list_all (can_ask at) rs ≡ true → list_any is_end rs ≡ false
none-ends at [] h = refl
none-ends at (r ∷ rs) h =
    or_neither (is_end r) (list_any is_end rs) (alone-endless r (ask-alone at r (and_first (can_ask at r) (list_all (can_ask at) rs) h))) (none-ends at rs (and_second (can_ask at r) (list_all (can_ask at) rs) h))

-- what takes a number writes, and sees or makes a state

number-acts : (r : Request) → takes_number r ≡ true → acts r ≡ true
number-acts r h = ap (λ t. t || (flags_at r).alone) (and_first (flags_at r).write (flags_at r).txn (and_first ((flags_at r).write && (flags_at r).txn) (not (flags_at r).alone) h))

number-state : (r : Request) → takes_number r ≡ true → (flags_at r).txn ≡ true
number-state r h = and_second (flags_at r).write (flags_at r).txn (and_first ((flags_at r).write && (flags_at r).txn) (not (flags_at r).alone) h)

any-more : (p g : Request → Bool) (rs : List Request) → ((r : Request) → p r ≡ true → g r ≡ true) → list_any p rs ≡ true → list_any g rs ≡ true
any-more p g [] more h = h
any-more p g (r ∷ rs) more h =
    elim (p r) as (λ t. p r ≡ t → (t || list_any p rs) ≡ true → (g r || list_any g rs) ≡ true) [
      | true ↦ λ e k. ap (λ t. t || list_any g rs) (more r e)
      | false ↦ λ e k. elim (g r) as (λ t. (t || list_any g rs) ≡ true) [
        | true ↦ refl
        | false ↦ any-more p g rs more k
      ]
    ] refl h

-- a read takes none
read-none : (r : Request) → is_get_or_scan r ≡ true → takes_number r ≡ false
read-none (Get a) h = refl
read-none (Scan a) h = refl
read-none (ReverseScan a) h = refl
read-none (Put a) h = never h
read-none (ConditionalPut a) h = never h
read-none (InitPut a) h = never h
read-none (Increment a) h = never h
read-none (Delete a) h = never h
read-none (DeleteRange a) h = never h
read-none (EndTxn a) h = never h
read-none (QueryIntent a) h = never h
read-none (ResolveIntent a) h = never h
read-none (ResolveIntentRange a) h = never h
read-none (AdminSplit a) h = never h
read-none (AdminTransferLease a) h = never h

reads-none : (rs : List Request) → list_all is_get_or_scan rs ≡ true → list_any takes_number rs ≡ false
reads-none [] h = refl
reads-none (r ∷ rs) h =
    or_neither (takes_number r) (list_any takes_number rs) (read-none r (and_first (is_get_or_scan r) (list_all is_get_or_scan rs) h)) (reads-none rs (and_second (is_get_or_scan r) (list_all is_get_or_scan rs) h))

-- ---- the items

items-requests : (pos last : ℕ) (rs : List Request) → requests_of (items_from pos rs (numbers_from last rs)) ≡ rs
items-requests pos last [] = refl
items-requests pos last (r ∷ rs) = ap (λ qs. r ∷ qs) (items-requests (pos + 1) (next_number last r) rs)

after-all : (p pos last : ℕ) (rs : List Request) → p < pos → AllAfter item_pos p (items_from pos rs (numbers_from last rs))
after-all p pos last [] h = tt
after-all p pos last (r ∷ rs) h = (h, after-all p (pos + 1) (next_number last r) rs (omega (arith, h)))

items-rise : (pos last : ℕ) (rs : List Request) → PositionsRise (items_from pos rs (numbers_from last rs))
items-rise pos last [] = tt
items-rise pos last (r ∷ rs) = (after-all pos (pos + 1) (next_number last r) rs (omega arith), items-rise (pos + 1) (next_number last r) rs)

one-number : (last : ℕ) (rs : List Request) → length (numbers_from last rs) ≡ length rs
one-number last [] = refl
one-number last (r ∷ rs) = let more = one-number (next_number last r) rs in omega (arith, more)

-- the batch as it is asked, with its head
pub record AsAsked (t : Option Txn) (b : Batch) (q : Asking) : Type 0 where
  pub items : q.items ≡ items_from 0 b.requests (numbers_from (last_in b.at t).0 b.requests)
  pub left : q.head.left ≡ b.limit
  pub consistent : q.consistent ≡ b.consistent
  pub stamped : q.head.txn ≡ None → is_some b.at ≡ true

same-asking : (o q : Asking) → Some o ≡ Some q → o ≡ q
same-asking o q h = cc

not-none : (n : TxnNo) → Some n ≡ None → ⊥
not-none n h = cc

asked-so : (at : Option Stamp) (t : Option Txn) (b : Batch) (q : Asking) → b.at ≡ at → asking_by at (asker_in t) b ≡ Some q → AsAsked t b q
asked-so (Some s) t b q is h =
    let same = sym (same-asking _ q h) in
    record {
      items = ap (λ z. z.items) same ∙ ap (λ (o : Option Stamp). items_from 0 b.requests (numbers_from (last_in o t).0 b.requests)) (sym is);
      left = ap (λ z. z.head.left) same;
      consistent = ap (λ z. z.consistent) same;
      stamped = λ none. ap is_some is;
    }
asked-so None None b q is h = cc
asked-so None (Some t) b q is h =
    let same = sym (same-asking _ q h) in
    record {
      items = ap (λ z. z.items) same ∙ ap (λ (o : Option Stamp). items_from 0 b.requests (numbers_from (last_in o (Some t)).0 b.requests)) (sym is);
      left = ap (λ z. z.head.left) same;
      consistent = ap (λ z. z.consistent) same;
      stamped = λ none. absurd (not-none _ (sym (ap (λ z. z.head.txn) same) ∙ none));
    }

-- ---- the parts

joins : (items : List Item) → all_items (parts_apart items) ≡ items
joins items = flat_map-map (λ (p : Part). p.items) part_of (groups (item_may_join true) items) ∙ groups_joined (item_may_join true) items

each-sound : (ps : List Part) → All (IsPart true) ps → EachRequest has_proper_span ps → PositionsRise (all_items ps) → Each IsSound ps
each-sound [] parts proper rise = tt
each-sound (p ∷ ps) parts proper rise =
    let part = All-head (IsPart true) p ps parts in (
      record {
        some = part.some;
        proper = All-head (λ z. list_all has_proper_span (requests_of z.items) ≡ true) p ps proper;
        rise = rises-left p.items (all_items ps) rise;
        fit = part.fit;
      },
      each-sound ps (All-tail (IsPart true) p ps parts) (All-tail (λ z. list_all has_proper_span (requests_of z.items) ≡ true) p ps proper) (rises-right p.items (all_items ps) rise),
    )

one-part : (ps : List Part) → length ps ≡ 1 → (p : Part) × (ps ≡ p ∷ [])
one-part [] h = absurd (omega (arith, h))
one-part (p ∷ []) h = (p, refl)
one-part (p ∷ q ∷ ps) h = absurd (omega (arith, h))

-- a batch that writes without a transaction must see one state
writes-whole : (b : Batch) (q : Asking) → IsLegal b → requests_of q.items ≡ b.requests → q.consistent ≡ b.consistent → WritesAlone q → must_be_whole q ≡ true
writes-whole b q legal rs same writes =
    let any : list_any takes_number b.requests ≡ true = ap (list_any takes_number) (sym rs) ∙ writes.1 in
    let state : any_transactional (requests_of q.items) ≡ true = any-more takes_number (λ r. (flags_at r).txn) (requests_of q.items) number-state writes.1 in
    and_both (q.consistent && is_none q.head.txn) (any_transactional (requests_of q.items))
    (and_both q.consistent (is_none q.head.txn) (same ∙ consistent b.consistent refl any) (ap is_none writes.0))
    state
  where
    consistent : (t : Bool) → b.consistent ≡ t → list_any takes_number b.requests ≡ true → b.consistent ≡ true
    consistent true e any = e
    consistent false e any = absurd (not_both (list_any takes_number b.requests) any (reads-none b.requests (legal.inconsistent_reads e)))

at-once : (b : Batch) (q : Asking) (ss : List Seq) (ps : List Part) → IsLegal b → requests_of q.items ≡ b.requests → q.consistent ≡ b.consistent → (q.head.txn ≡ None → is_some b.at ≡ true) → ps ≡ parts_of true b.requests ss → length ss ≡ length b.requests → WritesAlone q → GoesAtOnce ps (must_be_whole q)
at-once b q ss ps legal rs same stamped are long writes =
    let any : list_any acts b.requests ≡ true = any-more takes_number acts b.requests number-acts (ap (list_any takes_number) (sym rs) ∙ writes.1) in
    let one = one-part ps (one_if_acting true b ss ps legal are long (stamped writes.0) any) in
    record { is_whole = writes-whole b q legal rs same writes; part = one.0; one = one.1 }

-- ---- a legal batch that can be sent

pub movable : (t : Option Txn) (b : Batch) (q : Asking) (ps : List Part) → IsLegal b → can_send b ≡ true → asking (asker_in t) b ≡ Some q → ps ≡ parts_apart (items_from 0 b.requests (numbers_from (last_in b.at t).0 b.requests)) → IsMovable q ps (must_be_whole q)
movable t b q ps legal can asks are =
    let so = asked-so b.at t b q refl asks in
    let last = (last_in b.at t).0 in
    let ss = numbers_from last b.requests in
    let rs : requests_of q.items ≡ b.requests = ap requests_of so.items ∙ items-requests 0 last b.requests in
    let all : list_all (can_ask b.at) b.requests ≡ true = and_second (is_none b.limit) (list_all (can_ask b.at) b.requests) can in
    let of = are_parts true b.requests ss ps are (one-number last b.requests) in
    let joined : all_items ps ≡ q.items = ap all_items are ∙ joins (items_from 0 b.requests ss) ∙ sym so.items in
    let rise : PositionsRise q.items = subst PositionsRise (sym so.items) (items-rise 0 last b.requests) in
    let size : length (requests_of q.items) ≡ length q.items = length-map q.items (λ (i : Item). i.request) in
    let long : length (requests_of q.items) ≡ length b.requests = ap length rs in
    let some = legal.some in
    record {
      unlimited = so.left ∙ none-limit b.limit (and_first (is_none b.limit) (list_all (can_ask b.at) b.requests) can);
      some = omega (arith, size, long, some);
      proper = ap (list_all has_proper_span) rs ∙ legal.spans;
      rise = rise;
      endless = ap (list_any is_end) rs ∙ none-ends b.at b.requests all;
      parts_are = are ∙ ap parts_apart (sym so.items);
      joined = joined;
      sound = each-sound ps of.each (each_request has_proper_span true b.requests ss ps are (one-number last b.requests) legal.spans) (subst PositionsRise (sym joined) rise);
      alone = at-once b q ss ps legal rs so.consistent so.stamped are (one-number last b.requests);
    }
