-- A piece that a range served, in the middle of its batch.
use Rattle.std.proofs.Common.{◌≡◌, ℕ, ◌≤◌, ◌⊎◌, inl, inr, List, [], ◌∷◌, ◌++◌, Option, Some, None, refl, sym, ap, ◌∙◌, subst}
use Rattle.ds_base.specs.Ordered.{Ascends}
use Rattle.ds_base.specs.declared.value.TxnNo.{TxnNo}
use Rattle.ds_kind.specs.Request.{cut_to}
use Rattle.ds_kind.specs.declared.batch.Head.{Head}
use Rattle.ds_kind.specs.declared.batch.Item.{Item}
use Rattle.ds_kind.specs.declared.batch.Piece.{Piece}
use Rattle.ds_kind.specs.declared.reply.Reply.{Reply}
use Rattle.ds_kind.specs.declared.request.Request.{Request}
use Rattle.ds_kind.specs.declared.request.Request.TheVariants.{Get, Scan, ReverseScan, Put, ConditionalPut, InitPut, Increment, Delete, DeleteRange, EndTxn, QueryIntent, ResolveIntent, ResolveIntentRange, AdminSplit, AdminTransferLease}
use Rattle.ds_cell.specs.declared.entry.At.{At}
use Rattle.ds_cell.specs.declared.entry.Version.{Version}
use Rattle.ds_cell.specs.declared.verdict.Verdict.{Verdict}
use Rattle.ds_cell.specs.declared.verdict.Verdict.TheVariants.{Keep, Put as Puts, Refuse}
use Rattle.ds_cell.specs.Ask.{Cells, key_of, content_at}
use Rattle.ds_cell.specs.Content.{Content, Rises, no_content}
use Rattle.ds_cell.specs.Deed.{content_after}
use Rattle.ds_cell.specs.Requests.{ask_request}
use Rattle.ds_cell.specs.Replies.{body_of}
use Rattle.ds_cell.specs.Seen.{held}
use Rattle.ds_cell.specs.Store.{Store, StoreTxn, WriteAt, write_all, under_number}
use Rattle.ds_law.proofs.Resolving.{AtAny, none-free, serve-plain}
use Rattle.ds_law.proofs.Settling.{Frees, IsFree}
use Rattle.ds_rule.specs.Asking.{Asking, Gives, and_then, ask_all, at_of, committed_by, finished, made_by, txn_number}
use Rattle.ds_rule.specs.Journal.{Accepted, pairs}
use Rattle.ds_rule.specs.Pieces.{Each, IsCut, position_of}
use Rattle.ds_rule.specs.Serve.{resolves, serve}
use Rattle.ds_rule.specs.StandsFor.{IsIntentOf, OfOpen}
use Rattle.ds_rule.specs.Turn.{after_item, after_items, asks_as, items_at, verdict}
use Rattle.ds_rule.specs.World.{World, cell_of}
use Rattle.ds_turn.specs.Deliveries.{IsTurnReply, Leaves, Serves}
use Rattle.ds_turn.specs.Partway.{NumbersInOrder}
use Rattle.ds_turn.proofs.Deliveries.{piece_goes, piece_replies, serves_asked}
use Rattle.ds_turn.proofs.Keys.{gives_at_keys, made-parts}
use Rattle.ds_turn.proofs.OnePiece.{settles-everywhere}
use Rattle.ds_turn.proofs.Replies.{rest-given}
use Rattle.ds_mean.specs.InTurn.{AreFirst, items_of, places_at}
use Rattle.ds_mean.specs.Means.{RecordsFit}
use Rattle.ds_mean.specs.Midway.{Midway}
use Rattle.ds_mean.specs.Serving.{InRange, Served}
use Rattle.ds_mean.proofs.Coming.{Reached, front_of, goes-next, map-both, reached-next}
use Rattle.ds_mean.proofs.Stilling.{IsStill, cuts-keep, cuts-still, each-at, items-stay, none-held, settled-free}

-- ---- served as a store is asked

pub cut-resolves : (s e : List ℕ) (r : Request) → resolves (cut_to s e r) ≡ resolves r
cut-resolves s e (Get a) = refl
cut-resolves s e (Scan a) = refl
cut-resolves s e (ReverseScan a) = refl
cut-resolves s e (Put a) = refl
cut-resolves s e (ConditionalPut a) = refl
cut-resolves s e (InitPut a) = refl
cut-resolves s e (Increment a) = refl
cut-resolves s e (Delete a) = refl
cut-resolves s e (DeleteRange a) = refl
cut-resolves s e (EndTxn a) = refl
cut-resolves s e (QueryIntent a) = refl
cut-resolves s e (ResolveIntent a) = refl
cut-resolves s e (ResolveIntentRange a) = refl
cut-resolves s e (AdminSplit a) = refl
cut-resolves s e (AdminTransferLease a) = refl

-- no transaction is open and none asks, or no request resolves intents
abbrev pub AreResolved : Option StoreTxn → Asking → Type 0
AreResolved o q = ((o ≡ None) × (q.head.txn ≡ None)) ⊎ Each (λ i. resolves i.request ≡ None) q.items

-- what a range holds at each key is what the world does, or it holds nothing there
abbrev pub HoldsOf : World → Cells → Type 0
HoldsOf w x = (k : List ℕ) → (content_at k x ≡ cell_of w k) ⊎ (content_at k x ≡ no_content)

range-free : (s : ℕ) (q : Asking) (acted : List ℕ → List Item) (vs : List ℕ → List Version) (o : Option StoreTxn) (w : World) (p : Store) (x : Cells) → o ≡ None → Midway s q acted vs o w p → Ascends key_of x → HoldsOf w x → Frees AtAny x
range-free s q acted vs o w p x none m asc holds = (asc, at)
  where
    clear : (k : List ℕ) → IsFree (Unit {0}) (cell_of w k)
    clear k = let empty = subst (λ z. IsIntentOf z (cell_of w k)) none (m.intents k) in record { none_waits = (m.partway.at k).key.waits empty; intent = inl empty }

    at : (k : List ℕ) → IsFree (Unit {0}) (content_at k x)
    at k = elim (holds k) [
      | inl here ↦ subst (IsFree (Unit {0})) (sym here) (clear k)
      | inr far ↦ subst (IsFree (Unit {0})) (sym far) none-free
    ]

pub serves-so : (s : ℕ) (q : Asking) (acted : List ℕ → List Item) (vs : List ℕ → List Version) (o : Option StoreTxn) (w : World) (p : Store) (j : Piece) (x : Cells)
    → Midway s q acted vs o w p → Each (IsCut q.items) j.items → j.head ≡ q.head → q.head.left ≡ None → AreResolved o q → Ascends key_of x → HoldsOf w x → serve w.records j.head j.head.left j.items x ≡ ask_all q.head j.items x
serves-so s q acted vs o w p j x m cuts head left resolved asc holds =
    ap (λ h. serve w.records h h.left j.items x) head ∙ ap (λ l. serve w.records q.head l j.items x) left ∙ asks resolved
  where
    asks : AreResolved o q → serve w.records q.head None j.items x ≡ ask_all q.head j.items x
    asks (inl none) = serve-plain w.records q.head j.items x m.records.named (ap txn_number none.1) (range-free s q acted vs o w p x none.0 m asc holds)
    asks (inr free) = serves_asked w.records q.head j.items x (cuts-keep resolves cut-resolves None q.items j.items free cuts)

pub asked-so : (s : ℕ) (q : Asking) (acted : List ℕ → List Item) (vs : List ℕ → List Version) (o : Option StoreTxn) (w v : World) (p : Store) (j : Piece) (rs : List Reply)
    → Midway s q acted vs o w p → Each (IsCut q.items) j.items → j.head ≡ q.head → q.head.left ≡ None → AreResolved o q → (sv : Served w v j rs) → ask_all q.head j.items sv.held ≡ Gives sv.out sv.writes rs
asked-so s q acted vs o w v p j rs m cuts head left resolved sv =
    sym (serves-so s q acted vs o w p j sv.held m cuts head left resolved sv.ascends holds) ∙ sv.gives
  where
    holds : HoldsOf w sv.held
    holds k = elim (sv.at k) [
      | inl here ↦ inl here.there
      | inr far ↦ inr far.empty
    ]

-- ---- what was accepted

pub pairs-items : (h g : Head) (js : List Item) (x out : Cells) (ws : List WriteAt) (rs : List Reply) → ask_all h js x ≡ Gives out ws rs → items_of (pairs g js rs) ≡ js
pairs-items h g [] x out ws rs e = refl
pairs-items h g (j ∷ js) x out ws rs e =
    let at = at_of h j.seq.0 in
    let parts = made-parts h j (ask_request j.request at x) x js out ws rs e in
    let reply : Reply = record { body = body_of j.request parts.0; resume = None } in
    let rest = rest-given (under_number at parts.1) reply (ask_all h js (write_all at parts.1 x)) out ws rs (sym (ap (λ a. and_then (made_by h j a x) (ask_all h js)) parts.2) ∙ e) in
    ap (λ zs. items_of (pairs g (j ∷ js) zs)) rest.3 ∙ ap (λ zs. j ∷ zs) (pairs-items h g js (write_all at parts.1 x) out rest.0 rest.1 rest.2)

-- ---- one piece more

pub record Turned (s : ℕ) (q : Asking) (vs : List ℕ → List Version) (o : Option StoreTxn) (v : World) (p : Store) (got more : List Accepted) : Type 0 where
  pub acted : List ℕ → List Item
  pub midway : Midway s q acted vs o v p
  pub reached : Reached (got ++ more) acted
  pub replies : Each (IsTurnReply q p.cells) more

pub turn-next : (s : ℕ) (q : Asking) (acted : List ℕ → List Item) (vs : List ℕ → List Version) (o : Option StoreTxn) (w v : World) (p : Store) (got : List Accepted) (j : Piece) (rs : List Reply)
    → q.head.at.0 ≤ s → Rises position_of q.items → NumbersInOrder q.items → (m : Midway s q acted vs o w p) → Reached got acted
    → AreFirst q.items (items_of got ++ j.items) → Each (IsCut q.items) j.items → j.head ≡ q.head
    → (sv : Served w v j rs) → ask_all q.head j.items sv.held ≡ Gives sv.out sv.writes rs
    → ((k : List ℕ) → InRange w v j sv.held sv.out sv.writes k → content_at k (finished j.head sv.writes sv.out) ≡ content_at k sv.out)
    → ((k : List ℕ) → IsIntentOf o (cell_of w k) → IsIntentOf o (after_items (at_of q.head 0) (items_at k j.items) (cell_of w k)))
    → Turned s q vs o v p got (pairs j.head j.items rs)
turn-next s q acted vs o w v p got j rs low rises numbers m reached first cuts head sv gives same intents = record {
  acted = after;
  midway = record {
    keeps = sv.keeps;
    partway = piece_goes s q acted after vs (cell_of w) (cell_of v) p.cells m.partway low numbers j.items sv.held sv.out sv.writes rs serves gives leaves;
    intents = λ k. elim (sv.at k) [
      | inl here ↦ subst (IsIntentOf o) (sym (here.now ∙ same k here ∙ left-there k ∙ ap (after_items (at_of q.head 0) (items_at k j.items)) here.there)) (intents k (m.intents k))
      | inr out ↦ subst (IsIntentOf o) (sym out.same) (m.intents k)
    ];
    records = subst (RecordsFit o p.begun) (sym sv.records) m.records;
    copies = sv.copies ∙ m.copies;
  };
  reached = λ k.
      reached-next q.items j.items (acted k) (m.partway.rest k) got k (m.partway.front k) (reached k) first
      ∙ ap (places_at k) (ap (λ zs. items_of got ++ zs) (sym (pairs-items q.head j.head j.items sv.held sv.out sv.writes rs gives)) ∙ sym (map-both (λ a. a.item) got (pairs j.head j.items rs)));
  replies = subst (λ h. Each (IsTurnReply q p.cells) (pairs h j.items rs)) (sym head)
      (piece_replies s q acted after vs (cell_of w) p.cells m.partway low rises numbers j.items sv.held sv.out sv.writes rs serves gives);
}
  where
    after : List ℕ → List Item
    after k = acted k ++ front_of (items_at k j.items) (m.partway.rest k)

    left-there : (k : List ℕ) → content_at k sv.out ≡ after_items (at_of q.head 0) (items_at k j.items) (content_at k sv.held)
    left-there k = ((gives_at_keys q.head j.items sv.held sv.out sv.writes rs sv.ascends gives).1 k).1

    serves : Serves q acted m.partway.rest after (cell_of w) j.items sv.held
    serves = record {
      ascends = sv.ascends;
      cuts = cuts;
      there = λ k. elim (sv.at k) [ inl here ↦ inr here.there | inr out ↦ inl out.none ];
      goes = λ k. goes-next q.items j.items (acted k) (m.partway.rest k) got k rises cuts (m.partway.front k) (reached k) first;
    }

    leaves : Leaves j.items sv.held sv.out (cell_of w) (cell_of v)
    leaves k = elim (sv.at k) [
      | inl here ↦ inr (here.there, here.now ∙ same k here)
      | inr out ↦ inl (out.none, out.same)
    ]

-- ---- where nothing is settled: no request writes a key, or the open transaction asks

-- it is the open one that asks, under its number and in its epoch
abbrev pub IsOwn : Asking → Option StoreTxn → Type 0
IsOwn q o = (n : TxnNo) × (q.head.txn ≡ Some n) × OfOpen (λ n t. (n.0 ≡ t.asker.number) × (q.head.epoch ≡ t.asker.epoch)) (Some n) o

abbrev pub LeavesIntents : Asking → Option StoreTxn → Type 0
LeavesIntents q o = Each IsStill q.items ⊎ IsOwn q o

pub still-unsettled : (h : Head) (t : Option TxnNo) (js : List Item) (x out : Cells) (ws : List WriteAt) (rs : List Reply) (k : List ℕ) → Ascends key_of x → ask_all h js x ≡ Gives out ws rs → Each IsStill js → held 0 (content_at k x) ≡ []
    → content_at k (committed_by h t ws out) ≡ content_at k out
still-unsettled h (Some t) js x out ws rs k asc gives still none = refl
still-unsettled h None js x out ws rs k asc gives still none =
    let keys = gives_at_keys h js x out ws rs asc gives in
    let same : content_at k out ≡ content_at k x = (keys.1 k).1 ∙ items-stay (at_of h 0) (items_at k js) (content_at k x) (each-at IsStill k js still) in
    settles-everywhere h js x out ws rs (Some h.at) k asc keys.0 none gives ∙ settled-free (Some h.at) (content_at k out) (ap (held 0) same ∙ none)

own-after : (a : At) (i : Item) (v : Verdict) (t : StoreTxn) (c : Content) → a.txn.0 ≡ t.asker.number → a.epoch ≡ t.asker.epoch → IsIntentOf (Some t) c → IsIntentOf (Some t) (content_after (asks_as a i) v c)
own-after a i (Keep b) t c num epoch h = h
own-after a i (Puts w b) t c num epoch h = inr (num, epoch)
own-after a i (Refuse f) t c num epoch h = h

own-items : (a : At) (js : List Item) (t : StoreTxn) (c : Content) → a.txn.0 ≡ t.asker.number → a.epoch ≡ t.asker.epoch → IsIntentOf (Some t) c → IsIntentOf (Some t) (after_items a js c)
own-items a [] t c num epoch h = h
own-items a (j ∷ js) t c num epoch h = own-items a js t (after_item a j c) num epoch (own-after a j (verdict a j c) t c num epoch h)

own-intents : (q : Asking) (o : Option StoreTxn) (js : List Item) (c : Content) → IsOwn q o → IsIntentOf o c → IsIntentOf o (after_items (at_of q.head 0) js c)
own-intents q None js c own h = absurd own.2
own-intents q (Some t) js c own h = own-items (at_of q.head 0) js t c (ap txn_number own.1 ∙ own.2.0) own.2.1 h

-- one piece more of such a batch
pub turn-unsettled : (s : ℕ) (q : Asking) (acted : List ℕ → List Item) (vs : List ℕ → List Version) (o : Option StoreTxn) (w v : World) (p : Store) (got : List Accepted) (j : Piece) (rs : List Reply)
    → q.head.at.0 ≤ s → Rises position_of q.items → NumbersInOrder q.items → (m : Midway s q acted vs o w p) → Reached got acted
    → AreFirst q.items (items_of got ++ j.items) → Each (IsCut q.items) j.items → j.head ≡ q.head → q.head.left ≡ None
    → AreResolved o q → LeavesIntents q o → Served w v j rs
    → Turned s q vs o v p got (pairs j.head j.items rs)
turn-unsettled s q acted vs o w v p got j rs low rises numbers m reached first cuts head left resolved leaves sv =
    turn-next s q acted vs o w v p got j rs low rises numbers m reached first cuts head sv gives (λ k here. ap (λ h. content_at k (finished h sv.writes sv.out)) head ∙ unsettled leaves k here) (intents leaves)
  where
    gives : ask_all q.head j.items sv.held ≡ Gives sv.out sv.writes rs
    gives = asked-so s q acted vs o w v p j rs m cuts head left resolved sv

    unsettled : LeavesIntents q o → (k : List ℕ) → InRange w v j sv.held sv.out sv.writes k → content_at k (finished q.head sv.writes sv.out) ≡ content_at k sv.out
    unsettled (inl still) k here = still-unsettled q.head q.head.txn j.items sv.held sv.out sv.writes rs k sv.ascends gives (cuts-still q.items j.items still cuts) (ap (held 0) here.there ∙ none-held o p.begun w.records (cell_of w k) m.records (m.intents k))
    unsettled (inr own) k here = ap (λ t. content_at k (committed_by q.head t sv.writes sv.out)) own.1

    intents : LeavesIntents q o → (k : List ℕ) → IsIntentOf o (cell_of w k) → IsIntentOf o (after_items (at_of q.head 0) (items_at k j.items) (cell_of w k))
    intents (inl still) k h = subst (IsIntentOf o) (sym (items-stay (at_of q.head 0) (items_at k j.items) (cell_of w k) (each-at IsStill k j.items (cuts-still q.items j.items still cuts)))) h
    intents (inr own) k h = own-intents q o (items_at k j.items) (cell_of w k) own h
