-- A batch without a transaction that a range served in one piece: what it wrote is settled in the world, and in the store.
use Rattle.std.proofs.Common.{◌≡◌, ℕ, ◌≤◌, ◌==◌, cond, ◌⊎◌, inl, inr, List, [], ◌∷◌, ◌++◌, map, Option, Some, None, refl, sym, ap, ◌∙◌, subst, eq-eqb}
use Rattle.std.proofs.lemmas.List.{append-nil}
use Rattle.ds_base.specs.Ordered.{Ascends}
use Rattle.ds_base.specs.declared.value.Stamp.{Stamp}
use Rattle.ds_base.specs.declared.value.TxnNo.{TxnNo}
use Rattle.ds_kind.specs.declared.batch.Head.{Head}
use Rattle.ds_kind.specs.declared.batch.Item.{Item}
use Rattle.ds_kind.specs.declared.batch.Piece.{Piece}
use Rattle.ds_kind.specs.declared.reply.Reply.{Reply}
use Rattle.ds_cell.specs.declared.entry.At.{At}
use Rattle.ds_cell.specs.declared.entry.Version.{Version}
use Rattle.ds_cell.specs.declared.entry.Written.{Written}
use Rattle.ds_cell.specs.declared.verdict.Verdict.{Verdict}
use Rattle.ds_cell.specs.declared.verdict.Verdict.TheVariants.{Keep, Put, Refuse}
use Rattle.ds_cell.specs.Ask.{Cells, key_of, content_at}
use Rattle.ds_cell.specs.Change.{settled, settled_by, settling}
use Rattle.ds_cell.specs.Content.{Content, Rises, stamp_of}
use Rattle.ds_cell.specs.Deed.{content_after}
use Rattle.ds_cell.specs.Seen.{held, last_of}
use Rattle.ds_cell.specs.Store.{Store, StoreTxn, WriteAt, put_cell, settle_all}
use Rattle.ds_cell.specs.StoreProofs.{ascends-insert}
use Rattle.ds_cell.proofs.RisingFacts.{rises_fold}
use Rattle.ds_rule.specs.Asking.{Asking, Gives, ask_all, at_of, committed_by, finished, txn_number}
use Rattle.ds_rule.specs.Journal.{Accepted, pairs}
use Rattle.ds_rule.specs.Pieces.{Each, IsCut, position_of}
use Rattle.ds_rule.specs.StandsFor.{IsIntentOf}
use Rattle.ds_rule.specs.Turn.{after_item, after_items, asks_as, items_at, verdict}
use Rattle.ds_rule.specs.World.{World, cell_of}
use Rattle.ds_rule.proofs.Lasts.{none-last}
use Rattle.ds_turn.specs.Course.{with_versions}
use Rattle.ds_turn.specs.Deliveries.{IsTurnReply, Leaves, Serves}
use Rattle.ds_turn.specs.KeyIs.{KeyIs}
use Rattle.ds_turn.specs.Partway.{NumbersInOrder, Partway}
use Rattle.ds_turn.specs.Progress.{BatchPartway}
use Rattle.ds_turn.proofs.Again.{versions_stay}
use Rattle.ds_turn.proofs.Deliveries.{piece_goes, piece_replies}
use Rattle.ds_turn.proofs.Keys.{gives_at_keys}
use Rattle.ds_turn.proofs.OnePiece.{settles-everywhere}
use Rattle.ds_turn.proofs.Progress.{batch_ends}
use Rattle.ds_turn.proofs.Settled.{held-none, settled-more, settles_alike}
use Rattle.ds_mean.specs.InTurn.{AreFirst, places_at}
use Rattle.ds_mean.specs.Means.{RecordsFit}
use Rattle.ds_mean.specs.Midway.{Midway}
use Rattle.ds_mean.specs.Serving.{Served}
use Rattle.ds_mean.proofs.Coming.{after-front, front_of, goes-next, map-both, reached-next}
use Rattle.ds_mean.proofs.Stilling.{settled-free}

-- ---- what settling leaves

ascends-settled : (n : ℕ) (commit : Option Stamp) (ws : List WriteAt) (cells : Cells) → Ascends key_of cells → Ascends key_of (settle_all n commit ws cells)
ascends-settled n commit [] cells asc = asc
ascends-settled n commit (w ∷ ws) cells asc = ascends-settled n commit ws (put_cell w.key (settled n commit) cells) (ascends-insert w.key _ cells asc)

pub finished-ascends : (h : Head) (t : Option TxnNo) (ws : List WriteAt) (cells : Cells) → Ascends key_of cells → Ascends key_of (committed_by h t ws cells)
finished-ascends h (Some t) ws cells asc = asc
finished-ascends h None ws cells asc = ascends-settled 0 (Some h.at) ws cells asc

-- an intent of no transaction, if there is one
abbrev Alone : Content → Type 0
Alone c = (c.history ≡ []) ⊎ (c.owner ≡ 0)

alone-after : (a : At) (i : Item) (v : Verdict) (c : Content) → a.txn.0 ≡ 0 → Alone c → Alone (content_after (asks_as a i) v c)
alone-after a i (Keep b) c none alone = alone
alone-after a i (Put w b) c none alone = inr none
alone-after a i (Refuse f) c none alone = alone

alone-items : (a : At) (js : List Item) (c : Content) → a.txn.0 ≡ 0 → Alone c → Alone (after_items a js c)
alone-items a [] c none alone = alone
alone-items a (j ∷ js) c none alone = alone-items a js (after_item a j c) none (alone-after a j (verdict a j c) c none alone)

settled-last : (commit : Option Stamp) (o : Option Written) (c : Content) → last_of c.history ≡ o → (settled_by commit o c).history ≡ []
settled-last commit None c is = none-last c.history is
settled-last commit (Some w) c is = refl

settled-clear : (commit : Option Stamp) (c : Content) → Alone c → (settled 0 commit c).history ≡ []
settled-clear commit c (inl none) = ap (λ (z : Content). z.history) (settled-free commit c (held-none 0 c none)) ∙ none
settled-clear commit c (inr own) =
    let all : held 0 c ≡ c.history = ap (λ n. cond (n == 0) c.history []) own in
    ap (λ h. (settled_by commit (last_of h) c).history) all ∙ settled-last commit (last_of c.history) c refl

-- so it is with the intent of a transaction
pub settled-clear-of : (n : ℕ) (commit : Option Stamp) (epoch : ℕ) (c : Content) → (c.history ≡ []) ⊎ ((c.owner ≡ n) × (c.epoch ≡ epoch)) → (settled n commit c).history ≡ []
settled-clear-of n commit epoch c (inl none) = ap (λ h. (settled_by commit (last_of h) c).history) (held-none n c none) ∙ none
settled-clear-of n commit epoch c (inr own) =
    ap (λ b. (settled_by commit (last_of (cond b c.history [])) c).history) (eq-eqb c.owner n own.0) ∙ settled-last commit (last_of c.history) c refl

settled-rises : (commit : Option Stamp) (o : Option Written) (c : Content) → Rises stamp_of c.versions → Rises stamp_of (settled_by commit o c).versions
settled-rises commit None c r = r
settled-rises commit (Some w) c r = rises_fold c.versions (settling commit w c.waiting) r

-- ---- all items acted

no-places : (js : List Item) → map position_of js ≡ [] → js ≡ []
no-places [] h = refl
no-places (j ∷ js) h = cc

pub all-acted : (items acted rest : List Item) (k : List ℕ) → items_at k items ≡ acted ++ rest → map position_of acted ≡ places_at k items → acted ≡ items_at k items
all-acted items acted rest k front all =
    let there : map position_of acted ++ map position_of rest ≡ map position_of acted ++ [] =
    sym (map-both position_of acted rest) ∙ ap (map position_of) (sym front) ∙ sym all ∙ sym (append-nil (map position_of acted))
    in
    let none : rest ≡ [] = no-places rest (after-front (map position_of acted) (map position_of rest) [] there) in
    sym (front ∙ ap (λ zs. acted ++ zs) none ∙ append-nil acted)

pub partway-all : (s : ℕ) (q : Asking) (acted : List ℕ → List Item) (vs : List ℕ → List Version) (world : List ℕ → Content) (cells : Cells) → ((k : List ℕ) → acted k ≡ items_at k q.items) → BatchPartway s q acted vs world cells → BatchPartway s q (λ k. items_at k q.items) vs world cells
partway-all s q acted vs world cells same b = record {
  ascends = b.ascends;
  at = λ k. subst (λ zs. Partway s (at_of q.head 0) zs (vs k) (world k) (content_at k cells)) (same k) (b.at k);
  rest = λ k. [];
  front = λ k. sym (append-nil (items_at k q.items));
}

-- ---- the piece

pub record Settled (s : ℕ) (q : Asking) (vs : List ℕ → List Version) (o : Option StoreTxn) (v : World) (p : Store) (more : List Accepted) : Type 0 where
  pub out : Cells
  pub writes : List WriteAt
  pub replies : List Reply
  pub gives : ask_all q.head q.items p.cells ≡ Gives out writes replies
  pub midway : Midway s q (λ k. []) vs o v (record p { cells = finished q.head writes out })
  pub turns : Each (IsTurnReply q p.cells) more

pub turn-settled : (s : ℕ) (q : Asking) (vs : List ℕ → List Version) (o : Option StoreTxn) (w v : World) (p : Store) (j : Piece) (rs : List Reply)
    → q.head.at.0 ≤ s → Rises position_of q.items → NumbersInOrder q.items → q.head.txn ≡ None → o ≡ None → (m : Midway s q (λ k. []) vs o w p)
    → j.items ≡ q.items → Each (IsCut q.items) j.items → j.head ≡ q.head
    → (sv : Served w v j rs) → ask_all q.head j.items sv.held ≡ Gives sv.out sv.writes rs
    → Settled s q vs o v p (pairs j.head j.items rs)
turn-settled s q vs o w v p j rs low rises numbers alone none m whole cuts head sv gives = record {
  out = out;
  writes = ws;
  replies = end.2;
  gives = end.3;
  midway = record {
    keeps = sv.keeps;
    partway = record {
      ascends = finished-ascends q.head q.head.txn ws out end.4;
      at = λ k. record {
        key = subst (λ d. KeyIs s (cell_of v k) (with_versions (vs k) d)) (sym (store-there k)) (subst (λ c. KeyIs s c (with_versions (vs k) (settled 0 commit (content_at k out)))) (sym (world-there k)) (key-settled k));
        above = (m.partway.at k).above;
        stamps_rise = subst (λ d. Rises stamp_of d.versions) (sym (store-there k)) (settled-rises commit (last_of (held 0 (content_at k out))) (content_at k out) (rises-there k));
        numbers_rise = tt;
        none_refused = record { bits = []; writes = []; gives = refl };
      };
      rest = λ k. items_at k q.items;
      front = λ k. refl;
    };
    intents = λ k. subst (λ z. IsIntentOf z (cell_of v k)) (sym none) (ap (λ (z : Content). z.history) (world-there k) ∙ settled-clear commit (now k) (alone-items a (items_at k j.items) (cell_of w k) zero-txn (inl (clear k))));
    records = subst (RecordsFit o p.begun) (sym sv.records) m.records;
    copies = sv.copies ∙ m.copies;
  };
  turns = subst (λ h. Each (IsTurnReply q p.cells) (pairs h j.items rs)) (sym head)
      (piece_replies s q (λ k. []) after vs (cell_of w) p.cells m.partway low rises numbers j.items sv.held sv.out sv.writes rs serves gives);
}
  where
    a : At
    a = at_of q.head 0

    commit : Option Stamp
    commit = Some q.head.at

    zero-txn : a.txn.0 ≡ 0
    zero-txn = ap txn_number alone

    clear : (k : List ℕ) → (cell_of w k).history ≡ []
    clear k = subst (λ z. IsIntentOf z (cell_of w k)) none (m.intents k)

    first : AreFirst q.items j.items
    first k = ([], ap (places_at k) (sym whole) ∙ sym (append-nil (places_at k j.items)))

    after : List ℕ → List Item
    after k = front_of (items_at k j.items) (m.partway.rest k)

    serves : Serves q (λ k. []) m.partway.rest after (cell_of w) j.items sv.held
    serves = record {
      ascends = sv.ascends;
      cuts = cuts;
      there = λ k. elim (sv.at k) [ inl here ↦ inr here.there | inr out ↦ inl out.none ];
      goes = λ k. goes-next q.items j.items [] (m.partway.rest k) [] k rises cuts (m.partway.front k) refl first;
    }

    -- before it is settled
    now : List ℕ → Content
    now k = after_items a (items_at k j.items) (cell_of w k)

    left-there : (k : List ℕ) → content_at k sv.out ≡ after_items a (items_at k j.items) (content_at k sv.held)
    left-there k = ((gives_at_keys q.head j.items sv.held sv.out sv.writes rs sv.ascends gives).1 k).1

    leaves : Leaves j.items sv.held sv.out (cell_of w) now
    leaves k = elim (sv.at k) [
      | inl here ↦ inr (here.there, sym (left-there k ∙ ap (after_items a (items_at k j.items)) here.there))
      | inr out ↦ inl (out.none, ap (λ zs. after_items a zs (cell_of w k)) out.none)
    ]

    partway : BatchPartway s q after vs now p.cells
    partway = piece_goes s q (λ k. []) after vs (cell_of w) now p.cells m.partway low numbers j.items sv.held sv.out sv.writes rs serves gives leaves

    whole-partway : BatchPartway s q (λ k. items_at k q.items) vs now p.cells
    whole-partway = partway-all s q after vs now p.cells
        (λ k. all-acted q.items (after k) (partway.rest k) k (partway.front k)
        (reached-next q.items j.items [] (m.partway.rest k) [] k (m.partway.front k) refl first ∙ ap (places_at k) whole)) partway

    end : (out : Cells) × (ws : List WriteAt) × (rs : List Reply) × (ask_all q.head q.items p.cells ≡ Gives out ws rs) × Ascends key_of out × ((k : List ℕ) → KeyIs s (now k) (with_versions (vs k) (content_at k out)))
    end = batch_ends s q vs now p.cells whole-partway

    out : Cells
    out = end.0

    ws : List WriteAt
    ws = end.1

    settles : (us : List WriteAt) (cells : Cells) → finished q.head us cells ≡ settle_all 0 commit us cells
    settles us cells = ap (λ t. committed_by q.head t us cells) alone

    store-clear : (k : List ℕ) → held 0 (content_at k p.cells) ≡ []
    store-clear k = held-none 0 (content_at k p.cells) ((m.partway.at k).key.history ∙ clear k)

    store-there : (k : List ℕ) → content_at k (finished q.head ws out) ≡ settled 0 commit (content_at k out)
    store-there k = ap (content_at k) (settles ws out) ∙ settles-everywhere q.head q.items p.cells out ws end.2 commit k m.partway.ascends end.4 (store-clear k) end.3

    world-there : (k : List ℕ) → cell_of v k ≡ settled 0 commit (now k)
    world-there k = elim (sv.at k) [
      | inl here ↦
          here.now ∙ ap (λ h. content_at k (finished h sv.writes sv.out)) head ∙ ap (content_at k) (settles sv.writes sv.out)
          ∙ settles-everywhere q.head j.items sv.held sv.out sv.writes rs commit k sv.ascends (gives_at_keys q.head j.items sv.held sv.out sv.writes rs sv.ascends gives).0 (ap (held 0) here.there ∙ held-none 0 (cell_of w k) (clear k)) gives
          ∙ ap (settled 0 commit) (left-there k ∙ ap (after_items a (items_at k j.items)) here.there)
      | inr far ↦
          far.same ∙ sym (settled-free commit (cell_of w k) (held-none 0 (cell_of w k) (clear k))) ∙ ap (λ zs. settled 0 commit (after_items a zs (cell_of w k))) (sym far.none)
    ]

    key-settled : (k : List ℕ) → KeyIs s (settled 0 commit (now k)) (with_versions (vs k) (settled 0 commit (content_at k out)))
    key-settled k =
        subst (KeyIs s (settled 0 commit (now k))) (settled-more s commit (last_of (held 0 (content_at k out))) (vs k) (content_at k out) low (m.partway.at k).above (end.5 k).none_waits)
        (settles_alike s 0 commit (now k) (with_versions (vs k) (content_at k out)) (end.5 k) low)

    rises-there : (k : List ℕ) → Rises stamp_of (content_at k out).versions
    rises-there k =
        subst (λ d. Rises stamp_of d.versions) (sym ((gives_at_keys q.head q.items p.cells out ws end.2 m.partway.ascends end.3).1 k).1)
        (subst (Rises stamp_of) (sym (versions_stay a (items_at k q.items) (content_at k p.cells))) (m.partway.at k).stamps_rise)
