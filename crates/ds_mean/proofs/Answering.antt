-- An Ok answer: the plain store gives it, and the world means the store afterwards.
use Rattle.std.proofs.Common.{◌≡◌, ℕ, ◌⊎◌, inl, inr, List, [], ◌∷◌, ◌++◌, Option, None, refl, sym, ap, ◌∙◌, subst, append_assoc}
use Rattle.std.proofs.lemmas.List.{append-nil}
use Rattle.ds_base.specs.Ordered.{Ascends}
use Rattle.ds_kind.specs.declared.batch.Item.{Item}
use Rattle.ds_kind.specs.declared.reply.Reply.{Reply}
use Rattle.ds_cell.specs.Ask.{Cells, key_of, content_at}
use Rattle.ds_cell.specs.Seen.{held}
use Rattle.ds_cell.specs.Store.{Store, StoreTxn, WriteAt}
use Rattle.ds_rule.specs.declared.answer.Answer.TheVariants.{Done}
use Rattle.ds_rule.specs.declared.journal.JournalStep.TheVariants.{Send}
use Rattle.ds_rule.specs.Asking.{Asking, Gives, ask_all, committed_by, finished}
use Rattle.ds_rule.specs.Cause.{IsIdle}
use Rattle.ds_rule.specs.Clauses.{Stands}
use Rattle.ds_rule.specs.Journal.{Happening, Moved, Did, Accepted, accepted, accepted_by, pairs}
use Rattle.ds_rule.specs.Path.{IsHigh}
use Rattle.ds_rule.specs.Pieces.{Each}
use Rattle.ds_rule.specs.StandsFor.{IsIntentOf, after_made}
use Rattle.ds_rule.specs.Turn.{items_at}
use Rattle.ds_rule.specs.World.{World, cell_of}
use Rattle.ds_rule.proofs.Eachs.{each-append, each-right}
use Rattle.ds_turn.specs.Course.{with_versions}
use Rattle.ds_turn.specs.Deliveries.{IsTurnReply}
use Rattle.ds_turn.specs.KeyIs.{KeyIs}
use Rattle.ds_turn.specs.Progress.{BatchPartway}
use Rattle.ds_turn.proofs.Deliveries.{batch_answers, replies_in_turn}
use Rattle.ds_turn.proofs.Replies.{gathered_asks}
use Rattle.ds_mean.specs.InTurn.{AllInTurn, AreFirst, IsLeft, items_of, places_at}
use Rattle.ds_mean.specs.Means.{Means, RecordsFit}
use Rattle.ds_mean.specs.Midway.{Midway}
use Rattle.ds_mean.specs.Send.{CameWhole, IsOfAll}
use Rattle.ds_mean.specs.Shows.{txn_after, txn_by, writes_at}
use Rattle.ds_mean.specs.Told.{IsTold}
use Rattle.ds_mean.proofs.Calls.{Called, IsSettled, IsUnsettled, append-some, follows-level, follows-resolved, is-of-all, walked}
use Rattle.ds_mean.proofs.Coming.{after-front, places-both}
use Rattle.ds_mean.proofs.Ends.{after-none, level, means-same, midway-begins}
use Rattle.ds_mean.proofs.Failing.{writes-both}
use Rattle.ds_mean.proofs.Firsts.{FirstServed, first-accepted, first-served}
use Rattle.ds_mean.proofs.Follows.{Follows, follows-none, follows-own}
use Rattle.ds_mean.proofs.Middle.{midway-idle}
use Rattle.ds_mean.proofs.Settling.{Settled, all-acted, finished-ascends, partway-all, turn-settled}
use Rattle.ds_mean.proofs.Splitting.{Split, first-done, idle-accepts, turn-later}
use Rattle.ds_mean.proofs.Stilling.{none-held}
use Rattle.ds_mean.proofs.Walking.{Walked}
use Rattle.ds_mean.proofs.Turning.{LeavesIntents, pairs-items, still-unsettled}

-- the store gives these replies, and the world means it afterwards
pub record OkLeads (q : Asking) (v : World) (p : Store) (hs : List Happening) (t : Option StoreTxn) (replies : List Reply) : Type 0 where
  pub cells : Cells
  pub writes : List WriteAt
  pub gives : ask_all q.head q.items p.cells ≡ Gives cells writes replies
  pub means : Means v (after_made hs (record p { cells = finished q.head writes cells; txn = t }))

-- ---- where nothing is settled

pub store-free : (w : World) (p : Store) → Means w p → (k : List ℕ) → held 0 (content_at k p.cells) ≡ []
store-free w p m k = none-held p.txn p.begun w.records (content_at k p.cells) m.records (m.keys k).intent_too

follows-leaves : (q : Asking) (o t : Option StoreTxn) → Follows o t → LeavesIntents q o → LeavesIntents q t
follows-leaves q o t f (inl still) = inl still
follows-leaves q o t f (inr own) = inr (follows-own q o t f own)

pub unsettled-answers : (q : Asking) (a : Stands) (v : World) (p : Store) (hs : List Happening) (t : Option StoreTxn) (replies : List Reply) → Called q a v p hs → IsUnsettled q p → CameWhole q hs replies → Follows p.txn t → OkLeads q v p hs t replies
unsettled-answers q a v p hs t replies c u came f = record {
  cells = out;
  writes = ws;
  gives = ans.2;
  means =
      means-same hs q.head.at.0 v (record p { cells = finished q.head ws out; txn = t }) (finished-ascends q.head q.head.txn ws out ans.3)
      (λ k.
      subst (λ s. KeyIs s (cell_of v k) (with_versions (writes_at k hs) (content_at k (finished q.head ws out)))) (sym (follows-level p.txn t q.head.at.0 f))
      (subst (λ d. KeyIs (level p.txn q.head.at.0) (cell_of v k) (with_versions (writes_at k hs) d)) (sym (there u.leaves k)) (ans.4 k)))
      r.midway.intents r.midway.records r.midway.keeps r.midway.copies;
}
  where
    r : Walked (level p.txn q.head.at.0) q (λ k. []) t v p [] hs
    r = walked q a v p hs t c u.low f (follows-resolved q p.txn t f u.resolved) (follows-leaves q p.txn t f u.leaves)

    whole : BatchPartway (level p.txn q.head.at.0) q (λ k. items_at k q.items) (λ k. writes_at k hs) (cell_of v) p.cells
    whole = partway-all (level p.txn q.head.at.0) q r.acted (λ k. writes_at k hs) (cell_of v) p.cells
        (λ k. all-acted q.items (r.acted k) (r.midway.partway.rest k) k (r.midway.partway.front k) (r.reached k ∙ sym (came.all k))) r.midway.partway

    ans : (out : Cells) × (ws : List WriteAt) × (ask_all q.head q.items p.cells ≡ Gives out ws replies) × Ascends key_of out × ((k : List ℕ) → KeyIs (level p.txn q.head.at.0) (cell_of v k) (with_versions (writes_at k hs) (content_at k out)))
    ans = batch_answers (level p.txn q.head.at.0) q (λ k. writes_at k hs) (cell_of v) p.cells (accepted hs) replies whole r.replies came.gathered

    out : Cells
    out = ans.0

    ws : List WriteAt
    ws = ans.1

    there : LeavesIntents q p.txn → (k : List ℕ) → content_at k (finished q.head ws out) ≡ content_at k out
    there (inl still) k = still-unsettled q.head q.head.txn q.items p.cells out ws replies k c.means.rising ans.2 still (store-free a.world p c.means k)
    there (inr own) k = ap (λ t. content_at k (committed_by q.head t ws out)) own.1

-- ---- where it is settled in one piece

pub txn-both : (xs ys : List Happening) (o : Option StoreTxn) → txn_after (xs ++ ys) o ≡ txn_after ys (txn_after xs o)
txn-both [] ys o = refl
txn-both (Moved e ∷ xs) ys o = txn-both xs ys (txn_by e o)
txn-both (Did s ∷ xs) ys o = txn-both xs ys o

-- after all items were served, no piece can come in its turn
never-again : (items js : List Item) (got : List Accepted) → items_of got ≡ items → js ≡ items → AreFirst items (items_of got ++ js) → IsLeft items [] → ⊥
never-again items js got all whole first left =
    let k = left.0 in
    let f = first k in
    let twice : places_at k items ++ [] ≡ places_at k items ++ (places_at k items ++ f.0) =
    append-nil (places_at k items) ∙ f.1 ∙ ap (λ ns. ns ++ f.0) (places-both k (items_of got) js ∙ ap (λ zs. places_at k zs ++ places_at k js) all ∙ ap (λ zs. places_at k items ++ places_at k zs) whole)
    ∙ append_assoc (places_at k items) (places_at k items) f.0
    in
    let none : [] ≡ places_at k items ++ f.0 = after-front (places_at k items) [] (places_at k items ++ f.0) twice in
    append-some [] (left.2 ++ f.0) left.1 (none ∙ ap (λ ns. ns ++ f.0) left.3)

-- so what comes later serves nothing
later-idle : (q : Asking) (a : Stands) (v : World) (p : Store) (hs : List Happening) (t : Option StoreTxn) → Called q a v p hs → IsSettled q p hs → IsLeft q.items [] → (sp : Split hs) → FirstServed (level p.txn q.head.at.0) q t v p hs sp → Each IsIdle sp.later
later-idle q a v p hs t c settled left sp f = by (first-done sp.later)
  where
    by : Each IsIdle sp.later ⊎ Split sp.later → Each IsIdle sp.later
    by (inl idle) = idle
    by (inr again) =
        let step = Send sp.node sp.piece (Done sp.replies) in
        let more = Did (Send again.node again.piece (Done again.replies)) ∷ again.later in
        let one = turn-later q sp.before (Did step ∷ sp.later) [] (subst (AllInTurn q.items []) sp.is c.turns) in
        let two = turn-later q again.before more (accepted sp.before ++ accepted_by step) (subst (AllInTurn q.items (accepted sp.before ++ accepted_by step)) again.is one.1) in
        let got = (accepted sp.before ++ accepted_by step) ++ accepted again.before in
        let same : got ≡ pairs sp.piece.head sp.piece.items sp.replies =
        ap (λ zs. (zs ++ accepted_by step) ++ accepted again.before) (idle-accepts sp.before sp.idle) ∙ ap (λ zs. accepted_by step ++ zs) (idle-accepts again.before again.idle) ∙ append-nil (accepted_by step)
        in
        let all : items_of got ≡ q.items =
        ap items_of same ∙ pairs-items q.head sp.piece.head sp.piece.items f.served.held f.served.out f.served.writes sp.replies f.gives ∙ is-of-all q hs sp settled.whole
        in
        let whole : again.piece.items ≡ q.items =
        (each-right (IsOfAll q) again.before more (subst (Each (IsOfAll q)) again.is (each-right (IsOfAll q) sp.before (Did step ∷ sp.later) (subst (Each (IsOfAll q)) sp.is settled.whole)).1)).0
        in
        absurd (never-again q.items again.piece.items got all whole two.0 left)

settled-by : (q : Asking) (a : Stands) (v : World) (p : Store) (hs : List Happening) (t : Option StoreTxn) (replies : List Reply) → Called q a v p hs → IsSettled q p hs → IsLeft q.items [] → CameWhole q hs replies → Follows p.txn t → Split hs → OkLeads q v p hs t replies
settled-by q a v p hs t replies c settled left came f sp = record {
  cells = one.out;
  writes = one.writes;
  gives = one.gives ∙ ap (Gives one.out one.writes) (sym same);
  means =
      means-same hs q.head.at.0 v next end.partway.ascends
      (λ k.
      subst (λ s. KeyIs s (cell_of v k) (with_versions (writes_at k hs) (content_at k next.cells))) (sym (follows-level p.txn t q.head.at.0 f))
      (subst (λ us. KeyIs s (cell_of v k) (with_versions us (content_at k next.cells))) (sym (writes k)) (end.partway.at k).key))
      (λ k. subst (λ o. IsIntentOf o (cell_of v k)) (sym after) (end.intents k))
      (subst (λ o. RecordsFit o p.begun v.records) (sym after) end.records) end.keeps end.copies;
}
  where
    s : ℕ
    s = level p.txn q.head.at.0

    step : Happening
    step = Did (Send sp.node sp.piece (Done sp.replies))

    none : t ≡ None
    none = follows-none p.txn t f settled.none

    at : FirstServed s q t v p hs sp
    at = first-served s a.floor q c.asked hs t a.world v p (inl (none, settled.alone)) c.kept c.high c.of c.runs (midway-begins q t a.world p f c.means c.same) sp

    one : Settled s q (λ k. writes_at k sp.before) (txn_after sp.before t) at.now p (pairs sp.piece.head sp.piece.items sp.replies)
    one = turn-settled s q (λ k. writes_at k sp.before) (txn_after sp.before t) at.first at.now p sp.piece sp.replies settled.low c.asked.rises c.asked.numbers settled.alone
        (ap (txn_after sp.before) none ∙ after-none sp.before) at.midway (is-of-all q hs sp settled.whole) at.cuts at.head at.served at.gives

    next : Store
    next = record p { cells = finished q.head one.writes one.out; txn = t }

    idle : Each IsIdle sp.later
    idle = later-idle q a v p hs t c settled left sp at

    end : Midway s q (λ k. []) (λ k. writes_at k sp.before ++ writes_at k sp.later) (txn_after sp.later (txn_after sp.before t)) v (record p { cells = finished q.head one.writes one.out })
    end = midway-idle s a.floor q (λ k. []) sp.later (λ k. writes_at k sp.before) (txn_after sp.before t) at.now v (record p { cells = finished q.head one.writes one.out }) idle
        (each-right IsTold sp.before (step ∷ sp.later) (subst (Each IsTold) sp.is c.kept)).1 (each-right (IsHigh a.floor) sp.before (step ∷ sp.later) (subst (Each (IsHigh a.floor)) sp.is c.high)).1 c.asked.above at.runs one.midway

    writes : (k : List ℕ) → writes_at k hs ≡ writes_at k sp.before ++ writes_at k sp.later
    writes k = ap (writes_at k) sp.is ∙ writes-both k sp.before (step ∷ sp.later)

    after : txn_after hs t ≡ txn_after sp.later (txn_after sp.before t)
    after = ap (λ zs. txn_after zs t) sp.is ∙ txn-both sp.before (step ∷ sp.later) t

    turns : Each (IsTurnReply q p.cells) (accepted hs)
    turns = subst (Each (IsTurnReply q p.cells)) (sym ((first-accepted s q t v p hs sp at).0))
        (each-append (IsTurnReply q p.cells) (pairs sp.piece.head sp.piece.items sp.replies) (accepted sp.later) one.turns (subst (Each (IsTurnReply q p.cells)) (sym (idle-accepts sp.later idle)) tt))

    same : replies ≡ one.replies
    same = gathered_asks q.head q.items p.cells one.out one.writes one.replies replies (accepted hs) c.means.rising one.gives (replies_in_turn q p.cells (accepted hs) turns) came.gathered

pub settled-answers : (q : Asking) (a : Stands) (v : World) (p : Store) (hs : List Happening) (t : Option StoreTxn) (replies : List Reply) → Called q a v p hs → IsSettled q p hs → IsLeft q.items [] → CameWhole q hs replies → Follows p.txn t → OkLeads q v p hs t replies
settled-answers q a v p hs t replies c settled left came f = by (first-done hs)
  where
    by : Each IsIdle hs ⊎ Split hs → OkLeads q v p hs t replies
    by (inl idle) = absurd (append-some [] left.2 left.1 (sym (ap (λ zs. places_at left.0 (items_of zs)) (idle-accepts hs idle)) ∙ sym (came.all left.0) ∙ left.3))
    by (inr sp) = settled-by q a v p hs t replies c settled left came f sp
