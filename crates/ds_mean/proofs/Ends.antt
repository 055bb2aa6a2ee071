-- How a batch begins and ends: from a world that means a store to the middle of a batch, and back.
use Rattle.std.proofs.Common.{◌≡◌, ℕ, ◌≤◌, List, [], ◌∷◌, Option, Some, None, refl, sym, ap, ◌∙◌, subst, arith}
use Rattle.ds_base.specs.Ordered.{Ascends}
use Rattle.ds_cell.specs.Ask.{key_of, content_at}
use Rattle.ds_cell.specs.Content.{Content}
use Rattle.ds_cell.specs.Store.{Asker, Live, Mode, Store, StoreTxn}
use Rattle.ds_rule.specs.Asking.{Asking}
use Rattle.ds_rule.specs.Journal.{Happening, Moved, Did}
use Rattle.ds_rule.specs.Keeping.{Keeps}
use Rattle.ds_rule.specs.StandsFor.{IsBefore, IsIntentOf, after_made, open_stamp}
use Rattle.ds_rule.specs.World.{World, cell_of}
use Rattle.ds_turn.specs.Course.{with_versions}
use Rattle.ds_turn.specs.KeyIs.{KeyIs}
use Rattle.ds_turn.proofs.KeyFacts.{any_stamp}
use Rattle.ds_turn.proofs.Progress.{batch_begins}
use Rattle.ds_mean.specs.Means.{CopiesStand, KeyAgrees, KeyOf, KeyStands, Means, RecordsFit}
use Rattle.ds_mean.specs.Midway.{Midway}
use Rattle.ds_mean.specs.Shows.{txn_after, writes_at}
use Rattle.ds_mean.proofs.Follows.{Follows, follows-intent, follows-records}
use Rattle.ds_mean.proofs.Agreeing.{KeyEnds, key-agrees}
use Rattle.ds_mean.proofs.Finding.{later-txn}
use Rattle.ds_mean.proofs.Stores.{intent-versions, made-cells, made-txn, store-intent, versions-intent}
use Rattle.ds_mean.proofs.Walking.{none-moved}

-- the stamp that other clients stay above while a batch is asked: the open transaction's, or else the batch's
abbrev pub level : Option StoreTxn → ℕ → ℕ
level None n = n
level (Some t) n = t.asker.stamp

pub level-low : (o : Option StoreTxn) (n : ℕ) → IsBefore o n → n ≤ level o n
level-low None n h = omega arith
level-low (Some t) n h = h

pub level-above : (o : Option StoreTxn) (n floor : ℕ) → n ≤ floor → open_stamp o ≤ floor → level o n ≤ floor
level-above None n floor low open_low = low
level-above (Some t) n floor low open_low = open_low

-- ---- it begins

-- where what the two hold is the same
pub midway-begins : (q : Asking) (o : Option StoreTxn) (w : World) (p : Store) → Follows p.txn o → Means w p → ((k : List ℕ) → KeyIs (level p.txn q.head.at.0) (cell_of w k) (content_at k p.cells)) → Midway (level p.txn q.head.at.0) q (λ k. []) (λ k. []) o w p
midway-begins q o w p f m same = record {
  keeps = m.keeps;
  partway = batch_begins (level p.txn q.head.at.0) q (cell_of w) p.cells m.rising same;
  intents = λ k. follows-intent p.txn o (cell_of w k) f (m.keys k).intent;
  records = follows-records p.txn o p.begun w.records f m.records;
  copies = m.copies;
}

-- so it is where none is open, and beside one whose batches are answered
pub alike-none : (o : Option StoreTxn) (n : ℕ) (c d : Content) → o ≡ None → KeyStands o c d → KeyIs (level o n) c d
alike-none None n c d none h = any_stamp 0 n c d h.same h.intent
alike-none (Some t) n c d none h = cc

live-same : (m : Mode) (s : ℕ) (c d : Content) → m ≡ Live → KeyAgrees m s c d → KeyIs s c d
live-same m s c d live h = subst (λ z. KeyAgrees z s c d) live h

pub alike-live : (o : Option StoreTxn) (t : StoreTxn) (n : ℕ) (c d : Content) → o ≡ Some t → t.mode ≡ Live → KeyStands o c d → KeyIs (level o n) c d
alike-live None t n c d is live h = cc
alike-live (Some u) t n c d is live h = let same : u ≡ t = cc in live-same u.mode u.asker.stamp c d (ap (λ (z : StoreTxn). z.mode) same ∙ live) h.same

-- ---- it ends

pub after-none : (hs : List Happening) → txn_after hs None ≡ None
after-none [] = refl
after-none (Moved e ∷ hs) = ap (txn_after hs) (none-moved e) ∙ after-none hs
after-none (Did s ∷ hs) = after-none hs

none-clear : (o : Option StoreTxn) (c : Content) → o ≡ None → IsIntentOf o c → c.history ≡ []
none-clear None c h intent = intent
none-clear (Some t) c h intent = cc

pub key-given : (o : Option StoreTxn) (n : ℕ) (c d : Content) → KeyIs (level o n) c d → KeyEnds o n c d
key-given None n c d k = k
key-given (Some t) n c d k = key-agrees t.mode t.asker.stamp c d k

key-ends : (o : Option StoreTxn) (n : ℕ) (hs : List Happening) (c d : Content) → KeyEnds o n c d → IsIntentOf (txn_after hs o) c → KeyOf (txn_after hs o) c d
key-ends None n hs c d same intent = subst (λ o. KeyOf o c d) (sym (after-none hs)) (any_stamp n 0 c d same (none-clear (txn_after hs None) c (after-none hs) intent))
key-ends (Some t) n hs c d same intent =
    let l = later-txn hs t in
    subst (λ o. KeyOf o c d) (sym l.is) (subst (λ m. KeyAgrees m l.now.asker.stamp c d) (sym l.mode) (subst (λ (k : Asker). KeyAgrees t.mode k.stamp c d) (sym l.asker) same))

-- the store does what the batch did, and then what happened beside it
pub means-after : (hs : List Happening) (n : ℕ) (v : World) (next : Store) → Ascends key_of next.cells → ((k : List ℕ) → KeyEnds next.txn n (cell_of v k) (with_versions (writes_at k hs) (content_at k next.cells)))
    → ((k : List ℕ) → IsIntentOf (txn_after hs next.txn) (cell_of v k)) → ((k : List ℕ) → IsIntentOf (txn_after hs next.txn) (content_at k next.cells)) → RecordsFit (txn_after hs next.txn) next.begun v.records → Keeps v → CopiesStand v.copies
    → Means v (after_made hs next)
means-after hs n v next asc keys intents intents_too records keeps copies =
    let cells = made-cells hs next asc in
    let txn = made-txn hs next in
    record {
      keeps = keeps;
      rising = cells.0;
      keys = λ k.
          subst (λ o. KeyStands o (cell_of v k) (content_at k (after_made hs next).cells)) (sym txn.0)
          (record {
            same = subst (KeyOf (txn_after hs next.txn) (cell_of v k)) (sym (cells.1 k)) (key-ends next.txn n hs (cell_of v k) (with_versions (writes_at k hs) (content_at k next.cells)) (keys k) (intents k));
            intent = intents k;
            intent_too = subst (IsIntentOf (txn_after hs next.txn)) (sym (cells.1 k)) (versions-intent (txn_after hs next.txn) (writes_at k hs) (content_at k next.cells) (intents_too k));
          });
      records = subst (λ o. RecordsFit o (after_made hs next).begun v.records) (sym txn.0) (subst (λ m. RecordsFit (txn_after hs next.txn) m v.records) (sym txn.1) records);
      copies = copies;
    }

-- where both hold the same but for the writes beside
pub means-same : (hs : List Happening) (n : ℕ) (v : World) (next : Store) → Ascends key_of next.cells → ((k : List ℕ) → KeyIs (level next.txn n) (cell_of v k) (with_versions (writes_at k hs) (content_at k next.cells)))
    → ((k : List ℕ) → IsIntentOf (txn_after hs next.txn) (cell_of v k)) → RecordsFit (txn_after hs next.txn) next.begun v.records → Keeps v → CopiesStand v.copies
    → Means v (after_made hs next)
means-same hs n v next asc keys intents records keeps copies =
    means-after hs n v next asc (λ k. key-given next.txn n (cell_of v k) (with_versions (writes_at k hs) (content_at k next.cells)) (keys k)) intents
    (λ k.
    intent-versions (txn_after hs next.txn) (writes_at k hs) (content_at k next.cells)
    (store-intent (level next.txn n) (txn_after hs next.txn) (cell_of v k) (with_versions (writes_at k hs) (content_at k next.cells)) (keys k) (intents k)))
    records keeps copies
