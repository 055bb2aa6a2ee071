-- A batch that isn't sent is counted, and the world means the store as before.
use Rattle.std.proofs.Common.{◌≡◌, Bool, true, false, cond, List, [], Option, Some, None, inl, inr, refl, sym, subst}
use Rattle.std.proofs.lemmas.List.{append-nil}
use Rattle.ds_base.specs.declared.value.Stamp.{Stamp}
use Rattle.ds_kind.specs.declared.batch.Batch.{Batch}
use Rattle.ds_kind.specs.declared.reply.TxnStatus.TheVariants as Says
use Rattle.ds_kind.specs.declared.request.Request.{Request}
use Rattle.ds_cell.specs.Ask.{content_at}
use Rattle.ds_cell.specs.Content.{Content}
use Rattle.ds_cell.specs.Store.{Store, StoreTxn, Mode, Live, FailedSince, Unknown, OverWith}
use Rattle.ds_rule.specs.declared.answer.Outcome.{Outcome}
use Rattle.ds_rule.specs.Admitting.{refused_by, refused_in}
use Rattle.ds_rule.specs.Deliver.{is_rollback}
use Rattle.ds_rule.specs.Plain.{Answered, counted_store, counted_txn, if_of_txn}
use Rattle.ds_rule.specs.World.{World, cell_of}
use Rattle.ds_mean.specs.Means.{KeyAgrees, KeyOf, Means}
use Rattle.ds_mean.specs.Send.{IsUnsent, UnsentLaw}
use Rattle.ds_mean.proofs.Follows.{FollowsTxn, follows-counted, follows-intent, follows-records}

-- ---- the store is counted

key-counted : (at : Option Stamp) (b : Batch) (o : Outcome) (t : Option StoreTxn) (c d : Content) → KeyOf t c d → KeyOf (if_of_txn at (counted_txn b o) t) c d
key-counted (Some s) b o t c d h = h
key-counted None b o None c d h = h
key-counted None b o (Some t) c d h = let f : FollowsTxn t (counted_txn b o t) = follows-counted None b o (Some t) in subst (λ s. KeyAgrees t.mode s c d) (sym f.stamp) h

means-counted : (w : World) (p : Store) (b : Batch) (o : Outcome) → Means w p → Means w (counted_store b o p)
means-counted w p b o m =
    let after : Option StoreTxn = if_of_txn b.at (counted_txn b o) p.txn in
    let f = follows-counted b.at b o p.txn in
    record {
      keeps = m.keeps;
      rising = m.rising;
      keys = λ k.
          record {
            same = key-counted b.at b o p.txn (cell_of w k) (content_at k p.cells) (m.keys k).same;
            intent = follows-intent p.txn after (cell_of w k) f (m.keys k).intent;
            intent_too = follows-intent p.txn after (content_at k p.cells) f (m.keys k).intent_too;
          };
      records = follows-records p.txn after p.begun w.records f m.records;
      copies = m.copies;
    }

-- ---- and that is its answer

abbrev IsCounted : Store → Batch → Outcome → Type 0
IsCounted p b o = Answered p b o (counted_store b o p)

given : {X : Type 0} (x y : X) → Some x ≡ Some y → x ≡ y
given x y h = cc

refused-so : (m : Mode) (rs : List Request) (p : Store) (b : Batch) (o : Outcome) → refused_in m rs ≡ Some o → IsCounted p b o
refused-so Live rs p b o h = cc
refused-so (FailedSince n) rs p b o h = by (is_rollback rs) h
  where
    by : (t : Bool) → cond t None (Some (Outcome.MustRollBack n)) ≡ Some o → IsCounted p b o
    by true h = cc
    by false h = subst (IsCounted p b) (given (Outcome.MustRollBack n) o h) refl
refused-so (Unknown ws) rs p b o h = subst (IsCounted p b) (given (Outcome.TxnOver Says.Unknown) o h) refl
refused-so (OverWith s) rs p b o h = subst (IsCounted p b) (given (Outcome.TxnOver s) o h) refl

refused-counts : (at : Option Stamp) (rs : List Request) (t : Option StoreTxn) (p : Store) (b : Batch) (o : Outcome) → refused_by at rs t ≡ Some o → IsCounted p b o
refused-counts (Some s) rs t p b o h = cc
refused-counts None rs None p b o h = cc
refused-counts None rs (Some t) p b o h = refused-so t.mode rs p b o h

unsent-counts : (p : Store) (b : Batch) (o : Outcome) → IsUnsent p b o → IsCounted p b o
unsent-counts p b o (inl broken) = subst (IsCounted p b) (sym broken.1) refl
unsent-counts p b o (inr refused) = refused-counts b.at b.requests p.txn p b o refused

pub unsent_law : UnsentLaw
unsent_law a p batch o m unsent = record {
  added = [];
  grown = sym (append-nil a.past);
  next = counted_store batch o p;
  answered = unsent-counts p batch o unsent;
  means = means-counted a.world p batch o m;
}
