-- The world means its store at first, after each event, and where a transaction begins or ends.
use Rattle.std.proofs.Common.{◌≡◌, ℕ, ◌+◌, cond, List, [], ◌∷◌, ◌++◌, map, Option, Some, None, ◌⊎◌, inl, inr, refl, sym, ap, ◌∙◌, subst, arith, fold, eq-eqb}
use Rattle.std.proofs.lemmas.List.{append-nil}
use Rattle.ds_base.specs.declared.value.Stamp.{Stamp}
use Rattle.ds_kind.specs.declared.reply.TxnStatus.TheVariants as Says
use Rattle.ds_cell.specs.Ask.{content_at}
use Rattle.ds_cell.specs.declared.entry.Written.{Written}
use Rattle.ds_cell.specs.Change.{made, settled, settled_by}
use Rattle.ds_cell.specs.Content.{AllAbove, Content, Rises, no_content, stamp_of}
use Rattle.ds_cell.specs.Seen.{last_of}
use Rattle.ds_cell.specs.Store.{Store, StoreTxn, Mode, Live, FailedSince, Unknown, OverWith, Fate, Pending, Committed, Aborted}
use Rattle.ds_law.proofs.Lifetime.{above-one, content-settled, contents-settled, no-contents, rises-one, up-to-one}
use Rattle.ds_world.proofs.Settled.{ascends-settled, keeps-settled}
use Rattle.ds_law.proofs.Standing.{above-with_last, rises-last, up-to-last}
use Rattle.ds_rule.specs.declared.record.RecordStatus.{RecordStatus}
use Rattle.ds_rule.specs.declared.record.RecordStatus.TheVariants as Status
use Rattle.ds_rule.specs.declared.record.TxnRecord.{TxnRecord}
use Rattle.ds_rule.specs.Close.{closed, commit_of, said_status, status_of_last, new_record, settle_by, settle_cells, settle_range, with_begin}
use Rattle.ds_rule.specs.Journal.{Moved}
use Rattle.ds_rule.specs.Moves.{moved}
use Rattle.ds_rule.specs.Plain.{after_event}
use Rattle.ds_rule.specs.StandsFor.{IsIntentOf, IsKnown, open_stamp, status_for}
use Rattle.ds_rule.specs.World.{World, cell_of, contents}
use Rattle.ds_turn.specs.Course.{with_versions}
use Rattle.ds_turn.specs.KeyIs.{KeyIs}
use Rattle.ds_turn.specs.Settling.{CommitsBy, after_foreigns}
use Rattle.ds_turn.proofs.KeyFacts.{any_stamp}
use Rattle.ds_cell.proofs.RisingFacts.{rises_fold}
use Rattle.ds_rule.proofs.Lasts.{none-last}
use Rattle.ds_turn.proofs.Settled.{held-none, settles_alike}
use Rattle.ds_world.proofs.First.{first-keeps}
use Rattle.ds_world.proofs.Newest.{last-append}
use Rattle.ds_world.proofs.Stretches.{keeps-same}
use Rattle.ds_mean.specs.Laws.{BeginMeans, CloseMeans, FirstMeans, MovesMean, commit_by, said_by}
use Rattle.ds_mean.specs.Means.{Means, FitsFailed, FitsLive, HasOpenRecord, IsUncommitted, KeyAgrees, KeyOf, KeyStands, OpenRecord, RecordsFit, SameVersions, StatusFits}
use Rattle.ds_mean.specs.Shows.{txn_by, writes_by}
use Rattle.ds_mean.proofs.Agreeing.{key-agrees, of-foreigns, of-moved}
use Rattle.ds_mean.proofs.Ends.{alike-none, level}
use Rattle.ds_mean.proofs.Events.{event-shows}
use Rattle.ds_mean.proofs.Records.{records-moved}
use Rattle.ds_mean.proofs.Settling.{settled-clear-of}
use Rattle.ds_mean.proofs.Stores.{event-above, event-intent, event-txn, foreigns-intent, made-cells, versions-intent}

-- ---- events

pub moves_mean : MovesMean
moves_mean w p e floor above low m =
    let shows = event-shows w e floor above m.keeps m.copies in
    let cells = made-cells (Moved e ∷ []) p m.rising in
    let txn = event-txn e p in
    let there : (k : List ℕ) → content_at k (after_event e p).cells ≡ with_versions (writes_by k e) (content_at k p.cells) =
    λ k. cells.1 k ∙ ap (λ us. with_versions us (content_at k p.cells)) (append-nil (writes_by k e))
    in
    record {
      keeps = shows.keeps;
      rising = cells.0;
      keys = λ k.
          subst (λ o. KeyStands o (cell_of (moved w e) k) (content_at k (after_event e p).cells)) (sym txn.0)
          (record {
            same =
                subst (KeyOf (txn_by e p.txn) (cell_of (moved w e) k)) (sym (there k))
                (subst (λ c. KeyOf (txn_by e p.txn) c (with_versions (writes_by k e) (content_at k p.cells))) (sym (shows.cells k))
                (of-moved e p.txn (after_foreigns (writes_by k e) (cell_of w k)) (with_versions (writes_by k e) (content_at k p.cells))
                (of-foreigns p.txn (writes_by k e) (cell_of w k) (content_at k p.cells) (event-above (open_stamp p.txn) floor e k above low) (m.keys k).same)));
            intent = subst (IsIntentOf (txn_by e p.txn)) (sym (shows.cells k)) (event-intent e p.txn (after_foreigns (writes_by k e) (cell_of w k)) (foreigns-intent p.txn (writes_by k e) (cell_of w k) (m.keys k).intent));
            intent_too = subst (IsIntentOf (txn_by e p.txn)) (sym (there k)) (versions-intent (txn_by e p.txn) (writes_by k e) (content_at k p.cells) (event-intent e p.txn (content_at k p.cells) (m.keys k).intent_too));
          });
      records =
          subst (λ o. RecordsFit o (after_event e p).begun (moved w e).records) (sym txn.0)
          (subst (λ n. RecordsFit (txn_by e p.txn) n (moved w e).records) (sym txn.1)
          (subst (RecordsFit (txn_by e p.txn) p.begun) (sym shows.records) (records-moved e p.txn p.begun w.records m.records)));
      copies = shows.copies ∙ m.copies;
    }

-- ---- at first

nothing-stands : KeyStands None no_content no_content
nothing-stands = record {
  same = record { rises = tt; versions = refl; none_waits = refl; history = refl; whose = inl refl; waits = λ h. refl; above = tt };
  intent = refl;
  intent_too = refl;
}

pub first_means : FirstMeans
first_means rs t leased = record {
  keeps = first-keeps rs t leased;
  rising = tt;
  keys = λ k. subst (λ cs. KeyStands None (content_at k cs) no_content) (sym (no-contents 1 rs)) nothing-stands;
  records = record { recorded = tt; numbers = tt; named = tt; given = tt };
  copies = refl;
}

-- ---- a transaction begins

begin-record : (t : StoreTxn) (rs : List TxnRecord) → t.fate ≡ Pending → t.mode ≡ Live → OpenRecord t (rs ++ new_record t.asker ∷ [])
begin-record t rs pending live = record {
  its = new_record t.asker;
  last = last-append rs (new_record t.asker);
  number = refl;
  stamp = refl;
  status = subst (λ m. StatusFits m t.fate Status.Pending) (sym live) (subst (λ f. FitsLive f Status.Pending) (sym pending) refl);
}

none-clear : (o : Option StoreTxn) (c : Content) → o ≡ None → IsIntentOf o c → c.history ≡ []
none-clear None c h intent = intent
none-clear (Some t) c h intent = cc

pub begin_means : BeginMeans
begin_means w p t none pending live next m = record {
  keeps = keeps-same w (with_begin t.asker w) refl refl m.keeps;
  rising = m.rising;
  keys = λ k.
      let clear = none-clear p.txn (cell_of w k) none (m.keys k).intent in
      let same : KeyIs (level p.txn 0) (cell_of w k) (content_at k p.cells) = alike-none p.txn 0 (cell_of w k) (content_at k p.cells) none (m.keys k) in
      record {
        same = key-agrees t.mode t.asker.stamp (cell_of w k) (content_at k p.cells) (any_stamp (level p.txn 0) t.asker.stamp (cell_of w k) (content_at k p.cells) same clear);
        intent = inl clear;
        intent_too = inl (same.history ∙ clear);
      };
  records = record {
    recorded = begin-record t w.records pending live;
    numbers = rises-one p.begun w.records (new_record t.asker) m.records.numbers m.records.given (omega (arith, next));
    named = above-one 0 w.records (new_record t.asker) m.records.named (omega (arith, next));
    given = up-to-one p.begun (p.begun + 1) w.records (new_record t.asker) (omega arith) m.records.given (omega (arith, next));
  };
  copies = m.copies;
}

-- ---- a transaction ends

commit-of : (s : Stamp) (n : ℕ) → s.0 ≡ n → commit_of Status.Committed s ≡ Some (record { 0 = n })
commit-of s n e = ap (λ (m : ℕ). Some (record { 0 = m })) e

uncommitted-drops : (s : RecordStatus) (at : Stamp) → IsUncommitted s → commit_of s at ≡ None
uncommitted-drops Status.Pending at h = refl
uncommitted-drops Status.Committed at h = absurd h
uncommitted-drops Status.Aborted at h = refl
uncommitted-drops (Status.Staging fs) at h = refl

live-commit : (f : Fate) (s : RecordStatus) (at : Stamp) (n : ℕ) → FitsLive f s → commit_of s at ≡ commit_by f n
live-commit Pending s at n h = ap (λ z. commit_of z at) h
live-commit Committed s at n h = absurd h
live-commit Aborted s at n h = ap (λ z. commit_of z at) h

failed-commit : (f : Fate) (s : RecordStatus) (at : Stamp) (n : ℕ) → FitsFailed f s → commit_of s at ≡ commit_by f n
failed-commit Pending s at n h = uncommitted-drops s at h
failed-commit Committed s at n h = absurd h
failed-commit Aborted s at n h = ap (λ z. commit_of z at) h

over-commit : (f : Fate) (at : Stamp) (n : ℕ) → at.0 ≡ n → commit_of (status_for f) at ≡ commit_by f n
over-commit Pending at n e = refl
over-commit Committed at n e = commit-of at n e
over-commit Aborted at n e = refl

commits : (m : Mode) (f : Fate) (s : RecordStatus) (at : Stamp) (n : ℕ) → IsKnown m → at.0 ≡ n → StatusFits m f s → commit_of s at ≡ commit_by f n
commits Live f s at n known e fits = live-commit f s at n fits
commits (FailedSince k) f s at n known e fits = failed-commit f s at n fits
commits (Unknown ws) f s at n known e fits = absurd known
commits (OverWith t) f s at n known e fits = ap (λ z. commit_of z at) fits ∙ over-commit f at n e

commits-by : (f : Fate) (n : ℕ) → CommitsBy n (commit_by f n)
commits-by Pending n = tt
commits-by Committed n = omega arith
commits-by Aborted n = tt

-- an intent of this transaction, if there is one
abbrev Of : ℕ → ℕ → Content → Type 0
Of n epoch c = (c.history ≡ []) ⊎ ((c.owner ≡ n) × (c.epoch ≡ epoch))

-- what is dropped leaves the versions and what waited
record Dropped (c e : Content) : Type 0 where
  versions : e.versions ≡ fold made c.versions c.waiting
  waiting : e.waiting ≡ []

dropped-clear : (c : Content) → c.history ≡ [] → (c.history ≡ [] → c.waiting ≡ []) → Dropped c c
dropped-clear c none waits = record { versions = sym (ap (fold made c.versions) (waits none)); waiting = waits none }

dropped-by : (o : Option Written) (c : Content) → last_of c.history ≡ o → (c.history ≡ [] → c.waiting ≡ []) → Dropped c (settled_by None o c)
dropped-by None c is waits = dropped-clear c (none-last c.history is) waits
dropped-by (Some w) c is waits = record { versions = refl; waiting = refl }

dropped : (n epoch : ℕ) (c : Content) → Of n epoch c → (c.history ≡ [] → c.waiting ≡ []) → Dropped c (settled n None c)
dropped n epoch c (inl none) waits = subst (Dropped c) (sym (ap (λ h. settled_by None (last_of h) c) (held-none n c none))) (dropped-clear c none waits)
dropped n epoch c (inr own) waits =
    subst (Dropped c) (sym (ap (λ b. settled_by None (last_of (cond b c.history [])) c) (eq-eqb c.owner n own.0))) (dropped-by (last_of c.history) c refl waits)

drops-alike : (s n epoch : ℕ) (c d : Content) → Of n epoch c → Of n epoch d → SameVersions s c d → KeyIs 0 (settled n None c) (settled n None d)
drops-alike s n epoch c d of of_too same =
    let x = dropped n epoch c of same.waits in
    let y = dropped n epoch d of_too (λ h. same.none_waits) in
    let clear = settled-clear-of n None epoch c of in
    let clear_too = settled-clear-of n None epoch d of_too in
    record {
      rises = subst (Rises stamp_of) (sym x.versions) (rises_fold c.versions c.waiting same.rises);
      versions = y.versions ∙ ap (fold made d.versions) same.none_waits ∙ same.versions ∙ sym x.versions ∙ sym (ap (fold made (settled n None c).versions) x.waiting);
      none_waits = y.waiting;
      history = clear_too ∙ sym clear;
      whose = inl clear;
      waits = λ h. x.waiting;
      above = subst (AllAbove stamp_of 0) (sym x.waiting) tt;
    }

failed-drops : (f : Fate) (s : RecordStatus) (n : ℕ) → FitsFailed f s → commit_by f n ≡ None
failed-drops Pending s n h = refl
failed-drops Committed s n h = absurd h
failed-drops Aborted s n h = refl

settles-both : (f : Fate) (n epoch stamp : ℕ) (c d : Content) → Of n epoch c → KeyIs stamp c d → KeyIs 0 (settled n (commit_by f stamp) c) (settled n (commit_by f stamp) d)
settles-both f n epoch stamp c d of same =
    any_stamp stamp 0 (settled n (commit_by f stamp) c) (settled n (commit_by f stamp) d) (settles_alike stamp n (commit_by f stamp) c d same (commits-by f stamp)) (settled-clear-of n (commit_by f stamp) epoch c of)

close-same : (m : Mode) (f : Fate) (s : RecordStatus) (n epoch stamp : ℕ) (c d : Content) → IsKnown m → StatusFits m f s → Of n epoch c → Of n epoch d → KeyAgrees m stamp c d
    → KeyIs 0 (settled n (commit_by f stamp) c) (settled n (commit_by f stamp) d)
close-same Live f s n epoch stamp c d known fits of of_too same = settles-both f n epoch stamp c d of same
close-same (FailedSince i) f s n epoch stamp c d known fits of of_too same =
    subst (λ o. KeyIs 0 (settled n o c) (settled n o d)) (sym (failed-drops f s stamp fits)) (drops-alike stamp n epoch c d of of_too same)
close-same (Unknown ws) f s n epoch stamp c d known fits of of_too same = absurd known
close-same (OverWith t) f s n epoch stamp c d known fits of of_too same = settles-both f n epoch stamp c d of same

uncommitted-says : (s : RecordStatus) → IsUncommitted s → said_status s ≡ Says.Aborted
uncommitted-says Status.Pending h = refl
uncommitted-says Status.Committed h = absurd h
uncommitted-says Status.Aborted h = refl
uncommitted-says (Status.Staging fs) h = refl

live-says : (f : Fate) (s : RecordStatus) → FitsLive f s → said_status s ≡ said_by f
live-says Pending s h = ap said_status h
live-says Committed s h = absurd h
live-says Aborted s h = ap said_status h

failed-says : (f : Fate) (s : RecordStatus) → FitsFailed f s → said_status s ≡ said_by f
failed-says Pending s h = uncommitted-says s h
failed-says Committed s h = absurd h
failed-says Aborted s h = ap said_status h

over-says : (f : Fate) → said_status (status_for f) ≡ said_by f
over-says Pending = refl
over-says Committed = refl
over-says Aborted = refl

says : (m : Mode) (f : Fate) (s : RecordStatus) → IsKnown m → StatusFits m f s → said_status s ≡ said_by f
says Live f s known fits = live-says f s fits
says (FailedSince n) f s known fits = failed-says f s fits
says (Unknown ws) f s known fits = absurd known
says (OverWith t) f s known fits = ap said_status fits ∙ over-says f

close-world : (w : World) (p : Store) (t : StoreTxn) → p.txn ≡ Some t → IsKnown t.mode → Means w p → Means (closed w) (record p { cells = settle_cells t.asker.number (commit_by t.fate t.asker.stamp) p.cells; txn = None })
close-world w p t is known m =
    let r : OpenRecord t w.records = subst (λ o. HasOpenRecord o w.records) is m.records.recorded in
    let n = t.asker.number in
    let c = commit_by t.fate t.asker.stamp in
    let ranges : settle_by (last_of w.records) w.ranges ≡ map (settle_range n c) w.ranges =
    ap (λ o. settle_by o w.ranges) r.last ∙ ap (λ z. map (settle_range z (commit_of r.its.status r.its.stamp)) w.ranges) r.number
    ∙ ap (λ z. map (settle_range n z) w.ranges) (commits t.mode t.fate r.its.status r.its.stamp t.asker.stamp known r.stamp r.status)
    in
    let world-at : (k : List ℕ) → cell_of (closed w) k ≡ settled n c (cell_of w k) =
    λ k. ap (λ rs. content_at k (contents rs)) ranges ∙ ap (content_at k) (contents-settled n c w.ranges) ∙ content-settled n c k (contents w.ranges)
    in
    let at : (k : List ℕ) → KeyStands (Some t) (cell_of w k) (content_at k p.cells) = λ k. subst (λ o. KeyStands o (cell_of w k) (content_at k p.cells)) is (m.keys k) in
    record {
      keeps = keeps-same (record w { ranges = map (settle_range n c) w.ranges }) (closed w) ranges refl (keeps-settled n c w m.keeps);
      rising = ascends-settled n c p.cells m.rising;
      keys = λ k.
          record {
            same =
                subst (λ z. KeyIs 0 z (content_at k (settle_cells n c p.cells))) (sym (world-at k))
                (subst (KeyIs 0 (settled n c (cell_of w k))) (sym (content-settled n c k p.cells))
                (close-same t.mode t.fate r.its.status n t.asker.epoch t.asker.stamp (cell_of w k) (content_at k p.cells) known r.status (at k).intent (at k).intent_too (at k).same));
            intent = ap (λ (z : Content). z.history) (world-at k) ∙ settled-clear-of n c t.asker.epoch (cell_of w k) (at k).intent;
            intent_too = ap (λ (z : Content). z.history) (content-settled n c k p.cells) ∙ settled-clear-of n c t.asker.epoch (content_at k p.cells) (at k).intent_too;
          };
      records = record {
        recorded = tt;
        numbers = rises-last w.records m.records.numbers;
        named = above-with_last 0 w.records m.records.named;
        given = up-to-last p.begun w.records m.records.given;
      };
      copies = m.copies;
    }

pub close_means : CloseMeans
close_means w p t is known m =
    let r : OpenRecord t w.records = subst (λ o. HasOpenRecord o w.records) is m.records.recorded in
    (close-world w p t is known m, ap status_of_last r.last ∙ says t.mode t.fate r.its.status known r.status)
