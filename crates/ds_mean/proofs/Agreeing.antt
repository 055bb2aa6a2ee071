-- What the world and the store agree on at a key, by how the transaction stands.
use Rattle.std.proofs.Common.{◌≡◌, ℕ, ◌<◌, List, [], ◌∷◌, Option, Some, None, refl, sym, ap, ◌∙◌, fold}
use Rattle.std.specs.Option.{option_map}
use Rattle.ds_kind.specs.declared.batch.Item.{Item}
use Rattle.ds_cell.specs.declared.entry.At.{At}
use Rattle.ds_cell.specs.declared.entry.Version.{Version}
use Rattle.ds_cell.specs.declared.entry.Written.{Written}
use Rattle.ds_cell.specs.Change.{after_foreign, foreign_by, made}
use Rattle.ds_cell.specs.Content.{Content, AllAbove, stamp_of}
use Rattle.ds_cell.specs.Seen.{last_of}
use Rattle.ds_cell.specs.Store.{StoreTxn, Mode, Live, FailedSince, Unknown, OverWith, with_version}
use Rattle.ds_cell.proofs.RisingFacts.{rises_made}
use Rattle.ds_rule.specs.declared.event.Event.{Event}
use Rattle.ds_rule.specs.Plain.{abort_txn}
use Rattle.ds_rule.specs.StandsFor.{open_stamp}
use Rattle.ds_rule.specs.Turn.{after_items}
use Rattle.ds_rule.proofs.Lasts.{none-last, some-last}
use Rattle.ds_turn.specs.Course.{with_versions}
use Rattle.ds_turn.specs.KeyIs.{KeyIs}
use Rattle.ds_turn.specs.Settling.{after_foreigns}
use Rattle.ds_turn.proofs.Again.{versions_stay, waiting_stays}
use Rattle.ds_turn.proofs.KeyFacts.{above_more, fold_more}
use Rattle.ds_turn.proofs.Settled.{key_foreigns}
use Rattle.ds_mean.specs.Means.{KeyAgrees, KeyOf, SameVersions}
use Rattle.ds_mean.specs.Shows.{txn_by}

-- ---- the same versions

pub same-versions : (s : ℕ) (c d : Content) → KeyIs s c d → SameVersions s c d
same-versions s c d k = record { rises = k.rises; versions = k.versions; none_waits = k.none_waits; waits = k.waits; above = k.above }

-- also where the transaction's items acted on the store's side
pub same-without : (s : ℕ) (a : At) (acted : List Item) (vs : List Version) (c d : Content) → KeyIs s c (with_versions vs (after_items a acted d)) → SameVersions s c (with_versions vs d)
same-without s a acted vs c d k = record {
  rises = k.rises;
  versions = ap (λ us. fold made us vs) (sym (versions_stay a acted d)) ∙ k.versions;
  none_waits = sym (waiting_stays a acted d) ∙ k.none_waits;
  waits = k.waits;
  above = k.above;
}

foreign-by : (s : ℕ) (o : Option Written) (v : Version) (c d : Content) → last_of c.history ≡ o → s < stamp_of v → SameVersions s c d → SameVersions s (foreign_by o v c) (with_version v d)
foreign-by s None v c d is high k =
    let none : c.waiting ≡ [] = k.waits (none-last c.history is) in
    record {
      rises = rises_made c.versions v k.rises;
      versions = ap (λ us. made us v) (k.versions ∙ ap (fold made c.versions) none) ∙ sym (ap (fold made (made c.versions v)) none);
      none_waits = k.none_waits;
      waits = k.waits;
      above = k.above;
    }
foreign-by s (Some w) v c d is high k = record {
  rises = k.rises;
  versions = ap (λ us. made us v) k.versions ∙ sym (fold_more c.versions c.waiting v);
  none_waits = k.none_waits;
  waits = λ e. absurd (some-last c.history w is e);
  above = above_more s c.waiting v k.above high;
}

pub same-foreigns : (s : ℕ) (vs : List Version) (c d : Content) → AllAbove stamp_of s vs → SameVersions s c d → SameVersions s (after_foreigns vs c) (with_versions vs d)
same-foreigns s [] c d all k = k
same-foreigns s (v ∷ vs) c d all k = same-foreigns s vs (after_foreign v c) (with_version v d) all.1 (foreign-by s (last_of c.history) v c d refl all.0 k)

-- ---- by mode

pub key-agrees : (m : Mode) (s : ℕ) (c d : Content) → KeyIs s c d → KeyAgrees m s c d
key-agrees Live s c d k = k
key-agrees (FailedSince n) s c d k = same-versions s c d k
key-agrees (Unknown ws) s c d k = same-versions s c d k
key-agrees (OverWith t) s c d k = k

agree-versions : (m : Mode) (s : ℕ) (c d : Content) → KeyAgrees m s c d → SameVersions s c d
agree-versions Live s c d k = same-versions s c d k
agree-versions (FailedSince n) s c d k = k
agree-versions (Unknown ws) s c d k = k
agree-versions (OverWith t) s c d k = same-versions s c d k

pub of-versions : (o : Option StoreTxn) (c d : Content) → KeyOf o c d → SameVersions (open_stamp o) c d
of-versions None c d k = same-versions 0 c d k
of-versions (Some t) c d k = agree-versions t.mode t.asker.stamp c d k

agree-foreigns : (m : Mode) (s : ℕ) (vs : List Version) (c d : Content) → AllAbove stamp_of s vs → KeyAgrees m s c d → KeyAgrees m s (after_foreigns vs c) (with_versions vs d)
agree-foreigns Live s vs c d all k = key_foreigns s vs c d all k
agree-foreigns (FailedSince n) s vs c d all k = same-foreigns s vs c d all k
agree-foreigns (Unknown ws) s vs c d all k = same-foreigns s vs c d all k
agree-foreigns (OverWith t) s vs c d all k = key_foreigns s vs c d all k

pub of-foreigns : (o : Option StoreTxn) (vs : List Version) (c d : Content) → AllAbove stamp_of (open_stamp o) vs → KeyOf o c d → KeyOf o (after_foreigns vs c) (with_versions vs d)
of-foreigns None vs c d all k = key_foreigns 0 vs c d all k
of-foreigns (Some t) vs c d all k = agree-foreigns t.mode t.asker.stamp vs c d all k

of-abort : (o : Option StoreTxn) (c d : Content) → KeyOf o c d → KeyOf (option_map abort_txn o) c d
of-abort None c d k = k
of-abort (Some t) c d k = k

pub of-moved : (e : Event) (o : Option StoreTxn) (c d : Content) → KeyOf o c d → KeyOf (txn_by e o) c d
of-moved (Event.Write k s v) o c d h = h
of-moved Event.Abort o c d h = of-abort o c d h
of-moved (Event.Split k) o c d h = h
of-moved (Event.Merge k) o c d h = h
of-moved (Event.Lease k n) o c d h = h
of-moved (Event.Move k ns) o c d h = h
of-moved (Event.Stale k b) o c d h = h
of-moved (Event.Arrive n) o c d h = h
of-moved (Event.LoseRequest n) o c d h = h
of-moved (Event.LoseReply n) o c d h = h
of-moved (Event.Copy n) o c d h = h
of-moved (Event.Restart t) o c d h = h

-- ---- at the end of a batch

-- as it is with this transaction, or at the stamp n where none is open
abbrev pub KeyEnds : Option StoreTxn → ℕ → Content → Content → Type 0
KeyEnds None n c d = KeyIs n c d
KeyEnds (Some t) n c d = KeyAgrees t.mode t.asker.stamp c d
