-- What happens beside the sender keeps the world standing for its store.
use Rattle.std.proofs.Common.{◌≡◌, ℕ, ◌<◌, ◌≤◌, Bool, true, false, cond, List, [], ◌∷◌, ◌++◌, Option, Some, None, refl, sym, ap, ◌∙◌, subst, fold, arith}
use Rattle.std.specs.List.{find}
use Rattle.std.specs.Option.{option_or, option_map}
use Rattle.ds_base.specs.Order.{key_lt, bound}
use Rattle.ds_base.specs.Ordered.{key_eq}
use Rattle.ds_base.proofs.SmallFacts.{and_second}
use Rattle.ds_cell.specs.declared.entry.Version.{Version}
use Rattle.ds_cell.specs.declared.entry.Written.{Written}
use Rattle.ds_cell.specs.Content.{Content, AllAbove, Rises, stamp_of}
use Rattle.ds_cell.specs.Seen.{last_of}
use Rattle.ds_cell.specs.Change.{made, foreign_by, after_foreign}
use Rattle.ds_cell.specs.Ask.{content_at}
use Rattle.ds_cell.specs.Store.{Store, StoreTxn, Mode, Live, FailedSince, Unknown, OverWith, Fate, Pending, Committed, Aborted, put_cell, with_version}
use Rattle.ds_cell.proofs.LatestFacts.{last_where-cons}
use Rattle.ds_rule.specs.declared.event.Event.{Event}
use Rattle.ds_rule.specs.declared.record.TxnRecord.{TxnRecord}
use Rattle.ds_rule.specs.Keeping.{Keeps}
use Rattle.ds_rule.specs.Moves.{IsMove, counted, moved, arrived, arrived_as, is_copy}
use Rattle.ds_rule.specs.Plain.{after_event, abort_txn, aborted_by}
use Rattle.ds_rule.specs.Shifts.{foreign_at, lease_to, merge_at, move_to, split_at, stale_by}
use Rattle.ds_rule.specs.Records.{aborted, record_number, with_last, with_last_after}
use Rattle.ds_rule.specs.StandsFor.{IsAt, AllUpTo, open_stamp, IsIntentOf, HasRecord, HasRecordOf, record_for, StandsFor}
use Rattle.ds_rule.specs.World.{World, contents, cell_of}
use Rattle.ds_rule.proofs.Lasts.{none-last, some-last}
use Rattle.ds_rule.proofs.Puts.{put-at}
use Rattle.ds_rule.proofs.Routes.{contents-ascend}
use Rattle.ds_cell.specs.StoreProofs.{ascends-insert}
use Rattle.ds_world.proofs.Foreign.{foreign-contents, foreign-keeps}
use Rattle.ds_world.proofs.Shifted.{lease_holds, lease_keeps, merge_holds, merge_keeps, move_holds, move_keeps, split_holds, split_keeps, stale_keeps, stale_rest}
use Rattle.ds_world.proofs.Stretches.{keeps-same}

fold-more : (vs ws : List Version) (v : Version) → fold made vs (ws ++ v ∷ []) ≡ made (fold made vs ws) v
fold-more vs [] v = refl
fold-more vs (w ∷ ws) v = fold-more (made vs w) ws v

above-more : (n : ℕ) (vs : List Version) (v : Version) → AllAbove stamp_of n vs → n < stamp_of v → AllAbove stamp_of n (vs ++ v ∷ [])
above-more n [] v all h = (h, tt)
above-more n (w ∷ ws) v all h = (all.0, above-more n ws v all.1 h)

-- a foreign write joins the versions of the store at once; in the world it may wait
foreign-at : (stamp : ℕ) (o : Option Written) (v : Version) (c d : Content) → last_of c.history ≡ o → stamp < v.stamp.0 → IsAt stamp c d → IsAt stamp (foreign_by o v c) (with_version v d)
foreign-at stamp None v c d is high at =
    let none : c.waiting ≡ [] = at.waits (none-last c.history is) in
    record {
      versions = ap (λ vs. made vs v) (at.versions ∙ ap (fold made c.versions) none) ∙ sym (ap (fold made (made c.versions v)) none);
      none_waits = at.none_waits;
      history = at.history;
      owner = at.owner;
      epoch = at.epoch;
      waits = at.waits;
      above = at.above;
    }
foreign-at stamp (Some w) v c d is high at = record {
  versions = ap (λ vs. made vs v) at.versions ∙ sym (fold-more c.versions c.waiting v);
  none_waits = at.none_waits;
  history = at.history;
  owner = at.owner;
  epoch = at.epoch;
  waits = λ e. absurd (some-last c.history w is e);
  above = above-more stamp c.waiting v at.above high;
}

at-put : (stamp : ℕ) (v : Version) (t : Bool) (c c' d d' : Content) → stamp < v.stamp.0 → IsAt stamp c d → IsAt stamp c' d' → IsAt stamp (cond t (after_foreign v c) c') (cond t (with_version v d) d')
at-put stamp v true c c' d d' high at at' = foreign-at stamp (last_of c.history) v c d refl high at
at-put stamp v false c c' d d' high at at' = at'

intent-by : (o : Option StoreTxn) (w : Option Written) (v : Version) (c : Content) → IsIntentOf o c → IsIntentOf o (foreign_by w v c)
intent-by None None v c h = h
intent-by None (Some w) v c h = h
intent-by (Some t) None v c h = h
intent-by (Some t) (Some w) v c h = h

intent-put : (o : Option StoreTxn) (v : Version) (t : Bool) (c c' : Content) → IsIntentOf o c → IsIntentOf o c' → IsIntentOf o (cond t (after_foreign v c) c')
intent-put o v true c c' h h' = intent-by o (last_of c.history) v c h
intent-put o v false c c' h h' = h'

-- the world after one key of it was written by another client, beside the store with that version
pub stands-write : (w : World) (p : Store) (k : List ℕ) (v : Version) → key_lt k bound ≡ true → open_stamp p.txn < v.stamp.0 → StandsFor w p → StandsFor (counted (foreign_at k v w)) (record p { cells = put_cell k (with_version v) p.cells })
stands-write w p k v key high st =
    let all = foreign-contents k v w st.keeps key in
    record {
      keeps = keeps-same (foreign_at k v w) (counted (foreign_at k v w)) refl refl (foreign-keeps k v w st.keeps);
      rising = ascends-insert k _ p.cells st.rising;
      same = λ q.
          subst (λ c. IsAt (open_stamp p.txn) c (content_at q (put_cell k (with_version v) p.cells))) (sym (world-at all q))
          (subst (IsAt (open_stamp p.txn) _) (sym (put-at k q (with_version v) p.cells st.rising))
          (at-put (open_stamp p.txn) v (key_eq k q) (cell_of w k) (cell_of w q) (content_at k p.cells) (content_at q p.cells) high (st.same k) (st.same q)));
      intents = λ q. subst (IsIntentOf p.txn) (sym (world-at all q)) (intent-put p.txn v (key_eq k q) (cell_of w k) (cell_of w q) (st.intents k) (st.intents q));
      recorded = st.recorded;
      numbers = st.numbers;
      named = st.named;
      begun = st.begun;
      copies = st.copies;
    }
  where
    world-at : contents (foreign_at k v w).ranges ≡ put_cell k (after_foreign v) (contents w.ranges) → (q : List ℕ) → content_at q (contents (foreign_at k v w).ranges) ≡ cond (key_eq k q) (after_foreign v (cell_of w k)) (cell_of w q)
    world-at all q = ap (content_at q) all ∙ put-at k q (after_foreign v) (contents w.ranges) (contents-ascend [] w.ranges st.keeps.tiled)

-- an abort ends the record, and the store knows it

last-after : (f : TxnRecord → TxnRecord) (t x : TxnRecord) (ts : List TxnRecord) → last_of (t ∷ ts) ≡ Some x → last_of (with_last_after f t ts) ≡ Some (f x)
last-after f t x [] h = let same : t ≡ x = cc in ap (λ z. Some (f z)) same
last-after f t x (u ∷ us) h =
    last_where-cons (λ _. true) t (with_last_after f u us)
    ∙ ap (λ o. option_or o (Some t)) (last-after f u x us (later (last_of (u ∷ us)) refl))
  where
    later : (o : Option TxnRecord) → last_of (u ∷ us) ≡ o → last_of (u ∷ us) ≡ Some x
    later None e = absurd (never (none-last (u ∷ us) e))
      where
        never : u ∷ us ≡ [] → ⊥
        never h = cc
    later (Some y) e = e ∙ (let same : y ≡ x = unsome (sym (ap (λ o. option_or o (Some t)) e) ∙ sym (last_where-cons (λ _. true) t (u ∷ us)) ∙ h) in ap Some same)
      where
        unsome : Some y ≡ Some x → y ≡ x
        unsome h = cc

pub with_last-last : (f : TxnRecord → TxnRecord) (x : TxnRecord) (ts : List TxnRecord) → last_of ts ≡ Some x → last_of (with_last f ts) ≡ Some (f x)
with_last-last f x [] h = cc
with_last-last f x (t ∷ ts) h = last-after f t x ts h

abort-status : (t : StoreTxn) (f : Fate) → aborted (record_for (record t { fate = f })) ≡ record_for (record t { fate = aborted_by f Live })
abort-status t Pending = refl
abort-status t Committed = refl
abort-status t Aborted = refl

abort-recorded : (t : StoreTxn) (m : Mode) (rs : List TxnRecord) → HasRecord m t rs → HasRecord m (record t { fate = aborted_by t.fate m }) (with_last aborted rs)
abort-recorded t Live rs h = with_last-last aborted (record_for t) rs h ∙ ap Some (abort-status t t.fate)
abort-recorded t (FailedSince n) rs h = with_last-last aborted (record_for t) rs h ∙ ap Some (known t.fate)
  where
    known : (f : Fate) → aborted (record_for (record t { fate = f })) ≡ record_for (record t { fate = aborted_by f (FailedSince n) })
    known Pending = refl
    known Committed = refl
    known Aborted = refl
abort-recorded t (Unknown ws) rs h = tt
abort-recorded t (OverWith s) rs h = with_last-last aborted (record_for t) rs h ∙ ap Some (known t.fate)
  where
    known : (f : Fate) → aborted (record_for (record t { fate = f })) ≡ record_for (record t { fate = aborted_by f (OverWith s) })
    known Pending = refl
    known Committed = refl
    known Aborted = refl

abort-has : (o : Option StoreTxn) (rs : List TxnRecord) → HasRecordOf o rs → HasRecordOf (option_map abort_txn o) (with_last aborted rs)
abort-has None rs h = tt
abort-has (Some t) rs h = abort-recorded t t.mode rs h

abort-stamp : (o : Option StoreTxn) → open_stamp (option_map abort_txn o) ≡ open_stamp o
abort-stamp None = refl
abort-stamp (Some t) = refl

abort-intent : (o : Option StoreTxn) (c : Content) → IsIntentOf o c → IsIntentOf (option_map abort_txn o) c
abort-intent None c h = h
abort-intent (Some t) c h = h

-- an abort changes no number

above-after : (n : ℕ) (t : TxnRecord) (ts : List TxnRecord) → n < record_number t → AllAbove record_number n ts → AllAbove record_number n (with_last_after aborted t ts)
above-after n t [] h all = (h, tt)
above-after n t (u ∷ us) h all = (h, above-after n u us all.0 all.1)

pub above-with_last : (n : ℕ) (ts : List TxnRecord) → AllAbove record_number n ts → AllAbove record_number n (with_last aborted ts)
above-with_last n [] all = tt
above-with_last n (t ∷ ts) all = above-after n t ts all.0 all.1

rises-after : (t : TxnRecord) (ts : List TxnRecord) → AllAbove record_number (record_number t) ts → Rises record_number ts → Rises record_number (with_last_after aborted t ts)
rises-after t [] all r = (tt, tt)
rises-after t (u ∷ us) all r = (above-after (record_number t) u us all.0 all.1, rises-after u us r.0 r.1)

pub rises-last : (ts : List TxnRecord) → Rises record_number ts → Rises record_number (with_last aborted ts)
rises-last [] r = tt
rises-last (t ∷ ts) r = rises-after t ts r.0 r.1

up-to-after : (n : ℕ) (t : TxnRecord) (ts : List TxnRecord) → record_number t ≤ n → AllUpTo record_number n ts → AllUpTo record_number n (with_last_after aborted t ts)
up-to-after n t [] h all = (h, tt)
up-to-after n t (u ∷ us) h all = (h, up-to-after n u us all.0 all.1)

pub up-to-last : (n : ℕ) (ts : List TxnRecord) → AllUpTo record_number n ts → AllUpTo record_number n (with_last aborted ts)
up-to-last n [] all = tt
up-to-last n (t ∷ ts) all = up-to-after n t ts all.0 all.1

stands-abort : (w : World) (p : Store) → StandsFor w p → StandsFor (moved w Event.Abort) (after_event Event.Abort p)
stands-abort w p st = record {
  keeps = keeps-same w (moved w Event.Abort) refl refl st.keeps;
  rising = st.rising;
  same = λ k. subst (λ s. IsAt s (cell_of w k) (content_at k p.cells)) (sym (abort-stamp p.txn)) (st.same k);
  intents = λ k. abort-intent p.txn (cell_of w k) (st.intents k);
  recorded = abort-has p.txn w.records st.recorded;
  numbers = rises-last w.records st.numbers;
  named = above-with_last 0 w.records st.named;
  begun = up-to-last p.begun w.records st.begun;
  copies = st.copies;
}

-- what leaves all contents, the records and the late copies
pub record Leaves (w v : World) : Type 0 where
  pub keeps : Keeps v
  pub contents : contents v.ranges ≡ contents w.ranges
  pub records : v.records ≡ w.records
  pub copies : v.copies ≡ w.copies

pub stands-left : (w v : World) (p : Store) → Leaves w v → StandsFor w p → StandsFor v p
stands-left w v p l st = record {
  keeps = l.keeps;
  rising = st.rising;
  same = λ q. subst (λ cs. IsAt (open_stamp p.txn) (content_at q cs) (content_at q p.cells)) (sym l.contents) (st.same q);
  intents = λ q. subst (λ cs. IsIntentOf p.txn (content_at q cs)) (sym l.contents) (st.intents q);
  recorded = subst (HasRecordOf p.txn) (sym l.records) st.recorded;
  numbers = subst (Rises record_number) (sym l.records) st.numbers;
  named = subst (AllAbove record_number 0) (sym l.records) st.named;
  begun = subst (AllUpTo record_number p.begun) (sym l.records) st.begun;
  copies = l.copies ∙ st.copies;
}

-- a shift of the ranges, counted
shift-leaves : (w v : World) → Keeps v → contents v.ranges ≡ contents w.ranges → v.records ≡ w.records → v.copies ≡ w.copies → Leaves w (counted v)
shift-leaves w v keeps all records copies = record { keeps = keeps-same v (counted v) refl refl keeps; contents = all; records = records; copies = copies }

stale-leaves : (w : World) (k : List ℕ) (b : ℕ) → Keeps w → Leaves w (counted (stale_by k b w))
stale-leaves w k b keeps =
    let rest = stale_rest k b w in
    shift-leaves w (stale_by k b w) (stale_keeps k b w keeps) (ap (λ z. contents z.ranges) rest) (ap (λ z. z.records) rest) (ap (λ z. z.copies) rest)

-- where no copy is under way, none arrives
none-arrives : (w : World) (c : ℕ) → w.copies ≡ [] → w ≡ arrived c w
none-arrives w c none = sym (ap (λ ls. arrived_as (find (is_copy c) ls) c w) none)

arrive-leaves : (w : World) (c : ℕ) → Keeps w → w.copies ≡ [] → Leaves w (counted (arrived c w))
arrive-leaves w c keeps none = subst (λ v. Leaves w (counted v)) (none-arrives w c none) (shift-leaves w w keeps refl refl refl)

-- every move of the world is one of the store
pub stands-moved : (w : World) (p : Store) (e : Event) (floor : ℕ) → IsMove floor e → open_stamp p.txn ≤ floor → StandsFor w p → StandsFor (moved w e) (after_event e p)
stands-moved w p (Event.Write k s v) floor above low st = stands-write w p k (record { stamp = s; value = v }) (and_second _ _ above.1) (let h : floor < s.0 = above.0 in omega (arith, low, h)) st
stands-moved w p Event.Abort floor above low st = stands-abort w p st
stands-moved w p (Event.Split k) floor above low st = stands-left w (moved w (Event.Split k)) p (shift-leaves w (split_at k w) (split_keeps k w st.keeps) (split_holds k w st.keeps) refl refl) st
stands-moved w p (Event.Merge k) floor above low st = stands-left w (moved w (Event.Merge k)) p (shift-leaves w (merge_at k w) (merge_keeps k w st.keeps) (merge_holds k w st.keeps) refl refl) st
stands-moved w p (Event.Lease k n) floor above low st = stands-left w (moved w (Event.Lease k n)) p (shift-leaves w (lease_to k n w) (lease_keeps k n w st.keeps) (lease_holds k n w st.keeps) refl refl) st
stands-moved w p (Event.Move k ns) floor above low st = stands-left w (moved w (Event.Move k ns)) p (shift-leaves w (move_to k ns w) (move_keeps k ns w above st.keeps) (move_holds k ns w above st.keeps) refl refl) st
stands-moved w p (Event.Stale k b) floor above low st = stands-left w (moved w (Event.Stale k b)) p (stale-leaves w k b st.keeps) st
stands-moved w p (Event.Arrive c) floor above low st = stands-left w (moved w (Event.Arrive c)) p (arrive-leaves w c st.keeps st.copies) st
stands-moved w p (Event.LoseRequest c) floor above low st = absurd above
stands-moved w p (Event.LoseReply c) floor above low st = absurd above
stands-moved w p (Event.Copy c) floor above low st = absurd above
stands-moved w p (Event.Restart t) floor above low st = absurd above
