-- The world stands for its store at first, and where a transaction begins or ends without a commit.
use Rattle.std.proofs.Common.{◌≡◌, ℕ, ◌<◌, ◌≤◌, true, false, cond, ◌==◌, ◌+◌, List, [], ◌∷◌, ◌++◌, map, Option, Some, None, inl, inr, refl, sym, ap, ◌∙◌, subst, fold, eq-eqb, arith}
use Rattle.std.specs.List.{list_all}
use Rattle.ds_base.specs.declared.value.Stamp.{Stamp}
use Rattle.ds_base.specs.Ordered.{key_eq, at_key, AllOver, Ascends}
use Rattle.ds_desc.specs.declared.desc.RangeDesc.{RangeDesc}
use Rattle.ds_kind.specs.declared.reply.TxnStatus.TheVariants as Says
use Rattle.ds_cell.specs.declared.entry.Written.{Written}
use Rattle.ds_cell.specs.Ask.{Cells, key_of, content_of, content_at}
use Rattle.ds_cell.specs.Change.{made, settled, settled_by}
use Rattle.ds_cell.specs.Content.{Content, no_content, AllAbove, Rises, stamp_of}
use Rattle.ds_cell.specs.Seen.{last_of, held}
use Rattle.ds_cell.specs.Store.{Store, StoreTxn, Live, Pending, empty_store}
use Rattle.ds_rule.specs.declared.cluster.ClusterRange.{ClusterRange}
use Rattle.ds_rule.specs.declared.record.TxnRecord.{TxnRecord}
use Rattle.ds_rule.specs.Begin.{ranges_of, first_world, is_leased}
use Rattle.ds_rule.specs.Close.{new_record, with_begin, settle_cells, settle_range, settle_by, commit_of, closed, close_status, status_of_last, said_status}
use Rattle.ds_rule.specs.Keeping.{IsNewest, Keeps}
use Rattle.ds_rule.specs.Pieces.{Each}
use Rattle.ds_rule.specs.Records.{record_number}
use Rattle.ds_rule.specs.Steady.{has_lease, ids_differ}
use Rattle.ds_rule.specs.StandsFor.{IsAt, AllUpTo, open_stamp, IsIntentOf, HasRecord, HasRecordOf, IsKnown, status_for, record_for, StandsFor}
use Rattle.ds_rule.specs.World.{World, Range, end_of, contents, cell_of, Inside, Tiles}
use Rattle.ds_world.proofs.First.{first-keeps}
use Rattle.ds_world.proofs.Settled.{ascends-settled, closed-keeps}
use Rattle.ds_world.proofs.Stretches.{keeps-same}
use Rattle.ds_law.proofs.Recorded.{known-last}
use Rattle.ds_rule.proofs.Lasts.{none-last}
use Rattle.ds_world.proofs.Newest.{last-append}
use Rattle.ds_law.proofs.Standing.{rises-last, above-with_last, up-to-last}

-- at first nothing is held

pub no-contents : (n : ℕ) (rs : List ClusterRange) → contents (ranges_of n rs) ≡ []
no-contents n [] = refl
no-contents n (r ∷ rs) = no-contents (n + 1) rs

nothing-at : IsAt 0 no_content no_content
nothing-at = record { versions = refl; none_waits = refl; history = refl; owner = refl; epoch = refl; waits = λ e. refl; above = tt }

pub first-stands : (rs : List ClusterRange) → Tiles [] (ranges_of 1 rs) → list_all is_leased rs ≡ true → StandsFor (first_world rs) empty_store
first-stands rs t leased = record {
  keeps = first-keeps rs t leased;
  rising = tt;
  same = λ k. subst (λ cs. IsAt 0 (content_at k cs) no_content) (sym (no-contents 1 rs)) nothing-at;
  intents = λ k. subst (λ cs. IsIntentOf None (content_at k cs)) (sym (no-contents 1 rs)) refl;
  recorded = tt;
  numbers = tt;
  named = tt;
  begun = tt;
  copies = refl;
}

-- a new transaction's record is the last, and above all

pub above-one : (n : ℕ) (ts : List TxnRecord) (x : TxnRecord) → AllAbove record_number n ts → n < record_number x → AllAbove record_number n (ts ++ x ∷ [])
above-one n [] x all h = (h, tt)
above-one n (t ∷ ts) x all h = (all.0, above-one n ts x all.1 h)

less : (a b c : ℕ) → a ≤ b → b < c → a < c
less a b c h g = omega (arith, h, g)

pub rises-one : (m : ℕ) (ts : List TxnRecord) (x : TxnRecord) → Rises record_number ts → AllUpTo record_number m ts → m < record_number x → Rises record_number (ts ++ x ∷ [])
rises-one m [] x r all h = (tt, tt)
rises-one m (t ∷ ts) x r all h = (above-one (record_number t) ts x r.0 (less (record_number t) m (record_number x) all.0 h), rises-one m ts x r.1 all.1 h)

pub up-to-one : (m n : ℕ) (ts : List TxnRecord) (x : TxnRecord) → m ≤ n → AllUpTo record_number m ts → record_number x ≤ n → AllUpTo record_number n (ts ++ x ∷ [])
up-to-one m n [] x low all h = (h, tt)
up-to-one m n (t ∷ ts) x low all h = (let up : record_number t ≤ m = all.0 in omega (arith, up, low), up-to-one m n ts x low all.1 h)

-- where no intent stands nothing waits, and so no stamp matters
at-any : (s n : ℕ) (c d : Content) → c.history ≡ [] → IsAt s c d → IsAt n c d
at-any s n c d none at = record {
  versions = at.versions;
  none_waits = at.none_waits;
  history = at.history;
  owner = at.owner;
  epoch = at.epoch;
  waits = at.waits;
  above = subst (AllAbove stamp_of n) (sym (at.waits none)) tt;
}

begin-recorded : (t : StoreTxn) (rs : List TxnRecord) → t.fate ≡ Pending → t.mode ≡ Live → HasRecord t.mode t (rs ++ new_record t.asker ∷ [])
begin-recorded t rs pending live =
    subst (λ m. HasRecord m t (rs ++ new_record t.asker ∷ [])) (sym live)
    (last-append rs (new_record t.asker) ∙ ap (λ f. Some (record_for (record t { fate = f }))) (sym pending))

pub begin-stands : (w : World) (p : Store) (t : StoreTxn) → p.txn ≡ None → t.fate ≡ Pending → t.mode ≡ Live → t.asker.number ≡ p.begun + 1 → StandsFor w p → StandsFor (with_begin t.asker w) (record p { txn = Some t; begun = p.begun + 1 })
begin-stands w p t none pending live next st =
    let clear = λ (k : List ℕ). subst (λ o. IsIntentOf o (cell_of w k)) none (st.intents k) in
    record {
      keeps = keeps-same w (with_begin t.asker w) refl refl st.keeps;
      rising = st.rising;
      same = λ k. at-any (open_stamp p.txn) t.asker.stamp (cell_of w k) (content_at k p.cells) (clear k) (st.same k);
      intents = λ k. inl (clear k);
      recorded = begin-recorded t w.records pending live;
      numbers = rises-one p.begun w.records (new_record t.asker) st.numbers st.begun (omega (arith, next));
      named = above-one 0 w.records (new_record t.asker) st.named (omega (arith, next));
      begun = up-to-one p.begun (p.begun + 1) w.records (new_record t.asker) (omega arith) st.begun (omega (arith, next));
      copies = st.copies;
    }

-- all intents of a transaction settled

settle-append : (n : ℕ) (c : Option Stamp) (xs ys : Cells) → settle_cells n c (xs ++ ys) ≡ settle_cells n c xs ++ settle_cells n c ys
settle-append n c [] ys = refl
settle-append n c (x ∷ xs) ys = ap (λ zs. (x.0, settled n c x.1) ∷ zs) (settle-append n c xs ys)

pub contents-settled : (n : ℕ) (c : Option Stamp) (rs : List Range) → contents (map (settle_range n c) rs) ≡ settle_cells n c (contents rs)
contents-settled n c [] = refl
contents-settled n c (r ∷ rs) = ap (λ zs. settle_cells n c r.cells ++ zs) (contents-settled n c rs) ∙ sym (settle-append n c r.cells (contents rs))

nothing-settled : (n : ℕ) (c : Option Stamp) → settled n c no_content ≡ no_content
nothing-settled n c = elim (0 == n) as (λ b. settled_by c (last_of (cond b no_content.history [])) no_content ≡ no_content) [ true ↦ refl | false ↦ refl ]

pub content-settled : (n : ℕ) (c : Option Stamp) (k : List ℕ) (cells : Cells) → content_at k (settle_cells n c cells) ≡ settled n c (content_at k cells)
content-settled n c k [] = sym (nothing-settled n c)
content-settled n c k (p ∷ ps) =
    elim (key_eq p.0 k) as (λ t. content_of (cond t (Some (p.0, settled n c p.1)) (at_key key_of k (settle_cells n c ps))) ≡ settled n c (content_of (cond t (Some p) (at_key key_of k ps)))) [
      | true ↦ refl
      | false ↦ content-settled n c k ps
    ]

-- what stands at a key, settled without a commit

pub settled-none : (n : ℕ) (commit : Option Stamp) (c : Content) → c.history ≡ [] → settled n commit c ≡ c
settled-none n commit c none = ap (λ h. settled_by commit (last_of h) c) nothing
  where
    nothing : held n c ≡ []
    nothing = elim (c.owner == n) as (λ b. cond b c.history [] ≡ []) [ true ↦ none | false ↦ refl ]

settled-own : (n : ℕ) (commit : Option Stamp) (c : Content) → c.owner ≡ n → settled n commit c ≡ settled_by commit (last_of c.history) c
settled-own n commit c own = ap (λ b. settled_by commit (last_of (cond b c.history [])) c) (eq-eqb c.owner n own)

at-settled-by : (s : ℕ) (o : Option Written) (c d : Content) → last_of c.history ≡ o → IsAt s c d → IsAt 0 (settled_by None o c) (settled_by None o d)
at-settled-by s None c d is at = at-any s 0 c d (none-last c.history is) at
at-settled-by s (Some w) c d is at = record {
  versions = ap (fold made d.versions) at.none_waits ∙ at.versions;
  none_waits = refl;
  history = refl;
  owner = at.owner;
  epoch = at.epoch;
  waits = λ e. refl;
  above = tt;
}

clear-settled-by : (o : Option Written) (c : Content) → last_of c.history ≡ o → (settled_by None o c).history ≡ []
clear-settled-by None c is = none-last c.history is
clear-settled-by (Some w) c is = refl

at-settled : (s : ℕ) (t : StoreTxn) (c d : Content) → IsIntentOf (Some t) c → IsAt s c d → IsAt 0 (settled t.asker.number None c) (settled t.asker.number None d)
at-settled s t c d (inl none) at =
    subst (IsAt 0 (settled t.asker.number None c)) (sym (settled-none t.asker.number None d (at.history ∙ none)))
    (subst (λ z. IsAt 0 z d) (sym (settled-none t.asker.number None c none)) (at-any s 0 c d none at))
at-settled s t c d (inr own) at =
    subst (IsAt 0 (settled t.asker.number None c)) (sym (settled-own t.asker.number None d (at.owner ∙ own.0) ∙ ap (λ h. settled_by None (last_of h) d) at.history))
    (subst (λ z. IsAt 0 z (settled_by None (last_of c.history) d)) (sym (settled-own t.asker.number None c own.0)) (at-settled-by s (last_of c.history) c d refl at))

clear-settled : (t : StoreTxn) (c : Content) → IsIntentOf (Some t) c → (settled t.asker.number None c).history ≡ []
clear-settled t c (inl none) = ap (λ z. z.history) (settled-none t.asker.number None c none) ∙ none
clear-settled t c (inr own) = ap (λ z. z.history) (settled-own t.asker.number None c own.0) ∙ clear-settled-by (last_of c.history) c refl

-- the record of the transaction that ends

the-last : (w : World) (p : Store) (t : StoreTxn) → p.txn ≡ Some t → IsKnown t.mode → StandsFor w p → last_of w.records ≡ Some (record_for t)
the-last w p t is known st = known-last t.mode t w.records known (subst (λ o. HasRecordOf o w.records) is st.recorded)

pub close-says : (w : World) (p : Store) (t : StoreTxn) → p.txn ≡ Some t → t.fate ≡ Pending → IsKnown t.mode → StandsFor w p → close_status w ≡ Says.Aborted
close-says w p t is pending known st = ap status_of_last (the-last w p t is known st) ∙ ap (λ f. said_status (status_for f)) pending

settles-by : (w : World) (p : Store) (t : StoreTxn) → p.txn ≡ Some t → t.fate ≡ Pending → IsKnown t.mode → StandsFor w p → settle_by (last_of w.records) w.ranges ≡ map (settle_range t.asker.number None) w.ranges
settles-by w p t is pending known st =
    ap (λ o. settle_by o w.ranges) (the-last w p t is known st)
    ∙ ap (λ f. map (settle_range t.asker.number (commit_of (status_for f) (record { 0 = t.asker.stamp }))) w.ranges) pending

pub close-stands : (w : World) (p : Store) (t : StoreTxn) → p.txn ≡ Some t → t.fate ≡ Pending → IsKnown t.mode → StandsFor w p → StandsFor (closed w) (record p { cells = settle_cells t.asker.number None p.cells; txn = None })
close-stands w p t is pending known st =
    let ranges = settles-by w p t is pending known st in
    record {
      keeps = closed-keeps w st.keeps;
      rising = ascends-settled t.asker.number None p.cells st.rising;
      same = λ k.
          subst (λ c. IsAt 0 c (content_at k (settle_cells t.asker.number None p.cells))) (sym (world-at ranges k))
          (subst (IsAt 0 (settled t.asker.number None (cell_of w k))) (sym (content-settled t.asker.number None k p.cells))
          (at-settled (open_stamp p.txn) t (cell_of w k) (content_at k p.cells) (intent k) (st.same k)));
      intents = λ k. ap (λ c. c.history) (world-at ranges k) ∙ clear-settled t (cell_of w k) (intent k);
      recorded = tt;
      numbers = rises-last w.records st.numbers;
      named = above-with_last 0 w.records st.named;
      begun = up-to-last p.begun w.records st.begun;
      copies = st.copies;
    }
  where
    intent : (k : List ℕ) → IsIntentOf (Some t) (cell_of w k)
    intent k = subst (λ o. IsIntentOf o (cell_of w k)) is (st.intents k)

    world-at : settle_by (last_of w.records) w.ranges ≡ map (settle_range t.asker.number None) w.ranges → (k : List ℕ) → cell_of (closed w) k ≡ settled t.asker.number None (cell_of w k)
    world-at ranges k = ap (λ rs. content_at k (contents rs)) ranges ∙ ap (content_at k) (contents-settled t.asker.number None w.ranges) ∙ content-settled t.asker.number None k (contents w.ranges)
