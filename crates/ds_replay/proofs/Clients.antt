-- The client's open transaction beside the store's, through events and answers.
use Rattle.std.proofs.Common.{◌≡◌, ℕ, ◌+◌, Bool, true, false, cond, List, [], ◌∷◌, length, filter, Option, Some, None, is_none, refl, sym, ap, ◌∙◌, subst, arith}
use Rattle.std.specs.List.{list_all}
use Rattle.std.specs.Option.{option_map}
use Rattle.ds_base.proofs.SmallFacts.{and_first, and_second}
use Rattle.ds_base.specs.declared.value.Stamp.{Stamp}
use Rattle.ds_kind.specs.Asks.{is_get_or_scan, takes_number}
use Rattle.ds_kind.specs.declared.batch.Batch.{Batch}
use Rattle.ds_kind.specs.declared.request.Request.{Request}
use Rattle.ds_kind.specs.declared.request.Request.TheVariants.{Get, Scan, ReverseScan, Put, ConditionalPut, InitPut, Increment, Delete, DeleteRange, EndTxn, QueryIntent, ResolveIntent, ResolveIntentRange, AdminSplit, AdminTransferLease}
use Rattle.ds_cell.specs.Store.{Asker, Store, StoreTxn, Mode, Live, FailedSince, Unknown, OverWith}
use Rattle.ds_coord.specs.declared.txn.Txn.{Txn}
use Rattle.ds_coord.specs.Agrees.{AgreesIn}
use Rattle.ds_coord.specs.Client.{after_batch, answered, asker_in, asker_of, noted, with_numbers}
use Rattle.ds_coord.proofs.Following.{events_agree, refusals_agree}
use Rattle.ds_rule.specs.declared.answer.Outcome.{Outcome}
use Rattle.ds_rule.specs.declared.event.Event.{Event}
use Rattle.ds_rule.specs.declared.event.Timed.{Timed}
use Rattle.ds_rule.specs.Blocks.{all_made}
use Rattle.ds_rule.specs.Journal.{Moved}
use Rattle.ds_rule.specs.Plain.{Answered, abort_txn, after_event, after_events, asker_after, count_numbered, counted_store, counted_txn, failed_mode, failed_store, failed_txn, if_of_txn, uses_numbers}
use Rattle.ds_rule.specs.Plain as Plain
use Rattle.ds_rule.specs.StandsFor.{IsKnown}
use Rattle.ds_mean.specs.Shows.{txn_by}
use Rattle.ds_mean.proofs.Stores.{event-txn, made-txn}
use Rattle.ds_send.specs.Forms.{can_ask, can_send}
use Rattle.ds_replay.specs.Stages.{IsFresh, KnownIn}
use Rattle.ds_replay.proofs.Came.{IsSure}
use Rattle.ds_replay.proofs.Woven.{made-events}

-- ---- reads take no numbers

read-number : (r : Request) → is_get_or_scan r ≡ true → takes_number r ≡ false
read-number (Get a) h = refl
read-number (Scan a) h = refl
read-number (ReverseScan a) h = refl
read-number (Put a) h = cc
read-number (ConditionalPut a) h = cc
read-number (InitPut a) h = cc
read-number (Increment a) h = cc
read-number (Delete a) h = cc
read-number (DeleteRange a) h = cc
read-number (EndTxn a) h = cc
read-number (QueryIntent a) h = cc
read-number (ResolveIntent a) h = cc
read-number (ResolveIntentRange a) h = cc
read-number (AdminSplit a) h = cc
read-number (AdminTransferLease a) h = cc

no-numbers : (rs : List Request) → list_all is_get_or_scan rs ≡ true → count_numbered rs ≡ 0
no-numbers [] h = refl
no-numbers (r ∷ rs) h =
    ap (λ t. length (cond t (r ∷ filter takes_number rs) (filter takes_number rs))) (read-number r (and_first (is_get_or_scan r) _ h))
    ∙ no-numbers rs (and_second (is_get_or_scan r) _ h)

unnumbered : (b : Batch) → b.at ≡ None → can_send b ≡ true → count_numbered b.requests ≡ 0
unnumbered b is can = no-numbers b.requests (subst (λ at. list_all (can_ask at) b.requests ≡ true) is (and_second (is_none b.limit) _ can))

-- ---- the client notes an answer

numbered-same : (u : Bool) (rs : List Request) (c : Txn) → count_numbered rs ≡ 0 → cond u (with_numbers rs c) c ≡ c
numbered-same true rs c none = let same : c.last.0 + count_numbered rs ≡ c.last.0 = omega (arith, none) in ap (λ n. record c { last = record { 0 = n } }) same
numbered-same false rs c none = refl

noted-by : (at : Option Stamp) (b : Batch) (o : Outcome) (c : Option Txn) → (at ≡ None → count_numbered b.requests ≡ 0) → if_of_txn at (noted o None) c ≡ if_of_txn at (answered b o None) c
noted-by (Some s) b o c none = refl
noted-by None b o None none = refl
noted-by None b o (Some c) none = ap (λ z. Some (noted o None z)) (sym (numbered-same (uses_numbers o) b.requests c (none refl)))

pub noted-after : (b : Batch) (o : Outcome) (c : Option Txn) → can_send b ≡ true → if_of_txn b.at (noted o None) c ≡ after_batch b o None c
noted-after b o c can = noted-by b.at b o c (λ is. unnumbered b is can)

pub noted-fresh : (at : Option Stamp) (o : Outcome) (c : Option Txn) → IsFresh c → IsFresh (if_of_txn at (noted o None) c)
noted-fresh (Some s) o c fresh = fresh
noted-fresh None o None fresh = fresh
noted-fresh None o (Some c) fresh = fresh

-- who asks then
asker-answered : (u : Bool) (rs : List Request) (c : Txn) → cond u (record (asker_of c) { last = c.last.0 + count_numbered rs }) (asker_of c) ≡ asker_of (cond u (with_numbers rs c) c)
asker-answered true rs c = refl
asker-answered false rs c = refl

asks-by : (at : Option Stamp) (b : Batch) (o : Outcome) (c : Option Txn) (x : Option Asker) → x ≡ asker_in c → if_of_txn at (asker_after b o) x ≡ asker_in (if_of_txn at (answered b o None) c)
asks-by (Some s) b o c x is = is
asks-by None b o None x is = ap (option_map (asker_after b o)) is
asks-by None b o (Some c) x is = ap (option_map (asker_after b o)) is ∙ ap Some (asker-answered (uses_numbers o) b.requests c)

pub asks-after : (b : Batch) (o : Outcome) (c : Option Txn) (x : Option Asker) → x ≡ asker_in c → if_of_txn b.at (asker_after b o) x ≡ asker_in (after_batch b o None c)
asks-after b o c x is = asks-by b.at b o c x is

-- ---- it agrees with the store's

pub event-agrees : (e : Event) (p : Store) (c : Option Txn) → AgreesIn c p.txn → AgreesIn c (after_event e p).txn
event-agrees e p c a = events_agree (Moved e ∷ []) p c a

pub events-agree : (ts : List Timed) (p : Store) (c : Option Txn) → AgreesIn c p.txn → AgreesIn c (after_events ts p).txn
events-agree ts p c a = subst (λ z. AgreesIn c z.txn) (made-events ts p) (events_agree (all_made ts) p c a)

pub events-begun : (ts : List Timed) (p : Store) → (after_events ts p).begun ≡ p.begun
events-begun ts p = ap (λ z. z.begun) (sym (made-events ts p)) ∙ (made-txn (all_made ts) p).1

pub same-asker : (c : Option Txn) (p : Store) → AgreesIn c p.txn → asker_in c ≡ Plain.asker_in p
same-asker c p a = (refusals_agree None [] c p a).asker

-- ---- what became of it stays known

known-by : (e : Event) (o : Option StoreTxn) → KnownIn o → KnownIn (txn_by e o)
known-by (Event.Write k s v) o h = h
known-by Event.Abort None h = h
known-by Event.Abort (Some t) h = h
known-by (Event.Split k) o h = h
known-by (Event.Merge k) o h = h
known-by (Event.Lease k n) o h = h
known-by (Event.Move k ns) o h = h
known-by (Event.Stale k b) o h = h
known-by (Event.Arrive c) o h = h
known-by (Event.LoseRequest c) o h = h
known-by (Event.LoseReply c) o h = h
known-by (Event.Copy c) o h = h
known-by (Event.Restart t) o h = h

pub event-known : (e : Event) (p : Store) → KnownIn p.txn → KnownIn (after_event e p).txn
event-known e p h = subst KnownIn (sym (event-txn e p).0) (known-by e p.txn h)

pub events-known : (ts : List Timed) (p : Store) → KnownIn p.txn → KnownIn (after_events ts p).txn
events-known [] p h = h
events-known (t ∷ ts) p h = events-known ts (after_event t.event p) (event-known t.event p h)

counted-known : (at : Option Stamp) (b : Batch) (o : Outcome) (t : Option StoreTxn) → KnownIn t → KnownIn (if_of_txn at (counted_txn b o) t)
counted-known (Some s) b o t h = h
counted-known None b o None h = h
counted-known None b o (Some t) h = h

mode-known : (n : ℕ) (m : Mode) → IsKnown m → IsKnown (failed_mode n m)
mode-known n Live h = tt
mode-known n (FailedSince k) h = tt
mode-known n (Unknown ws) h = absurd h
mode-known n (OverWith s) h = tt

failed-known : (at : Option Stamp) (t : Option StoreTxn) → KnownIn t → KnownIn (if_of_txn at failed_txn t)
failed-known (Some s) t h = h
failed-known None None h = h
failed-known None (Some t) h = mode-known t.batches t.mode h

store-counted : (b : Batch) (o : Outcome) (p : Store) → KnownIn p.txn → KnownIn (counted_store b o p).txn
store-counted b o p h = counted-known b.at b o p.txn h

store-failed : (b : Batch) (o : Outcome) (p : Store) → KnownIn p.txn → KnownIn (failed_store b o p).txn
store-failed b o p h = failed-known b.at (counted_store b o p).txn (store-counted b o p h)

pub answered-known : (b : Batch) (o : Outcome) (p next : Store) → IsSure o → Answered p b o next → KnownIn p.txn → KnownIn next.txn
answered-known b (Outcome.Ambiguous n) p next sure a h = absurd sure
answered-known b Outcome.OutOfMemory p next sure a h = absurd a
answered-known b (Outcome.Ok rs) p next sure a h = subst (λ z. KnownIn z.txn) (sym a.next) (store-counted b (Outcome.Ok rs) p h)
answered-known b (Outcome.Illegal i) p next sure a h = subst (λ z. KnownIn z.txn) (sym a) (store-counted b (Outcome.Illegal i) p h)
answered-known b (Outcome.MustRollBack n) p next sure a h = subst (λ z. KnownIn z.txn) (sym a) (store-counted b (Outcome.MustRollBack n) p h)
answered-known b (Outcome.TxnOver t) p next sure a h = subst (λ z. KnownIn z.txn) (sym a) (store-counted b (Outcome.TxnOver t) p h)
answered-known b (Outcome.OpRequiresTxn d) p next sure a h = subst (λ z. KnownIn z.txn) (sym a) (store-failed b (Outcome.OpRequiresTxn d) p h)
answered-known b (Outcome.NotOnePhase d) p next sure a h = subst (λ z. KnownIn z.txn) (sym a) (store-failed b (Outcome.NotOnePhase d) p h)
answered-known b (Outcome.ConditionFailed i v) p next sure a h = subst (λ z. KnownIn z.txn) (sym a) (store-failed b (Outcome.ConditionFailed i v) p h)
answered-known b (Outcome.WriteTooOld i k t) p next sure a h = subst (λ z. KnownIn z.txn) (sym a) (store-failed b (Outcome.WriteTooOld i k t) p h)
answered-known b (Outcome.NotInteger i) p next sure a h = subst (λ z. KnownIn z.txn) (sym a) (store-failed b (Outcome.NotInteger i) p h)
answered-known b (Outcome.Overflow i) p next sure a h = subst (λ z. KnownIn z.txn) (sym a) (store-failed b (Outcome.Overflow i) p h)
answered-known b Outcome.TxnAborted p next sure a h = subst (λ z. KnownIn z.txn) (sym a) (store-failed b Outcome.TxnAborted p h)
answered-known b (Outcome.RetryExhausted r l) p next sure a h = subst (λ z. KnownIn z.txn) (sym a) (store-failed b (Outcome.RetryExhausted r l) p h)
