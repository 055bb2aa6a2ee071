-- Ends of transactions, and the records before and after them.
use Rattle.std.proofs.Common.{◌≡◌, ℕ, zero, suc, ◌+◌, ◌<◌, ◌≤◌, min, nat_le, length, drop, get_or, arith, Bool, true, false, cond, List, [], ◌∷◌, Option, Some, None, refl, sym, ap, ◌∙◌, ◌==◌, ◌⊎◌, inl, inr}
use Rattle.std.specs.Option.{option_or}
use Rattle.std.proofs.lemmas.List.{drop_more}
use Rattle.ds_base.specs.Order.{Extent}
use Rattle.ds_base.specs.declared.value.TxnNo.{TxnNo}
use Rattle.ds_base.proofs.SmallFacts.{gt_of, le_of}
use Rattle.ds_kind.specs.declared.batch.Head.{Head}
use Rattle.ds_kind.specs.declared.batch.Item.{Item}
use Rattle.ds_kind.specs.declared.reply.Reply.{Reply}
use Rattle.ds_kind.specs.declared.request.Request.{Request}
use Rattle.ds_kind.specs.declared.request.Request.TheVariants.{Get, Scan, ReverseScan, Put, ConditionalPut, InitPut, Increment, Delete, DeleteRange, EndTxn, QueryIntent, ResolveIntent, ResolveIntentRange, AdminSplit, AdminTransferLease}
use Rattle.ds_rule.specs.declared.record.RecordStatus.{RecordStatus}
use Rattle.ds_rule.specs.declared.record.RecordStatus.TheVariants as Status
use Rattle.ds_rule.specs.declared.record.TxnRecord.{TxnRecord}
use Rattle.ds_rule.specs.Endings.{ended, ended_status, ended_of, ended_unless, all_ended}
use Rattle.ds_rule.specs.Records.{record_of, with_record, with_status}
use Rattle.ds_serve.specs.Ends.{status_pending, is_pending, commits, first_end}

-- a record changed, found by its number

with_at : (n : ℕ) (f g : TxnRecord → TxnRecord) (ts : List TxnRecord) → ((t : TxnRecord) → record_of n ts ≡ Some t → f t ≡ g t) → with_record n f ts ≡ with_record n g ts
with_at n f g [] h = refl
with_at n f g (t ∷ ts) h =
    elim (t.txn.0 == n) as (λ b. ((u : TxnRecord) → cond b (Some t) (record_of n ts) ≡ Some u → f u ≡ g u) → cond b (f t ∷ ts) (t ∷ with_record n f ts) ≡ cond b (g t ∷ ts) (t ∷ with_record n g ts)) [
      | true ↦ λ k. ap (λ u. u ∷ ts) (k t refl)
      | false ↦ λ k. ap (λ us. t ∷ us) (with_at n f g ts k)
    ] h

with_same : (n : ℕ) (ts : List TxnRecord) → with_record n (λ t. t) ts ≡ ts
with_same n [] = refl
with_same n (t ∷ ts) =
    elim (t.txn.0 == n) as (λ b. cond b (t ∷ ts) (t ∷ with_record n (λ t. t) ts) ≡ t ∷ ts) [
      | true ↦ refl
      | false ↦ ap (λ us. t ∷ us) (with_same n ts)
    ]

with_twice : (n : ℕ) (f g : TxnRecord → TxnRecord) (ts : List TxnRecord) → ((t : TxnRecord) → (g t).txn ≡ t.txn) → with_record n f (with_record n g ts) ≡ with_record n (λ t. f (g t)) ts
with_twice n f g [] same = refl
with_twice n f g (t ∷ ts) same =
    elim (t.txn.0 == n) as (λ b. (t.txn.0 == n) ≡ b → with_record n f (cond b (g t ∷ ts) (t ∷ with_record n g ts)) ≡ cond b (f (g t) ∷ ts) (t ∷ with_record n (λ t. f (g t)) ts)) [
      | true ↦ λ e.
          ap (λ m. cond (m.0 == n) (f (g t) ∷ ts) (g t ∷ with_record n f ts)) (same t)
          ∙ ap (λ b. cond b (f (g t) ∷ ts) (g t ∷ with_record n f ts)) e
      | false ↦ λ e.
          ap (λ b. cond b (f t ∷ with_record n g ts) (t ∷ with_record n f (with_record n g ts))) e
          ∙ ap (λ us. t ∷ us) (with_twice n f g ts same)
    ] refl

-- how one end leaves a record

decided_stays : (commit : Bool) (s : RecordStatus) → status_pending s ≡ false → ended_status commit s ≡ s
decided_stays commit Status.Pending h = cc
decided_stays commit Status.Committed h = refl
decided_stays commit Status.Aborted h = refl
decided_stays commit (Status.Staging fs) h = refl

pending_ends : (commit : Bool) (s : RecordStatus) → status_pending s ≡ true → cond commit Status.Committed Status.Aborted ≡ ended_status commit s
pending_ends commit Status.Pending h = refl
pending_ends commit Status.Committed h = cc
pending_ends commit Status.Aborted h = cc
pending_ends commit (Status.Staging fs) h = cc

is_its : (s : RecordStatus) → status_pending s ≡ true → Status.Pending ≡ s
is_its Status.Pending h = refl
is_its Status.Committed h = cc
is_its Status.Aborted h = cc
is_its (Status.Staging fs) h = cc

ended_again : (c d : Bool) (s : RecordStatus) → ended_status c (ended_status d s) ≡ ended_status d s
ended_again c true Status.Pending = refl
ended_again c false Status.Pending = refl
ended_again c d Status.Committed = refl
ended_again c d Status.Aborted = refl
ended_again c d (Status.Staging fs) = refl

pending_at : (n : ℕ) (ts : List TxnRecord) (b : Bool) → is_pending (record_of n ts) ≡ b → (t : TxnRecord) → record_of n ts ≡ Some t → status_pending t.status ≡ b
pending_at n ts b h t there = sym (ap is_pending there) ∙ h

-- a record that isn't pending stays
pub not_pending : (n : ℕ) (commit : Bool) (ts : List TxnRecord) → is_pending (record_of n ts) ≡ false → ts ≡ with_record n (ended commit) ts
not_pending n commit ts h =
    sym (with_at n (ended commit) (λ t. t) ts (λ t there. ap (λ s. record t { status = s }) (decided_stays commit t.status (pending_at n ts false h t there))) ∙ with_same n ts)

-- one that is pending ends
pub pending_ended : (n : ℕ) (commit : Bool) (s : RecordStatus) (ts now : List TxnRecord) → is_pending (record_of n ts) ≡ true → s ≡ cond commit Status.Committed Status.Aborted → now ≡ with_record n (with_status s) ts → now ≡ with_record n (ended commit) ts
pending_ended n commit s ts now h is made =
    made ∙ with_at n (with_status s) (ended commit) ts (λ t there. ap (λ z. record t { status = z }) (is ∙ pending_ends commit t.status (pending_at n ts true h t there)))

-- and is put back
pub pending_back : (n : ℕ) (s : RecordStatus) (ts now : List TxnRecord) → is_pending (record_of n ts) ≡ true → now ≡ with_record n (with_status s) ts → with_record n (with_status Status.Pending) now ≡ ts
pending_back n s ts now h made =
    ap (with_record n (with_status Status.Pending)) made
    ∙ with_twice n (with_status Status.Pending) (with_status s) ts (λ t. refl)
    ∙ with_at n (with_status Status.Pending) (λ t. t) ts (λ t there. ap (λ z. record t { status = z }) (is_its t.status (pending_at n ts true h t there)))
    ∙ with_same n ts

-- all ends of a piece

abbrev pub ended_first : Option TxnNo → Option Bool → List TxnRecord → List TxnRecord
ended_first o None ts = ts
ended_first o (Some commit) ts = ended_of o commit ts

again : (o : Option TxnNo) (c d : Bool) (ts : List TxnRecord) → ended_of o c (ended_of o d ts) ≡ ended_of o d ts
again None c d ts = refl
again (Some n) c d ts =
    with_twice n.0 (ended c) (ended d) ts (λ t. refl)
    ∙ with_at n.0 (λ t. ended c (ended d t)) (ended d) ts (λ t there. ap (λ z. record t { status = z }) (ended_again c d t.status))

unless_first : (rest : Option Extent) (h : Head) (r : Request) (ts : List TxnRecord) → ended_unless rest h r ts ≡ ended_first h.txn (commits rest r) ts
unless_first (Some e) h r ts = refl
unless_first None h (Get a) ts = refl
unless_first None h (Scan a) ts = refl
unless_first None h (ReverseScan a) ts = refl
unless_first None h (Put a) ts = refl
unless_first None h (ConditionalPut a) ts = refl
unless_first None h (InitPut a) ts = refl
unless_first None h (Increment a) ts = refl
unless_first None h (Delete a) ts = refl
unless_first None h (DeleteRange a) ts = refl
unless_first None h (EndTxn a) ts = refl
unless_first None h (QueryIntent a) ts = refl
unless_first None h (ResolveIntent a) ts = refl
unless_first None h (ResolveIntentRange a) ts = refl
unless_first None h (AdminSplit a) ts = refl
unless_first None h (AdminTransferLease a) ts = refl

first_again : (o : Option TxnNo) (c : Option Bool) (d : Bool) (ts : List TxnRecord) → ended_first o c (ended_of o d ts) ≡ ended_of o d ts
first_again o None d ts = refl
first_again o (Some c) d ts = again o c d ts

all_again : (h : Head) (is : List Item) (rs : List Reply) (d : Bool) (ts : List TxnRecord) → all_ended h is rs (ended_of h.txn d ts) ≡ ended_of h.txn d ts
all_again h [] rs d ts = refl
all_again h (i ∷ is) [] d ts = refl
all_again h (i ∷ is) (r ∷ rs) d ts =
    ap (all_ended h is rs) (unless_first r.resume h i.request (ended_of h.txn d ts) ∙ first_again h.txn (commits r.resume i.request) d ts)
    ∙ all_again h is rs d ts

-- the first end decides
pub all_first : (h : Head) (is : List Item) (rs : List Reply) (ts : List TxnRecord) → all_ended h is rs ts ≡ ended_first h.txn (first_end is rs) ts
all_first h [] rs ts = refl
all_first h (i ∷ is) [] ts = refl
all_first h (i ∷ is) (r ∷ rs) ts =
    elim (commits r.resume i.request) as (λ o. ended_unless r.resume h i.request ts ≡ ended_first h.txn o ts → all_ended h is rs (ended_unless r.resume h i.request ts) ≡ ended_first h.txn (option_or o (first_end is rs)) ts) [
      | None ↦ λ e. ap (all_ended h is rs) e ∙ all_first h is rs ts
      | Some c ↦ λ e. ap (all_ended h is rs) e ∙ all_again h is rs c ts
    ] (unless_first r.resume h i.request ts)

-- no end was asked
pub all_unended : (h : Head) (is : List Item) (rs : List Reply) (o : Option Bool) (ts : List TxnRecord) → o ≡ first_end is rs → ended_first h.txn o ts ≡ all_ended h is rs ts
all_unended h is rs o ts is_first = ap (λ z. ended_first h.txn z ts) is_first ∙ sym (all_first h is rs ts)

-- the first end among items and replies that are gone over together

pub end_next : (is : List Item) (rs : List Reply) (n : ℕ) (i : Item) (r : Reply) (all : Option Bool) → n < length is → n < length rs → i ≡ get_or is n i → r ≡ get_or rs n r → first_end (drop n is) (drop n rs) ≡ all → option_or (commits r.resume i.request) (first_end (drop (n + 1) is) (drop (n + 1) rs)) ≡ all
end_next is rs n i r all low less at_item at_reply so_far =
    let items : drop n is ≡ i ∷ drop (n + 1) is = drop_more is n i low ∙ ap (λ z. z ∷ drop (n + 1) is) (sym at_item) in
    let replies : drop n rs ≡ r ∷ drop (n + 1) rs = drop_more rs n r less ∙ ap (λ z. z ∷ drop (n + 1) rs) (sym at_reply) in
    sym (ap (λ z. first_end z (drop n rs)) items ∙ ap (first_end (i ∷ drop (n + 1) is)) replies) ∙ so_far

no_replies : (is : List Item) → first_end is [] ≡ None
no_replies [] = refl
no_replies (i ∷ is) = refl

end_over : (is : List Item) (rs : List Reply) (n : ℕ) → (length is ≤ n) ⊎ (length rs ≤ n) → first_end (drop n is) (drop n rs) ≡ None
end_over [] rs zero h = refl
end_over [] rs (suc n) h = refl
end_over (i ∷ is) [] zero h = refl
end_over (i ∷ is) [] (suc n) h = no_replies (drop n is)
end_over (i ∷ is) (r ∷ rs) zero (inl h) = absurd (omega arith)
end_over (i ∷ is) (r ∷ rs) zero (inr h) = absurd (omega arith)
end_over (i ∷ is) (r ∷ rs) (suc n) (inl h) = end_over is rs n (inl (omega arith))
end_over (i ∷ is) (r ∷ rs) (suc n) (inr h) = end_over is rs n (inr (omega arith))

either_over : (a b n : ℕ) → min a b ≤ n → (a ≤ n) ⊎ (b ≤ n)
either_over a b n h =
    elim (nat_le a n) as (λ t. nat_le a n ≡ t → (a ≤ n) ⊎ (b ≤ n)) [
      | true ↦ λ e. inl (le_of a n e)
      | false ↦ λ e. let high : n < a = gt_of a n e in inr (omega arith)
    ] refl

pub end_none : (is : List Item) (rs : List Reply) (n : ℕ) (all : Option Bool) → min (length is) (length rs) ≤ n → first_end (drop n is) (drop n rs) ≡ all → None ≡ all
end_none is rs n all h so_far = sym (end_over is rs n (either_over (length is) (length rs) n h)) ∙ so_far
