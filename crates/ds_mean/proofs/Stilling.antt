-- Requests that write no key: what stands stays as it is.
use Rattle.std.proofs.Common.{◌≡◌, ℕ, ◌<◌, true, false, cond, inl, inr, List, [], ◌∷◌, Option, Some, None, refl, sym, ap, ◌∙◌, subst, ne_eqb, arith}
use Rattle.ds_base.specs.declared.value.Stamp.{Stamp}
use Rattle.ds_kind.specs.Asks.{takes_number}
use Rattle.ds_kind.specs.Request.{cut_to, span_of}
use Rattle.ds_kind.specs.declared.batch.Item.{Item}
use Rattle.ds_kind.specs.declared.request.Request.{Request}
use Rattle.ds_kind.specs.declared.request.Request.TheVariants.{Get, Scan, ReverseScan, Put, ConditionalPut, InitPut, Increment, Delete, DeleteRange, EndTxn, QueryIntent, ResolveIntent, ResolveIntentRange, AdminSplit, AdminTransferLease}
use Rattle.ds_cell.specs.declared.entry.At.{At}
use Rattle.ds_cell.specs.declared.verdict.Bit.{Bit}
use Rattle.ds_cell.specs.declared.verdict.Verdict.TheVariants.{Keep}
use Rattle.ds_cell.specs.Change.{settled, settled_by}
use Rattle.ds_cell.specs.Content.{Content, AllAbove}
use Rattle.ds_cell.specs.Deed.{content_after, guarded}
use Rattle.ds_cell.specs.Requests.{deed_of}
use Rattle.ds_cell.specs.Seen.{held, last_of, too_old}
use Rattle.ds_cell.specs.Store.{StoreTxn}
use Rattle.ds_rule.specs.declared.record.TxnRecord.{TxnRecord}
use Rattle.ds_rule.specs.Pieces.{Each, IsCut, IsOneOf}
use Rattle.ds_rule.specs.Records.{record_number}
use Rattle.ds_rule.specs.StandsFor.{IsIntentOf}
use Rattle.ds_rule.specs.Turn.{after_items, items_at, speaks_of}
use Rattle.ds_rule.proofs.Lasts.{last-cases}
use Rattle.ds_turn.proofs.Settled.{held-none}
use Rattle.ds_mean.specs.Means.{RecordsFit}

-- ---- one request

guarded-stays : (at : At) (o : Option Stamp) (b : Bit) (c : Content) → content_after at (guarded o (Keep b)) c ≡ c
guarded-stays at None b c = refl
guarded-stays at (Some t) b c = refl

pub request-stays : (r : Request) → takes_number r ≡ false → (at : At) (c : Content) → content_after at (deed_of r at c) c ≡ c
request-stays (Get a) none at c = guarded-stays at (too_old at c) _ c
request-stays (Scan a) none at c = guarded-stays at (too_old at c) _ c
request-stays (ReverseScan a) none at c = guarded-stays at (too_old at c) _ c
request-stays (Put a) none at c = cc
request-stays (ConditionalPut a) none at c = cc
request-stays (InitPut a) none at c = cc
request-stays (Increment a) none at c = cc
request-stays (Delete a) none at c = cc
request-stays (DeleteRange a) none at c = cc
request-stays (EndTxn a) none at c = guarded-stays at (too_old at c) _ c
request-stays (QueryIntent a) none at c = guarded-stays at (too_old at c) _ c
request-stays (ResolveIntent a) none at c = guarded-stays at (too_old at c) _ c
request-stays (ResolveIntentRange a) none at c = guarded-stays at (too_old at c) _ c
request-stays (AdminSplit a) none at c = guarded-stays at (too_old at c) _ c
request-stays (AdminTransferLease a) none at c = guarded-stays at (too_old at c) _ c

-- ---- items, one after another

abbrev pub IsStill : Item → Type 0
IsStill i = takes_number i.request ≡ false

pub items-stay : (a : At) (js : List Item) (c : Content) → Each IsStill js → after_items a js c ≡ c
items-stay a [] c still = refl
items-stay a (j ∷ js) c still = ap (after_items a js) (request-stays j.request still.0 (record a { seq = j.seq }) c) ∙ items-stay a js c still.1

-- what holds of all holds of those at a key
pub each-at : (P : Item → Type 0) (k : List ℕ) (js : List Item) → Each P js → Each P (items_at k js)
each-at P k [] all = tt
each-at P k (j ∷ js) all = elim (speaks_of k j) as (λ t. Each P (cond t (j ∷ items_at k js) (items_at k js))) [
  | true ↦ (all.0, each-at P k js all.1)
  | false ↦ each-at P k js all.1
]

-- a cut writes only if the whole does
cut-takes : (s e : List ℕ) (r : Request) → takes_number (cut_to s e r) ≡ takes_number r
cut-takes s e (Get a) = refl
cut-takes s e (Scan a) = refl
cut-takes s e (ReverseScan a) = refl
cut-takes s e (Put a) = refl
cut-takes s e (ConditionalPut a) = refl
cut-takes s e (InitPut a) = refl
cut-takes s e (Increment a) = refl
cut-takes s e (Delete a) = refl
cut-takes s e (DeleteRange a) = refl
cut-takes s e (EndTxn a) = refl
cut-takes s e (QueryIntent a) = refl
cut-takes s e (ResolveIntent a) = refl
cut-takes s e (ResolveIntentRange a) = refl
cut-takes s e (AdminSplit a) = refl
cut-takes s e (AdminTransferLease a) = refl

-- what holds of all of some holds of each one of them
each-one : (P : Item → Type 0) (items : List Item) (i : Item) → Each P items → IsOneOf i items → P i
each-one P [] i all one = absurd one
each-one P (x ∷ xs) i all (inl same) = subst P (sym same) all.0
each-one P (x ∷ xs) i all (inr more) = each-one P xs i all.1 more

-- what a cut keeps of a request
pub cuts-keep : {X : Type 0} (f : Request → X) → ((s e : List ℕ) (r : Request) → f (cut_to s e r) ≡ f r) → (x : X) (items js : List Item) → Each (λ i. f i.request ≡ x) items → Each (IsCut items) js → Each (λ j. f j.request ≡ x) js
cuts-keep f same x items [] all cuts = tt
cuts-keep f same x items (j ∷ js) all cuts = (
  ap f cuts.0.request ∙ same (span_of j.request).start (span_of j.request).end cuts.0.whole.request ∙ each-one (λ i. f i.request ≡ x) items cuts.0.whole all cuts.0.there,
  cuts-keep f same x items js all cuts.1,
)

pub cuts-still : (items js : List Item) → Each IsStill items → Each (IsCut items) js → Each IsStill js
cuts-still items js all cuts = cuts-keep takes_number cut-takes false items js all cuts

-- ---- no intent is of a batch without a transaction

above-last : (n : ℕ) (ts : List TxnRecord) (x : TxnRecord) → AllAbove record_number n ts → last_of ts ≡ Some x → n < record_number x
above-last n [] x all h = cc
above-last n (t ∷ ts) x all h = elim (last-cases t ts x h) [
  | inl one ↦ subst (λ z. n < record_number z) one.1 all.0
  | inr rest ↦ above-last n ts x all.1 rest
]

-- the open transaction's number is above 0
pub none-held : (o : Option StoreTxn) (begun : ℕ) (rs : List TxnRecord) (c : Content) → RecordsFit o begun rs → IsIntentOf o c → held 0 c ≡ []
none-held None begun rs c fits none = held-none 0 c none
none-held (Some t) begun rs c fits (inl none) = held-none 0 c none
none-held (Some t) begun rs c fits (inr own) =
    let r = fits.recorded in
    let up : 0 < record_number r.its = above-last 0 rs r.its fits.named r.last in
    let num : record_number r.its ≡ t.asker.number = r.number in
    let who : c.owner ≡ t.asker.number = own.0 in
    ap (λ b. cond b c.history []) (ne_eqb c.owner 0 (λ e. omega (arith, up, num, who, e)))

-- so settling it changes nothing
pub settled-free : (commit : Option Stamp) (c : Content) → held 0 c ≡ [] → settled 0 commit c ≡ c
settled-free commit c none = ap (λ h. settled_by commit (last_of h) c) none
