-- Where no intent is a transaction's, the records resolve nothing: a piece without a limit is served as a store is asked that
-- knows no records.
use Rattle.std.proofs.Common.{◌≡◌, ℕ, zero, suc, ◌==◌, true, false, cond, List, [], ◌∷◌, Option, Some, None, inl, inr, refl, sym, ap, ◌∙◌, subst, ne_eqb, arith}
use Rattle.ds_base.specs.Order.{Extent, holds}
use Rattle.ds_base.specs.Ordered.{key_eq, AllOver, at_key}
use Rattle.ds_base.specs.declared.value.Stamp.{Stamp}
use Rattle.ds_base.proofs.OrderedFacts.{at-none, eq_itself, eq_same}
use Rattle.ds_kind.specs.Request.{span_of}
use Rattle.ds_kind.specs.declared.batch.Head.{Head}
use Rattle.ds_kind.specs.declared.batch.Item.{Item}
use Rattle.ds_kind.specs.declared.request.Request.{Request}
use Rattle.ds_cell.specs.Ask.{Cell, Cells, key_of, content_of, content_at}
use Rattle.ds_cell.specs.Change.{settled, settled_by}
use Rattle.ds_cell.specs.Content.{Content, no_content, AllAbove}
use Rattle.ds_cell.specs.Seen.{last_of}
use Rattle.ds_cell.specs.Requests.{ask_request}
use Rattle.ds_cell.specs.Store.{WriteAt}
use Rattle.ds_rule.specs.declared.record.TxnRecord.{TxnRecord}
use Rattle.ds_rule.specs.Asking.{Made, Gives, Fails, and_before, and_then, ask_all, ask_item, at_of, txn_of}
use Rattle.ds_rule.specs.Pieces.{Each}
use Rattle.ds_rule.specs.Records.{record_of, record_number}
use Rattle.ds_rule.specs.Serve.{and_left, decided, resolved_for, resolves, serve, settle_as, settle_in, settle_one}
use Rattle.ds_law.proofs.Failing.{none-named}
use Rattle.ds_law.proofs.Kept.{Keeps, made-keeps}
use Rattle.ds_law.proofs.Lifetime.{settled-none}
use Rattle.ds_law.proofs.Settling.{Frees, IsFree, frees-kept}

abbrev pub AtAny : List ℕ → Type 0
AtAny k = Unit {0}

abbrev AreFree : Cells → Type 0
AreFree [] = Unit {0}
AreFree (p ∷ ps) = IsFree (Unit {0}) p.1 × AreFree ps

pub none-free : IsFree (Unit {0}) no_content
none-free = record { none_waits = refl; intent = inl refl }

free-tail : (p : Cell) (ps : Cells) (k : List ℕ) → AllOver key_of p.0 ps → IsFree (Unit {0}) (content_at k (p ∷ ps)) → IsFree (Unit {0}) (content_at k ps)
free-tail p ps k over h =
    elim (key_eq p.0 k) as (λ t. key_eq p.0 k ≡ t → IsFree (Unit {0}) (content_of (cond t (Some p) (at_key key_of k ps))) → IsFree (Unit {0}) (content_at k ps)) [
      | true ↦ λ e g. subst (IsFree (Unit {0})) (sym (ap content_of (at-none key_of k ps (subst (λ z. AllOver key_of z ps) (eq_same p.0 k e) over)))) none-free
      | false ↦ λ e g. g
    ] refl h

are-free : (cells : Cells) → Frees AtAny cells → AreFree cells
are-free [] f = tt
are-free (p ∷ ps) f = (
  subst (IsFree (Unit {0})) (ap (λ t. content_of (cond t (Some p) (at_key key_of p.0 ps))) (eq_itself p.0)) (f.1 p.0),
  are-free ps (f.0.1, λ k. free-tail p ps k f.0.0 (f.1 k)),
)

-- an intent of no transaction isn't settled by one
settled-other : (n : ℕ) (commit : Option Stamp) (c : Content) → (0 == n) ≡ false → IsFree (Unit {0}) c → settled n commit c ≡ c
settled-other n commit c other free = elim free.intent [
  | inl none ↦ settled-none n commit c none
  | inr own ↦ ap (λ b. settled_by commit (last_of (cond b c.history [])) c) (ap (λ o. o == n) own.0 ∙ other)
]

settle-free : (e : Extent) (n : ℕ) (commit : Option Stamp) (cells : Cells) → (0 == n) ≡ false → AreFree cells → settle_in e n commit cells ≡ cells
settle-free e n commit [] other free = refl
settle-free e n commit (p ∷ ps) other free = ap (λ z. z ∷ settle_in e n commit ps) one ∙ ap (λ zs. p ∷ zs) (settle-free e n commit ps other free.1)
  where
    one : settle_one e n commit p ≡ p
    one = elim (holds e.start e.end p.0) as (λ b. cond b (p.0, settled n commit p.1) p ≡ p) [
      | true ↦ ap (λ c. (p.0, c)) (settled-other n commit p.1 other free.0)
      | false ↦ refl
    ]

as-free : (e : Extent) (n : ℕ) (o : Option (Option Stamp)) (cells : Cells) → (0 == n) ≡ false → AreFree cells → settle_as e n o cells ≡ cells
as-free e n None cells other free = refl
as-free e n (Some commit) cells other free = settle-free e n commit cells other free

for-free : (ts : List TxnRecord) (e : Extent) (o : Option ℕ) (cells : Cells) → AllAbove record_number 0 ts → AreFree cells → resolved_for ts e o cells ≡ cells
for-free ts e None cells named free = refl
for-free ts e (Some zero) cells named free = ap (λ o. settle_as e 0 (decided o) cells) (none-named ts named)
for-free ts e (Some (suc m)) cells named free = as-free e (suc m) (decided (record_of (suc m) ts)) cells (ne_eqb 0 (suc m) (λ h. omega (arith, h))) free

units : (ws : List WriteAt) → Each (λ w. AtAny w.key) ws
units [] = tt
units (w ∷ ws) = (tt, units ws)

-- one request after what was made, where the rest is asked so of each contents that are free
serve-step : (ts : List TxnRecord) (h : Head) (q : Request) (is : List Item) (m : Made) → AllAbove record_number 0 ts → Keeps AtAny (Frees AtAny) m → ((cells : Cells) → Frees AtAny cells → serve ts h None is cells ≡ ask_all h is cells) → and_left ts None q m (λ rest now. serve ts h rest is now) ≡ and_then m (ask_all h is)
serve-step ts h q is (Fails f) named kept later = refl
serve-step ts h q is (Gives out ws rs) named kept later =
    let after = kept (units ws) in
    ap (and_before ws rs) (ap (serve ts h None is) (for-free ts (span_of q) (resolves q) out named (are-free out after)) ∙ later out after)

pub serve-plain : (ts : List TxnRecord) (h : Head) (items : List Item) (cells : Cells) → AllAbove record_number 0 ts → txn_of h ≡ 0 → Frees AtAny cells → serve ts h None items cells ≡ ask_all h items cells
serve-plain ts h [] cells named none free = refl
serve-plain ts h (i ∷ is) cells named none free =
    serve-step ts h i.request is (ask_item h i cells) named
    (made-keeps h AtAny (Frees AtAny) i (ask_request i.request (at_of h i.seq.0) cells) cells (frees-kept h AtAny none) free)
    (λ out after. serve-plain ts h is out named none after)
