-- A piece that was served was answered one reply for each of its items.
use Rattle.std.proofs.Common.{◌≡◌, ℕ, zero, suc, List, [], ◌∷◌, ◌++◌, map, Option, Some, None, refl, ap, ◌∙◌, subst}
use Rattle.ds_base.specs.Order.{Extent}
use Rattle.ds_kind.specs.Left.{left_after}
use Rattle.ds_kind.specs.declared.batch.Head.{Head}
use Rattle.ds_kind.specs.declared.batch.Item.{Item}
use Rattle.ds_kind.specs.declared.reply.Reply.{Reply}
use Rattle.ds_cell.specs.Ask.{Asked, Cells, Failed, Gave}
use Rattle.ds_cell.specs.Requests.{ask_request}
use Rattle.ds_cell.specs.Store.{WriteAt}
use Rattle.ds_rule.specs.declared.record.TxnRecord.{TxnRecord}
use Rattle.ds_rule.specs.Asking.{Fails, Gives, Made, and_before, at_of, made_by}
use Rattle.ds_rule.specs.Journal.{pairs}
use Rattle.ds_rule.specs.Limited.{ask_left, ask_up_to, last_taken, resuming, taken_keys, with_rest}
use Rattle.ds_rule.specs.Serve.{and_left, resolved_left, serve}
use Rattle.ds_rule.proofs.Service.{service}
use Rattle.ds_mean.specs.Covering.{PiecesAccepted}
use Rattle.ds_mean.specs.InTurn.{items_of}

-- one reply, or a failure
abbrev HasOne : Made → Type 0
HasOne (Fails f) = Unit {0}
HasOne (Gives cells ws rs) = (r : Reply) × (rs ≡ r ∷ [])

one-by : (h : Head) (i : Item) (a : Asked) (cells : Cells) → HasOne (made_by h i a cells)
one-by h i (Failed k f) cells = tt
one-by h i (Gave bits ws) cells = (_, refl)

one-rest : (rest : Option Extent) (m : Made) → HasOne m → HasOne (with_rest rest m)
one-rest rest (Fails f) one = tt
one-rest rest (Gives cells ws rs) one = (resuming rest one.0, ap (λ zs. map (resuming rest) zs) one.1)

one-up-to : (h : Head) (o : Option (List ℕ)) (i : Item) (cells : Cells) → HasOne (ask_up_to h o i cells)
one-up-to h None i cells = one-by h i (ask_request i.request (at_of h i.seq.0) cells) cells
one-up-to h (Some k) i cells = one-rest _ _ (one-by h _ _ cells)

one-left : (h : Head) (left : Option ℕ) (i : Item) (cells : Cells) → HasOne (ask_left h left i cells)
one-left h None i cells = one-by h i (ask_request i.request (at_of h i.seq.0) cells) cells
one-left h (Some zero) i cells = (_, refl)
one-left h (Some (suc n)) i cells = one-up-to h (last_taken n (taken_keys i.request (at_of h i.seq.0) cells)) i cells

-- replies to all of these
abbrev AcceptsAll : Head → List Item → Made → Type 0
AcceptsAll h js (Fails f) = Unit {0}
AcceptsAll h js (Gives cells ws rs) = items_of (pairs h js rs) ≡ js

accepts-more : (h : Head) (j : Item) (js : List Item) (ws : List WriteAt) (rs : List Reply) (m : Made) → (r : Reply) → rs ≡ r ∷ [] → AcceptsAll h js m → AcceptsAll h (j ∷ js) (and_before ws rs m)
accepts-more h j js ws rs (Fails f) r one all = tt
accepts-more h j js ws rs (Gives cells more later) r one all = ap (λ zs. items_of (pairs h (j ∷ js) (zs ++ later))) one ∙ ap (λ zs. j ∷ zs) all

accepts-left : (ts : List TxnRecord) (h g : Head) (left : Option ℕ) (j : Item) (js : List Item) (m : Made) (next : Option ℕ → Cells → Made) → HasOne m → ((l : Option ℕ) (x : Cells) → AcceptsAll g js (next l x)) → AcceptsAll g (j ∷ js) (and_left ts left j.request m next)
accepts-left ts h g left j js (Fails f) next one all = tt
accepts-left ts h g left j js (Gives cells ws rs) next one all = accepts-more g j js ws rs (next (left_after left rs) (resolved_left ts left j.request cells)) one.0 one.1 (all (left_after left rs) (resolved_left ts left j.request cells))

serve-accepts : (ts : List TxnRecord) (h g : Head) (left : Option ℕ) (js : List Item) (x : Cells) → AcceptsAll g js (serve ts h left js x)
serve-accepts ts h g left [] x = refl
serve-accepts ts h g left (j ∷ js) x =
    accepts-left ts h g left j js (ask_left h left j x) (λ rest now. serve ts h rest js now) (one-left h left j x) (λ l y. serve-accepts ts h g l js y)

pub pieces_accepted : PiecesAccepted
pieces_accepted w n p rs h =
    let sv = service w n p rs h in
    subst (AcceptsAll p.head p.items) sv.gives (serve-accepts w.records p.head p.head p.head.left p.items sv.range.cells)
