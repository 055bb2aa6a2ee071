-- Each reply of a piece that was served is of its item's kind, and whole where there is no limit.
use Rattle.std.proofs.Common.{◌≡◌, ℕ, List, [], ◌∷◌, map, Option, Some, None, inl, inr, refl, ap, ◌∙◌, subst}
use Rattle.ds_base.specs.Order.{Extent}
use Rattle.ds_kind.specs.Bodies.{empty_body}
use Rattle.ds_kind.specs.Left.{left_after}
use Rattle.ds_kind.specs.declared.batch.Head.{Head}
use Rattle.ds_kind.specs.declared.batch.Item.{Item}
use Rattle.ds_kind.specs.declared.batch.Piece.{Piece}
use Rattle.ds_kind.specs.declared.reply.Reply.{Reply}
use Rattle.ds_kind.specs.declared.request.Request.{Request}
use Rattle.ds_kind.specs.declared.request.Request.TheVariants.{Get, Scan, ReverseScan, Put, ConditionalPut, InitPut, Increment, Delete, DeleteRange, EndTxn, QueryIntent, ResolveIntent, ResolveIntentRange, AdminSplit, AdminTransferLease}
use Rattle.ds_cell.specs.Ask.{Asked, Cells, Failed, Gave}
use Rattle.ds_cell.specs.Replies.{Bits, body_of}
use Rattle.ds_cell.specs.Requests.{ask_request}
use Rattle.ds_cell.specs.Store.{WriteAt}
use Rattle.ds_cover.specs.Items as Items
use Rattle.ds_cover.specs.Origins.{IsCut}
use Rattle.ds_rule.proofs.Service.{service}
use Rattle.ds_rule.proofs.Short.{IsShort, left-by}
use Rattle.ds_rule.specs.Asking.{Made, Gives, Fails, and_before, at_of, made_by}
use Rattle.ds_rule.specs.Deliver.{deliver_answer}
use Rattle.ds_rule.specs.Gathered.{IsBody}
use Rattle.ds_rule.specs.Journal.{pairs}
use Rattle.ds_rule.specs.Limited.{ask_left, with_rest}
use Rattle.ds_rule.specs.Pieces.{Each}
use Rattle.ds_rule.specs.Serve.{and_left, resolved_left, serve}
use Rattle.ds_rule.specs.World.{World}
use Rattle.ds_rule.specs.declared.answer.Answer.TheVariants.{Done}
use Rattle.ds_rule.specs.declared.record.TxnRecord.{TxnRecord}
use Rattle.ds_flight.proofs.Gathers.{AnswersOne, body-cut, item_from}

-- ---- one item

-- the reply is of the item's kind, and whole where there is no limit
pub record Fits (left : Option ℕ) (i : Item) (r : Reply) : Type 0 where
  pub body : IsBody i.request r.body
  pub whole : left ≡ None → r.resume ≡ None

abbrev OneReply : Option ℕ → Item → Made → Type 0
OneReply left i (Fails f) = Unit {0}
OneReply left i (Gives cells ws []) = ⊥
OneReply left i (Gives cells ws (r ∷ [])) = Fits left i r
OneReply left i (Gives cells ws (r ∷ q ∷ rs)) = ⊥

short-body : (i j : Item) → IsShort i j → (bits : Bits) → body_of j.request bits ≡ body_of i.request bits
short-body i j (inl same) bits = ap (λ (z : Item). body_of z.request bits) same
short-body i j (inr part) bits = ap (λ (z : Item). body_of z.request bits) part.1 ∙ body-cut part.0.start part.0.end i.request bits

one-made : (left : Option ℕ) (h : Head) (i j : Item) (a : Asked) (cells : Cells) → ((bits : Bits) → body_of j.request bits ≡ body_of i.request bits) → OneReply left i (made_by h j a cells)
one-made left h i j (Failed k f) cells same = tt
one-made left h i j (Gave bits ws) cells same = record { body = record { bits = bits; is = same bits }; whole = λ none. refl }

one-rest : (n : ℕ) (i : Item) (rest : Option Extent) (m : Made) → OneReply (Some n) i m → OneReply (Some n) i (with_rest rest m)
one-rest n i rest (Fails f) one = tt
one-rest n i rest (Gives cells ws []) one = one
one-rest n i rest (Gives cells ws (r ∷ [])) one = record { body = one.body; whole = λ none. cc }
one-rest n i rest (Gives cells ws (r ∷ q ∷ rs)) one = one

empty-of : (r : Request) → IsBody r (empty_body r)
empty-of (Get a) = record { bits = []; is = refl }
empty-of (Scan a) = record { bits = []; is = refl }
empty-of (ReverseScan a) = record { bits = []; is = refl }
empty-of (Put a) = record { bits = []; is = refl }
empty-of (ConditionalPut a) = record { bits = []; is = refl }
empty-of (InitPut a) = record { bits = []; is = refl }
empty-of (Increment a) = record { bits = []; is = refl }
empty-of (Delete a) = record { bits = []; is = refl }
empty-of (DeleteRange a) = record { bits = []; is = refl }
empty-of (EndTxn a) = record { bits = []; is = refl }
empty-of (QueryIntent a) = record { bits = []; is = refl }
empty-of (ResolveIntent a) = record { bits = []; is = refl }
empty-of (ResolveIntentRange a) = record { bits = []; is = refl }
empty-of (AdminSplit a) = record { bits = []; is = refl }
empty-of (AdminTransferLease a) = record { bits = []; is = refl }

one-left : (h : Head) (left : Option ℕ) (i : Item) (cells : Cells) → OneReply left i (ask_left h left i cells)
one-left h None i cells = one-made None h i i (ask_request i.request (at_of h i.seq.0) cells) cells (λ bits. refl)
one-left h (Some n) i cells =
    left-by (OneReply (Some n) i) h (Some n) i cells (one-rest n i) (record { body = empty-of i.request; whole = λ none. cc })
    (λ j short keep. one-made (Some n) h i j (ask_request j.request (at_of h j.seq.0) cells) cells (short-body i j short))

-- ---- items in order

-- one reply to each item, with what is left after those before it
abbrev pub AllFit : Option ℕ → List Item → List Reply → Type 0
AllFit left [] [] = Unit {0}
AllFit left [] (r ∷ rs) = ⊥
AllFit left (i ∷ is) [] = ⊥
AllFit left (i ∷ is) (r ∷ rs) = Fits left i r × AllFit (left_after left (r ∷ [])) is rs

fit-before :
    (left : Option ℕ) (i : Item) (is : List Item) (ws : List WriteAt) (r : Reply) (m : Made) (out : Cells) (vs : List WriteAt) (rs : List Reply)
    → Fits left i r → ((c : Cells) (us : List WriteAt) (qs : List Reply) → m ≡ Gives c us qs → AllFit (left_after left (r ∷ [])) is qs)
    → and_before ws (r ∷ []) m ≡ Gives out vs rs → AllFit left (i ∷ is) rs
fit-before left i is ws r (Fails f) out vs rs one more h = cc
fit-before left i is ws r (Gives c us qs) out vs rs one more h =
    let same : r ∷ qs ≡ rs = cc in
    subst (AllFit left (i ∷ is)) same (one, more c us qs refl)

fit-then :
    (ts : List TxnRecord) (left : Option ℕ) (i : Item) (is : List Item) (m : Made) (next : Option ℕ → Cells → Made) (out : Cells) (vs : List WriteAt) (rs : List Reply)
    → OneReply left i m
    → ((rest : Option ℕ) (now c : Cells) (us : List WriteAt) (qs : List Reply) → next rest now ≡ Gives c us qs → AllFit rest is qs)
    → and_left ts left i.request m next ≡ Gives out vs rs → AllFit left (i ∷ is) rs
fit-then ts left i is (Fails f) next out vs rs one more h = cc
fit-then ts left i is (Gives cells ws []) next out vs rs one more h = absurd one
fit-then ts left i is (Gives cells ws (r ∷ [])) next out vs rs one more h =
    fit-before left i is ws r (next (left_after left (r ∷ [])) (resolved_left ts left i.request cells)) out vs rs one
    (more (left_after left (r ∷ [])) (resolved_left ts left i.request cells)) h
fit-then ts left i is (Gives cells ws (r ∷ q ∷ qs)) next out vs rs one more h = absurd one

pub serve-fits :
    (ts : List TxnRecord) (h : Head) (left : Option ℕ) (items : List Item) (cells out : Cells) (vs : List WriteAt) (rs : List Reply)
    → serve ts h left items cells ≡ Gives out vs rs → AllFit left items rs
serve-fits ts h left [] cells out vs rs gives =
    let same : [] ≡ rs = cc in
    subst (AllFit left []) same tt
serve-fits ts h left (i ∷ is) cells out vs rs gives =
    fit-then ts left i is (ask_left h left i cells) (λ rest now. serve ts h rest is now) out vs rs (one-left h left i cells)
    (λ rest now c us qs e. serve-fits ts h rest is now c us qs e) gives

-- what a Done says of its replies
pub done-fits : (w : World) (node : ℕ) (p : Piece) (rs : List Reply) → Done rs ≡ deliver_answer w node p → AllFit p.head.left p.items rs
done-fits w node p rs h =
    let it = service w node p rs h in
    serve-fits w.records p.head p.head.left p.items it.range.cells it.cells it.writes rs it.gives

-- ---- a piece of some items

pub fit-items : (head : Head) (left : Option ℕ) (is : List Item) (rs : List Reply) → AllFit left is rs → map item_from (pairs head is rs) ≡ is
fit-items head left [] [] fits = refl
fit-items head left [] (r ∷ rs) fits = absurd fits
fit-items head left (i ∷ is) [] fits = absurd fits
fit-items head left (i ∷ is) (r ∷ rs) fits = ap (λ js. i ∷ js) (fit-items head (left_after left (r ∷ [])) is rs fits.1)

-- each item is a part of one of these
abbrev pub CutOfOne : List Item → Item → Type 0
CutOfOne items c = (i : Item) × Items.IsOneOf i items × IsCut i c

pub fit-answers :
    (items : List Item) (head : Head) (is : List Item) (rs : List Reply) → AllFit None is rs → Each (CutOfOne items) is
    → Each (AnswersOne items) (pairs head is rs)
fit-answers items head [] [] fits cuts = tt
fit-answers items head [] (r ∷ rs) fits cuts = tt
fit-answers items head (i ∷ is) [] fits cuts = tt
fit-answers items head (i ∷ is) (r ∷ rs) fits cuts =
    (record { item = cuts.0.0; there = cuts.0.1; cut = cuts.0.2; body = fits.0.body; whole = fits.0.whole refl }, fit-answers items head is rs fits.1 cuts.1)
