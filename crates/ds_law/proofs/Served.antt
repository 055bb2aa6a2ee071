-- The replies of a piece that was served.
use Rattle.std.proofs.Common.{◌≡◌, ℕ, List, [], ◌∷◌, refl, sym, ap, ◌∙◌, Option, ◌++◌, inl, inr}
use Rattle.ds_kind.specs.declared.batch.Head.{Head}
use Rattle.ds_kind.specs.declared.batch.Item.{Item}
use Rattle.ds_kind.specs.declared.batch.Piece.{Piece}
use Rattle.ds_kind.specs.declared.reply.Reply.{Reply}
use Rattle.ds_cell.specs.Ask.{Cells, Asked, Failed, Gave}
use Rattle.ds_cell.specs.Requests.{ask_request}
use Rattle.ds_cell.specs.Store.{WriteAt}
use Rattle.ds_rule.specs.declared.answer.Answer.TheVariants.{Done}
use Rattle.ds_rule.specs.declared.event.Event.{Event}
use Rattle.ds_rule.specs.declared.journal.JournalStep.TheVariants.{Send}
use Rattle.ds_rule.specs.Asking.{Made, Gives, Fails, made_by, and_before, at_of}
use Rattle.ds_rule.specs.Clauses.{Stands, Steps, and_step}
use Rattle.ds_rule.specs.Deliver.{deliver_answer}
use Rattle.ds_rule.specs.Gathered.{IsBody}
use Rattle.ds_rule.specs.Journal.{Runs}
use Rattle.ds_rule.specs.World.{World}
use Rattle.ds_rule.proofs.Passing.{told}
use Rattle.ds_rule.proofs.Service.{service}
use Rattle.ds_rule.specs.Serve.{and_left, serve}
use Rattle.ds_rule.specs.declared.record.TxnRecord.{TxnRecord}
use Rattle.ds_kind.specs.declared.request.Request.{Request}
use Rattle.ds_base.specs.Order.{Extent}
use Rattle.ds_kind.specs.Bodies.{empty_body}
use Rattle.ds_cell.specs.Replies.{Bits, body_of}
use Rattle.ds_rule.specs.Limited.{ask_left, with_rest}
use Rattle.ds_rule.proofs.Short.{IsShort, left-by}
use Rattle.ds_law.proofs.Reading.{body-cut}
use Rattle.ds_kind.specs.declared.request.Request.TheVariants.{Get, Scan, ReverseScan, Put, ConditionalPut, InitPut, Increment, Delete, DeleteRange, EndTxn, QueryIntent, ResolveIntent, ResolveIntentRange, AdminSplit, AdminTransferLease}

-- the first reply is of its request's kind, and there is one

pub record First (i : Item) (rs : List Reply) : Type 0 where
  pub reply : Reply
  pub rest : List Reply
  pub is : rs ≡ reply ∷ rest
  pub kind : IsBody i.request reply.body

first-before : (i : Item) (ws : List WriteAt) (r : Reply) (rest : List Reply) (m : Made) (cells : Cells) (vs : List WriteAt) (rs : List Reply) → IsBody i.request r.body → and_before ws (r ∷ rest) m ≡ Gives cells vs rs → First i rs
first-before i ws r rest (Gives c us qs) cells vs rs kind h = record { reply = r; rest = rest ++ qs; is = cc; kind = kind }
first-before i ws r rest (Fails f) cells vs rs kind h = cc

-- what an item makes has a first reply of its kind
abbrev HasKind : Item → Made → Type 0
HasKind i (Fails f) = Unit {0}
HasKind i (Gives cells ws []) = ⊥
HasKind i (Gives cells ws (r ∷ rs)) = IsBody i.request r.body

made-kind : (h : Head) (i j : Item) (a : Asked) (cells : Cells) → ((bits : Bits) → body_of j.request bits ≡ body_of i.request bits) → HasKind i (made_by h j a cells)
made-kind h i j (Failed k f) cells same = tt
made-kind h i j (Gave bits ws) cells same = record { bits = bits; is = same bits }

short-same : (i j : Item) → IsShort i j → (bits : Bits) → body_of j.request bits ≡ body_of i.request bits
short-same i j (inl same) bits = ap (λ (z : Item). body_of z.request bits) same
short-same i j (inr part) bits = ap (λ (z : Item). body_of z.request bits) part.1 ∙ body-cut part.0.start part.0.end i.request bits

rest-kind : (i : Item) (rest : Option Extent) (m : Made) → HasKind i m → HasKind i (with_rest rest m)
rest-kind i rest (Fails f) kind = tt
rest-kind i rest (Gives cells ws []) kind = kind
rest-kind i rest (Gives cells ws (r ∷ rs)) kind = kind

empty-kind : (r : Request) → IsBody r (empty_body r)
empty-kind (Get a) = record { bits = []; is = refl }
empty-kind (Scan a) = record { bits = []; is = refl }
empty-kind (ReverseScan a) = record { bits = []; is = refl }
empty-kind (Put a) = record { bits = []; is = refl }
empty-kind (ConditionalPut a) = record { bits = []; is = refl }
empty-kind (InitPut a) = record { bits = []; is = refl }
empty-kind (Increment a) = record { bits = []; is = refl }
empty-kind (Delete a) = record { bits = []; is = refl }
empty-kind (DeleteRange a) = record { bits = []; is = refl }
empty-kind (EndTxn a) = record { bits = []; is = refl }
empty-kind (QueryIntent a) = record { bits = []; is = refl }
empty-kind (ResolveIntent a) = record { bits = []; is = refl }
empty-kind (ResolveIntentRange a) = record { bits = []; is = refl }
empty-kind (AdminSplit a) = record { bits = []; is = refl }
empty-kind (AdminTransferLease a) = record { bits = []; is = refl }

left-kind : (h : Head) (left : Option ℕ) (i : Item) (cells : Cells) → HasKind i (ask_left h left i cells)
left-kind h left i cells =
    left-by (HasKind i) h left i cells (rest-kind i) (empty-kind i.request)
    (λ j short keep. made-kind h i j (ask_request j.request (at_of h j.seq.0) cells) cells (short-same i j short))

first-left : (ts : List TxnRecord) (left : Option ℕ) (i : Item) (m : Made) (next : Option ℕ → Cells → Made) (cells : Cells) (vs : List WriteAt) (rs : List Reply) → HasKind i m → and_left ts left i.request m next ≡ Gives cells vs rs → First i rs
first-left ts left i (Fails f) next cells vs rs kind g = cc
first-left ts left i (Gives out ws []) next cells vs rs kind g = absurd kind
first-left ts left i (Gives out ws (r ∷ qs)) next cells vs rs kind g = first-before i ws r qs (next _ _) cells vs rs kind g

first-asked : (ts : List TxnRecord) (h : Head) (left : Option ℕ) (i : Item) (is : List Item) (now : Cells) (cells : Cells) (vs : List WriteAt) (rs : List Reply) → serve ts h left (i ∷ is) now ≡ Gives cells vs rs → First i rs
first-asked ts h left i is now cells vs rs g = first-left ts left i (ask_left h left i now) (λ rest now. serve ts h rest is now) cells vs rs (left-kind h left i now) g

last-step : (ms : List Event) (w v : World) (n : ℕ) (p : Piece) (rs : List Reply) → Runs w (and_step ms (Send n p (Done rs))) v → (u : World) × (Done rs ≡ deliver_answer u n p)
last-step [] w v n p rs r = (w, (told w (Send n p (Done rs)) r.0 r.1).0)
last-step (m ∷ ms) w v n p rs r = last-step ms r.0 v n p rs r.2

-- so of a step that was answered Done
pub first-served : (b c : Stands) (n : ℕ) (p : Piece) (i : Item) (is : List Item) (rs : List Reply) → Steps b c (Send n p (Done rs)) → p.items ≡ i ∷ is → First i rs
first-served b c n p i is rs st items =
    let k = last-step st.moves b.world c.world n p rs st.runs in
    let s = service k.0 n p rs k.1 in
    first-asked k.0.records p.head p.head.left i is s.range.cells s.cells s.writes rs (ap (λ is. serve k.0.records p.head p.head.left is s.range.cells) (sym items) ∙ s.gives)
