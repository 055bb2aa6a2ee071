-- No request fails by the record of a transaction.
use Rattle.std.proofs.Common.{◌≡◌, ℕ, List, [], ◌∷◌, Option, subst}
use Rattle.ds_kind.specs.declared.batch.Head.{Head}
use Rattle.ds_kind.specs.declared.batch.Item.{Item}
use Rattle.ds_kind.specs.declared.reply.Failure.{Failure}
use Rattle.ds_kind.specs.declared.reply.Reply.{Reply}
use Rattle.ds_cell.specs.declared.verdict.ActFault.{ActFault}
use Rattle.ds_cell.specs.declared.verdict.ActFault.TheVariants as Fault
use Rattle.ds_cell.specs.Ask.{Cells, Asked, Failed, Gave}
use Rattle.ds_cell.specs.Requests.{ask_request}
use Rattle.ds_cell.specs.Store.{WriteAt}
use Rattle.ds_rule.specs.Asking.{Made, Gives, Fails, and_before, and_then, ask_all, ask_item, at_of, failure_of, made_by}
use Rattle.ds_base.specs.Order.{Extent}
use Rattle.ds_kind.specs.Left.{left_after}
use Rattle.ds_kind.specs.declared.request.Request.{Request}
use Rattle.ds_rule.specs.declared.record.TxnRecord.{TxnRecord}
use Rattle.ds_rule.specs.Limited.{ask_left, with_rest}
use Rattle.ds_rule.specs.Serve.{and_left, resolved_left, serve}
use Rattle.ds_rule.proofs.Short.{left-by}

-- a failure by the record of a transaction that has ended
abbrev pub IsOfRecord : Failure → Type 0
IsOfRecord Failure.Aborted = Unit {0}
IsOfRecord Failure.Committed = Unit {0}
IsOfRecord f = ⊥

abbrev IsOwn : Made → Type 0
IsOwn (Fails f) = IsOfRecord f → ⊥
IsOwn (Gives cells ws rs) = Unit {0}

fault-own : (i : ℕ) (k : List ℕ) (f : ActFault) → IsOfRecord (failure_of i k f) → ⊥
fault-own i k (Fault.Condition v) h = h
fault-own i k (Fault.TooOld t) h = h
fault-own i k Fault.NotInteger h = h
fault-own i k Fault.Overflow h = h
fault-own i k (Fault.Memory e) h = h

made-own : (h : Head) (i : Item) (a : Asked) (cells : Cells) → IsOwn (made_by h i a cells)
made-own h i (Failed k f) cells = fault-own i.pos k f
made-own h i (Gave bits ws) cells = tt

before-own : (ws : List WriteAt) (rs : List Reply) (m : Made) → IsOwn m → IsOwn (and_before ws rs m)
before-own ws rs (Fails f) h = h
before-own ws rs (Gives cells more later) h = tt

then-own : (m : Made) (next : Cells → Made) → IsOwn m → ((cells : Cells) → IsOwn (next cells)) → IsOwn (and_then m next)
then-own (Fails f) next h more = h
then-own (Gives cells ws rs) next h more = before-own ws rs (next cells) (more cells)

asked-own : (h : Head) (items : List Item) (cells : Cells) → IsOwn (ask_all h items cells)
asked-own h [] cells = tt
asked-own h (i ∷ is) cells = then-own (ask_item h i cells) (ask_all h is) (made-own h i (ask_request i.request (at_of h i.seq.0) cells) cells) (λ out. asked-own h is out)

pub never-of-record : (h : Head) (items : List Item) (cells : Cells) (f : Failure) → IsOfRecord f → ask_all h items cells ≡ Fails f → ⊥
never-of-record h items cells f ended is = (subst IsOwn is (asked-own h items cells)) ended

-- ---- of a piece, by the records and with what is left of a limit

rest-own : (rest : Option Extent) (m : Made) → IsOwn m → IsOwn (with_rest rest m)
rest-own rest (Fails f) h = h
rest-own rest (Gives cells ws rs) h = tt

left-own : (h : Head) (left : Option ℕ) (i : Item) (cells : Cells) → IsOwn (ask_left h left i cells)
left-own h left i cells = left-by IsOwn h left i cells rest-own tt (λ j short keep. made-own h j (ask_request j.request (at_of h j.seq.0) cells) cells)

and-own : (ts : List TxnRecord) (left : Option ℕ) (q : Request) (m : Made) (next : Option ℕ → Cells → Made) → IsOwn m → ((o : Option ℕ) (cells : Cells) → IsOwn (next o cells)) → IsOwn (and_left ts left q m next)
and-own ts left q (Fails f) next h more = h
and-own ts left q (Gives cells ws rs) next h more = before-own ws rs (next (left_after left rs) (resolved_left ts left q cells)) (more _ _)

all-own : (ts : List TxnRecord) (h : Head) (left : Option ℕ) (items : List Item) (cells : Cells) → IsOwn (serve ts h left items cells)
all-own ts h left [] cells = tt
all-own ts h left (i ∷ is) cells = and-own ts left i.request (ask_left h left i cells) (λ rest now. serve ts h rest is now) (left-own h left i cells) (λ o out. all-own ts h o is out)

pub never-served : (ts : List TxnRecord) (h : Head) (left : Option ℕ) (items : List Item) (cells : Cells) (f : Failure) → IsOfRecord f → serve ts h left items cells ≡ Fails f → ⊥
never-served ts h left items cells f ended is = (subst IsOwn is (all-own ts h left items cells)) ended
