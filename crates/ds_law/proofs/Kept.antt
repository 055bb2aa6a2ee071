-- What a batch's writes keep, and where they stand.
use Rattle.std.proofs.Common.{◌≡◌, ℕ, true, List, [], ◌∷◌, Option}
use Rattle.std.specs.List.{list_all}
use Rattle.ds_base.specs.Order.{holds}
use Rattle.ds_base.specs.declared.value.Value.{Value}
use Rattle.ds_base.proofs.SmallFacts.{and_first, and_second}
use Rattle.ds_rule.proofs.Eachs.{each-append, each-left, each-right}
use Rattle.ds_kind.specs.Request.{reach_of, span_of}
use Rattle.ds_kind.specs.declared.batch.Head.{Head}
use Rattle.ds_kind.specs.declared.batch.Item.{Item}
use Rattle.ds_kind.specs.declared.reply.Reply.{Reply}
use Rattle.ds_cell.specs.Ask.{AllIn, StandsIn, Cells, key_of, Asked, Failed, Gave}
use Rattle.ds_cell.specs.Change.{wrote}
use Rattle.ds_cell.specs.LawProofs.{stands_at}
use Rattle.ds_cell.specs.Requests.{deed_of, ask_request}
use Rattle.ds_cell.specs.Store.{WriteAt, put_cell, write_all, under_number}
use Rattle.ds_rule.specs.Asking.{Made, Gives, Fails, and_before, and_then, made_by, ask_item, ask_all, at_of}
use Rattle.ds_rule.specs.Deliver.{holds_item}
use Rattle.ds_rule.specs.Pieces.{Each}
use Rattle.ds_rule.specs.World.{Range, start_of, end_of}
use Rattle.ds_law.proofs.Alike.{in-range}

-- what each write at a key of N keeps

abbrev pub IsKept : Head → (List ℕ → Type 0) → (Cells → Type 0) → Type 0
IsKept h N P = (k : List ℕ) (n : ℕ) (w : Option Value) (cells : Cells) → N k → P cells → P (put_cell k (wrote (at_of h n) w) cells)

-- where all writes are at keys of N, it is kept
abbrev pub Keeps : (List ℕ → Type 0) → (Cells → Type 0) → Made → Type 0
Keeps N P (Fails f) = Unit {0}
Keeps N P (Gives cells ws rs) = Each (λ w. N w.key) ws → P cells

write-keeps : (h : Head) (N : List ℕ → Type 0) (P : Cells → Type 0) (n : ℕ) (ws : List (List ℕ × Option Value)) (cells : Cells) → IsKept h N P → P cells → Each (λ w. N w.key) (under_number (at_of h n) ws) → P (write_all (at_of h n) ws cells)
write-keeps h N P n [] cells kept p all = p
write-keeps h N P n (w ∷ ws) cells kept p all = write-keeps h N P n ws _ kept (kept w.0 n w.1 cells all.0 p) all.1

pub made-keeps : (h : Head) (N : List ℕ → Type 0) (P : Cells → Type 0) (i : Item) (a : Asked) (cells : Cells) → IsKept h N P → P cells → Keeps N P (made_by h i a cells)
made-keeps h N P i (Failed k f) cells kept p = tt
made-keeps h N P i (Gave bs ws) cells kept p = λ all. write-keeps h N P i.seq.0 ws cells kept p all

before-keeps : (N : List ℕ → Type 0) (P : Cells → Type 0) (ws : List WriteAt) (rs : List Reply) (m : Made) → (Each (λ w. N w.key) ws → Keeps N P m) → Keeps N P (and_before ws rs m)
before-keeps N P ws rs (Fails f) h = tt
before-keeps N P ws rs (Gives cells more later) h = λ all. h (each-left (λ w. N w.key) ws more all) (each-right (λ w. N w.key) ws more all)

then-keeps : (N : List ℕ → Type 0) (P : Cells → Type 0) (m : Made) (next : Cells → Made) → Keeps N P m → ((cells : Cells) → P cells → Keeps N P (next cells)) → Keeps N P (and_then m next)
then-keeps N P (Fails f) next h more = tt
then-keeps N P (Gives cells ws rs) next h more = before-keeps N P ws rs (next cells) (λ all. more cells (h all))

pub all-keeps : (h : Head) (N : List ℕ → Type 0) (P : Cells → Type 0) (items : List Item) (cells : Cells) → IsKept h N P → P cells → Keeps N P (ask_all h items cells)
all-keeps h N P [] cells kept p = λ all. p
all-keeps h N P (i ∷ is) cells kept p =
    then-keeps N P (ask_item h i cells) (ask_all h is) (made-keeps h N P i (ask_request i.request (at_of h i.seq.0) cells) cells kept p) (λ out q. all-keeps h N P is out kept q)

-- all writes stand at keys of the span
abbrev pub Within : List ℕ → List ℕ → Made → Type 0
Within s e (Fails f) = Unit {0}
Within s e (Gives cells ws rs) = Each (λ w. holds s e w.key ≡ true) ws

made-within : (r : Range) (h : Head) (i : Item) (a : Asked) (cells : Cells) → holds_item r i ≡ true → StandsIn (span_of i.request).start (span_of i.request).end a → Within (start_of r) (end_of r) (made_by h i a cells)
made-within r h i (Failed k f) cells fits all = tt
made-within r h i (Gave bs ws) cells fits all = each ws all.1
  where
    each : (ws : List (List ℕ × Option Value)) → AllIn key_of (span_of i.request).start (span_of i.request).end ws → Each (λ w. holds (start_of r) (end_of r) w.key ≡ true) (under_number (at_of h i.seq.0) ws)
    each [] all = tt
    each (w ∷ ws) all = (in-range r i w.0 fits all.0, each ws all.1)

before-within : (s e : List ℕ) (ws : List WriteAt) (rs : List Reply) (m : Made) → Each (λ w. holds s e w.key ≡ true) ws → Within s e m → Within s e (and_before ws rs m)
before-within s e ws rs (Fails f) a b = tt
before-within s e ws rs (Gives cells more later) a b = each-append (λ w. holds s e w.key ≡ true) ws more a b

then-within : (s e : List ℕ) (m : Made) (next : Cells → Made) → Within s e m → ((cells : Cells) → Within s e (next cells)) → Within s e (and_then m next)
then-within s e (Fails f) next a b = tt
then-within s e (Gives cells ws rs) next a b = before-within s e ws rs (next cells) a (b cells)

pub all-within : (r : Range) (h : Head) (items : List Item) (cells : Cells) → list_all (holds_item r) items ≡ true → Within (start_of r) (end_of r) (ask_all h items cells)
all-within r h [] cells fits = tt
all-within r h (i ∷ is) cells fits =
    then-within (start_of r) (end_of r) (ask_item h i cells) (ask_all h is)
    (made-within r h i (ask_request i.request (at_of h i.seq.0) cells) cells (and_first (holds_item r i) _ fits) (stands_at (deed_of i.request (at_of h i.seq.0)) (reach_of i.request) cells))
    (λ out. all-within r h is out (and_second (holds_item r i) _ fits))
