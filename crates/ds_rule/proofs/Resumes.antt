-- What is left of an item's span lies in it.
use Rattle.std.proofs.Common.{◌≡◌, ℕ, zero, suc, Bool, true, false, cond, List, [], ◌∷◌, ap, map, Option, Some, None, refl, subst}
use Rattle.ds_base.specs.Order.{Extent, after, holds, key_le, key_lt}
use Rattle.ds_base.proofs.KeyFacts.{le_itself}
use Rattle.ds_base.proofs.KeyOrder.{below-after}
use Rattle.ds_base.proofs.OrderedFacts.{le_of_lt, le_trans}
use Rattle.ds_base.proofs.SmallFacts.{and_first, and_second}
use Rattle.ds_kind.specs.Bodies.{goes_down}
use Rattle.ds_kind.specs.Left.{left_after}
use Rattle.ds_kind.specs.Request.{span_of}
use Rattle.ds_kind.specs.declared.batch.Head.{Head}
use Rattle.ds_kind.specs.declared.batch.Item.{Item}
use Rattle.ds_kind.specs.declared.batch.Piece.{Piece}
use Rattle.ds_kind.specs.declared.reply.Reply.{Reply}
use Rattle.ds_kind.specs.declared.request.Request.{Request}
use Rattle.ds_cell.specs.Ask.{Asked, Cells, Failed, Gave}
use Rattle.ds_cell.specs.Requests.{ask_request}
use Rattle.ds_cell.specs.Store.{WriteAt}
use Rattle.ds_rule.specs.declared.answer.Answer.TheVariants.{Done}
use Rattle.ds_rule.specs.declared.record.TxnRecord.{TxnRecord}
use Rattle.ds_rule.specs.declared.event.Event.{Event}
use Rattle.ds_rule.specs.declared.journal.JournalStep.TheVariants.{Send}
use Rattle.ds_rule.specs.Clauses.{Stands, Steps, and_step}
use Rattle.ds_rule.specs.Journal.{Runs, pairs}
use Rattle.ds_rule.specs.Asking.{Made, Gives, Fails, and_before, ask_item, at_of, made_by}
use Rattle.ds_rule.specs.Deliver.{deliver_answer}
use Rattle.ds_rule.specs.Limited.{ask_left, ask_up_to, item_in, last_taken, part_to, rest_after, taken_keys, with_rest}
use Rattle.ds_rule.specs.Serve.{and_left, resolved_left, serve}
use Rattle.ds_rule.specs.World.{World}
use Rattle.ds_rule.proofs.Passing.{told}
use Rattle.ds_rule.proofs.Service.{service}
use Rattle.ds_rule.proofs.Short.{LiesIn, taken-in}

-- what is left, if anything is, lies in the span
abbrev pub LeftIn : Extent → Option Extent → Type 0
LeftIn e None = Unit {0}
LeftIn e (Some r) = LiesIn r e

-- there is one reply for each item, and what is left of it lies in its span
abbrev pub AllLeftIn : List Item → List Reply → Type 0
AllLeftIn [] [] = Unit {0}
AllLeftIn [] (r ∷ rs) = ⊥
AllLeftIn (i ∷ is) [] = ⊥
AllLeftIn (i ∷ is) (r ∷ rs) = LeftIn (span_of i.request) r.resume × AllLeftIn is rs

-- there is one reply, and what it leaves lies in the span
abbrev OneLeftIn : Extent → List Reply → Type 0
OneLeftIn e [] = ⊥
OneLeftIn e (r ∷ []) = LeftIn e r.resume
OneLeftIn e (r ∷ q ∷ rs) = ⊥

abbrev MadeIn : Extent → Made → Type 0
MadeIn e (Fails f) = Unit {0}
MadeIn e (Gives cells ws rs) = OneLeftIn e rs

-- ---- one request

up-in : (e : Extent) (k : List ℕ) → holds e.start e.end k ≡ true → LeftIn e (rest_after false e k)
up-in e k held =
    elim (key_lt (after k) e.end) as (λ t. LeftIn e (cond {A = Option Extent} t (Some (record { start = after k; end = e.end })) None)) [
      | true ↦ (le_trans e.start k (after k) (and_first _ _ held) (le_of_lt k (after k) (below-after k)), le_itself e.end)
      | false ↦ tt
    ]

down-in : (e : Extent) (k : List ℕ) → holds e.start e.end k ≡ true → LeftIn e (rest_after true e k)
down-in e k held =
    elim (key_lt e.start k) as (λ t. LeftIn e (cond {A = Option Extent} t (Some (record { start = e.start; end = k })) None)) [
      | true ↦ (le_itself e.start, le_of_lt k e.end (and_second (key_le e.start k) _ held))
      | false ↦ tt
    ]

rest-in : (down : Bool) (e : Extent) (k : List ℕ) → holds e.start e.end k ≡ true → LeftIn e (rest_after down e k)
rest-in false e k held = up-in e k held
rest-in true e k held = down-in e k held

whole-in : (e : Extent) (h : Head) (i : Item) (a : Asked) (cells : Cells) → MadeIn e (made_by h i a cells)
whole-in e h i (Failed k f) cells = tt
whole-in e h i (Gave bits ws) cells = tt

short-in : (e : Extent) (rest : Option Extent) (h : Head) (i : Item) (a : Asked) (cells : Cells) → LeftIn e rest → MadeIn e (with_rest rest (made_by h i a cells))
short-in e rest h i (Failed k f) cells lies = tt
short-in e rest h i (Gave bits ws) cells lies = lies

left-in : (h : Head) (left : Option ℕ) (i : Item) (cells : Cells) → MadeIn (span_of i.request) (ask_left h left i cells)
left-in h None i cells = whole-in (span_of i.request) h i (ask_request i.request (at_of h i.seq.0) cells) cells
left-in h (Some zero) i cells = (le_itself (span_of i.request).start, le_itself (span_of i.request).end)
left-in h (Some (suc n)) i cells =
    let at = at_of h i.seq.0 in
    let e = span_of i.request in
    elim (last_taken n (taken_keys i.request at cells)) as (λ o. last_taken n (taken_keys i.request at cells) ≡ o → MadeIn e (ask_up_to h o i cells)) [
      | None ↦ λ none. whole-in e h i (ask_request i.request at cells) cells
      | Some k ↦ λ last.
          let down = goes_down i.request in
          let j = item_in (part_to down e k) i in
          short-in e (rest_after down e k) h j (ask_request j.request at cells) cells (rest-in down e k (taken-in i.request at cells n k last))
    ] refl

-- ---- the requests of a piece

abbrev AllMadeIn : List Item → Made → Type 0
AllMadeIn items (Fails f) = Unit {0}
AllMadeIn items (Gives cells ws rs) = AllLeftIn items rs

before-in : (i : Item) (is : List Item) (ws : List WriteAt) (rs : List Reply) (m : Made) → OneLeftIn (span_of i.request) rs → AllMadeIn is m → AllMadeIn (i ∷ is) (and_before ws rs m)
before-in i is ws rs (Fails f) one all = tt
before-in i is ws [] (Gives cells more later) one all = absurd one
before-in i is ws (r ∷ []) (Gives cells more later) one all = (one, all)
before-in i is ws (r ∷ q ∷ rs) (Gives cells more later) one all = absurd one

then-in : (ts : List TxnRecord) (left : Option ℕ) (i : Item) (is : List Item) (m : Made) (next : Option ℕ → Cells → Made) → MadeIn (span_of i.request) m → ((o : Option ℕ) (cells : Cells) → AllMadeIn is (next o cells)) → AllMadeIn (i ∷ is) (and_left ts left i.request m next)
then-in ts left i is (Fails f) next one all = tt
then-in ts left i is (Gives cells ws rs) next one all =
    before-in i is ws rs (next (left_after left rs) (resolved_left ts left i.request cells)) one (all (left_after left rs) (resolved_left ts left i.request cells))

pub served_in : (ts : List TxnRecord) (h : Head) (left : Option ℕ) (items : List Item) (cells : Cells) → AllMadeIn items (serve ts h left items cells)
served_in ts h left [] cells = tt
served_in ts h left (i ∷ is) cells =
    then-in ts left i is (ask_left h left i cells) (λ rest now. serve ts h rest is now) (left-in h left i cells) (λ o next. served_in ts h o is next)

-- a piece that is served has one reply for each item, and what is left of each lies in its span
pub done_in : (w : World) (node : ℕ) (p : Piece) (rs : List Reply) → Done rs ≡ deliver_answer w node p → AllLeftIn p.items rs
done_in w node p rs h =
    let it = service w node p rs h in
    subst (AllMadeIn p.items) it.gives (served_in w.records p.head p.head.left p.items it.range.cells)

steps_in : (w v : World) (moves : List Event) (n : ℕ) (p : Piece) (rs : List Reply) → Runs w (and_step moves (Send n p (Done rs))) v → AllLeftIn p.items rs
steps_in w v [] n p rs runs = let t = told w (Send n p (Done rs)) runs.0 runs.1 in done_in w n p rs t.0
steps_in w v (m ∷ ms) n p rs runs = steps_in runs.0 v ms n p rs runs.2

pub step_in : (a b : Stands) (n : ℕ) (p : Piece) (rs : List Reply) → Steps a b (Send n p (Done rs)) → AllLeftIn p.items rs
step_in a b n p rs steps = steps_in a.world b.world steps.moves n p rs steps.runs

-- so the replies of what it accepts are all of them
pub all_replies : (h : Head) (items : List Item) (rs : List Reply) → AllLeftIn items rs → map (λ a. a.reply) (pairs h items rs) ≡ rs
all_replies h [] [] all = refl
all_replies h [] (r ∷ rs) all = absurd all
all_replies h (i ∷ is) [] all = absurd all
all_replies h (i ∷ is) (r ∷ rs) all = ap (λ qs. r ∷ qs) (all_replies h is rs all.1)
