-- What a batch that was served in one piece gathers.
use Rattle.std.proofs.Common.{◌≡◌, ℕ, ◌<◌, true, cond, List, [], ◌∷◌, ◌++◌, None, refl, sym, ap, ◌∙◌, subst, append_assoc, eq-eqb, ne_eqb, arith, Option}
use Rattle.std.specs.List.{list_all}
use Rattle.ds_base.proofs.SmallFacts.{append_nil}
use Rattle.ds_base.proofs.SmallFacts.{and_first, and_second}
use Rattle.ds_rule.proofs.Eachs.{each-append, each-right}
use Rattle.ds_kind.specs.Asks.{has_proper_span}
use Rattle.ds_kind.specs.Parts.{requests_of}
use Rattle.ds_kind.specs.Request.{span_of}
use Rattle.ds_kind.specs.declared.batch.Head.{Head}
use Rattle.ds_kind.specs.declared.batch.Item.{Item}
use Rattle.ds_kind.specs.declared.reply.Reply.{Reply}
use Rattle.ds_cell.specs.Ask.{Cells, Asked, Failed as Refuses, Gave}
use Rattle.ds_cell.specs.Content.{AllAbove, Rises}
use Rattle.ds_kind.specs.Bodies.{goes_down, join_bodies}
use Rattle.ds_kind.proofs.RequestFacts.{cut_whole, proper_some}
use Rattle.ds_cell.specs.Replies.{body_of}
use Rattle.ds_cell.specs.Requests.{ask_request}
use Rattle.ds_cell.specs.Store.{WriteAt}
use Rattle.ds_rule.specs.declared.answer.Answer.TheVariants.{Done, Failed, Refused, Lost}
use Rattle.ds_rule.specs.declared.journal.JournalStep.TheVariants.{Look, Send}
use Rattle.ds_rule.specs.Asking.{Asking, Made, Gives, Fails, made_by, and_before, at_of}
use Rattle.ds_rule.specs.Cause.{IsIdle, IsWholeOf, LastServes}
use Rattle.ds_rule.specs.Clauses.{Stands}
use Rattle.ds_rule.specs.Gathered.{at_position, by_start, IsBody, Joins, IsGathered, Gathered}
use Rattle.ds_rule.specs.Journal.{Happening, Moved, Did, Runs, Accepted, accepted, pairs}
use Rattle.ds_rule.specs.Path.{Path}
use Rattle.ds_rule.specs.Pieces.{Each, position_of}
use Rattle.ds_law.proofs.Failing.{runs-cut}
use Rattle.ds_law.proofs.Gathering.{IsBelowPosition, at-append, at-none, join-nothing}
use Rattle.ds_rule.proofs.Passing.{told}
use Rattle.ds_rule.proofs.Service.{service}
use Rattle.ds_law.proofs.Trips.{accepted-append}
use Rattle.ds_rule.specs.Serve.{and_left, serve}
use Rattle.ds_rule.specs.declared.record.TxnRecord.{TxnRecord}

-- one reply for each request, of its kind and whole

pub record IsAnswer (i : Item) (r : Reply) : Type 0 where
  pub whole : r.resume ≡ None
  pub kind : IsBody i.request r.body

abbrev pub Answers : List Item → List Reply → Type 0
Answers [] [] = Unit {0}
Answers (i ∷ is) [] = ⊥
Answers [] (r ∷ rs) = ⊥
Answers (i ∷ is) (r ∷ rs) = IsAnswer i r × Answers is rs

replies-same : (c d : Cells) (us vs : List WriteAt) (qs rs : List Reply) → Gives c us qs ≡ Gives d vs rs → qs ≡ rs
replies-same c d us vs qs rs h = cc

answers-before : (i : Item) (is : List Item) (ws : List WriteAt) (r : Reply) (m : Made) (cells : Cells) (vs : List WriteAt) (rs : List Reply) → IsAnswer i r → ((c : Cells) (us : List WriteAt) (qs : List Reply) → m ≡ Gives c us qs → Answers is qs) → and_before ws (r ∷ []) m ≡ Gives cells vs rs → Answers (i ∷ is) rs
answers-before i is ws r (Gives c us qs) cells vs rs kind later h = subst (Answers (i ∷ is)) (replies-same _ _ _ _ (r ∷ qs) rs h) (kind, later c us qs refl)
answers-before i is ws r (Fails f) cells vs rs kind later h = cc

answers-made : (ts : List TxnRecord) (h : Head) (i : Item) (is : List Item) (a : Asked) (now : Cells) (next : Option ℕ → Cells → Made) (cells : Cells) (vs : List WriteAt) (rs : List Reply) → ((n c : Cells) (us : List WriteAt) (qs : List Reply) → next None n ≡ Gives c us qs → Answers is qs) → and_left ts None i.request (made_by h i a now) next ≡ Gives cells vs rs → Answers (i ∷ is) rs
answers-made ts h i is (Refuses k f) now next cells vs rs later g = cc
answers-made ts h i is (Gave bits ws) now next cells vs rs later g =
    answers-before i is _ _ (next None _) cells vs rs (record { whole = refl; kind = record { bits = bits; is = refl } }) (λ c us qs e. later _ c us qs e) g

pub asked-all : (ts : List TxnRecord) (h : Head) (items : List Item) (now cells : Cells) (vs : List WriteAt) (rs : List Reply) → serve ts h None items now ≡ Gives cells vs rs → Answers items rs
asked-all ts h [] now cells vs rs g = subst (Answers []) (replies-same _ _ _ _ [] rs g) tt
asked-all ts h (i ∷ is) now cells vs rs g =
    answers-made ts h i is (ask_request i.request (at_of h i.seq.0) now) now (λ rest now. serve ts h rest is now) cells vs rs (λ n c us qs e. asked-all ts h is n c us qs e) g

-- a request cut to its whole span is itself

-- one piece that is the whole request

one-joins : (h : Head) (i : Item) (r : Reply) → has_proper_span i.request ≡ true → IsAnswer i r → Joins i (span_of i.request).start (span_of i.request).end (record { head = h; item = i; reply = r } ∷ []) r.body
one-joins h i r proper answer = (
  (span_of i.request).end,
  body_of i.request [],
  proper_some i.request proper,
  sym (ap (λ z. record i { request = z }) (cut_whole i.request)),
  (refl, refl),
  answer.kind.is ∙ sym (join-nothing i.request answer.kind.bits) ∙ sym (ap (λ b. join_bodies (goes_down i.request) b (body_of i.request [])) answer.kind.is),
)

at-above : (n : ℕ) (h : Head) (items : List Item) (rs : List Reply) → AllAbove position_of n items → at_position n (pairs h items rs) ≡ []
at-above n h [] rs all = refl
at-above n h (i ∷ is) [] all = refl
at-above n h (i ∷ is) (r ∷ rs) all =
    ap (λ t. cond t (record { head = h; item = i; reply = r } ∷ at_position n (pairs h is rs)) (at_position n (pairs h is rs))) (ne_eqb i.pos n (λ e. let low : n < i.pos = all.0 in omega (arith, e, low)))
    ∙ at-above n h is rs all.1

one-gathered : (h : Head) (before : List Accepted) (i : Item) (r : Reply) (is : List Item) (rs : List Reply) → Each (IsBelowPosition i.pos) before → AllAbove position_of i.pos is → has_proper_span i.request ≡ true → IsAnswer i r → IsGathered (before ++ pairs h (i ∷ is) (r ∷ rs)) i r
one-gathered h before i r is rs below above proper answer =
    let one : Accepted = record { head = h; item = i; reply = r } in
    let more = at_position i.pos (pairs h is rs) in
    let at : at_position i.pos (before ++ one ∷ pairs h is rs) ≡ one ∷ [] =
    at-append i.pos before (one ∷ pairs h is rs)
    ∙ ap (λ xs. xs ++ at_position i.pos (one ∷ pairs h is rs)) (at-none i.pos before below)
    ∙ ap (λ t. cond t (one ∷ more) more) (eq-eqb i.pos i.pos refl)
    ∙ ap (λ zs. one ∷ zs) (at-above i.pos h is rs above) in
    record {
      whole = answer.whole;
      joins = subst (λ xs. Joins i (span_of i.request).start (span_of i.request).end (by_start xs) r.body) (sym at) (one-joins h i r proper answer);
    }

-- what was accepted before stands below the requests to come
abbrev IsBelowAll : List Accepted → Item → Type 0
IsBelowAll before i = Each (IsBelowPosition i.pos) before

below-more : (before : List Accepted) (a : Accepted) (is : List Item) → Each (IsBelowAll before) is → AllAbove position_of a.item.pos is → Each (IsBelowAll (before ++ a ∷ [])) is
below-more before a [] all above = tt
below-more before a (i ∷ is) all above = (each-append (IsBelowPosition i.pos) before (a ∷ []) all.0 (above.0, tt), below-more before a is all.1 above.1)

below-none : (is : List Item) → Each (IsBelowAll []) is
below-none [] = tt
below-none (i ∷ is) = (tt, below-none is)

all-gathered : (h : Head) (items : List Item) (before : List Accepted) (rs : List Reply) → Answers items rs → Rises position_of items → list_all has_proper_span (requests_of items) ≡ true → Each (IsBelowAll before) items → Gathered (before ++ pairs h items rs) items rs
all-gathered h [] before [] answers rise proper below = tt
all-gathered h [] before (r ∷ rs) answers rise proper below = absurd answers
all-gathered h (i ∷ is) before [] answers rise proper below = absurd answers
all-gathered h (i ∷ is) before (r ∷ rs) answers rise proper below =
    let one : Accepted = record { head = h; item = i; reply = r } in (
      one-gathered h before i r is rs below.0 rise.0 (and_first (has_proper_span i.request) _ proper) answers.0,
      subst (λ g. Gathered g is rs) (append_assoc before (one ∷ []) (pairs h is rs))
          (all-gathered h is (before ++ one ∷ []) rs answers.1 rise.1 (and_second (has_proper_span i.request) _ proper) (below-more before one is below.1 rise.0)),
    )

idle-accepts : (hs : List Happening) → Each IsIdle hs → accepted hs ≡ []
idle-accepts [] all = refl
idle-accepts (Moved e ∷ hs) all = idle-accepts hs all.1
idle-accepts (Did (Look k d l) ∷ hs) all = idle-accepts hs all.1
idle-accepts (Did (Send n p (Done rs)) ∷ hs) all = absurd all.0
idle-accepts (Did (Send n p (Failed f)) ∷ hs) all = idle-accepts hs all.1
idle-accepts (Did (Send n p (Refused r)) ∷ hs) all = idle-accepts hs all.1
idle-accepts (Did (Send n p Lost) ∷ hs) all = idle-accepts hs all.1

-- the replies of a batch that was served whole, at last, are gathered of it
pub whole-gathered : (q : Asking) (a b : Stands) (replies : List Reply) (got : List Accepted) (path : Path q a b got) → q.head.left ≡ None → Rises position_of q.items → list_all has_proper_span (requests_of q.items) ≡ true → Each (IsWholeOf q) path.added → LastServes q replies path.added → Gathered got q.items replies
whole-gathered q a b replies got path free rise proper whole last =
    let step = Did (Send last.node last.piece (Done replies)) ∷ [] in
    let cut = runs-cut a.world b.world last.before step (subst (λ hs. Runs a.world hs b.world) last.last path.runs) in
    let s = service cut.0 last.node last.piece replies (told cut.0 (Send last.node last.piece (Done replies)) cut.2.0 cut.2.1).0 in
    let here = (each-right (IsWholeOf q) last.before step (subst (Each (IsWholeOf q)) last.last whole)).0 in
    let answers : Answers q.items replies = subst (λ is. Answers is replies) here.1 (asked-all cut.0.records last.piece.head last.piece.items s.range.cells s.cells s.writes replies (ap (λ o. serve cut.0.records last.piece.head o last.piece.items s.range.cells) (sym (ap (λ (h : Head). h.left) here.0 ∙ free)) ∙ s.gives)) in
    let same : pairs q.head q.items replies ≡ got =
    ap (λ h. pairs h q.items replies) (sym here.0)
    ∙ ap (λ is. pairs last.piece.head is replies) (sym here.1)
    ∙ sym (append_nil (pairs last.piece.head last.piece.items replies))
    ∙ ap (λ xs. xs ++ accepted step) (sym (idle-accepts last.before last.idle))
    ∙ sym (accepted-append last.before step)
    ∙ ap accepted (sym last.last)
    ∙ path.gives in
    subst (λ g. Gathered g q.items replies) same (all-gathered q.head q.items [] replies answers rise proper (below-none q.items))
