-- What was accepted of a part without a limit, and that its replies are gathered where all of it was done.
use Rattle.std.proofs.Common.{◌≡◌, ℕ, List, [], ◌∷◌, ◌++◌, map, None, inl, inr, refl, sym, ap, ◌∙◌, subst}
use Rattle.std.specs.List.{list_all}
use Rattle.std.proofs.lemmas.List.{map-append}
use Rattle.std.proofs.lemmas.List.Concat.{flat_map-append}
use Rattle.ds_base.proofs.SmallFacts.{and_first, and_second}
use Rattle.ds_base.proofs.OrderedFacts.{le_of_lt}
use Rattle.ds_kind.specs.Asks.{has_proper_span}
use Rattle.ds_kind.specs.Parts.{requests_of}
use Rattle.ds_kind.specs.Request.{span_of}
use Rattle.ds_kind.proofs.RequestFacts.{proper_some}
use Rattle.ds_kind.specs.declared.batch.Head.{Head}
use Rattle.ds_kind.specs.declared.batch.Item.{Item}
use Rattle.ds_kind.specs.declared.batch.Piece.{Piece}
use Rattle.ds_kind.specs.declared.reply.Reply.{Reply}
use Rattle.ds_cover.specs.Items as Items
use Rattle.ds_cover.specs.Items.{item_span, AllSome, AreProper, PositionsRise}
use Rattle.ds_cover.specs.Laws.{joined as all_items}
use Rattle.ds_cover.specs.Origins.{CutsOf}
use Rattle.ds_cover.proofs.Tracing.{its-item}
use Rattle.ds_gather.specs.Gathered.{arrivals, gathered, wanted}
use Rattle.ds_gather.specs.declared.arrival.Arrival.{Arrival}
use Rattle.ds_rule.proofs.Eachs.{each-append}
use Rattle.ds_rule.proofs.Passing.{told}
use Rattle.ds_rule.specs.Gathered.{Gathered}
use Rattle.ds_rule.specs.Journal.{Happening, Moved, Did, Runs, accepted, accepted_by, pairs}
use Rattle.ds_rule.specs.Pieces.{Each}
use Rattle.ds_rule.specs.World.{World}
use Rattle.ds_rule.specs.declared.answer.Answer.TheVariants.{Done, Failed, Refused, Lost}
use Rattle.ds_rule.specs.declared.journal.JournalStep.{JournalStep}
use Rattle.ds_rule.specs.declared.journal.JournalStep.TheVariants.{Look, Send}
use Rattle.ds_flight.specs.Causes.{DoneWhole}
use Rattle.ds_flight.specs.Flights.{Flight, AllOfPart, PieceOfPart, StepOfPart}
use Rattle.ds_flight.specs.Left.{arrived, arrived_by, block_by, blocks_of}
use Rattle.ds_flight.proofs.Fitting.{AllFit, CutOfOne, done-fits, fit-answers, fit-items}
use Rattle.ds_flight.proofs.Gathers.{AnswersOne, HasSpan, came_of, item_from, part-gathered}

-- ---- one step

-- what a step accepts: parts of these items, each with a reply of its kind
pub record StepAnswers (items : List Item) (s : JournalStep) : Type 0 where
  pub answers : Each (AnswersOne items) (accepted_by s)
  pub same : map item_from (accepted_by s) ≡ all_items (block_by s)
  pub came : map came_of (accepted_by s) ≡ arrived_by s
  pub some : AllSome item_span (all_items (block_by s))

nothing-answers : (items : List Item) (s : JournalStep) → accepted_by s ≡ [] → block_by s ≡ [] → arrived_by s ≡ [] → StepAnswers items s
nothing-answers items s none no_block no_arrival = record {
  answers = subst (Each (AnswersOne items)) (sym none) tt;
  same = ap (map item_from) none ∙ sym (ap all_items no_block);
  came = ap (map came_of) none ∙ sym no_arrival;
  some = subst (λ bs. AllSome item_span (all_items bs)) (sym no_block) tt;
}

came-pairs : (head : Head) (is : List Item) (rs : List Reply) → map came_of (pairs head is rs) ≡ arrivals is rs
came-pairs head [] rs = refl
came-pairs head (i ∷ is) [] = refl
came-pairs head (i ∷ is) (r ∷ rs) = ap (λ xs. came_of (record { head = head; item = i; reply = r }) ∷ xs) (came-pairs head is rs)

proper-spans : (items : List Item) → AreProper items → AllSome item_span items
proper-spans [] proper = tt
proper-spans (i ∷ is) proper =
    (proper_some i.request (and_first (has_proper_span i.request) (list_all has_proper_span (requests_of is)) proper), proper-spans is (and_second (has_proper_span i.request) (list_all has_proper_span (requests_of is)) proper))

each-cut : (items cuts more : List Item) → ((c : Item) → Items.IsOneOf c more → Items.IsOneOf c cuts) → CutsOf items cuts → Each (CutOfOne items) more
each-cut items cuts [] there of = tt
each-cut items cuts (c ∷ cs) there of = (its-item items cuts of c (there c (inl refl)), each-cut items cuts cs (λ x h. there x (inr h)) of)

one-block : (is : List Item) → all_items (is ∷ []) ≡ is
one-block [] = refl
one-block (i ∷ is) = ap (λ js. i ∷ js) (one-block is)

done-answers : (f : Flight) (n : ℕ) (p : Piece) (rs : List Reply) → PieceOfPart f None p → AllFit p.head.left p.items rs → StepAnswers f.part.items (Send n p (Done rs))
done-answers f n p rs of fits =
    let no_limit : p.head.left ≡ None = ap (λ h. h.left) of.head in
    let fit : AllFit None p.items rs = subst (λ o. AllFit o p.items rs) no_limit fits in
    record {
      answers = fit-answers f.part.items p.head p.items rs fit (each-cut f.part.items p.items p.items (λ c h. h) of.of.cuts);
      same = fit-items p.head None p.items rs fit ∙ sym (one-block p.items);
      came = came-pairs p.head p.items rs;
      some = subst (AllSome item_span) (sym (one-block p.items)) (proper-spans p.items of.of.proper);
    }

step-answers : (f : Flight) (w v : World) (s : JournalStep) → StepOfPart f None s → Runs w (Did s ∷ []) v → StepAnswers f.part.items s
step-answers f w v (Look k d l) of runs = nothing-answers f.part.items (Look k d l) refl refl refl
step-answers f w v (Send n p (Done rs)) of runs = done-answers f n p rs of (done-fits w n p rs (told w (Send n p (Done rs)) runs.0 runs.1).0)
step-answers f w v (Send n p (Failed e)) of runs = nothing-answers f.part.items (Send n p (Failed e)) refl refl refl
step-answers f w v (Send n p (Refused r)) of runs = nothing-answers f.part.items (Send n p (Refused r)) refl refl refl
step-answers f w v (Send n p Lost) of runs = nothing-answers f.part.items (Send n p Lost) refl refl refl

-- ---- all that happened

pub record AllAnswer (items : List Item) (hs : List Happening) : Type 0 where
  pub answers : Each (AnswersOne items) (accepted hs)
  pub same : map item_from (accepted hs) ≡ all_items (blocks_of hs)
  pub came : map came_of (accepted hs) ≡ arrived hs
  pub some : AllSome item_span (all_items (blocks_of hs))

some-append : (xs ys : List Item) → AllSome item_span xs → AllSome item_span ys → AllSome item_span (xs ++ ys)
some-append [] ys a b = b
some-append (x ∷ xs) ys a b = (a.0, some-append xs ys a.1 b)

all-more : (items : List Item) (s : JournalStep) (hs : List Happening) → StepAnswers items s → AllAnswer items hs → AllAnswer items (Did s ∷ hs)
all-more items s hs one all =
    let blocks : all_items (block_by s ++ blocks_of hs) ≡ all_items (block_by s) ++ all_items (blocks_of hs) = flat_map-append (λ b. b) (block_by s) (blocks_of hs) in
    record {
      answers = each-append (AnswersOne items) (accepted_by s) (accepted hs) one.answers all.answers;
      same = map-append item_from (accepted_by s) (accepted hs) ∙ ap (λ z. z ++ map item_from (accepted hs)) one.same ∙ ap (λ z. all_items (block_by s) ++ z) all.same ∙ sym blocks;
      came = map-append came_of (accepted_by s) (accepted hs) ∙ ap (λ z. z ++ map came_of (accepted hs)) one.came ∙ ap (λ z. arrived_by s ++ z) all.came;
      some = subst (AllSome item_span) (sym blocks) (some-append (all_items (block_by s)) (all_items (blocks_of hs)) one.some all.some);
    }

pub all-answer : (f : Flight) (w v : World) (hs : List Happening) → Runs w hs v → AllOfPart f None hs → AllAnswer f.part.items hs
all-answer f w v [] runs of = record { answers = tt; same = refl; came = refl; some = tt }
all-answer f w v (Moved e ∷ hs) runs of =
    let more = all-answer f runs.0 v hs runs.2 of in
    record { answers = more.answers; same = more.same; came = more.came; some = more.some }
all-answer f w v (Did s ∷ hs) runs of =
    all-more f.part.items s hs (step-answers f w runs.0 s of.0 (runs.0, runs.1, refl)) (all-answer f runs.0 v hs runs.2 of.1)

spans-of : (items : List Item) → AllSome item_span items → Each HasSpan items
spans-of [] some = tt
spans-of (i ∷ is) some = (le_of_lt (span_of i.request).start (span_of i.request).end some.0, spans-of is some.1)

-- the replies of a part all of which was done, without a limit, are gathered of what was accepted
pub done-gathered :
    (f : Flight) (w v : World) (hs : List Happening) (replies : List Reply) → PositionsRise f.part.items → AreProper f.part.items
    → Runs w hs v → AllOfPart f None hs → DoneWhole f replies hs → Gathered (accepted hs) f.part.items replies
done-gathered f w v hs replies rise proper runs of done =
    let all = all-answer f w v hs runs of in
    subst (Gathered (accepted hs) f.part.items) (sym (done.replies_are ∙ ap (λ z. gathered-from z) (sym all.came)))
    (part-gathered f.part.items (blocks_of hs) (accepted hs) rise (spans-of f.part.items (proper-spans f.part.items proper)) done.covered all.same all.some all.answers)
  where
    gathered-from : List Arrival → List Reply
    gathered-from xs = gathered (map wanted f.part.items) xs
