-- The pieces of parts that are flown one after another come in turn.
use Rattle.std.proofs.Common.{◌≡◌, ℕ, true, false, cond, List, [], ◌∷◌, ◌++◌, map, refl, sym, ap, ◌∙◌, subst, append_assoc}
use Rattle.std.proofs.lemmas.List.Concat.{flat_map-append}
use Rattle.ds_kind.specs.declared.batch.Item.{Item}
use Rattle.ds_cover.specs.Coverage.{Covered, holds_at, positions_at}
use Rattle.ds_cover.specs.Laws.{joined}
use Rattle.ds_cover.proofs.Sharing.{covers-all}
use Rattle.ds_rule.proofs.Passing.{told}
use Rattle.ds_rule.specs.Asking.{Asking}
use Rattle.ds_rule.specs.Journal.{Happening, Moved, Did, Runs, Accepted, accepted, accepted_by}
use Rattle.ds_rule.specs.Pieces.{position_of}
use Rattle.ds_rule.specs.Turn.{items_at}
use Rattle.ds_rule.specs.World.{World}
use Rattle.ds_rule.specs.declared.answer.Answer.TheVariants.{Done, Failed, Refused, Lost}
use Rattle.ds_rule.specs.declared.journal.JournalStep.{JournalStep}
use Rattle.ds_rule.specs.declared.journal.JournalStep.TheVariants.{Look, Send}
use Rattle.ds_flight.proofs.Fitting.{done-fits, fit-items}
use Rattle.ds_flight.specs.Covers.{AllCover, StepCovers}
use Rattle.ds_flight.specs.Left.{block_by, blocks_of}
use Rattle.ds_mean.specs.InTurn.{AllInTurn, AreAll, AreFirst, StepInTurn, items_of, places_at}
use Rattle.ds_mean.proofs.Coming.{map-both, places-both}

-- ---- positions at a key

pub positions-places : (k : List ℕ) (items : List Item) → positions_at k items ≡ places_at k items
positions-places k [] = refl
positions-places k (i ∷ is) =
    elim (holds_at k i) as (λ t. cond t (i.pos ∷ positions_at k is) (positions_at k is) ≡ map position_of (cond t (i ∷ items_at k is) (items_at k is))) [
      | true ↦ ap (λ ns. i.pos ∷ ns) (positions-places k is)
      | false ↦ positions-places k is
    ]

joined-both : (xs ys : List (List Item)) → joined (xs ++ ys) ≡ joined xs ++ joined ys
joined-both xs ys = flat_map-append (λ b. b) xs ys

-- what covers the items has their places at each key
pub covered-places : (items : List Item) (blocks : List (List Item)) → Covered items blocks → (k : List ℕ) → places_at k items ≡ places_at k (joined blocks)
covered-places items blocks cov k = sym (positions-places k items) ∙ sym (covers-all items blocks cov k) ∙ positions-places k (joined blocks)

-- a block beside what was done comes next
block-next : (items : List Item) (done : List (List Item)) (block : List Item) (others : List (List Item)) → Covered items (done ++ block ∷ others) → AreFirst items (joined done ++ block)
block-next items done block others cov k = (
  places_at k (joined others),
  covered-places items (done ++ block ∷ others) cov k
      ∙ ap (places_at k) (joined-both done (block ∷ others) ∙ sym (append_assoc (joined done) block (joined others)))
      ∙ places-both k (joined done ++ block) (joined others),
)

-- after parts that were done, and before others
next-between : (before items later done block : List Item) → AreAll before done → (more : List Item) → AreFirst items (more ++ block) → AreFirst (before ++ (items ++ later)) ((done ++ more) ++ block)
next-between before items later done block all more first k =
    let f = first k in (
      f.0 ++ places_at k later,
      places-both k before (items ++ later)
          ∙ ap (λ z. z ++ places_at k (items ++ later)) (all k)
          ∙ ap (λ z. places_at k done ++ z) (places-both k items later ∙ ap (λ z. z ++ places_at k later) f.1 ∙ append_assoc (places_at k (more ++ block)) f.0 (places_at k later))
          ∙ sym (append_assoc (places_at k done) (places_at k (more ++ block)) (f.0 ++ places_at k later))
          ∙ ap (λ z. z ++ (f.0 ++ places_at k later)) (sym (places-both k done (more ++ block)) ∙ ap (places_at k) (sym (append_assoc done more block))),
    )

-- ---- steps

-- what is accepted at a step is the block that it does
abbrev pub StepMatches : JournalStep → Type 0
StepMatches s = items_of (accepted_by s) ≡ joined (block_by s)

abbrev pub AllMatch : List Happening → Type 0
AllMatch [] = Unit {0}
AllMatch (Moved e ∷ hs) = AllMatch hs
AllMatch (Did s ∷ hs) = StepMatches s × AllMatch hs

one-block : (is : List Item) → joined (is ∷ []) ≡ is
one-block [] = refl
one-block (i ∷ is) = ap (λ js. i ∷ js) (one-block is)

step-matches : (w v : World) (s : JournalStep) → Runs w (Did s ∷ []) v → StepMatches s
step-matches w v (Look k d l) runs = refl
step-matches w v (Send n p (Done rs)) runs =
    fit-items p.head p.head.left p.items rs (done-fits w n p rs (told w (Send n p (Done rs)) runs.0 runs.1).0) ∙ sym (one-block p.items)
step-matches w v (Send n p (Failed f)) runs = refl
step-matches w v (Send n p (Refused r)) runs = refl
step-matches w v (Send n p Lost) runs = refl

pub all-match : (w v : World) (hs : List Happening) → Runs w hs v → AllMatch hs
all-match w v [] runs = tt
all-match w v (Moved e ∷ hs) runs = all-match runs.0 v hs runs.2
all-match w v (Did s ∷ hs) runs = (step-matches w runs.0 s (runs.0, runs.1, refl), all-match runs.0 v hs runs.2)

pub match-items : (hs : List Happening) → AllMatch hs → items_of (accepted hs) ≡ joined (blocks_of hs)
match-items [] all = refl
match-items (Moved e ∷ hs) all = match-items hs all
match-items (Did s ∷ hs) all =
    map-both (λ (a : Accepted). a.item) (accepted_by s) (accepted hs)
    ∙ ap (λ z. z ++ items_of (accepted hs)) all.0
    ∙ ap (λ z. joined (block_by s) ++ z) (match-items hs all.1)
    ∙ sym (joined-both (block_by s) (blocks_of hs))

-- a part's pieces come in turn: before it these were accepted, which are all of the parts before
pub covers-in-turn :
    (q : Asking) (before items later : List Item) (got more : List Accepted) (done : List (List Item)) (hs : List Happening)
    → q.items ≡ before ++ (items ++ later) → AreAll before (items_of got) → items_of more ≡ joined done → AllMatch hs → AllCover items done hs → AllInTurn q.items (got ++ more) hs
covers-in-turn q before items later got more done [] is all same match cover = tt
covers-in-turn q before items later got more done (Moved e ∷ hs) is all same match cover = covers-in-turn q before items later got more done hs is all same match cover
covers-in-turn q before items later got more done (Did s ∷ hs) is all same match cover = (
  step s cover.0,
  subst (λ z. AllInTurn q.items z hs) (sym (append_assoc got more (accepted_by s)))
      (covers-in-turn q before items later got (more ++ accepted_by s) (done ++ block_by s) hs is all
      (map-both (λ (a : Accepted). a.item) more (accepted_by s) ∙ ap (λ z. z ++ items_of (accepted_by s)) same ∙ ap (λ z. joined done ++ z) match.0 ∙ sym (joined-both done (block_by s)))
      match.1 cover.1),
)
  where
    both : items_of (got ++ more) ≡ items_of got ++ joined done
    both = map-both (λ (a : Accepted). a.item) got more ∙ ap (λ z. items_of got ++ z) same

    step : (s : JournalStep) → StepCovers items done s → StepInTurn q.items (got ++ more) s
    step (Look k d l) c = tt
    step (Send n p a) c =
        subst (λ z. AreFirst z (items_of (got ++ more) ++ p.items)) (sym is)
        (subst (λ z. AreFirst (before ++ (items ++ later)) (z ++ p.items)) (sym both)
        (next-between before items later (items_of got) p.items all (joined done) (block-next items done p.items c.0 c.1)))
