-- From the coverage of parts by blocks to the order in which a batch's pieces come.
use Rattle.std.specs.Prelude.{◌≡◌, ℕ, true, List, [], ◌∷◌, ◌++◌}
use Rattle.ds_cover.specs.Coverage.{Covered}
use Rattle.ds_cover.specs.Laws.{joined}
use Rattle.ds_kind.specs.Asks.{has_proper_span}
use Rattle.ds_kind.specs.declared.batch.Item.{Item}
use Rattle.ds_kind.specs.declared.batch.Piece.{Piece}
use Rattle.ds_kind.specs.declared.reply.Reply.{Reply}
use Rattle.ds_rule.specs.declared.answer.Answer.TheVariants.{Done}
use Rattle.ds_rule.specs.Deliver.{deliver_answer}
use Rattle.ds_rule.specs.Journal.{Accepted, Happening, accepted, pairs}
use Rattle.ds_rule.specs.Turn.{items_at}
use Rattle.ds_rule.specs.World.{World}
use Rattle.ds_turn.specs.Progress.{AllOrNone}
use Rattle.ds_mean.specs.InTurn.{AllInTurn, AreAll, AreFirst, IsLeft, items_of}

-- ---- one part

-- a block of what is left comes next after the blocks that are done
abbrev pub BlocksFirst : Type 0
BlocksFirst = (items : List Item) (done : List (List Item)) (js : List Item) (rest : List (List Item)) → Covered items (done ++ js ∷ rest) → AreFirst items (joined done ++ js)

-- so it does after whatever has the positions of those blocks
abbrev pub BlocksInTurn : Type 0
BlocksInTurn =
    (items : List Item) (done : List (List Item)) (js : List Item) (rest : List (List Item)) (others : List Item) → Covered items (done ++ js ∷ rest) → AreAll (joined done) others
    → AreFirst items (others ++ js) × AreAll (joined (done ++ js ∷ [])) (others ++ js)

-- it has at each key all positions that the items have there, or none
abbrev pub BlocksShare : Type 0
BlocksShare = (items : List Item) (done : List (List Item)) (js : List Item) (rest : List (List Item)) → Covered items (done ++ js ∷ rest) → (k : List ℕ) → AllOrNone (items_at k js) (items_at k items)

-- where all blocks are done, nothing is missing
abbrev pub BlocksAll : Type 0
BlocksAll = (items : List Item) (done : List (List Item)) → Covered items done → AreAll items (joined done)

-- and where some item isn't, something is left
abbrev pub BlocksLeft : Type 0
BlocksLeft =
    (items : List Item) (done : List (List Item)) (i : Item) (is : List Item) (rest : List (List Item)) → Covered items (done ++ (i ∷ is) ∷ rest) → has_proper_span i.request ≡ true
    → IsLeft items (joined done)

-- ---- parts, one after another

-- what comes in turn in a part comes in turn in the batch, where all parts before are done
abbrev pub PartsInTurn : Type 0
PartsInTurn =
    (before ps later : List Item) (first got : List Accepted) (hs : List Happening) → AreAll before (items_of first) → AllInTurn ps got hs → AllInTurn (before ++ (ps ++ later)) (first ++ got) hs

abbrev pub PartsAll : Type 0
PartsAll = (before ps : List Item) (first got : List Accepted) → AreAll before (items_of first) → AreAll ps (items_of got) → AreAll (before ++ ps) (items_of (first ++ got))

abbrev pub PartsLeft : Type 0
PartsLeft = (before ps later : List Item) (first got : List Accepted) → AreAll before (items_of first) → IsLeft ps (items_of got) → IsLeft (before ++ (ps ++ later)) (items_of (first ++ got))

-- one after another within a part
abbrev pub TurnsJoin : Type 0
TurnsJoin = (items : List Item) (got : List Accepted) (xs ys : List Happening) → AllInTurn items got xs → AllInTurn items (got ++ accepted xs) ys → AllInTurn items got (xs ++ ys)

-- what was accepted before matters by its positions alone
abbrev pub TurnsAlike : Type 0
TurnsAlike = (items : List Item) (got others : List Accepted) (hs : List Happening) → AreAll (items_of got) (items_of others) → AllInTurn items got hs → AllInTurn items others hs

-- ---- what a piece accepts

-- all of its items
abbrev pub PiecesAccepted : Type 0
PiecesAccepted = (w : World) (n : ℕ) (p : Piece) (rs : List Reply) → Done rs ≡ deliver_answer w n p → items_of (pairs p.head p.items rs) ≡ p.items
