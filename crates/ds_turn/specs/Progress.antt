-- How far a batch got at each key: its items there act in their order, and any that acted may act again.
use Rattle.std.specs.Prelude.{◌≡◌, ℕ, ◌<◌, ◌≤◌, if◌then◌else◌, ◌⊎◌, List, [], ◌∷◌, ◌++◌, map}
use Rattle.ds_base.specs.Ordered.{key_eq, Ascends}
use Rattle.ds_kind.specs.declared.batch.Item.{Item}
use Rattle.ds_kind.specs.declared.reply.Reply.{Reply}
use Rattle.ds_cell.specs.declared.entry.At.{At}
use Rattle.ds_cell.specs.declared.entry.Version.{Version}
use Rattle.ds_cell.specs.declared.verdict.ActFault.{ActFault}
use Rattle.ds_cell.specs.declared.verdict.Verdict.TheVariants.{Refuse}
use Rattle.ds_cell.specs.Ask.{Cells, key_of, content_at}
use Rattle.ds_cell.specs.Change.{after_foreign}
use Rattle.ds_cell.specs.Content.{Content, Rises}
use Rattle.ds_cell.specs.Store.{WriteAt, put_cell}
use Rattle.ds_rule.specs.Asking.{Asking, Gives, ask_all, at_of}
use Rattle.ds_rule.specs.Pieces.{Each, IsOneOf, IsCut, position_of}
use Rattle.ds_rule.specs.Turn.{items_at, verdict, FailsAt}
use Rattle.ds_turn.specs.Alone.{IsTooOld}
use Rattle.ds_turn.specs.Course.{AllForeignAbove, ByBatch, ByOther, Course, CourseGives, course_after, foreign_writes, with_versions}
use Rattle.ds_turn.specs.Cuts.{ActsAs}
use Rattle.ds_turn.specs.KeyIs.{KeyIs}
use Rattle.ds_turn.specs.Partway.{NumbersInOrder, Partway}

-- at one key

-- it acts as an item that acted before
pub record IsAgain (acted : List Item) (j : Item) : Type 0 where
  pub first : Item
  pub one : IsOneOf first acted
  pub same : ActsAs j first

-- after a course the items of `after` acted, where those of `acted` had before it and those of `rest` come next
abbrev pub GoesTo : Course → List Item → List Item → List Item → Type 0
GoesTo [] acted rest after = acted ≡ after
GoesTo (ByOther v ∷ bs) acted rest after = GoesTo bs acted rest after
GoesTo (ByBatch j ∷ bs) acted [] after = IsAgain acted j × GoesTo bs acted [] after
GoesTo (ByBatch j ∷ bs) acted (i ∷ rest) after = (IsAgain acted j × GoesTo bs acted (i ∷ rest) after) ⊎ (ActsAs j i × GoesTo bs (acted ++ i ∷ []) rest after)

-- where no item is refused, the world goes on so, whatever acted again
abbrev pub ProgressKept : Type 0
ProgressKept =
    (s : ℕ) (a : At) (bs : Course) (acted rest after : List Item) (vs : List Version) (c d : Content) → Partway s a acted vs c d → a.stamp.0 ≤ s
    → AllForeignAbove s bs → NumbersInOrder (acted ++ rest) → GoesTo bs acted rest after → CourseGives a bs c
    → Partway s a after (vs ++ foreign_writes bs) (course_after a bs c) d

-- cuts of a batch's items whose positions are those of the next items at the key act as these, one after another
abbrev pub CutsGoOn : Type 0
CutsGoOn =
    (items js acted next more : List Item) → Rises position_of items → Each (IsCut items) js → Each (λ i. IsOneOf i items) next
    → map position_of js ≡ map position_of next → GoesTo (map ByBatch js) acted (next ++ more) (acted ++ next)

-- and cuts at positions of items that acted do so again
abbrev pub CutsGoAgain : Type 0
CutsGoAgain =
    (items js acted rest : List Item) → Rises position_of items → Each (IsCut items) js → Each (λ i. IsOneOf i items) acted
    → Each (λ j. IsOneOf j.pos (map position_of acted)) js → GoesTo (map ByBatch js) acted rest acted

-- as to one part of the batch, whose items at the key are ps, with bs of the parts before and ms of those that come: none of
-- its items acted yet, or all did
abbrev pub AtPart : List Item → List Item → List Item → List Item → List Item → Type 0
AtPart bs ps ms acted rest = ((acted ≡ bs) × (rest ≡ ps ++ ms)) ⊎ ((acted ≡ bs ++ ps) × (rest ≡ ms))

-- a piece has at the key all positions of the part, in their order, or nothing
abbrev pub AllOrNone : List Item → List Item → Type 0
AllOrNone js ps = (js ≡ []) ⊎ (map position_of js ≡ map position_of ps)

-- so it stays whatever pieces are cut of the part, and however often one acts: pieces that cover the part key by key bring
-- it from none to all
abbrev pub BlockGoes : Type 0
BlockGoes =
    (items js bs ps ms acted rest : List Item) → Rises position_of items → Each (IsCut items) js → Each (λ i. IsOneOf i items) (bs ++ ps)
    → AllOrNone js ps → AtPart bs ps ms acted rest
    → (after : List Item) × (left : List Item) × GoesTo (map ByBatch js) acted rest after × AtPart bs ps ms after left

-- at all keys

-- the store held these cells before the batch; at each key the items of `acted` acted so far, the first ones that the
-- batch has there, and the foreign writes of `vs` came since
pub record BatchPartway (s : ℕ) (q : Asking) (acted : List ℕ → List Item) (vs : List ℕ → List Version) (world : List ℕ → Content) (cells : Cells) : Type 0 where
  pub ascends : Ascends key_of cells
  pub at : (k : List ℕ) → Partway s (at_of q.head 0) (acted k) (vs k) (world k) (content_at k cells)
  pub rest : List ℕ → List Item
  pub front : (k : List ℕ) → items_at k q.items ≡ acted k ++ rest k

abbrev pub BatchBegins : Type 0
BatchBegins =
    (s : ℕ) (q : Asking) (world : List ℕ → Content) (cells : Cells) → Ascends key_of cells → ((k : List ℕ) → KeyIs s (world k) (content_at k cells))
    → BatchPartway s q (λ k. []) (λ k. []) world cells

-- whatever happens at each key, as long as no item is refused: a piece is delivered, for the first time or again, or
-- another client writes
abbrev pub BatchGoes : Type 0
BatchGoes =
    (s : ℕ) (q : Asking) (acted after : List ℕ → List Item) (vs : List ℕ → List Version) (world : List ℕ → Content) (cells : Cells) (course : List ℕ → Course)
    → (b : BatchPartway s q acted vs world cells) → q.head.at.0 ≤ s → NumbersInOrder q.items
    → ((k : List ℕ) → AllForeignAbove s (course k)) → ((k : List ℕ) → CourseGives (at_of q.head 0) (course k) (world k))
    → ((k : List ℕ) → GoesTo (course k) (acted k) (b.rest k) (after k))
    → BatchPartway s q after (λ k. vs k ++ foreign_writes (course k)) (λ k. course_after (at_of q.head 0) (course k) (world k)) cells

-- what doesn't change what any key holds, as a split or a lease, changes nothing here
abbrev pub BatchStays : Type 0
BatchStays =
    (s : ℕ) (q : Asking) (acted : List ℕ → List Item) (vs : List ℕ → List Version) (world now : List ℕ → Content) (cells : Cells)
    → BatchPartway s q acted vs world cells → ((k : List ℕ) → now k ≡ world k) → BatchPartway s q acted vs now cells

-- another client writes at one key
abbrev pub BatchWritten : Type 0
BatchWritten =
    (s : ℕ) (q : Asking) (acted : List ℕ → List Item) (vs : List ℕ → List Version) (world now : List ℕ → Content) (cells : Cells) (key : List ℕ) (v : Version)
    → BatchPartway s q acted vs world cells → s < v.stamp.0
    → ((k : List ℕ) → now k ≡ (if key_eq key k then after_foreign v (world k) else world k))
    → BatchPartway s q acted (λ k. if key_eq key k then vs k ++ v ∷ [] else vs k) now cells

-- where all items acted at each key, the batch asked at once of the store is not refused, and leaves what the world
-- holds, but for the foreign writes
abbrev pub BatchEnds : Type 0
BatchEnds =
    (s : ℕ) (q : Asking) (vs : List ℕ → List Version) (world : List ℕ → Content) (cells : Cells)
    → BatchPartway s q (λ k. items_at k q.items) vs world cells
    → (out : Cells) × (ws : List WriteAt) × (rs : List Reply) × (ask_all q.head q.items cells ≡ Gives out ws rs) × Ascends key_of out
    × ((k : List ℕ) → KeyIs s (world k) (with_versions (vs k) (content_at k out)))

-- where a cut of an item that comes at the key is refused in the world, the batch's turn at the key fails so; as too old,
-- where the foreign writes that came there since the batch began are made first
abbrev pub BatchRefused : Type 0
BatchRefused =
    (s : ℕ) (q : Asking) (acted : List ℕ → List Item) (vs : List ℕ → List Version) (world : List ℕ → Content) (cells : Cells)
    → (b : BatchPartway s q acted vs world cells) → q.head.at.0 ≤ s
    → (k : List ℕ) (j i : Item) (more : List Item) (f : ActFault) → b.rest k ≡ i ∷ more → ActsAs j i → verdict (at_of q.head 0) j (world k) ≡ Refuse f
    → ((IsTooOld f → ⊥) → FailsAt q k cells j.pos f)
    × (IsTooOld f → FailsAt q k (put_cell k (with_versions (vs k)) cells) j.pos f)
