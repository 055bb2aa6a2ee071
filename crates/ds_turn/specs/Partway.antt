-- A batch under way at one key, whether or not its replies came in.
use Rattle.std.specs.Prelude.{◌≡◌, ℕ, ◌<◌, ◌≤◌, ◌⊎◌, None, true, List, [], ◌∷◌, ◌++◌}
use Rattle.ds_kind.specs.Asks.{takes_number}
use Rattle.ds_kind.specs.declared.batch.Item.{Item}
use Rattle.ds_cell.specs.declared.entry.At.{At}
use Rattle.ds_cell.specs.declared.entry.Version.{Version}
use Rattle.ds_cell.specs.declared.verdict.Verdict.TheVariants.{Refuse}
use Rattle.ds_cell.specs.declared.verdict.Bit.{Bit}
use Rattle.ds_cell.specs.declared.verdict.ActFault.{ActFault}
use Rattle.ds_cell.specs.Change.{settled, after_foreign}
use Rattle.ds_cell.specs.Content.{Content, AllAbove, Rises, stamp_of}
use Rattle.ds_cell.specs.Deed.{IsBitOf}
use Rattle.ds_cell.specs.Laws.{Repeats}
use Rattle.ds_rule.specs.Turn.{items_at, IsNoRefusal, TurnFails, verdict, after_item, after_items, turn_of}
use Rattle.ds_kind.specs.Numbers.{numbers_from}
use Rattle.ds_kind.specs.Parts.{items_from}
use Rattle.ds_kind.specs.declared.request.Request.{Request}
use Rattle.ds_turn.specs.Alone.{IsTooOld}
use Rattle.ds_turn.specs.Course.{AllForeignAbove, Course, NoneRefused, batch_items, course_after, with_versions}
use Rattle.ds_turn.specs.KeyIs.{KeyIs}

-- an item's number is below those of all later ones that take a number; a read may share its number with the write before it
abbrev pub AllLater : Item → List Item → Type 0
AllLater i [] = Unit {0}
AllLater i (j ∷ js) = (takes_number j.request ≡ true → i.seq.0 < j.seq.0) × AllLater i js

abbrev pub NumbersInOrder : List Item → Type 0
NumbersInOrder [] = Unit {0}
NumbersInOrder (i ∷ is) = AllLater i is × NumbersInOrder is

-- the items that a batch is made of, and those of them that hold one key, have their numbers in order
abbrev pub BatchNumbers : Type 0
BatchNumbers = (last : ℕ) (rs : List Request) (k : List ℕ) → NumbersInOrder (items_at k (items_from 0 rs (numbers_from last rs)))

-- an item that acts a second time gives its first answer and writes nothing, whatever later items and other clients did
-- in between
abbrev pub AskedAgain : Type 0
AskedAgain =
    (s : ℕ) (a : At) (i : Item) (bs : Course) (c : Content) → a.stamp.0 ≤ s → AllForeignAbove s bs → AllLater i (batch_items bs)
    → Repeats (verdict a i c) (verdict a i (course_after a bs (after_item a i c)))

-- the items of `acted` acted so far, in this order, and none was refused; other clients wrote vs since the batch began: so c
-- in the world is what d in the store, which is left as it was before the batch, would be after the items and those writes
pub record Partway (s : ℕ) (a : At) (acted : List Item) (vs : List Version) (c d : Content) : Type 0 where
  pub key : KeyIs s c (with_versions vs (after_items a acted d))
  pub above : AllAbove stamp_of s vs
  pub stamps_rise : Rises stamp_of d.versions
  pub numbers_rise : NumbersInOrder acted
  pub none_refused : NoneRefused a acted d

-- nothing acted yet
abbrev pub PartwayBegins : Type 0
PartwayBegins = (s : ℕ) (a : At) (c d : Content) → KeyIs s c d → Partway s a [] [] c d

-- another client writes
abbrev pub PartwayForeign : Type 0
PartwayForeign =
    (s : ℕ) (a : At) (acted : List Item) (vs : List Version) (c d : Content) (v : Version) → Partway s a acted vs c d
    → s < v.stamp.0 → Partway s a acted (vs ++ v ∷ []) (after_foreign v c) d

-- the next item acts: it answers what it answers on the store, where no foreign write stands in its way
abbrev pub PartwayActs : Type 0
PartwayActs =
    (s : ℕ) (a : At) (acted : List Item) (vs : List Version) (c d : Content) (i : Item) → Partway s a acted vs c d
    → a.stamp.0 ≤ s → NumbersInOrder (acted ++ i ∷ []) → IsNoRefusal (verdict a i c)
    → (verdict a i c ≡ verdict a i (after_items a acted d)) × Partway s a (acted ++ i ∷ []) vs (after_item a i c) d

-- a late copy of an item, or one that is sent again: it gives the answer of its turn, and the key stays as it is
abbrev pub PartwayAgain : Type 0
PartwayAgain =
    (s : ℕ) (a : At) (acted : List Item) (vs : List Version) (c d : Content) (xs : List Item) (i : Item) (ys : List Item)
    → Partway s a acted vs c d → a.stamp.0 ≤ s → acted ≡ xs ++ i ∷ ys
    → ((b : Bit) × IsBitOf (verdict a i (after_items a xs d)) b × IsBitOf (verdict a i c) b) × (after_item a i c ≡ c)

-- the next item is refused: the same refusal comes where all items are asked at once, of the store as it was, or for "too
-- old" of the store with the foreign writes so far
abbrev pub PartwayRefused : Type 0
PartwayRefused =
    (s : ℕ) (a : At) (acted : List Item) (vs : List Version) (c d : Content) (i : Item) (later : List Item) (f : ActFault)
    → Partway s a acted vs c d → a.stamp.0 ≤ s → verdict a i c ≡ Refuse f
    → ((IsTooOld f → ⊥) → turn_of a (acted ++ i ∷ later) d ≡ TurnFails i.pos f)
    × (IsTooOld f → turn_of a (acted ++ i ∷ later) (with_versions vs d) ≡ TurnFails i.pos f)

-- a rollback, whatever of the batch acted, leaves what a rollback of the store as it was before the batch leaves, where the
-- transaction alone has an intent at the key; the foreign writes stay
abbrev pub PartwayRolledBack : Type 0
PartwayRolledBack =
    (s : ℕ) (a : At) (acted : List Item) (vs : List Version) (c d : Content) → Partway s a acted vs c d → (d.history ≡ []) ⊎ (d.owner ≡ a.txn.0)
    → KeyIs s (settled a.txn.0 None c) (with_versions vs (settled a.txn.0 None d))
