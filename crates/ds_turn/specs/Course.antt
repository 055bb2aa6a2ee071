-- What happens at one key while a batch is asked: its items act there, and other clients write.
use Rattle.std.specs.Prelude.{◌≡◌, ℕ, ◌<◌, List, [], ◌∷◌, fold}
use Rattle.ds_kind.specs.declared.batch.Item.{Item}
use Rattle.ds_cell.specs.declared.entry.At.{At}
use Rattle.ds_cell.specs.declared.entry.Version.{Version}
use Rattle.ds_cell.specs.declared.entry.Written.{Written}
use Rattle.ds_cell.specs.declared.verdict.Bit.{Bit}
use Rattle.ds_cell.specs.Content.{Content}
use Rattle.ds_cell.specs.Change.{made, after_foreign}
use Rattle.ds_cell.specs.Store.{with_version}
use Rattle.ds_rule.specs.Turn.{Turn, TurnGives, and_turn, verdict, after_item, turn_of}

-- an item of the batch acts on the key, or another client writes there
pub data Touch : Type 0 where
  ByBatch : Item → Touch
  ByOther : Version → Touch

-- all that happens at the key, in order
abbrev pub Course : Type 0
Course = List Touch

-- the items, and the foreign writes, each in their order
abbrev pub batch_items : Course → List Item
batch_items [] = []
batch_items (ByBatch i ∷ bs) = i ∷ batch_items bs
batch_items (ByOther v ∷ bs) = batch_items bs

abbrev pub foreign_writes : Course → List Version
foreign_writes [] = []
foreign_writes (ByBatch i ∷ bs) = foreign_writes bs
foreign_writes (ByOther v ∷ bs) = v ∷ foreign_writes bs

-- each foreign write is above the stamp
abbrev pub AllForeignAbove : ℕ → Course → Type 0
AllForeignAbove s [] = Unit {0}
AllForeignAbove s (ByBatch i ∷ bs) = AllForeignAbove s bs
AllForeignAbove s (ByOther v ∷ bs) = (s < v.stamp.0) × AllForeignAbove s bs

-- with `write` for what a foreign write does: the content afterwards, and what the items come to

abbrev pub after_by : (Version → Content → Content) → At → Course → Content → Content
after_by write a [] c = c
after_by write a (ByBatch i ∷ bs) c = after_by write a bs (after_item a i c)
after_by write a (ByOther v ∷ bs) c = after_by write a bs (write v c)

abbrev pub turn_by : (Version → Content → Content) → At → Course → Content → Turn
turn_by write a [] c = TurnGives [] []
turn_by write a (ByBatch i ∷ bs) c = and_turn i (verdict a i c) (turn_by write a bs (after_item a i c))
turn_by write a (ByOther v ∷ bs) c = turn_by write a bs (write v c)

-- in the world, where a foreign write waits beside an intent
abbrev pub course_after : At → Course → Content → Content
course_after a bs c = after_by after_foreign a bs c

abbrev pub course_turn : At → Course → Content → Turn
course_turn a bs c = turn_by after_foreign a bs c

-- in a store that makes it at once
abbrev pub made_after : At → Course → Content → Content
made_after a bs d = after_by with_version a bs d

abbrev pub made_turn : At → Course → Content → Turn
made_turn a bs d = turn_by with_version a bs d

-- foreign writes alone, made at once
abbrev pub with_versions : List Version → Content → Content
with_versions vs d = record d { versions = fold made d.versions vs }

-- the items, asked in order on this content, are none of them refused
pub record NoneRefused (a : At) (is : List Item) (d : Content) : Type 0 where
  pub bits : List (ℕ × Bit)
  pub writes : List Written
  pub gives : turn_of a is d ≡ TurnGives bits writes

-- in the course from this content of the world, no item is refused
pub record CourseGives (a : At) (bs : Course) (c : Content) : Type 0 where
  pub bits : List (ℕ × Bit)
  pub writes : List Written
  pub gives : course_turn a bs c ≡ TurnGives bits writes
