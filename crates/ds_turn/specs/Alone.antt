-- What a batch's items do at a key beside other clients' writes, and what they do there alone.
use Rattle.std.specs.Prelude.{◌≡◌, ℕ, ◌≤◌, List, [], ◌∷◌, ◌++◌}
use Rattle.ds_base.specs.declared.value.Stamp.{Stamp}
use Rattle.ds_kind.specs.declared.batch.Item.{Item}
use Rattle.ds_cell.specs.declared.entry.At.{At}
use Rattle.ds_cell.specs.declared.entry.Written.{Written}
use Rattle.ds_cell.specs.declared.verdict.Bit.{Bit}
use Rattle.ds_cell.specs.declared.verdict.ActFault.{ActFault}
use Rattle.ds_cell.specs.declared.verdict.ActFault.TheVariants.{TooOld}
use Rattle.ds_cell.specs.Content.{Content}
use Rattle.ds_rule.specs.Turn.{TurnFails, TurnGives, after_items, turn_of}
use Rattle.ds_turn.specs.Course.{AllForeignAbove, ByBatch, Course, batch_items, course_after, course_turn, foreign_writes, made_after, made_turn, with_versions}
use Rattle.ds_turn.specs.KeyIs.{KeyIs}

-- c is what the world holds at the key before the course, and d what the store holds there; s is the floor, below which no
-- other client writes and above which the batch does not ask

-- a store that makes each foreign write at once goes along with the world, where it may wait: item by item the same
-- answer, the same write or the same refusal
abbrev pub SameCourse : Type 0
SameCourse =
    (s : ℕ) (a : At) (bs : Course) (c d : Content) → KeyIs s c d → a.stamp.0 ≤ s → AllForeignAbove s bs
    → (made_turn a bs d ≡ course_turn a bs c) × KeyIs s (course_after a bs c) (made_after a bs d)

-- items of which none was refused in the world do on d, without any foreign write, what they did; making the foreign
-- writes afterwards gives what the world holds then
abbrev pub ActsAlone : Type 0
ActsAlone =
    (s : ℕ) (a : At) (bs : Course) (c d : Content) (bits : List (ℕ × Bit)) (ws : List Written) → KeyIs s c d → a.stamp.0 ≤ s → AllForeignAbove s bs
    → course_turn a bs c ≡ TurnGives bits ws
    → (turn_of a (batch_items bs) d ≡ TurnGives bits ws) × KeyIs s (course_after a bs c) (with_versions (foreign_writes bs) (after_items a (batch_items bs) d))

abbrev pub IsTooOld : ActFault → Type 0
IsTooOld f = (t : Stamp) × (f ≡ TooOld t)

-- any refusal but "too old" comes without the foreign writes as well, of the same item
abbrev pub FailsAlone : Type 0
FailsAlone =
    (s : ℕ) (a : At) (bs : Course) (c d : Content) (p : ℕ) (f : ActFault) → KeyIs s c d → a.stamp.0 ≤ s → AllForeignAbove s bs
    → course_turn a bs c ≡ TurnFails p f → (IsTooOld f → ⊥) → turn_of a (batch_items bs) d ≡ TurnFails p f

-- the course up to its first refusal, and the item that was refused
pub record RefusedAfter (a : At) (bs : Course) (c : Content) (p : ℕ) (f : ActFault) : Type 0 where
  pub front : Course
  pub item : Item
  pub back : Course
  pub is : bs ≡ front ++ ByBatch item ∷ back
  pub position : item.pos ≡ p
  pub bits : List (ℕ × Bit)
  pub writes : List Written
  pub before : course_turn a front c ≡ TurnGives bits writes
  pub refused : course_turn a (ByBatch item ∷ []) (course_after a front c) ≡ TurnFails p f

-- an item that came too old in the world comes too old, with the same stamp, on a store where the foreign writes before it
-- stand from the beginning; those after it would name another stamp. The batch had written nothing at the key by then.
abbrev pub FailsOld : Type 0
FailsOld =
    (s : ℕ) (a : At) (bs : Course) (c d : Content) (p : ℕ) (t : Stamp) → KeyIs s c d → a.stamp.0 ≤ s → AllForeignAbove s bs
    → course_turn a bs c ≡ TurnFails p (TooOld t)
    → (r : RefusedAfter a bs c p (TooOld t)) × (r.writes ≡ []) × (turn_of a (batch_items bs) (with_versions (foreign_writes r.front) d) ≡ TurnFails p (TooOld t))
