-- What a request does to one key.
use Rattle.std.specs.Prelude.{◌≡◌, ℕ, ◌-◌, Bool, true, false, ◌&&◌, nat_le, Option, Some, None, ◌⊎◌, alloc_error, is_some}
use Rattle.ds_base.specs.declared.value.Value.{Value}
use Rattle.ds_base.specs.declared.value.Stamp.{Stamp}
use Rattle.ds_cell.specs.declared.entry.Written.{Written}
use Rattle.ds_cell.specs.declared.entry.At.{At}
use Rattle.ds_cell.specs.declared.verdict.Verdict.{Verdict}
use Rattle.ds_cell.specs.declared.verdict.Verdict.TheVariants.{Keep, Put, Refuse}
use Rattle.ds_cell.specs.declared.verdict.Bit.{Bit}
use Rattle.ds_cell.specs.declared.verdict.ActFault.{ActFault}
use Rattle.ds_cell.specs.declared.verdict.ActFault.TheVariants.{TooOld, Memory}
use Rattle.ds_cell.specs.Content.{Content}
use Rattle.ds_cell.specs.Seen.{own, seen, under, too_old}
use Rattle.ds_cell.specs.Change.{wrote}

-- what a kind may look at: the value seen, and under which numbers up to its own a write stands
pub record Sight : Type 0 where
  pub value : Option Value
  pub found : ℕ → Bool

-- what is seen up to the number n
abbrev pub sight : At → ℕ → Content → Sight
sight at n c = record { value = seen at n c; found = λ m. nat_le m n && is_some (under m (own at c)) }

-- the number up to which a request looks: a numbered one looks below its own
abbrev pub look_of : Bool → ℕ → ℕ
look_of true s = s - 1
look_of false s = s

-- the write that stands under the number of a numbered request
abbrev pub prior : Bool → At → Content → Option Written
prior true at c = under at.seq.0 (own at c)
prior false at c = None

-- a write is refused where a stamp stands in its way; everything else goes before that
abbrev pub guarded : Option Stamp → Verdict → Verdict
guarded None v = v
guarded (Some t) (Put w b) = Refuse (TooOld t)
guarded (Some t) (Keep b) = Keep b
guarded (Some t) (Refuse f) = Refuse f

-- a request that wrote before answers as it did
abbrev pub decide : Option Written → (Option Value → Bit) → Option Stamp → Verdict → Verdict
decide (Some w) again t v = Keep (again w.value)
decide None again t v = guarded t v

-- what a request does to one key: whether it is numbered, how it judges what it sees, and how it answers for a write
-- that it made before
abbrev pub deed : Bool → (Sight → Verdict) → (Option Value → Bit) → At → Content → Verdict
deed n judge again at c =
    decide (prior n at c) again (too_old at c) (judge (sight at (look_of n at.seq.0) c))

-- the cell afterwards
abbrev pub content_after : At → Verdict → Content → Content
content_after at (Keep b) c = c
content_after at (Put w b) c = wrote at w c
content_after at (Refuse f) c = c

-- b is the answer
abbrev pub IsBitOf : Verdict → Bit → Type 0
IsBitOf (Keep a) b = b ≡ a
IsBitOf (Put w a) b = b ≡ a
IsBitOf (Refuse f) b = ⊥

-- f is the refusal, or want of memory
abbrev pub IsFaultOf : Verdict → ActFault → Type 0
IsFaultOf v f = (f ≡ Memory alloc_error) ⊎ (v ≡ Refuse f)
