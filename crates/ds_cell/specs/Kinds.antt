-- How each kind judges what it sees.
use Rattle.std.specs.Prelude.{◌≡◌, ℤ, ◌+ℤ◌, Bool, true, false, Option, Some, None, if◌then◌else◌, nat_lt, ◌^◌, pos, negsuc, refl}
use Rattle.ds_base.specs.Same.{same_value}
use Rattle.ds_base.specs.declared.value.Value.{Value}
use Rattle.ds_base.specs.declared.value.Value.TheVariants.{Text, Int}
use Rattle.ds_kind.specs.declared.reads.QueryIntentArgs.{QueryIntentArgs}
use Rattle.ds_kind.specs.declared.writes.PutArgs.{PutArgs}
use Rattle.ds_kind.specs.declared.writes.ConditionalPutArgs.{ConditionalPutArgs}
use Rattle.ds_kind.specs.declared.writes.InitPutArgs.{InitPutArgs}
use Rattle.ds_kind.specs.declared.writes.IncrementArgs.{IncrementArgs}
use Rattle.ds_cell.specs.declared.verdict.Verdict.{Verdict}
use Rattle.ds_cell.specs.declared.verdict.Verdict.TheVariants.{Keep, Put, Refuse}
use Rattle.ds_cell.specs.declared.verdict.Bit.{Bit}
use Rattle.ds_cell.specs.declared.verdict.Bit.TheVariants.{Nothing, Value as Shown, Gone, Hit}
use Rattle.ds_cell.specs.declared.verdict.ActFault.TheVariants.{Condition, NotInteger, Overflow}
use Rattle.ds_cell.specs.Deed.{Sight}
use Rattle.ds_cell.specs.Laws.{IsCoherent, WritesIf}

-- what a repeat answers, of the value that was written

abbrev pub nothing : Option Value → Bit
nothing w = Nothing

abbrev pub shown : Option Value → Bit
shown w = Shown w

abbrev pub gone : Option Value → Bit
gone w = Gone

-- an end, a resolve or an admin request does nothing to any key
abbrev pub judge_nothing : Sight → Verdict
judge_nothing g = Keep Nothing

-- a get or a scan shows the value seen
abbrev pub judge_read : Sight → Verdict
judge_read g = Keep (Shown g.value)

-- whether a write stands under the number asked for
abbrev pub judge_query : QueryIntentArgs → Sight → Verdict
judge_query a g = Keep (if g.found a.seq.0 then Hit else Nothing)

abbrev pub judge_put : PutArgs → Sight → Verdict
judge_put a g = Put (Some a.value) Nothing

-- whether the value seen is the expected one, or none is seen and that is allowed
abbrev pub expected : Option Value → Bool → Option Value → Bool
expected None absent None = true
expected (Some x) absent None = absent
expected None absent (Some v) = false
expected (Some x) absent (Some v) = same_value v x

-- a write on a condition, which tells what was seen where it does not hold
abbrev pub put_if : Bool → Value → Option Value → Verdict
put_if true x v = Put (Some x) Nothing
put_if false x v = Refuse (Condition v)

abbrev pub judge_conditional : ConditionalPutArgs → Sight → Verdict
judge_conditional a g = put_if (expected a.expect a.allow_absent g.value) a.value g.value

-- the same value, or none
abbrev pub judge_init : InitPutArgs → Sight → Verdict
judge_init a g = put_if (expected (Some a.value) true g.value) a.value g.value

abbrev pub fits_i64 : ℤ → Bool
fits_i64 (pos n) = nat_lt n (2 ^ 63)
fits_i64 (negsuc n) = nat_lt n (2 ^ 63)

-- the sum, where it is an `i64`
abbrev pub sum_of : ℤ → ℤ → Option ℤ
sum_of a b = if fits_i64 (a +ℤ b) then Some (a +ℤ b) else None

abbrev pub put_number : Option ℤ → Verdict
put_number None = Refuse Overflow
put_number (Some n) = Put (Some (Int n)) (Shown (Some (Int n)))

-- none counts as 0, and a text is no number
abbrev pub raised_by : ℤ → Option Value → Verdict
raised_by by None = put_number (sum_of (pos 0) by)
raised_by by (Some (Int n)) = put_number (sum_of n by)
raised_by by (Some (Text t)) = Refuse NotInteger

abbrev pub judge_increment : IncrementArgs → Sight → Verdict
judge_increment a g = raised_by a.by g.value

-- a deletion, also where no value is seen
abbrev pub judge_delete : Sight → Verdict
judge_delete g = Put None Nothing

abbrev pub gone_of : Option Value → Verdict
gone_of None = Keep Nothing
gone_of (Some v) = Put None Gone

-- a deletion where a value is seen
abbrev pub judge_delete_range : Sight → Verdict
judge_delete_range g = gone_of g.value

-- what each kind owes

pub nothing-coherent : IsCoherent judge_nothing nothing
nothing-coherent g w b h = cc

pub nothing-flagged : (flag : Bool) → WritesIf flag judge_nothing
nothing-flagged flag g w b h = cc

pub read-coherent : IsCoherent judge_read nothing
read-coherent g w b h = cc

pub read-flagged : WritesIf false judge_read
read-flagged g w b h = cc

pub query-coherent : (a : QueryIntentArgs) → IsCoherent (judge_query a) nothing
query-coherent a g w b h = cc

pub query-flagged : (a : QueryIntentArgs) → WritesIf false (judge_query a)
query-flagged a g w b h = cc

-- a kind that is flagged may write
pub flagged : (judge : Sight → Verdict) → WritesIf true judge
flagged judge g w b h = refl

pub put-coherent : (a : PutArgs) → IsCoherent (judge_put a) nothing
put-coherent a g w b h = cc

put_if-coherent : (t : Bool) (x : Value) (v w : Option Value) (b : Bit) → put_if t x v ≡ Put w b → Nothing ≡ b
put_if-coherent true x v w b h = cc
put_if-coherent false x v w b h = cc

pub conditional-coherent : (a : ConditionalPutArgs) → IsCoherent (judge_conditional a) nothing
conditional-coherent a g w b h = put_if-coherent _ a.value g.value w b h

pub init-coherent : (a : InitPutArgs) → IsCoherent (judge_init a) nothing
init-coherent a g w b h = put_if-coherent _ a.value g.value w b h

put_number-coherent : (o : Option ℤ) (w : Option Value) (b : Bit) → put_number o ≡ Put w b → Shown w ≡ b
put_number-coherent None w b h = cc
put_number-coherent (Some n) w b h = cc

raised_by-coherent : (by : ℤ) (v w : Option Value) (b : Bit) → raised_by by v ≡ Put w b → Shown w ≡ b
raised_by-coherent by None w b h = put_number-coherent _ w b h
raised_by-coherent by (Some (Int n)) w b h = put_number-coherent _ w b h
raised_by-coherent by (Some (Text t)) w b h = cc

pub increment-coherent : (a : IncrementArgs) → IsCoherent (judge_increment a) shown
increment-coherent a g w b h = raised_by-coherent a.by g.value w b h

pub delete-coherent : IsCoherent judge_delete nothing
delete-coherent g w b h = cc

gone_of-coherent : (v w : Option Value) (b : Bit) → gone_of v ≡ Put w b → Gone ≡ b
gone_of-coherent None w b h = cc
gone_of-coherent (Some v) w b h = cc

pub delete_range-coherent : IsCoherent judge_delete_range gone
delete_range-coherent g w b h = gone_of-coherent g.value w b h
