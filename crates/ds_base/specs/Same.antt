-- When two values are one.
use Rattle.std.specs.Prelude.{Bool, true, false, nat_eq}
use Rattle.std.specs.Ordering.{int_eq}
use Rattle.std.specs.Cmp.Lexicographic.{pointwise}
use Rattle.ds_base.specs.declared.value.Value.{Value}
use Rattle.ds_base.specs.declared.value.Value.TheVariants.{Text, Int}

abbrev pub same_value : Value → Value → Bool
same_value (Text a) (Text b) = pointwise nat_eq a b
same_value (Text a) (Int n) = false
same_value (Int m) (Text b) = false
same_value (Int m) (Int n) = int_eq m n
