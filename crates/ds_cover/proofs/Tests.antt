-- Small facts of tests and sums that the proofs of coverage share.
use Rattle.std.proofs.Common.{◌≡◌, ℕ, ◌+◌, Bool, true, false, ◌&&◌, refl, arith}
pub use Rattle.ds_base.proofs.KeyFacts.{le_itself}
pub use Rattle.ds_base.proofs.TestFacts.{never, not_both, same_test}

pub and_true : (a : Bool) → (a && true) ≡ a
and_true true = refl
and_true false = refl

pub and_no : (a : Bool) → (a && false) ≡ false
and_no true = refl
and_no false = refl

pub zero_plus : (n : ℕ) → 0 + n ≡ n
zero_plus n = omega arith

pub plus_zero : (n : ℕ) → n + 0 ≡ n
plus_zero n = omega arith

pub exchange : (a b c : ℕ) → a + (b + c) ≡ b + (a + c)
exchange a b c = omega arith
