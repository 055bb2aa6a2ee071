-- Small facts of logic, options, numbers and lists that many proofs use: each stands here once.
use Rattle.std.proofs.Common.{◌≡◌, ℕ, ◌≤◌, ◌<◌, Bool, true, false, not, ◌&&◌, ◌||◌, List, [], ◌∷◌, ◌++◌, Option, Some, None, refl, sym, ap, arith, nat_lt, nat_le}
use Rattle.std.proofs.lemmas.Bool.Decides.{nat_tests}
use Rattle.std.specs.Option.{is_some}
use Rattle.std.specs.Ordering.{is_lt, is_le, is_gt, is_eq, ordering_reverse}
use Rattle.std.specs.declared.cmp.Ordering.{Ordering}
use Rattle.std.specs.declared.cmp.Ordering.TheVariants.{Less, Equal, Greater}

-- both halves of an `&&`, and the `&&` of both
pub and_first : (a b : Bool) → a && b ≡ true → a ≡ true
and_first true b h = refl
and_first false b h = h

pub and_second : (a b : Bool) → a && b ≡ true → b ≡ true
and_second true b h = h
and_second false b h = cc

pub and_both : (a b : Bool) → a ≡ true → b ≡ true → (a && b) ≡ true
and_both a b p q = cc

-- what an `||` that fails says, and where one fails or holds
pub or_first : (a b : Bool) → (a || b) ≡ false → a ≡ false
or_first true b h = h
or_first false b h = refl

pub or_second : (a b : Bool) → (a || b) ≡ false → b ≡ false
or_second true b h = cc
or_second false b h = h

pub or_neither : (a b : Bool) → a ≡ false → b ≡ false → (a || b) ≡ false
or_neither a b p q = cc

pub or_right : (a b : Bool) → b ≡ true → (a || b) ≡ true
or_right true b h = refl
or_right false b h = h

pub not_true : (a : Bool) → not a ≡ true → a ≡ false
not_true true h = sym h
not_true false h = refl

-- options
pub none_some : {X : Type 0} {G : Type 0} (x : X) → None ≡ Some x → G
none_some x h = cc

pub some_none : {X : Type 0} {G : Type 0} (x : X) → Some x ≡ None → G
some_none x h = cc

pub some_same : {X : Type 0} (x y : X) → Some x ≡ Some y → x ≡ y
some_same x y h = cc

pub some_of : {X : Type 0} (o : Option X) → is_some o ≡ true → (x : X) × (o ≡ Some x)
some_of None h = cc
some_of (Some x) h = (x, refl)

-- tests on numbers
pub lt_of : (n m : ℕ) → nat_lt n m ≡ true → n < m
lt_of n m h = grind (arith, nat_tests)

pub ge_of : (n m : ℕ) → nat_lt n m ≡ false → m ≤ n
ge_of n m h = grind (arith, nat_tests)

pub le_of : (n m : ℕ) → nat_le n m ≡ true → n ≤ m
le_of n m h = grind (arith, nat_tests)

pub gt_of : (n m : ℕ) → nat_le n m ≡ false → m < n
gt_of n m h = grind (arith, nat_tests)

-- orderings
pub less_not_equal : (o : Ordering) → is_lt o ≡ true → is_eq o ≡ false
less_not_equal Less h = refl
less_not_equal Equal h = sym h
less_not_equal Greater h = refl

pub not_greater : (o : Ordering) → is_gt o ≡ false → is_le o ≡ true
not_greater Less h = refl
not_greater Equal h = refl
not_greater Greater h = sym h

pub less_reversed : (o : Ordering) → is_lt (ordering_reverse o) ≡ is_gt o
less_reversed Less = refl
less_reversed Equal = refl
less_reversed Greater = refl

-- lists
pub append_nil : {X : Type 0} (xs : List X) → xs ++ [] ≡ xs
append_nil [] = refl
append_nil (x ∷ xs) = ap (λ zs. x ∷ zs) (append_nil xs)
