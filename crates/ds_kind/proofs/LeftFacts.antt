-- What is left of a limit, after replies and further ones.
use Rattle.std.proofs.Common.{◌≡◌, ℕ, ◌+◌, ◌-◌, ◌≤◌, List, ◌++◌, Option, Some, None, refl, ap, arith}
use Rattle.std.proofs.lemmas.List.Sums.{sum_by-append}
use Rattle.ds_kind.specs.Left.{taken_in, taken_by, left_after, LeavesRoom}
use Rattle.ds_kind.specs.declared.reply.Reply.{Reply}

pub taken-append : (xs ys : List Reply) → taken_by (xs ++ ys) ≡ taken_by xs + taken_by ys
taken-append xs ys = sum_by-append (λ r. taken_in r.body) xs ys

minus_again : (n a b c : ℕ) → c ≡ a + b → (n - a) - b ≡ n - c
minus_again n a b c h = omega arith

-- replies taken off after others are taken off together with them
pub left-append : (rest : Option ℕ) (xs ys : List Reply) → left_after (left_after rest xs) ys ≡ left_after rest (xs ++ ys)
left-append None xs ys = refl
left-append (Some rest) xs ys = ap Some (minus_again rest (taken_by xs) (taken_by ys) (taken_by (xs ++ ys)) (taken-append xs ys))

fits : (n a b c : ℕ) → c ≡ a + b → a ≤ n → b ≤ n - a → c ≤ n
fits n a b c h p q = omega arith

-- there is room for both where there is room for each in turn
pub room-append : (rest : Option ℕ) (xs ys : List Reply) → LeavesRoom rest xs → LeavesRoom (left_after rest xs) ys → LeavesRoom rest (xs ++ ys)
room-append None xs ys p q = tt
room-append (Some rest) xs ys p q = fits rest (taken_by xs) (taken_by ys) (taken_by (xs ++ ys)) (taken-append xs ys) p q
