-- What the definitions of specs/ say of small cases.
use Rattle.std.proofs.Common.{◌≡◌, [], ◌∷◌, Some, true, false, refl, ap, length, length-append, arith}
use Rattle.ds_io.specs.Counts.{raised}
use Rattle.ds_io.specs.Ends.{EndsExactly, TookOneMore}
use Rattle.ds_io.specs.Memory.{is_listed}

pub raised-by_one : raised 3 ≡ 4
raised-by_one = refl

pub raised-at_last : raised 18446744073709551615 ≡ 18446744073709551615
raised-at_last = refl

pub listed : is_listed 2 (1 ∷ 2 ∷ []) ≡ true
listed = refl

pub not_listed : is_listed 3 (1 ∷ 2 ∷ []) ≡ false
not_listed = refl

pub end_of_none_left : EndsExactly (Some []) 0
end_of_none_left = (λ _. refl, λ _. refl)

pub no_end_with_one_left : EndsExactly (Some (7 ∷ [])) 0 → ⊥
no_end_with_one_left h = let e = h.0 refl in cc

pub none_left_to_give : EndsExactly (Some []) 1 → ⊥
none_left_to_give h = let e = h.1 refl in omega arith

pub three_of_two : TookOneMore 2 (Some (7 ∷ 8 ∷ 9 ∷ 10 ∷ [])) (Some (10 ∷ []))
three_of_two = (7 ∷ 8 ∷ 9 ∷ [], refl, refl)

pub not_a_fourth : TookOneMore 2 (Some (7 ∷ 8 ∷ 9 ∷ 10 ∷ [])) (Some []) → ⊥
not_a_fourth h = let longer = ap length h.2 in omega (arith, h.1, longer, length-append h.0 [])
