-- Facts on the numbers of requests.
use Rattle.std.proofs.Common.{◌≡◌, ℕ, suc, ◌+◌, ◌≤◌, Bool, true, false, cond, List, [], ◌∷◌, length, refl, sym, ap, ◌∙◌, arith}
use Rattle.std.specs.List.{count_by}
use Rattle.std.proofs.lemmas.List.Sums.{sum_by-cons}
use Rattle.ds_kind.specs.declared.request.Request.{Request}
use Rattle.ds_kind.specs.Asks.{takes_number}
use Rattle.ds_kind.specs.Numbers.{next_number, numbers_from, last_number, NeverFall}

pub numbers_one_each : (last : ℕ) (rs : List Request) → length (numbers_from last rs) ≡ length rs
numbers_one_each last [] = refl
numbers_one_each last (r ∷ rs) = ap suc (numbers_one_each (next_number last r) rs)

pub next_not_below : (last : ℕ) (r : Request) → last ≤ next_number last r
next_not_below last r = elim (takes_number r) as (λ t. last ≤ cond t (last + 1) last) [ true ↦ omega arith | false ↦ omega arith ]

pub numbers_never_fall : (last : ℕ) (rs : List Request) → NeverFall last (numbers_from last rs)
numbers_never_fall last [] = tt
numbers_never_fall last (r ∷ rs) = (next_not_below last r, numbers_never_fall (next_number last r) rs)

step_count : (t : Bool) (last n : ℕ) → cond t (last + 1) last + n ≡ last + (cond t 1 0 + n)
step_count true last n = omega arith
step_count false last n = omega arith

pub numbers_end : (last : ℕ) (rs : List Request) → last_number last (numbers_from last rs) ≡ last + count_by takes_number rs
numbers_end last [] = omega arith
numbers_end last (r ∷ rs) =
    numbers_end (next_number last r) rs
    ∙ step_count (takes_number r) last (count_by takes_number rs)
    ∙ ap (λ n. last + n) (sym (sum_by-cons (λ q. cond (takes_number q) 1 0) r rs))
