-- Lists taken in order: the first element at which something holds, and groups of neighbours.
use Rattle.std.specs.Prelude.{ℕ, Bool, List, [], ◌∷◌, ◌++◌, Option, Some, None, length, if◌then◌else◌}

-- the least position whose element passes the test beside those before it, after some that are past
abbrev pub first_after : {A : Type 0} → (List A → A → Bool) → List A → List A → Option ℕ
first_after test past [] = None
first_after test past (x ∷ xs) = if test past x then Some (length past) else first_after test (past ++ x ∷ []) xs

abbrev pub first_where : {A : Type 0} → (List A → A → Bool) → List A → Option ℕ
first_where test xs = first_after test [] xs

-- the last group so far, and what follows: each joins the last group where it may, else it begins one
abbrev pub groups_from : {A : Type 0} → (List A → A → Bool) → List A → List A → List (List A)
groups_from may_join last [] = last ∷ []
groups_from may_join last (x ∷ xs) = if may_join last x then groups_from may_join (last ++ x ∷ []) xs else last ∷ groups_from may_join (x ∷ []) xs

abbrev pub groups : {A : Type 0} → (List A → A → Bool) → List A → List (List A)
groups may_join [] = []
groups may_join (x ∷ xs) = groups_from may_join (x ∷ []) xs
