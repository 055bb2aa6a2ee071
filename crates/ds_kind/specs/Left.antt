-- What replies take of a batch's limit, and what they leave.
use Rattle.std.specs.Prelude.{◌≡◌, ℕ, ◌-◌, ◌≤◌, ◌==◌, Bool, true, false, List, [], ◌∷◌, Option, Some, None, length, pos, refl}
use Rattle.std.specs.List.{sum_by}
use Rattle.ds_base.specs.declared.value.Value.TheVariants.{Int}
use Rattle.ds_kind.specs.declared.reply.Body.{Body}
use Rattle.ds_kind.specs.declared.reply.Body.TheVariants as Said
use Rattle.ds_kind.specs.declared.reply.Reply.{Reply}

-- a row counts one, and so do a deleted key and a found get
abbrev pub taken_in : Body → ℕ
taken_in (Said.Got (Some v)) = 1
taken_in (Said.Got None) = 0
taken_in (Said.Rows rows) = length rows
taken_in Said.Unit = 0
taken_in (Said.Number n) = 0
taken_in (Said.Gone keys) = length keys
taken_in (Said.Ended status) = 0
taken_in (Said.Found found) = 0

abbrev pub taken_by : List Reply → ℕ
taken_by replies = sum_by (λ r. taken_in r.body) replies

-- what is left of a limit after replies; without a limit there is none
abbrev pub left_after : Option ℕ → List Reply → Option ℕ
left_after None replies = None
left_after (Some rest) replies = Some (rest - taken_by replies)

-- the replies take at most what is left
abbrev pub LeavesRoom : Option ℕ → List Reply → Type 0
LeavesRoom None replies = Unit {0}
LeavesRoom (Some rest) replies = taken_by replies ≤ rest

-- there is a limit, and nothing is left of it
abbrev pub is_used_up : Option ℕ → Bool
is_used_up None = false
is_used_up (Some rest) = rest == 0

-- two rows, of a limit of three and of two

abbrev two_rows : Reply
two_rows = record {
  body = Said.Rows (record { key = 97 ∷ []; value = Int (pos 1) } ∷ record { key = 98 ∷ []; value = Int (pos 2) } ∷ []);
  resume = None;
}

abbrev nothing_found : Reply
nothing_found = record { body = Said.Got None; resume = None }

abbrev found : Reply
found = record { body = Said.Got (Some (Int (pos 3))); resume = None }

two_rows_take_two : left_after (Some 3) (two_rows ∷ nothing_found ∷ []) ≡ Some 1
two_rows_take_two = refl

a_found_get_takes_one : left_after (Some 3) (two_rows ∷ found ∷ []) ≡ Some 0
a_found_get_takes_one = refl

nothing_is_left_then : is_used_up (left_after (Some 3) (two_rows ∷ found ∷ [])) ≡ true
nothing_is_left_then = refl

one_left_isnt_used_up : is_used_up (left_after (Some 3) (two_rows ∷ [])) ≡ false
one_left_isnt_used_up = refl

without_a_limit_nothing_is_used_up : is_used_up (left_after None (two_rows ∷ [])) ≡ false
without_a_limit_nothing_is_used_up = refl
