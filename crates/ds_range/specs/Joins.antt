-- Two maps of a range's contents, and the one that has the cells of both.
use Rattle.std.specs.Prelude.{◌≡◌, ℕ, true, List, [], ◌∷◌, Option, None, Some, cond, refl}
use Rattle.std.specs.Map.{lookup}
use Rattle.std.specs.BTreeMap.{is_at}
use Rattle.std.specs.Option.{option_or, is_some}
use Rattle.ds_base.specs.Order.{key_cmp}
use Rattle.ds_cell.specs.Content.{Content, no_content}
use Rattle.ds_cell.specs.Ask.{Cells}

-- the content that is stored at the key, if one is
abbrev pub found : List ℕ → Cells → Option Content
found k cells = lookup (is_at (key_cmp k)) cells

-- contents after a change at one key, where this stands now
abbrev pub ChangedAt : List ℕ → Option Content → Cells → Cells → Type 0
ChangedAt k o old new = (q : List ℕ) → found q new ≡ cond (is_at (key_cmp k) q) o (found q old)

-- no key of the first is one of the second
abbrev pub Apart : Cells → Cells → Type 0
Apart xs ys = (k : List ℕ) → is_some (found k xs) ≡ true → found k ys ≡ None

-- each key of the first is one of the second
abbrev pub Among : Cells → Cells → Type 0
Among xs ys = (k : List ℕ) → is_some (found k xs) ≡ true → is_some (found k ys) ≡ true

-- where the first has no key, the other two have the same
abbrev pub SameBeside : Cells → Cells → Cells → Type 0
SameBeside xs ys zs = (k : List ℕ) → found k xs ≡ None → found k ys ≡ found k zs

-- at each key the last has what the first has, or else what the second has
abbrev pub HoldsBoth : Cells → Cells → Cells → Type 0
HoldsBoth xs ys zs = (k : List ℕ) → found k zs ≡ option_or (found k xs) (found k ys)

abbrev at_a : Cells
at_a = (97 ∷ [], no_content) ∷ []

the_key_is_found : found (97 ∷ []) at_a ≡ Some no_content
the_key_is_found = refl

another_is_not : found (98 ∷ []) at_a ≡ None
another_is_not = refl

a_lost_cell_is_missed : HoldsBoth at_a [] [] → ⊥
a_lost_cell_is_missed h = let no : None ≡ Some no_content = h (97 ∷ []) in cc

a_key_of_both_is_not_apart : Apart at_a at_a → ⊥
a_key_of_both_is_not_apart h = let no : Some no_content ≡ None = h (97 ∷ []) refl in cc
