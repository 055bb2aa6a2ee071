-- At which keys of a range a transaction's writes can stand.
use Rattle.std.specs.Prelude.{◌≡◌, ℕ, Bool, true, false, List, [], ◌∷◌, map, Option, Some, None, if◌then◌else◌, refl}
use Rattle.std.specs.List.{list_any}
use Rattle.ds_base.specs.Ordered.{key_eq}
use Rattle.ds_base.specs.declared.value.Stamp.{Stamp}
use Rattle.ds_cell.specs.declared.entry.Written.{Written}
use Rattle.ds_cell.specs.Content.{no_content}
use Rattle.ds_cell.specs.Change.{settled}
use Rattle.ds_cell.specs.Seen.{last_of}
use Rattle.ds_cell.specs.Ask.{Cells}

-- the key is one of these
abbrev pub has_key : List ℕ → List (List ℕ) → Bool
has_key k ks = list_any (λ q. key_eq q k) ks

abbrev pub IsNoted : List (List ℕ) → List ℕ → Option Written → Type 0
IsNoted ks k None = Unit {0}
IsNoted ks k (Some w) = has_key k ks ≡ true

-- each key with writes is one of these
abbrev pub Covers : List (List ℕ) → Cells → Type 0
Covers ks [] = Unit {0}
Covers ks (p ∷ ps) = IsNoted ks p.0 (last_of p.1.history) × Covers ks ps

-- the same, where such keys are known
abbrev pub CoversIf : Option (List (List ℕ)) → Cells → Type 0
CoversIf None cells = Unit {0}
CoversIf (Some ks) cells = Covers ks cells

-- the transaction's intent at the key settled, if the key is there
abbrev pub settled_one : ℕ → Option Stamp → List ℕ → Cells → Cells
settled_one txn commit k cells = map (λ p. (p.0, if key_eq k p.0 then settled txn commit p.1 else p.1)) cells

-- the transaction's intents at these keys settled
abbrev pub settled_among : ℕ → Option Stamp → List (List ℕ) → Cells → Cells
settled_among txn commit ks cells = map (λ p. (p.0, if has_key p.0 ks then settled txn commit p.1 else p.1)) cells

abbrev written : Cells
written = (97 ∷ [], record no_content { history = record { seq = record { 0 = 1 }; value = None } ∷ [] }) ∷ (98 ∷ [], no_content) ∷ []

the_written_key_is_enough : Covers ((97 ∷ []) ∷ []) written
the_written_key_is_enough = (refl, (tt, tt))

another_key_is_not : Covers ((98 ∷ []) ∷ []) written → ⊥
another_key_is_not h = let no : false ≡ true = h.0 in cc
