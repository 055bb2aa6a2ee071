-- The table of the kinds, and what holds of every such table.
use Rattle.std.specs.Prelude.{◌≡◌, ℕ, Bool, true, false, List, [], ◌∷◌, map, get_or, Some, slice_get, refl}
use Rattle.ds_kind.specs.Flags.{fit, flags_of}
use Rattle.ds_kind.specs.declared.flags.Flags.{Flags}
use Rattle.ds_kind.specs.declared.name.KindName.{KindName}
use Rattle.ds_kind.specs.declared.name.KindName.TheVariants.{Get, Scan, ReverseScan, Put, ConditionalPut, InitPut, Increment, Delete, DeleteRange, EndTxn, QueryIntent, ResolveIntent, ResolveIntentRange, AdminSplit, AdminTransferLease}

-- the kinds in the order of their table
abbrev pub all_kinds : List KindName
all_kinds = Get ∷ Scan ∷ ReverseScan ∷ Put ∷ ConditionalPut ∷ InitPut ∷ Increment ∷ Delete ∷ DeleteRange ∷ EndTxn ∷ QueryIntent ∷ ResolveIntent ∷ ResolveIntentRange ∷ AdminSplit ∷ AdminTransferLease ∷ []

-- which of these fit which, row by row
abbrev pub fits_of : List Flags → List (List Bool)
fits_of flags = map (λ a. map (fit a) flags) flags

-- the answer in row i and column j, false outside the table
abbrev pub fit_at : List (List Bool) → ℕ → ℕ → Bool
fit_at fits i j = get_or (get_or fits i []) j false

-- the order of two kinds does not matter
abbrev pub IsSymmetric : List (List Bool) → Type 0
IsSymmetric fits = (i j : ℕ) → fit_at fits i j ≡ fit_at fits j i

-- a kind that stands alone fits nothing
abbrev pub AloneFitsNothing : List Flags → List (List Bool) → Type 0
AloneFitsNothing flags fits = (i j : ℕ) (a : Flags) → slice_get flags i ≡ Some a → a.alone ≡ true → fit_at fits i j ≡ false

-- a get (0) fits a scan (1) and no put (3); an end (9) fits nothing
get_fits_scan : fit_at (fits_of (map flags_of all_kinds)) 0 1 ≡ true
get_fits_scan = refl

get_fits_no_put : fit_at (fits_of (map flags_of all_kinds)) 0 3 ≡ false
get_fits_no_put = refl

end_fits_no_end : fit_at (fits_of (map flags_of all_kinds)) 9 9 ≡ false
end_fits_no_end = refl

no_row_past_the_end : fit_at (fits_of (map flags_of all_kinds)) 15 0 ≡ false
no_row_past_the_end = refl
