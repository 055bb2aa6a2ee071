-- Which kinds fit one another.
use Rattle.std.proofs.Common.{◌≡◌, Bool, true, false, not, ◌&&◌, refl, ap, ◌∙◌, sym, ℕ, zero, suc, List, [], ◌∷◌, map, get_or, Option, Some, None, slice_get}
use Rattle.ds_kind.specs.Flags.{fit, same}
use Rattle.ds_kind.specs.Table.{fit_at, fits_of, IsSymmetric, AloneFitsNothing}
use Rattle.ds_kind.specs.declared.flags.Flags.{Flags}

-- an alone kind fits nothing
pub alone_fits_nothing : (a b : Flags) → a.alone ≡ true → fit a b ≡ false
alone_fits_nothing a b h = rw h refl

and_comm : (p q : Bool) → (p && q) ≡ (q && p)
and_comm true true = refl
and_comm true false = refl
and_comm false true = refl
and_comm false false = refl

same_comm : (p q : Bool) → same p q ≡ same q p
same_comm true true = refl
same_comm true false = refl
same_comm false true = refl
same_comm false false = refl

-- the order of the two does not matter
pub fit_symmetric : (a b : Flags) → fit a b ≡ fit b a
fit_symmetric a b =
    rw (
      and_comm (not a.alone) (not b.alone),
      same_comm a.write b.write,
      same_comm a.reverse b.reverse,
      and_comm a.range b.range,
    )

-- the row of an alone kind has no true
pub alone_row : (a : Flags) (xs : List Flags) (j : ℕ) → a.alone ≡ true → get_or (map (fit a) xs) j false ≡ false
alone_row a [] j h = refl
alone_row a (x ∷ xs) zero h = alone_fits_nothing a x h
alone_row a (x ∷ xs) (suc j) h = alone_row a xs j h

-- the row at a place
pub row_at : (f : Flags → List Bool) (xs : List Flags) (i : ℕ) (a : Flags) → slice_get xs i ≡ Some a → get_or (map f xs) i [] ≡ f a
row_at f [] i a h = cc
row_at f (x ∷ xs) zero a h = let e : x ≡ a = cc in ap f e
row_at f (x ∷ xs) (suc i) a h = row_at f xs i a h

-- two flags, if both are there
abbrev both : Option Flags → Option Flags → Bool
both None o = false
both (Some a) None = false
both (Some a) (Some b) = fit a b

both_ways : (o p : Option Flags) → both o p ≡ both p o
both_ways None None = refl
both_ways None (Some b) = refl
both_ways (Some a) None = refl
both_ways (Some a) (Some b) = fit_symmetric a b

both_alone : (a : Flags) (o : Option Flags) → a.alone ≡ true → both (Some a) o ≡ false
both_alone a None h = refl
both_alone a (Some b) h = alone_fits_nothing a b h

row_entry : (a : Flags) (ys : List Flags) (j : ℕ) → get_or (map (fit a) ys) j false ≡ both (Some a) (slice_get ys j)
row_entry a [] j = refl
row_entry a (y ∷ ys) zero = refl
row_entry a (y ∷ ys) (suc j) = row_entry a ys j

-- the entry in row i and column j
table_entry : (xs ys : List Flags) (i j : ℕ) → fit_at (map (λ a. map (fit a) ys) xs) i j ≡ both (slice_get xs i) (slice_get ys j)
table_entry [] ys i j = refl
table_entry (x ∷ xs) ys zero j = row_entry x ys j
table_entry (x ∷ xs) ys (suc i) j = table_entry xs ys i j

pub table_symmetric : (flags : List Flags) → IsSymmetric (fits_of flags)
table_symmetric flags i j =
    table_entry flags flags i j ∙ both_ways (slice_get flags i) (slice_get flags j) ∙ sym (table_entry flags flags j i)

pub table_alone : (flags : List Flags) → AloneFitsNothing flags (fits_of flags)
table_alone flags i j a e h =
    table_entry flags flags i j ∙ ap (λ o. both o (slice_get flags j)) e ∙ both_alone a (slice_get flags j) h
