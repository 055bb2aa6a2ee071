-- What gathering must not give, and cases of what its laws ask.
use Rattle.std.proofs.Common.{◌≡◌, ℕ, ◌≤◌, ◌==◌, cond, arith, Bool, true, false, List, [], ◌∷◌, ◌++◌, Option, Some, None, pos, refl}
use Rattle.ds_base.specs.Order.{Extent}
use Rattle.ds_base.specs.declared.value.Value.TheVariants.{Int}
use Rattle.ds_base.proofs.TestFacts.{differs}
use Rattle.ds_kind.specs.declared.reply.Reply.{Reply}
use Rattle.ds_kind.specs.declared.reply.Row.{Row}
use Rattle.ds_kind.specs.declared.reply.Body.TheVariants.{Rows, Gone}
use Rattle.ds_cover.specs.Chains.{KeysDiffer}
use Rattle.ds_cover.proofs.InOrder.{ascend-differ}
use Rattle.ds_gather.specs.Gathered.{start_of, gathered, rows_in}
use Rattle.ds_gather.specs.Laws.{row_key, StartsDiffer, AllOfKind, InDirection, EachLies}
use Rattle.ds_gather.specs.declared.arrival.Arrival.{Arrival}
use Rattle.ds_gather.specs.declared.arrival.Wanted.{Wanted}

abbrev row_of : ℕ → List Row
row_of k = record { key = k ∷ []; value = Int (pos 1) } ∷ []

abbrev came : ℕ → Arrival
came k = record { pos = 0; start = k ∷ []; reply = record { body = Rows (row_of k); resume = None } }

abbrev rising : Wanted
rising = record { pos = 0; down = false; empty = Rows [] }

abbrev begins : ℕ → List Row → Bool
begins k [] = false
begins k (r ∷ rs) = head r.key
  where
    head : List ℕ → Bool
    head [] = false
    head (n ∷ ns) = n == k

abbrev first_begins : ℕ → List Reply → Bool
first_begins k [] = false
first_begins k (r ∷ rs) = begins k (rows_in r.body)

-- rows are not in the order in which they came
not_as_they_came : gathered (rising ∷ []) (came 98 ∷ came 97 ∷ []) ≡ record { body = Rows (row_of 98 ++ row_of 97); resume = None } ∷ [] → ⊥
not_as_they_came h = differs h (first_begins 97) refl refl

-- what came is not lost
not_nothing : gathered (rising ∷ []) (came 97 ∷ []) ≡ record { body = Rows []; resume = None } ∷ [] → ⊥
not_nothing h = differs h (first_begins 97) refl refl

-- starts that differ: of one answer, and not of two for one request at one key

one_start : StartsDiffer (came 97 ∷ [])
one_start n =
    elim (0 == n) as (λ t. KeysDiffer start_of (cond t (came 97 ∷ []) [])) [
      | true ↦ ascend-differ start_of (came 97 ∷ []) (tt, tt)
      | false ↦ ascend-differ start_of [] tt
    ]

not_one_key : StartsDiffer (came 97 ∷ came 97 ∷ []) → ⊥
not_one_key h = let low : 2 ≤ 1 = h 0 (97 ∷ []) in omega (arith, low)

-- bodies of one kind

all_rows_there : AllOfKind (Rows []) (came 97 ∷ came 98 ∷ [])
all_rows_there = (tt, (tt, tt))

not_deleted_keys : AllOfKind (Gone []) (came 97 ∷ []) → ⊥
not_deleted_keys h = h.0

-- rows that rise, and that fall

they_rise : InDirection false row_key (row_of 97 ++ row_of 98)
they_rise = ((refl, tt), (tt, tt))

they_fall : InDirection true row_key (row_of 98 ++ row_of 97)
they_fall = ((refl, tt), (tt, tt))

not_falling : InDirection false row_key (row_of 98 ++ row_of 97) → ⊥
not_falling h = let low : false ≡ true = h.0.0 in cc

not_rising : InDirection true row_key (row_of 97 ++ row_of 98) → ⊥
not_rising h = let low : false ≡ true = h.0.0 in cc

-- a row of a past the span that ends there
not_out_of_its_span : EachLies false row_key (λ a. rows_in a.reply.body) (λ a. 97 ∷ []) (came 97 ∷ []) → ⊥
not_out_of_its_span h = let low : false ≡ true = h.2.0 in cc

-- where an answer stopped without a row, its resume span is the reply's, whichever came first
abbrev from_99 : Option Extent
from_99 = Some (record { start = 99 ∷ []; end = 122 ∷ [] })

abbrev stopped : Arrival
stopped = record { pos = 0; start = 99 ∷ []; reply = record { body = Rows []; resume = from_99 } }

the_resume_span_that_came : gathered (rising ∷ []) (came 97 ∷ stopped ∷ []) ≡ record { body = Rows (row_of 97); resume = from_99 } ∷ []
the_resume_span_that_came = refl

though_it_came_first : gathered (rising ∷ []) (stopped ∷ came 97 ∷ []) ≡ record { body = Rows (row_of 97); resume = from_99 } ∷ []
though_it_came_first = refl

-- and it is not another position's
not_at_another_position : gathered (record { pos = 1; down = false; empty = Rows [] } ∷ []) (stopped ∷ []) ≡ record { body = Rows []; resume = None } ∷ []
not_at_another_position = refl
