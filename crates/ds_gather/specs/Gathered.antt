-- How what came for the requests of a part is made into replies.
use Rattle.std.specs.Prelude.{◌≡◌, ℕ, Bool, true, false, List, [], ◌∷◌, ◌++◌, map, reverse, if◌then◌else◌, Option, Some, None, refl, pos}
use Rattle.std.specs.Option.{option_or}
use Rattle.ds_base.specs.Order.{Extent}
use Rattle.ds_base.specs.declared.value.Value.TheVariants.{Int}
use Rattle.ds_kind.specs.Bodies.{in_order, those_at, goes_down, empty_body}
use Rattle.ds_kind.specs.Request.{span_of}
use Rattle.ds_kind.specs.declared.batch.Item.{Item}
use Rattle.ds_kind.specs.declared.reply.Reply.{Reply}
use Rattle.ds_kind.specs.declared.reply.Row.{Row}
use Rattle.ds_kind.specs.declared.reply.Body.{Body}
use Rattle.ds_kind.specs.declared.reply.Body.TheVariants.{Rows, Gone, Number}
use Rattle.ds_gather.specs.declared.arrival.Arrival.{Arrival}
use Rattle.ds_gather.specs.declared.arrival.Wanted.{Wanted}

-- the answer of one item
abbrev pub arrival : Item → Reply → Arrival
arrival i r = record { pos = i.pos; start = (span_of i.request).start; reply = r }

-- the answers of a piece, item by item
abbrev pub arrivals : List Item → List Reply → List Arrival
arrivals [] rs = []
arrivals (i ∷ is) [] = []
arrivals (i ∷ is) (r ∷ rs) = arrival i r ∷ arrivals is rs

abbrev pub wanted : Item → Wanted
wanted i = record { pos = i.pos; down = goes_down i.request; empty = empty_body i.request }

abbrev pub pos_of : Arrival → ℕ
pos_of a = a.pos

abbrev pub start_of : Arrival → List ℕ
start_of a = a.start

abbrev pub in_direction : Bool → List Arrival → List Arrival
in_direction down xs = if down then reverse xs else xs

-- what came for a request, in key order, or from the greatest key down where its kind goes down
abbrev pub arrived : Wanted → List Arrival → List Arrival
arrived w got = in_direction w.down (in_order start_of (those_at pos_of w.pos got))

abbrev pub rows_in : Body → List Row
rows_in (Rows rows) = rows
rows_in b = []

abbrev pub keys_in : Body → List (List ℕ)
keys_in (Gone keys) = keys
keys_in b = []

abbrev pub all_rows : List Arrival → List Row
all_rows [] = []
all_rows (a ∷ more) = rows_in a.reply.body ++ all_rows more

abbrev pub all_keys : List Arrival → List (List ℕ)
all_keys [] = []
all_keys (a ∷ more) = keys_in a.reply.body ++ all_keys more

-- what the first of them gives that gives something
abbrev pub first_some : {B : Type 0} → (Arrival → Option B) → List Arrival → Option B
first_some give [] = None
first_some give (a ∷ more) = option_or (give a) (first_some give more)

abbrev pub body_at : List Arrival → Option Body
body_at xs = first_some (λ a. Some a.reply.body) xs

abbrev pub resume_at : List Arrival → Option Extent
resume_at xs = first_some (λ a. a.reply.resume) xs

-- this where there is none
abbrev pub given : Body → Option Body → Body
given none None = none
given none (Some b) = b

-- one body of these, for a request that is answered so over no key
abbrev pub joined : Body → List Arrival → Body
joined (Rows none) xs = Rows (all_rows xs)
joined (Gone none) xs = Gone (all_keys xs)
joined none xs = given none (body_at xs)

abbrev pub reply_of : List Arrival → Wanted → Reply
reply_of got w = record { body = joined w.empty (arrived w got); resume = resume_at (arrived w got) }

-- one reply for each request
abbrev pub gathered : List Wanted → List Arrival → List Reply
gathered ws got = map (reply_of got) ws

abbrev row_of : ℕ → List Row
row_of k = record { key = k ∷ []; value = Int (pos 1) } ∷ []

abbrev came : ℕ → ℕ → Arrival
came n k = record { pos = n; start = k ∷ []; reply = record { body = Rows (row_of k); resume = None } }

-- rows are in key order, whichever came first
the_lower_rows_first : gathered (record { pos = 0; down = false; empty = Rows [] } ∷ []) (came 0 98 ∷ came 1 99 ∷ came 0 97 ∷ []) ≡ record { body = Rows (row_of 97 ++ row_of 98); resume = None } ∷ []
the_lower_rows_first = refl

-- and from the greatest key down for a kind that goes down
the_higher_rows_first : gathered (record { pos = 0; down = true; empty = Rows [] } ∷ []) (came 0 97 ∷ came 0 98 ∷ []) ≡ record { body = Rows (row_of 98 ++ row_of 97); resume = None } ∷ []
the_higher_rows_first = refl

-- where nothing came, the reply is the empty one
nothing_came : gathered (record { pos = 1; down = false; empty = Number (pos 0) } ∷ []) (came 0 97 ∷ []) ≡ record { body = Number (pos 0); resume = None } ∷ []
nothing_came = refl
