-- What is kept for each request of a part, and the room that it has.
use Rattle.std.specs.Prelude.{◌≡◌, ℕ, ◌+◌, ◌≤◌, ◌<◌, ◌==◌, List, [], ◌∷◌, ◌++◌, map, length, if◌then◌else◌, Option, Some, None, nat_lt, get_or, false}
use Rattle.std.specs.List.{prefix_len}
use Rattle.ds_kind.specs.Bodies.{those_at}
use Rattle.ds_kind.specs.declared.batch.Item.{Item}
use Rattle.ds_kind.specs.declared.reply.Reply.{Reply}
use Rattle.ds_cover.specs.Items.{NumbersRise}
use Rattle.ds_gather.specs.Roomy.{Roomy}
use Rattle.ds_gather.specs.Gathered.{wanted, pos_of, rows_in, keys_in, all_rows, all_keys, in_direction, joined, resume_at}
use Rattle.ds_gather.specs.declared.arrival.Arrival.{Arrival}
use Rattle.ds_gather.specs.declared.arrival.Wanted.{Wanted}
use Rattle.ds_gather.specs.declared.place.Place.{Place}

abbrev pub wanted_in : List Place → List Wanted
wanted_in ps = map (λ p. p.wanted) ps

abbrev pub wanted_pos : Wanted → ℕ
wanted_pos w = w.pos

-- each position is below the later ones
abbrev pub Rises : List Wanted → Type 0
Rises ws = NumbersRise wanted_pos ws

abbrev pub EachPlace : (Place → Type 0) → List Place → Type 0
EachPlace P [] = Unit {0}
EachPlace P (p ∷ ps) = P p × EachPlace P ps

-- there is room for what came so far and for these
pub record HasRoom (more : List Arrival) (p : Place) : Type 0 where
  pub runs : length p.runs.items + length (those_at pos_of p.wanted.pos more) ≤ p.runs.size
  pub rows : length (all_rows p.runs.items) + length (all_rows (those_at pos_of p.wanted.pos more)) ≤ p.rows.size
  pub keys : length (all_keys p.runs.items) + length (all_keys (those_at pos_of p.wanted.pos more)) ≤ p.keys.size
  pub no_rows : p.rows.items ≡ []
  pub no_keys : p.keys.items ≡ []

abbrev pub IsFresh : Place → Type 0
IsFresh p = p.runs.items ≡ []

-- the places before any arrival is put there
pub record IsReady (got : List Arrival) (ps : List Place) : Type 0 where
  pub rise : Rises (wanted_in ps)
  pub room : EachPlace (HasRoom got) ps
  pub fresh : EachPlace IsFresh ps

abbrev pub no_room : {X : Type 0} → Roomy X
no_room = record { items = []; size = 0 }

abbrev pub place_for : Item → Place
place_for i = record { wanted = wanted i; runs = no_room; rows = no_room; keys = no_room }

-- changed where the position is this one
abbrev pub change_at : ℕ → (Place → Place) → Place → Place
change_at n f p = if p.wanted.pos == n then f p else p

abbrev pub more_room : {X : Type 0} → ℕ → Roomy X → Roomy X
more_room n r = record { items = r.items; size = r.size + n }

-- with room for one more answer
abbrev pub grown : Reply → Place → Place
grown r p = record { wanted = p.wanted; runs = more_room 1 p.runs; rows = more_room (length (rows_in r.body)) p.rows; keys = more_room (length (keys_in r.body)) p.keys }

-- with what came put at the end
abbrev pub handed : Arrival → Place → Place
handed a p = record { wanted = p.wanted; runs = record { items = p.runs.items ++ a ∷ []; size = p.runs.size }; rows = p.rows; keys = p.keys }

-- with all of these that came for it put there, one after another
abbrev pub filled : List Arrival → Place → Place
filled got p = record { wanted = p.wanted; runs = record { items = p.runs.items ++ those_at pos_of p.wanted.pos got; size = p.runs.size }; rows = p.rows; keys = p.keys }

abbrev pub reply_from : Place → Reply
reply_from p = record { body = joined p.wanted.empty (in_direction p.wanted.down p.runs.items); resume = resume_at (in_direction p.wanted.down p.runs.items) }

-- the place with this index is the one at the position
pub record Found (n : ℕ) (ps : List Place) (i : ℕ) : Type 0 where
  pub rise : Rises (wanted_in ps)
  pub at : i ≡ prefix_len (λ p. nat_lt p.wanted.pos n) ps
  pub low : i < length ps
  pub here : (d : Place) → (get_or ps i d).wanted.pos ≡ n

abbrev pub NoneAt : ℕ → List Place → Type 0
NoneAt n ps = EachPlace (λ p. (p.wanted.pos == n) ≡ false) ps

abbrev pub FoundIf : ℕ → List Place → Option ℕ → Type 0
FoundIf n ps (Some i) = Found n ps i
FoundIf n ps None = NoneAt n ps
