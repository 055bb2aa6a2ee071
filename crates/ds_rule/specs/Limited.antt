-- A request of which a limit lets only so much be taken.
use Rattle.std.specs.Prelude.{ℕ, zero, suc, Bool, true, false, List, [], ◌∷◌, map, filter, reverse, Option, Some, None, if◌then◌else◌}
use Rattle.std.specs.List.{slice_get}
use Rattle.ds_base.specs.Order.{Extent, after, key_lt}
use Rattle.ds_kind.specs.Bodies.{empty_body, goes_down}
use Rattle.ds_kind.specs.Request.{cut_to, reach_of, span_of}
use Rattle.ds_kind.specs.declared.batch.Head.{Head}
use Rattle.ds_kind.specs.declared.batch.Item.{Item}
use Rattle.ds_kind.specs.declared.reply.Reply.{Reply}
use Rattle.ds_kind.specs.declared.request.Request.{Request}
use Rattle.ds_cell.specs.declared.entry.At.{At}
use Rattle.ds_cell.specs.declared.verdict.Bit.{Bit}
use Rattle.ds_cell.specs.declared.verdict.Bit.TheVariants.{Nothing, Value as Shown, Gone, Hit}
use Rattle.ds_cell.specs.declared.verdict.Verdict.{Verdict}
use Rattle.ds_cell.specs.declared.verdict.Verdict.TheVariants.{Keep, Put, Refuse}
use Rattle.ds_cell.specs.Ask.{Cells, key_of, places}
use Rattle.ds_cell.specs.Requests.{deed_of}
use Rattle.ds_rule.specs.Asking.{Made, Gives, Fails, ask_item, at_of}

-- a row, or a key that was deleted before
abbrev pub takes_bit : Bit → Bool
takes_bit Nothing = false
takes_bit (Shown None) = false
takes_bit (Shown (Some v)) = true
takes_bit Gone = true
takes_bit Hit = false

abbrev pub is_gone : Bit → Bool
is_gone Nothing = false
is_gone (Shown v) = false
is_gone Gone = true
is_gone Hit = false

-- the request takes one of the limit at this key: a row, a key that it deletes or deleted before, or one at which it fails
abbrev pub takes : Verdict → Bool
takes (Keep b) = takes_bit b
takes (Put w b) = is_gone b
takes (Refuse f) = true

-- the keys at which it takes one, from the highest down where it goes down
abbrev pub in_turn : {X : Type 0} → Bool → List X → List X
in_turn false xs = xs
in_turn true xs = reverse xs

abbrev pub taken_keys : Request → At → Cells → List (List ℕ)
taken_keys r at cells = in_turn (goes_down r) (map key_of (filter (λ p. takes (deed_of r at p.1)) (places (reach_of r) cells)))

-- the key at which a limit of one more than n is used up, if there are so many
abbrev pub last_taken : ℕ → List (List ℕ) → Option (List ℕ)
last_taken n keys = slice_get keys n

-- the part of a span up to and with a key, in the direction
abbrev pub part_to : Bool → Extent → List ℕ → Extent
part_to false e k = record { start = e.start; end = after k }
part_to true e k = record { start = k; end = e.end }

-- and what is left of the span after it; an empty rest is none
abbrev pub rest_after : Bool → Extent → List ℕ → Option Extent
rest_after false e k = if key_lt (after k) e.end then Some (record { start = after k; end = e.end }) else None
rest_after true e k = if key_lt e.start k then Some (record { start = e.start; end = k }) else None

abbrev pub item_in : Extent → Item → Item
item_in e i = record i { request = cut_to e.start e.end i.request }

abbrev pub resuming : Option Extent → Reply → Reply
resuming rest r = record r { resume = rest }

-- the replies with what is left of the span
abbrev pub with_rest : Option Extent → Made → Made
with_rest rest (Fails f) = Fails f
with_rest rest (Gives cells ws rs) = Gives cells ws (map (resuming rest) rs)

-- a request of which nothing may be taken
abbrev pub held_off : Item → Cells → Made
held_off i cells = Gives cells [] (record { body = empty_body i.request; resume = Some (span_of i.request) } ∷ [])

-- up to the key at which the limit is used up, if it is
abbrev pub ask_up_to : Head → Option (List ℕ) → Item → Cells → Made
ask_up_to h None i cells = ask_item h i cells
ask_up_to h (Some k) i cells =
    with_rest (rest_after (goes_down i.request) (span_of i.request) k) (ask_item h (item_in (part_to (goes_down i.request) (span_of i.request) k) i) cells)

-- one request with so much left of the limit; without a limit as ever
abbrev pub ask_left : Head → Option ℕ → Item → Cells → Made
ask_left h None i cells = ask_item h i cells
ask_left h (Some zero) i cells = held_off i cells
ask_left h (Some (suc n)) i cells = ask_up_to h (last_taken n (taken_keys i.request (at_of h i.seq.0) cells)) i cells
