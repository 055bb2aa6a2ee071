-- Resume spans that lie in their items' spans, and what is left of each item's span.
use Rattle.std.specs.Prelude.{ℕ, Bool, true, false, ◌&&◌, List, [], ◌∷◌, Option, Some, None}
use Rattle.ds_base.specs.Order.{Extent, key_le}
use Rattle.ds_base.specs.declared.value.Dir.{Dir}
use Rattle.ds_kind.specs.Filled.{resumed_at}
use Rattle.ds_kind.specs.Request.{span_of}
use Rattle.ds_kind.specs.declared.batch.Item.{Item}
use Rattle.ds_kind.specs.declared.reply.Reply.{Reply}

-- a resume span lies in the item's span
abbrev pub is_inside : Extent → Option Extent → Bool
is_inside s None = true
is_inside s (Some r) = key_le s.start r.start && key_le r.end s.end

-- there is one reply for each item, and its resume span lies in the item's span
abbrev pub are_inside : List Item → List Reply → Bool
are_inside [] [] = true
are_inside [] (r ∷ rs) = false
are_inside (i ∷ is) [] = false
are_inside (i ∷ is) (r ∷ rs) = is_inside (span_of i.request) r.resume && are_inside is rs

-- the replies filled in two steps: what is left of each item's span, and the replies with it

abbrev pub rests : Dir → Option (List ℕ) → List Item → List Reply → List (Option Extent)
rests d seek [] rs = []
rests d seek (i ∷ is) [] = []
rests d seek (i ∷ is) (r ∷ rs) = resumed_at d seek i r ∷ rests d seek is rs

abbrev pub with_rests : List Reply → List (Option Extent) → List Reply
with_rests [] xs = []
with_rests (r ∷ rs) [] = r ∷ rs
with_rests (r ∷ rs) (x ∷ xs) = record { body = r.body; resume = x } ∷ with_rests rs xs
