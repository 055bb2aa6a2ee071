-- Worked examples of what a used up limit leaves, some that hold and some that must not.
use Rattle.std.proofs.Common.{◌≡◌, ◌==◌, ℕ, Bool, true, false, ap, length, List, [], ◌∷◌, Option, Some, None, refl, pos}
use Rattle.ds_base.specs.Order.{Extent}
use Rattle.ds_base.specs.declared.value.Dir.TheVariants.{Forward, Reverse}
use Rattle.ds_base.specs.declared.value.Value.TheVariants.{Int}
use Rattle.ds_kind.specs.declared.batch.Item.{Item}
use Rattle.ds_kind.specs.declared.reply.Body.{Body}
use Rattle.ds_kind.specs.declared.reply.Body.TheVariants as Said
use Rattle.ds_kind.specs.declared.reply.Reply.{Reply}
use Rattle.ds_kind.specs.declared.request.Request.{Request}
use Rattle.ds_kind.specs.declared.request.Request.TheVariants.{Get, Scan, ReverseScan}
use Rattle.ds_kind.specs.Filled.{filled, resumed}
use Rattle.ds_limit.specs.Rests.{are_inside}

abbrev span : ℕ → ℕ → Extent
span s e = record { start = s ∷ []; end = e ∷ [] }

abbrev item : ℕ → Request → Item
item n r = record { pos = n; seq = record { 0 = 0 }; request = r }

abbrev scan : ℕ → ℕ → Request
scan s e = Scan (record { start = s ∷ []; end = e ∷ [] })

abbrev scan_back : ℕ → ℕ → Request
scan_back s e = ReverseScan (record { start = s ∷ []; end = e ∷ [] })

abbrev rows_at : ℕ → ℕ → Body
rows_at k h = Said.Rows (record { key = k ∷ []; value = Int (pos 1) } ∷ record { key = h ∷ []; value = Int (pos 2) } ∷ [])

abbrev reply : Body → Option Extent → Reply
reply body rest = record { body = body; resume = rest }

-- ranges that meet after f: a scan from a to z had its two rows, b and f, of the first one, which
-- left nothing there; the rest begins after f
abbrev after_f : List ℕ
after_f = 102 ∷ 0 ∷ []

the_rest_after_the_range : filled Forward (Some after_f) (item 0 (scan 97 122) ∷ []) (reply (rows_at 98 102) None ∷ [])
    ≡ reply (rows_at 98 102) (Some (record { start = after_f; end = 122 ∷ [] })) ∷ []
the_rest_after_the_range = refl

-- it doesn't begin at the last row, whose key is one byte long
abbrev starts_short : Option Extent → Bool
starts_short None = false
starts_short (Some r) = length r.start == 1

not_at_the_last_row : resumed Forward (span 97 122) None (Some after_f) ≡ Some (span 102 122) → ⊥
not_at_the_last_row h = let same : false ≡ true = ap starts_short h in cc

-- a scan from m to z in a range that wasn't reached, and one from a to c that stopped after b
abbrev after_b : Option Extent
after_b = Some (record { start = 98 ∷ 0 ∷ []; end = 99 ∷ [] })

one_whole_and_one_that_stopped : filled Forward (Some (109 ∷ [])) (item 0 (scan 109 122) ∷ item 1 (scan 97 99) ∷ []) (reply (Said.Rows []) None ∷ reply (rows_at 97 98) after_b ∷ [])
    ≡ reply (Said.Rows []) (Some (span 109 122)) ∷ reply (rows_at 97 98) after_b ∷ []
one_whole_and_one_that_stopped = refl

-- a get that wasn't reached
a_get_is_left_whole : filled Forward (Some (109 ∷ [])) (item 0 (scan 97 99) ∷ item 1 (Get (record { key = 109 ∷ [] })) ∷ []) (reply (rows_at 97 98) after_b ∷ reply (Said.Got None) None ∷ [])
    ≡ reply (rows_at 97 98) after_b ∷ reply (Said.Got None) (Some (record { start = 109 ∷ []; end = 109 ∷ 0 ∷ [] })) ∷ []
a_get_is_left_whole = refl

-- a reverse scan from z down to a that stopped at h, in a range that begins at g
back_down_to_h : filled Reverse (Some (103 ∷ [])) (item 0 (scan_back 97 122) ∷ []) (reply (rows_at 109 104) (Some (span 103 104)) ∷ [])
    ≡ reply (rows_at 109 104) (Some (span 97 104)) ∷ []
back_down_to_h = refl

-- all of a scan before the seek key was read, and all of a reverse scan above it
a_scan_before_the_rest_is_done : resumed Forward (span 97 99) None (Some (109 ∷ [])) ≡ None
a_scan_before_the_rest_is_done = refl

a_scan_above_the_rest_is_done : resumed Reverse (span 109 122) None (Some (103 ∷ [])) ≡ None
a_scan_above_the_rest_is_done = refl

nothing_is_left_without_a_rest : resumed Forward (span 97 122) None None ≡ None
nothing_is_left_without_a_rest = refl

-- a resume span outside its item's, and an item without a reply
outside_its_item : are_inside (item 0 (scan 97 99) ∷ []) (reply (Said.Rows []) (Some (span 98 100)) ∷ []) ≡ false
outside_its_item = refl

an_item_without_a_reply : are_inside (item 0 (scan 97 99) ∷ []) [] ≡ false
an_item_without_a_reply = refl
