-- The resume spans that a used up limit leaves in the replies of a batch.
use Rattle.std.specs.Prelude.{ℕ, List, [], ◌∷◌, Option, Some, None, if◌then◌else◌}
use Rattle.ds_base.specs.Order.{Extent, key_lt, max_key, min_key}
use Rattle.ds_base.specs.declared.value.Dir.{Dir}
use Rattle.ds_base.specs.declared.value.Dir.TheVariants.{Forward, Reverse}
use Rattle.ds_kind.specs.Request.{span_of}
use Rattle.ds_kind.specs.declared.batch.Item.{Item}
use Rattle.ds_kind.specs.declared.reply.Reply.{Reply}

-- what is left of a span, of which a reply may have left a part, where the rest of all items
-- begins at the seek key: the far part from where the reply stopped, else what the seek key leaves
abbrev pub resumed : Dir → Extent → Option Extent → Option (List ℕ) → Option Extent
resumed Forward s (Some r) seek = Some (record { start = r.start; end = s.end })
resumed Forward s None (Some k) = if key_lt k s.end then Some (record { start = max_key s.start k; end = s.end }) else None
resumed Forward s None None = None
resumed Reverse s (Some r) seek = Some (record { start = s.start; end = r.end })
resumed Reverse s None (Some k) = if key_lt s.start k then Some (record { start = s.start; end = min_key s.end k }) else None
resumed Reverse s None None = None

abbrev pub resumed_at : Dir → Option (List ℕ) → Item → Reply → Option Extent
resumed_at d seek i r = resumed d (span_of i.request) r.resume seek

-- each reply with what is left of its item's span
abbrev pub filled : Dir → Option (List ℕ) → List Item → List Reply → List Reply
filled d seek [] rs = rs
filled d seek (i ∷ is) [] = []
filled d seek (i ∷ is) (r ∷ rs) = record { body = r.body; resume = resumed_at d seek i r } ∷ filled d seek is rs
