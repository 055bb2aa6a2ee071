-- Which ranges the items of a piece touch.
use Rattle.std.specs.Prelude.{ℕ, Bool, List}
use Rattle.std.specs.List.{list_any}
use Rattle.ds_base.specs.Order.{key_lt}
use Rattle.ds_kind.specs.Request.{span_of}
use Rattle.ds_kind.specs.declared.batch.Item.{Item}

-- some item begins below the key
abbrev pub begins_below : List Item → List ℕ → Bool
begins_below items k = list_any (λ i. key_lt (span_of i.request).start k) items

-- some item ends above the key
abbrev pub ends_above : List Item → List ℕ → Bool
ends_above items k = list_any (λ i. key_lt k (span_of i.request).end) items
