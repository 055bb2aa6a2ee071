-- How much is left to do of some items, in numbers of keys.
use Rattle.std.specs.Prelude.{◌≡◌, ℕ, ◌+◌, ◌-◌, List, [], ◌∷◌, true}
use Rattle.ds_base.specs.Number.{key_number}
use Rattle.ds_base.specs.Order.{Extent, IsKey, key_lt}
use Rattle.ds_kind.specs.Reach.{Reach, At, Over}
use Rattle.ds_kind.specs.Request.{span_of}
use Rattle.ds_kind.specs.declared.batch.Item.{Item}

abbrev pub span_left : Extent → ℕ
span_left x = key_number x.end - key_number x.start

abbrev pub left_in : List Item → ℕ
left_in [] = 0
left_in (i ∷ is) = span_left (span_of i.request) + left_in is

-- a point's key, or a range's start and end
abbrev pub AreKeys : Reach → Type 0
AreKeys (At k) = IsKey k
AreKeys (Over s e) = IsKey s × IsKey e

-- a span of keys, and not empty
pub record IsSpan (x : Extent) : Type 0 where
  pub start : IsKey x.start
  pub end : IsKey x.end
  pub some : key_lt x.start x.end ≡ true

abbrev pub AllSpans : List Item → Type 0
AllSpans [] = Unit {0}
AllSpans (i ∷ is) = IsSpan (span_of i.request) × AllSpans is
