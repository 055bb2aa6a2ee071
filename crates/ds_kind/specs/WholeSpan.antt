-- The least span that holds the spans of all requests of a batch.
use Rattle.std.specs.Prelude.{◌≡◌, true, false, List, [], ◌∷◌, refl}
use Rattle.ds_base.specs.Order.{Extent, holds, max_key, min_key}
use Rattle.ds_kind.specs.Request.{span_of}
use Rattle.ds_kind.specs.declared.batch.Item.{Item}
use Rattle.ds_kind.specs.declared.request.Request.TheVariants.{Get, Scan}

-- a span, widened to hold those of these requests
abbrev pub widened : Extent → List Item → Extent
widened s [] = s
widened s (i ∷ is) = widened (record { start = min_key s.start (span_of i.request).start; end = max_key s.end (span_of i.request).end }) is

-- the least span that holds the spans of all requests
abbrev pub whole_span : List Item → Extent
whole_span [] = record { start = []; end = [] }
whole_span (i ∷ is) = widened (span_of i.request) is

-- a get of b beside a scan of [a, c) spans [a, c)
the_wider_span : whole_span (record { pos = 0; seq = record { 0 = 0 }; request = Get (record { key = 98 ∷ [] }) } ∷ record { pos = 1; seq = record { 0 = 0 }; request = Scan (record { start = 97 ∷ []; end = 99 ∷ [] }) } ∷ []) ≡ record { start = 97 ∷ []; end = 99 ∷ [] }
the_wider_span = refl

-- gets of b and d span the key c between them, which neither holds, and no key before b
abbrev two_gets : Extent
two_gets = whole_span (record { pos = 0; seq = record { 0 = 0 }; request = Get (record { key = 100 ∷ [] }) } ∷ record { pos = 1; seq = record { 0 = 0 }; request = Get (record { key = 98 ∷ [] }) } ∷ [])

a_gap_is_held : holds two_gets.start two_gets.end (99 ∷ []) ≡ true
a_gap_is_held = refl

nothing_before_the_first : holds two_gets.start two_gets.end (97 ∷ []) ≡ false
nothing_before_the_first = refl
