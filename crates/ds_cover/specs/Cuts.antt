-- Items cut to a span, what is left of them beyond it, and the key at which they are sought.
use Rattle.std.specs.Prelude.{◌≡◌, ℕ, List, [], ◌∷◌, if◌then◌else◌, refl, true, Option, Some, None}
use Rattle.std.specs.List.{flat_map}
use Rattle.ds_base.specs.Order.{Extent, key_lt, key_le, max_key, min_key}
use Rattle.ds_base.specs.declared.value.Dir.{Dir}
use Rattle.ds_base.specs.declared.value.Dir.TheVariants.{Forward, Reverse}
use Rattle.ds_kind.specs.Request.{cut_to, span_of}
use Rattle.ds_kind.specs.declared.batch.Item.{Item}
use Rattle.ds_kind.specs.declared.request.Request.TheVariants.{Get, Scan}
use Rattle.ds_cover.specs.Clips.{clip}

-- the item on a part of its span, if anything is left of it
abbrev pub cut_item : (Extent → Extent) → Item → List Item
cut_item f i =
    if key_lt (f (span_of i.request)).start (f (span_of i.request)).end
    then record i { request = cut_to (f (span_of i.request)).start (f (span_of i.request)).end i.request } ∷ []
    else []

abbrev pub cut_by : (Extent → Extent) → List Item → List Item
cut_by f items = flat_map (cut_item f) items

-- the part of a span that lies in another
abbrev pub within : Extent → Extent → Extent
within span x = clip (Some span.start) (Some span.end) x

-- the part of a span from a key on, and up to a key
abbrev pub from : List ℕ → Extent → Extent
from m x = clip (Some m) None x

abbrev pub up_to : List ℕ → Extent → Extent
up_to m x = clip None (Some m) x

-- the items cut to the span
abbrev pub cut_items : Extent → List Item → List Item
cut_items span items = cut_by (within span) items

-- what is left of them on the far side: after the span going forward, before it in reverse
abbrev pub rest_items : Dir → Extent → List Item → List Item
rest_items Forward span items = cut_by (from span.end) items
rest_items Reverse span items = cut_by (up_to span.start) items

-- no item reaches out of the span on the near side
abbrev pub AllNear : Dir → Extent → List Item → Type 0
AllNear d span [] = Unit {0}
AllNear Forward span (i ∷ is) = (key_le span.start (span_of i.request).start ≡ true) × AllNear Forward span is
AllNear Reverse span (i ∷ is) = (key_le (span_of i.request).end span.end ≡ true) × AllNear Reverse span is

abbrev pub seek_from : Dir → List ℕ → List Item → List ℕ
seek_from d k [] = k
seek_from Forward k (i ∷ is) = seek_from Forward (min_key k (span_of i.request).start) is
seek_from Reverse k (i ∷ is) = seek_from Reverse (max_key k (span_of i.request).end) is

-- where the items are sought: the least start going forward, the greatest end in reverse; none without an item
abbrev pub seek_key : Dir → List Item → Option (List ℕ)
seek_key d [] = None
seek_key Forward (i ∷ is) = Some (seek_from Forward (span_of i.request).start is)
seek_key Reverse (i ∷ is) = Some (seek_from Reverse (span_of i.request).end is)

-- examples: a scan of [b, d), cut at [a, c); a get of b; and both

abbrev scan_from : List ℕ → List ℕ → Item
scan_from s e = record { pos = 0; seq = record { 0 = 0 }; request = Scan (record { start = s; end = e }) }

abbrev get_of : List ℕ → Item
get_of k = record { pos = 1; seq = record { 0 = 0 }; request = Get (record { key = k }) }

abbrev from_a_to_c : Extent
from_a_to_c = record { start = 97 ∷ []; end = 99 ∷ [] }

a_scan_cut : cut_items from_a_to_c (scan_from (98 ∷ []) (100 ∷ []) ∷ []) ≡ scan_from (98 ∷ []) (99 ∷ []) ∷ []
a_scan_cut = refl

its_rest : rest_items Forward from_a_to_c (scan_from (98 ∷ []) (100 ∷ []) ∷ []) ≡ scan_from (99 ∷ []) (100 ∷ []) ∷ []
its_rest = refl

no_rest_in_reverse : rest_items Reverse from_a_to_c (scan_from (98 ∷ []) (99 ∷ []) ∷ []) ≡ []
no_rest_in_reverse = refl

-- a point is cut whole, and leaves no rest; the span does not hold its own end
a_get_cut : cut_items from_a_to_c (get_of (98 ∷ []) ∷ []) ≡ get_of (98 ∷ []) ∷ []
a_get_cut = refl

no_rest_of_a_get : rest_items Forward from_a_to_c (get_of (98 ∷ []) ∷ []) ≡ []
no_rest_of_a_get = refl

not_the_end : cut_items from_a_to_c (get_of (99 ∷ []) ∷ []) ≡ []
not_the_end = refl

sought_forward : seek_key Forward (scan_from (98 ∷ []) (100 ∷ []) ∷ get_of (97 ∷ []) ∷ []) ≡ Some (97 ∷ [])
sought_forward = refl

sought_in_reverse : seek_key Reverse (get_of (97 ∷ []) ∷ get_of (99 ∷ []) ∷ []) ≡ Some (99 ∷ 0 ∷ [])
sought_in_reverse = refl

never_sought : seek_key Reverse [] ≡ None
never_sought = refl
