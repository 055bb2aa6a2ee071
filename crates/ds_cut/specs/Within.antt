-- Items that don't reach past a span on the far side.
use Rattle.std.specs.Prelude.{◌≡◌, Bool, true, false, List, [], ◌∷◌, refl}
use Rattle.std.specs.List.{list_all}
use Rattle.ds_base.specs.Order.{Extent, key_le}
use Rattle.ds_base.specs.declared.value.Dir.{Dir}
use Rattle.ds_base.specs.declared.value.Dir.TheVariants.{Forward, Reverse}
use Rattle.ds_kind.specs.Request.{span_of}
use Rattle.ds_kind.specs.declared.batch.Item.{Item}
use Rattle.ds_cover.specs.Origins.{get_of, scan_then_get}

-- the second span ends in the first, going in this direction
abbrev pub stays_within : Dir → Extent → Extent → Bool
stays_within Forward span x = key_le x.end span.end
stays_within Reverse span x = key_le span.start x.start

abbrev pub none_past : Dir → Extent → List Item → Bool
none_past d span items = list_all (λ i. stays_within d span (span_of i.request)) items

-- a scan of [b, d) and a get of c, which end below d and start from b on

up_to_d : none_past Forward (record { start = 99 ∷ []; end = 100 ∷ [] }) scan_then_get ≡ true
up_to_d = refl

past_c : none_past Forward (record { start = 97 ∷ []; end = 99 ∷ [] }) scan_then_get ≡ false
past_c = refl

down_to_b : none_past Reverse (record { start = 98 ∷ []; end = 99 ∷ [] }) scan_then_get ≡ true
down_to_b = refl

-- a span does not hold its own end
not_the_end : none_past Forward (record { start = 97 ∷ []; end = 99 ∷ [] }) (get_of 5 (99 ∷ []) ∷ []) ≡ false
not_the_end = refl
