-- What becomes of each item where a range is cut off: what is cut off of it, and what is left.
use Rattle.std.specs.Prelude.{◌≡◌, ⊤, Bool, true, false, List, [], ◌∷◌, ◌++◌, Some, None, refl}
use Rattle.std.specs.Option.{option_to_list}
use Rattle.ds_base.specs.Order.{Extent, key_le}
use Rattle.ds_base.specs.declared.value.Dir.{Dir}
use Rattle.ds_base.specs.declared.value.Dir.TheVariants.{Forward, Reverse}
use Rattle.ds_kind.specs.declared.batch.Item.{Item}
use Rattle.ds_cover.specs.Cuts.{cut_item, within, from, up_to}
use Rattle.ds_cover.specs.Origins.{get_of}
use Rattle.ds_cut.specs.declared.fate.Fate.{Fate}
use Rattle.ds_cut.specs.declared.fate.Fate.TheVariants.{Cut, Left, Apart}

-- the part of a span on the far side of another
abbrev pub far : Dir → Extent → Extent → Extent
far Forward span x = from span.end x
far Reverse span x = up_to span.start x

-- the second span lies on the far side of the first
abbrev pub lies_past : Dir → Extent → Extent → Bool
lies_past Forward span x = key_le span.end x.start
lies_past Reverse span x = key_le x.end span.start

abbrev pub cut_of : Fate → Item → List Item
cut_of Cut i = i ∷ []
cut_of Left i = []
cut_of (Apart cut left) i = option_to_list cut

abbrev pub left_of : Fate → Item → List Item
left_of Cut i = []
left_of Left i = i ∷ []
left_of (Apart cut left) i = option_to_list left

-- it is what the range does to the item
abbrev pub IsFate : Dir → Extent → Item → Fate → Type 0
IsFate d span i f = (cut_of f i ≡ cut_item (within span) i) × (left_of f i ≡ cut_item (far d span) i)

-- they are the items' fates, one for each
abbrev pub AreFates : Dir → Extent → List Item → List Fate → Type 0
AreFates d span [] [] = ⊤
AreFates d span [] (f ∷ fs) = ⊥
AreFates d span (i ∷ is) [] = ⊥
AreFates d span (i ∷ is) (f ∷ fs) = IsFate d span i f × AreFates d span is fs

-- what is cut off of items with these fates, and what is left of them
abbrev pub all_cut : List Fate → List Item → List Item
all_cut [] is = []
all_cut (f ∷ fs) [] = []
all_cut (f ∷ fs) (i ∷ is) = cut_of f i ++ all_cut fs is

abbrev pub all_left : List Fate → List Item → List Item
all_left [] is = []
all_left (f ∷ fs) [] = []
all_left (f ∷ fs) (i ∷ is) = left_of f i ++ all_left fs is

-- the spans [c, d) and [d, e): the second lies past the first going forward, and not in reverse

past_c_to_d : lies_past Forward (record { start = 99 ∷ []; end = 100 ∷ [] }) (record { start = 100 ∷ []; end = 101 ∷ [] }) ≡ true
past_c_to_d = refl

not_in_reverse : lies_past Reverse (record { start = 99 ∷ []; end = 100 ∷ [] }) (record { start = 100 ∷ []; end = 101 ∷ [] }) ≡ false
not_in_reverse = refl

-- a get of c and a get of d, of which the first is cut off
one_of_each : all_cut (Cut ∷ Left ∷ []) (get_of 1 (99 ∷ []) ∷ get_of 2 (100 ∷ []) ∷ []) ≡ get_of 1 (99 ∷ []) ∷ []
one_of_each = refl

the_other_is_left : all_left (Cut ∷ Left ∷ []) (get_of 1 (99 ∷ []) ∷ get_of 2 (100 ∷ []) ∷ []) ≡ get_of 2 (100 ∷ []) ∷ []
the_other_is_left = refl

a_copy_takes_the_place : all_cut (Apart (Some (get_of 1 (99 ∷ []))) None ∷ []) (get_of 2 (100 ∷ []) ∷ []) ≡ get_of 1 (99 ∷ []) ∷ []
a_copy_takes_the_place = refl
