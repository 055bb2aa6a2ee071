-- The ranges that overlap the least span over items are a part of the list.
use Rattle.std.proofs.Common.{◌≡◌, ℕ, zero, suc, ◌+◌, ◌-◌, ◌<◌, ◌≤◌, Bool, true, false, cond, not, ◌&&◌, ◌||◌, List, [], ◌∷◌, ◌++◌, refl, sym, ap, ◌∙◌, subst, length, get_or, map, take, drop, filter, reverse, arith, Result, Ok, Err, IfOk}
use Rattle.std.specs.List.Sorted.{IsPartitionedBy}
use Rattle.std.specs.Ordering.{is_lt}
use Rattle.std.specs.declared.alloc.AllocError.{AllocError}
use Rattle.std.proofs.lemmas.Cmp.{nat_list_cmp_total}
use Rattle.std.proofs.lemmas.List.{drop_all, get_or-drop, length-drop, reverse-append, take-map, take_all, take_rest}
use Rattle.std.proofs.lemmas.List.Elements.{filter-append}
use Rattle.ds_base.specs.Order.{after, key_cmp, key_le, key_lt}
use Rattle.ds_base.specs.declared.value.Dir.{Dir}
use Rattle.ds_base.specs.declared.value.Dir.TheVariants.{Forward, Reverse}
use Rattle.ds_base.proofs.KeyOrder.{after-above, key_le-not_lt, key_le_lt-trans}
use Rattle.ds_base.proofs.OrderedFacts.{lt_le_trans}
use Rattle.ds_base.proofs.SmallFacts.{append_nil, less_reversed}
use Rattle.ds_desc.specs.declared.desc.Info.{Info}
use Rattle.ds_kind.specs.Request.{span_of}
use Rattle.ds_kind.specs.declared.batch.Item.{Item}
use Rattle.ds_rule.specs.Deliver.{overlaps}
use Rattle.ds_rule.specs.World.{Range, Tiles, end_of, in_order, start_of}
use Rattle.ds_rule.proofs.Routes.{le_itself}
use Rattle.ds_ranges.specs.Places.{IsPoint}
use Rattle.ds_ranges.specs.Touching.{begins_below, ends_above}
use Rattle.ds_ranges.proofs.Finding.{ends-above, starts-above}

-- a key is below the one after k exactly where it is not above k
pub below_next : (s k : List ℕ) → key_lt s (after k) ≡ key_le s k
below_next s k = ap is_lt (nat_list_cmp_total.antisymm s (after k)) ∙ less_reversed (key_cmp (after k) s) ∙ after-above k s ∙ sym (key_le-not_lt s k)

-- ---- the tests go over once along the ranges

either : (a b c d : Bool) → (a ≡ true → c ≡ true) → (b ≡ true → d ≡ true) → (a || b) ≡ true → (c || d) ≡ true
either true b c d f g h = ap (λ t. t || d) (f refl)
either false b c true f g h = or_true c
  where
    or_true : (c : Bool) → (c || true) ≡ true
    or_true true = refl
    or_true false = refl
either false b c false f g h = let no : false ≡ true = g h in cc

below-more : (items : List Item) (a b : List ℕ) → key_le a b ≡ true → begins_below items a ≡ true → begins_below items b ≡ true
below-more [] a b le h = h
below-more (i ∷ is) a b le h =
    either (key_lt (span_of i.request).start a) (begins_below is a) (key_lt (span_of i.request).start b) (begins_below is b)
    (λ e. lt_le_trans (span_of i.request).start a b e le) (λ e. below-more is a b le e) h

above-less : (items : List Item) (a b : List ℕ) → key_le a b ≡ true → ends_above items b ≡ true → ends_above items a ≡ true
above-less [] a b le h = h
above-less (i ∷ is) a b le h =
    either (key_lt b (span_of i.request).end) (ends_above is b) (key_lt a (span_of i.request).end) (ends_above is a)
    (λ e. key_le_lt-trans a b (span_of i.request).end le e) (λ e. above-less is a b le e) h

ends-rise : (s : List ℕ) (rs : List Range) (i j : ℕ) (d : Range) → Tiles s rs → i ≤ j → j < length rs → key_le (end_of (get_or rs i d)) (end_of (get_or rs j d)) ≡ true
ends-rise s [] i j d t up low = absurd (omega (arith, low))
ends-rise s (r ∷ rs) zero zero d t up low = le_itself (end_of r)
ends-rise s (r ∷ rs) zero (suc j) d t up low = ends-above (end_of r) rs j d t.1 (omega (arith, low))
ends-rise s (r ∷ rs) (suc i) zero d t up low = absurd (omega (arith, up))
ends-rise s (r ∷ rs) (suc i) (suc j) d t up low = ends-rise (end_of r) rs i j d t.1 (omega (arith, up)) (omega (arith, low))

starts-rise : (s : List ℕ) (rs : List Range) (i j : ℕ) (d : Range) → Tiles s rs → i ≤ j → j < length rs → key_le (start_of (get_or rs i d)) (start_of (get_or rs j d)) ≡ true
starts-rise s [] i j d t up low = absurd (omega (arith, low))
starts-rise s (r ∷ rs) zero j d t up low =
    subst (λ z. key_le z (start_of (get_or (r ∷ rs) j d)) ≡ true) (sym t.0.begins) (starts-above s (r ∷ rs) j d t low)
starts-rise s (r ∷ rs) (suc i) zero d t up low = absurd (omega (arith, up))
starts-rise s (r ∷ rs) (suc i) (suc j) d t up low = starts-rise (end_of r) rs i j d t.1 (omega (arith, up)) (omega (arith, low))

turned : (a b : Bool) → (a ≡ true → b ≡ true) → not b ≡ true → not a ≡ true
turned true b f h = let yes : b ≡ true = f refl in let no : not true ≡ true = subst (λ t. not t ≡ true) yes h in cc
turned false b f h = refl

pub parted-ends : (items : List Item) (s : List ℕ) (rs : List Range) → Tiles s rs → IsPartitionedBy (λ r. not (begins_below items (end_of r))) rs
parted-ends items s rs t i j d up low h =
    turned (begins_below items (end_of (get_or rs i d))) (begins_below items (end_of (get_or rs j d)))
    (below-more items (end_of (get_or rs i d)) (end_of (get_or rs j d)) (ends-rise s rs i j d t up low)) h

parted-starts : (items : List Item) (s : List ℕ) (rs : List Range) → Tiles s rs → IsPartitionedBy (λ r. ends_above items (start_of r)) rs
parted-starts items s rs t i j d up low h =
    above-less items (start_of (get_or rs i d)) (start_of (get_or rs j d)) (starts-rise s rs i j d t up low) h

drop-parted : (p : Range → Bool) (xs : List Range) (a : ℕ) → IsPartitionedBy p xs → IsPartitionedBy p (drop a xs)
drop-parted p xs a parted i j d up low h =
    let long : length (drop a xs) ≡ length xs - a = length-drop a xs in
    let within : a + j < length xs = omega (arith, long, low) in
    subst (λ z. p z ≡ true) (sym (get_or-drop a xs i d))
    (parted (a + i) (a + j) d (omega (arith, up)) within (subst (λ z. p z ≡ true) (get_or-drop a xs j d) h))

-- from a place on too, as a slice says it
pub parted-rest : (items : List Item) (rs rest : List Range) (a : ℕ) → Tiles [] rs → rest ≡ take (length rs - a) (drop a rs) → IsPartitionedBy (λ r. ends_above items (start_of r)) rest
parted-rest items rs rest a t is =
    subst (IsPartitionedBy (λ r. ends_above items (start_of r))) (sym (is ∙ take_rest rs a))
    (drop-parted (λ r. ends_above items (start_of r)) rs a (parted-starts items [] rs t))

-- ---- what passes both

module _ (f g : Range → Bool) where
  all-first : (xs : List Range) → ((n : ℕ) (d : Range) → n < length xs → not (f (get_or xs n d)) ≡ false) → filter (λ r. f r && g r) xs ≡ filter g xs
  all-first [] all = refl
  all-first (x ∷ xs) all =
      ap (λ b. cond (b && g x) (x ∷ filter (λ r. f r && g r) xs) (filter (λ r. f r && g r) xs)) (was (f x) (all 0 x (omega arith)))
      ∙ ap (λ zs. cond (g x) (x ∷ zs) zs) (all-first xs (λ n d a. all (suc n) d (omega (arith, a))))
    where
      was : (b : Bool) → not b ≡ false → b ≡ true
      was true h = refl
      was false h = sym h

  first-dropped : (xs : List Range) (a : ℕ) → IsPoint (λ r. not (f r)) xs a → filter (λ r. f r && g r) xs ≡ filter g (drop a xs)
  first-dropped [] a p = sym (ap (filter g) (drop_all a [] (omega arith)))
  first-dropped (x ∷ xs) zero p = all-first (x ∷ xs) (λ n d a. p.1 n d (omega arith) a)
  first-dropped (x ∷ xs) (suc a) p =
      ap (λ b. cond (b && g x) (x ∷ filter (λ r. f r && g r) xs) (filter (λ r. f r && g r) xs)) (wasnt (f x) (p.0 0 x (omega arith) (omega arith)))
      ∙ first-dropped xs a (λ n d a b. p.0 (suc n) d (omega arith) (omega (arith, b)), λ n d a b. p.1 (suc n) d (omega (arith, a)) (omega (arith, b)))
    where
      wasnt : (b : Bool) → not b ≡ true → b ≡ false
      wasnt true h = sym h
      wasnt false h = refl

none-filtered : (g : Range → Bool) (xs : List Range) → ((n : ℕ) (d : Range) → n < length xs → g (get_or xs n d) ≡ false) → filter g xs ≡ []
none-filtered g [] none = refl
none-filtered g (x ∷ xs) none =
    ap (λ b. cond b (x ∷ filter g xs) (filter g xs)) (none 0 x (omega arith)) ∙ none-filtered g xs (λ n d a. none (suc n) d (omega (arith, a)))

first-taken : (g : Range → Bool) (xs : List Range) (b : ℕ) → IsPoint g xs b → filter g xs ≡ take b xs
first-taken g [] b p = sym (take_all b [] (omega arith))
first-taken g (x ∷ xs) zero p = none-filtered g (x ∷ xs) (λ n d a. p.1 n d (omega arith) a)
first-taken g (x ∷ xs) (suc b) p =
    ap (λ t. cond t (x ∷ filter g xs) (filter g xs)) (p.0 0 x (omega arith) (omega arith))
    ∙ ap (λ zs. x ∷ zs) (first-taken g xs b (λ n d a c. p.0 (suc n) d (omega arith) (omega (arith, c)), λ n d a c. p.1 (suc n) d (omega (arith, a)) (omega (arith, c))))

pub touched : (items : List Item) (rs rest : List Range) (a b : ℕ) → rest ≡ take (length rs - a) (drop a rs) → IsPoint (λ r. not (begins_below items (end_of r))) rs a → IsPoint (λ r. ends_above items (start_of r)) rest b → take b rest ≡ filter (overlaps items) rs
touched items rs rest a b is first last =
    sym (
    first-dropped (λ r. begins_below items (end_of r)) (λ r. ends_above items (start_of r)) rs a first
    ∙ ap (filter (λ r. ends_above items (start_of r))) (sym (is ∙ take_rest rs a))
    ∙ first-taken (λ r. ends_above items (start_of r)) rest b last
    )

-- ---- their rows

filter-reverse : (p : Range → Bool) (xs : List Range) → reverse (filter p xs) ≡ filter p (reverse xs)
filter-reverse p [] = refl
filter-reverse p (x ∷ xs) =
    sym (ap (filter p) (reverse-append (x ∷ []) xs) ∙ filter-append p (reverse xs) (x ∷ []) ∙ ap (λ zs. zs ++ filter p (x ∷ [])) (sym (filter-reverse p xs)) ∙ one (p x))
  where
    one : (b : Bool) → reverse (filter p xs) ++ cond b (x ∷ []) [] ≡ reverse (cond b (x ∷ filter p xs) (filter p xs))
    one true = sym (reverse-append (x ∷ []) (filter p xs))
    one false = append_nil (reverse (filter p xs))

filter-order : (d : Dir) (p : Range → Bool) (xs : List Range) → in_order d (filter p xs) ≡ filter p (in_order d xs)
filter-order Forward p xs = refl
filter-order Reverse p xs = filter-reverse p xs

touched-rows : (d : Dir) (p : Range → Bool) (n : ℕ) (rs part : List Range) (rows : List Info) → part ≡ filter p rs → rows ≡ map (λ r. r.info) (take n (in_order d part)) → rows ≡ take n (map (λ r. r.info) (filter p (in_order d rs)))
touched-rows d p n rs part rows is are =
    are ∙ ap (λ zs. map (λ r. r.info) (take n (in_order d zs))) is ∙ ap (λ zs. map (λ r. r.info) (take n zs)) (filter-order d p rs)
    ∙ sym (take-map (λ (r : Range). r.info) n (filter p (in_order d rs)))

pub touched-ok : (d : Dir) (p : Range → Bool) (n : ℕ) (rs part : List Range) (r : Result (List Info) AllocError) → part ≡ filter p rs → IfOk r (λ rows. rows ≡ map (λ r. r.info) (take n (in_order d part))) → IfOk r (λ rows. rows ≡ take n (map (λ r. r.info) (filter p (in_order d rs))))
touched-ok d p n rs part (Ok rows) is are = touched-rows d p n rs part rows is are
touched-ok d p n rs part (Err e) is are = tt
