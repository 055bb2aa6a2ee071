-- An item that lies in a range, past it, or over its edge.
use Rattle.std.proofs.Common.{◌≡◌, suc, ◌&&◌, cond, true, List, [], ◌∷◌, ◌++◌, length, refl, sym, ap, ◌∙◌}
use Rattle.ds_base.specs.Order.{Extent, key_le, max_key, min_key}
use Rattle.ds_base.specs.declared.value.Dir.{Dir}
use Rattle.ds_base.specs.declared.value.Dir.TheVariants.{Forward, Reverse}
use Rattle.ds_base.proofs.KeyFacts.{max_first, max_second, min_first, min_second}
use Rattle.ds_base.proofs.OrderedFacts.{le_trans, not_lt_of_le}
use Rattle.ds_base.proofs.SmallFacts.{and_first, and_second}
use Rattle.ds_kind.specs.Asks.{has_proper_span}
use Rattle.ds_kind.specs.Request.{cut_to, span_of}
use Rattle.ds_kind.specs.declared.batch.Item.{Item}
use Rattle.ds_cover.specs.Cuts.{cut_item, cut_by, within, cut_items, rest_items}
use Rattle.ds_cut.specs.declared.fate.Fate.{Fate}
use Rattle.ds_cut.specs.declared.fate.Fate.TheVariants.{Cut, Left}
use Rattle.ds_cut.specs.Fates.{far, lies_past, IsFate, AreFates, all_cut, all_left}
use Rattle.ds_cut.specs.Within.{stays_within}
use Rattle.ds_cut.proofs.Seeking.{greater}
use Rattle.ds_cut.proofs.Whole.{lesser, cut_so, whole, cut_whole, after_none, before_none}

-- ---- in the range

inside_none : (d : Dir) (span : Extent) (i : Item) → key_le span.start (span_of i.request).start ≡ true → key_le (span_of i.request).end span.end ≡ true → cut_item (far d span) i ≡ []
inside_none Forward span i low high = after_none span i high
inside_none Reverse span i low high = before_none span i low

pub inside : (d : Dir) (span : Extent) (i : Item) → has_proper_span i.request ≡ true → (stays_within Forward span (span_of i.request) && stays_within Reverse span (span_of i.request)) ≡ true → IsFate d span i Cut
inside d span i proper h =
    let high : key_le (span_of i.request).end span.end ≡ true = and_first _ _ h in
    let low : key_le span.start (span_of i.request).start ≡ true = and_second (stays_within Forward span (span_of i.request)) _ h in
    (sym (cut_whole span i proper low high), sym (inside_none d span i low high))

-- ---- past it

past_low : (span x : Extent) → key_le span.end x.start ≡ true → key_le (min_key span.end x.end) (max_key span.start x.start) ≡ true
past_low span x h = le_trans (min_key span.end x.end) span.end (max_key span.start x.start) (min_first span.end x.end) (le_trans span.end x.start (max_key span.start x.start) h (max_second span.start x.start))

past_high : (span x : Extent) → key_le x.end span.start ≡ true → key_le (min_key span.end x.end) (max_key span.start x.start) ≡ true
past_high span x h = le_trans (min_key span.end x.end) x.end (max_key span.start x.start) (min_second span.end x.end) (le_trans x.end span.start (max_key span.start x.start) h (max_first span.start x.start))

nothing_inside : (span : Extent) (i : Item) → key_le (min_key span.end (span_of i.request).end) (max_key span.start (span_of i.request).start) ≡ true → cut_so i (max_key span.start (span_of i.request).start) (min_key span.end (span_of i.request).end) ≡ []
nothing_inside span i h =
    let s = max_key span.start (span_of i.request).start in
    let e = min_key span.end (span_of i.request).end in
    ap (λ t. cond t (record i { request = cut_to s e i.request } ∷ []) []) (not_lt_of_le e s h)

pub past : (d : Dir) (span : Extent) (i : Item) → has_proper_span i.request ≡ true → lies_past d span (span_of i.request) ≡ true → IsFate d span i Left
past Forward span i proper h = (
  sym (nothing_inside span i (past_low span (span_of i.request) h)),
  sym (ap (λ s. cut_so i s (span_of i.request).end) (sym (greater span.end (span_of i.request).start h)) ∙ whole i proper),
)
past Reverse span i proper h = (
  sym (nothing_inside span i (past_high span (span_of i.request) h)),
  sym (ap (cut_so i (span_of i.request).start) (sym (lesser span.start (span_of i.request).end h)) ∙ whole i proper),
)

-- ---- all items

pub fates_more : (d : Dir) (span : Extent) (is : List Item) (fs : List Fate) (i : Item) (f : Fate) → AreFates d span is fs → IsFate d span i f → AreFates d span (is ++ i ∷ []) (fs ++ f ∷ [])
fates_more d span [] [] i f h one = (one, tt)
fates_more d span [] (g ∷ gs) i f h one = absurd h
fates_more d span (x ∷ xs) [] i f h one = absurd h
fates_more d span (x ∷ xs) (g ∷ gs) i f h one = (h.0, fates_more d span xs gs i f h.1 one)

pub fates_cut : (d : Dir) (span : Extent) (is : List Item) (fs : List Fate) → AreFates d span is fs → all_cut fs is ≡ cut_items span is
fates_cut d span [] [] h = refl
fates_cut d span [] (f ∷ fs) h = absurd h
fates_cut d span (i ∷ is) [] h = absurd h
fates_cut d span (i ∷ is) (f ∷ fs) h = ap (λ z. z ++ all_cut fs is) h.0.0 ∙ ap (λ z. cut_item (within span) i ++ z) (fates_cut d span is fs h.1)

left_by : (d : Dir) (span : Extent) (is : List Item) (fs : List Fate) → AreFates d span is fs → all_left fs is ≡ cut_by (far d span) is
left_by d span [] [] h = refl
left_by d span [] (f ∷ fs) h = absurd h
left_by d span (i ∷ is) [] h = absurd h
left_by d span (i ∷ is) (f ∷ fs) h = ap (λ z. z ++ all_left fs is) h.0.1 ∙ ap (λ z. cut_item (far d span) i ++ z) (left_by d span is fs h.1)

pub fates_left : (d : Dir) (span : Extent) (is : List Item) (fs : List Fate) → AreFates d span is fs → all_left fs is ≡ rest_items d span is
fates_left Forward span is fs h = left_by Forward span is fs h
fates_left Reverse span is fs h = left_by Reverse span is fs h

pub fates_same : (d : Dir) (span : Extent) (is : List Item) (fs : List Fate) → AreFates d span is fs → length fs ≡ length is
fates_same d span [] [] h = refl
fates_same d span [] (f ∷ fs) h = absurd h
fates_same d span (i ∷ is) [] h = absurd h
fates_same d span (i ∷ is) (f ∷ fs) h = ap suc (fates_same d span is fs h.1)

-- ---- as the cutter has them

pub left_so : (d : Dir) (span : Extent) (is given : List Item) (fs got : List Fate) → AreFates d span is fs → given ≡ is → got ≡ fs → all_left got given ≡ rest_items d span is
left_so d span is given fs got h p q = ap (λ z. all_left z given) q ∙ ap (all_left fs) p ∙ fates_left d span is fs h

pub kept_so : (d : Dir) (span : Extent) (is given : List Item) (fs : List Fate) (old new : List Item) → AreFates d span is fs → given ≡ is → old ≡ [] → new ≡ old ++ all_left fs given → new ≡ rest_items d span is
kept_so d span is given fs old new h p none step = step ∙ ap (λ z. z ++ all_left fs given) none ∙ left_so d span is given fs fs h p refl

pub cut_so_far : (d : Dir) (span : Extent) (is given : List Item) (fs : List Fate) (old new : List Item) → AreFates d span is fs → given ≡ is → old ≡ [] → new ≡ old ++ all_cut fs given → new ≡ cut_items span is
cut_so_far d span is given fs old new h p none step = step ∙ ap (λ z. z ++ all_cut fs given) none ∙ ap (all_cut fs) p ∙ fates_cut d span is fs h
