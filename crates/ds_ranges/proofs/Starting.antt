-- The ranges that a cluster begins with, and their descriptors.
use Rattle.std.proofs.Common.{◌≡◌, ℕ, zero, suc, ◌+◌, ◌-◌, ◌<◌, ◌≤◌, max, true, false, cond, ◌==◌, List, [], ◌∷◌, ◌++◌, Some, refl, sym, ap, ◌∙◌, subst, length, drop, get_or, take, append_assoc, arith}
use Rattle.std.specs.List.{list_all, range_with_len, slice_get}
use Rattle.std.proofs.Math.Seq.{take-length}
use Rattle.std.proofs.lemmas.Bool.{eqb-true}
use Rattle.std.proofs.lemmas.List.{drop_more, length-drop, length_push, nil_from_length}
use Rattle.std.proofs.lemmas.List.FromFn.{length-range_with_len}
use Rattle.ds_base.specs.Order.{bound, key_le, key_lt}
use Rattle.ds_base.proofs.OrderedFacts.{le_of_lt, le_of_not_lt, le_trans}
use Rattle.ds_base.proofs.SmallFacts.{and_first, and_second, some_same}
use Rattle.ds_desc.specs.Descs.{containing, greatest_id}
use Rattle.ds_desc.specs.declared.desc.RangeDesc.{RangeDesc}
use Rattle.ds_rule.specs.declared.cluster.ClusterRange.{ClusterRange}
use Rattle.ds_rule.specs.Begin.{first_world, is_leased, next_start, range_of, ranges_of, rises, tiles}
use Rattle.ds_rule.specs.Keeping.{Keeps}
use Rattle.ds_rule.specs.Pieces.{Each}
use Rattle.ds_rule.specs.World.{Range, Tiles, start_of, end_of, holds_key}
use Rattle.ds_rule.proofs.Routes.{le_itself}
use Rattle.ds_rule.proofs.Tiling.{rises-tiles}
use Rattle.ds_world.proofs.First.{first-keeps}
use Rattle.ds_world.proofs.Foreign.{ends-low}
use Rattle.ds_ranges.specs.Layout.{own_descs}
use Rattle.ds_ranges.specs.Sound.{PlaceIsNoted, IsSound, desc_at}
use Rattle.ds_ranges.proofs.Finding.{out-low}
use Rattle.ds_ranges.proofs.Sounds.{at-end}

-- ---- the descriptors of ranges that tile

tiles-low : (k s : List ℕ) (rs : List Range) → Tiles s rs → key_lt k bound ≡ false → containing k (own_descs rs) ≡ []
tiles-low k s [] t high = refl
tiles-low k s (r ∷ rs) t high =
    ap (λ b. cond b (r.info.desc ∷ containing k (own_descs rs)) (containing k (own_descs rs)))
    (out-low k r (le_trans (end_of r) bound k (ends-low (end_of r) rs t.1) (le_of_not_lt k bound high)))
    ∙ tiles-low k (end_of r) rs t.1 high

-- those before a range contain none of its keys
pub before-none : (k s : List ℕ) (rs : List Range) (i : ℕ) (r : Range) → Tiles s rs → slice_get rs i ≡ Some r → holds_key k r ≡ true → containing k (own_descs (take i rs)) ≡ []
before-none k s [] i r t at h = cc
before-none k s (q ∷ rs) zero r t at h = refl
before-none k s (q ∷ rs) (suc i) r t at h =
    ap (λ b. cond b (q.info.desc ∷ containing k (own_descs (take i rs))) (containing k (own_descs (take i rs))))
    (out-low k q (le_trans (end_of q) (start_of r) k (from (end_of q) rs i t.1 at) (and_first _ _ h)))
    ∙ before-none k (end_of q) rs i r t.1 at h
  where
    from : (s : List ℕ) (rs : List Range) (i : ℕ) → Tiles s rs → slice_get rs i ≡ Some r → key_le s (start_of r) ≡ true
    from s [] i t at = cc
    from s (q ∷ rs) zero t at = subst (λ z. key_le s (start_of z) ≡ true) (some_same q r at) (subst (λ z. key_le s z ≡ true) (sym t.0.begins) (le_itself s))
    from s (q ∷ rs) (suc i) t at = le_trans s (end_of q) (start_of r) (le_of_lt s (end_of q) t.0.some) (from (end_of q) rs i t.1 at)

-- ---- the places that are noted

in-range : (a n i : ℕ) → i < n → slice_get (range_with_len a n) i ≡ Some (a + i)
in-range a zero i low = absurd (omega (arith, low))
in-range a (suc n) zero low = let same : a ≡ a + 0 = omega arith in ap Some same
in-range a (suc n) (suc i) low = let same : a + 1 + i ≡ a + suc i = omega arith in in-range (a + 1) n i (omega (arith, low)) ∙ ap Some same

first-noted : (count : ℕ) (front : List RangeDesc) (id : ℕ) (rs : List ClusterRange) → id ≡ suc (length front) → length front + length rs ≤ count → Each (PlaceIsNoted (0 ∷ range_with_len 0 count) (front ++ own_descs (ranges_of id rs))) (own_descs (ranges_of id rs))
first-noted count front id [] is low = tt
first-noted count front id (r ∷ rs) is low =
    let d = (range_of id r (next_start rs)).info.desc in
    let rest = own_descs (ranges_of (id + 1) rs) in
    let within : length front < count = omega (arith, low) in
    let more : length (front ++ d ∷ []) ≡ length front + 1 = length_push front d in
    let next : id + 1 ≡ suc (length (front ++ d ∷ [])) = omega (arith, is, more) in
    let room : length (front ++ d ∷ []) + length rs ≤ count = omega (arith, low, more) in (
      ap (λ n. desc_at (slice_get (0 ∷ range_with_len 0 count) n) (front ++ d ∷ rest)) is
          ∙ ap (λ o. desc_at o (front ++ d ∷ rest)) (in-range 0 count (length front) within)
          ∙ (let same : 0 + length front ≡ length front = omega arith in ap (slice_get (front ++ d ∷ rest)) same)
          ∙ at-end front d rest,
      subst (λ zs. Each (PlaceIsNoted (0 ∷ range_with_len 0 count) zs) rest) (append_assoc front (d ∷ []) rest) (first-noted count (front ++ d ∷ []) (id + 1) rs next room),
    )

first-greatest : (m : ℕ) (rs : List ClusterRange) → max m (greatest_id (own_descs (ranges_of (m + 1) rs))) ≡ m + length rs
first-greatest m [] = omega arith
first-greatest m (r ∷ rs) =
    let rest : max (m + 1) (greatest_id (own_descs (ranges_of (m + 1 + 1) rs))) ≡ m + 1 + length rs = first-greatest (m + 1) rs in omega (arith, rest)

pub first-long : (id : ℕ) (rs : List ClusterRange) → length (ranges_of id rs) ≡ length rs
first-long id [] = refl
first-long id (r ∷ rs) = ap suc (first-long (id + 1) rs)

-- ---- what a cluster begins with is sound

pub first-tiled : (rs : List ClusterRange) → tiles rs ≡ true → Tiles [] (ranges_of 1 rs)
first-tiled rs h =
    subst (λ s. Tiles s (ranges_of 1 rs)) (nil_from_length (next_start rs) (eqb-true _ _ (and_first (length (next_start rs) == 0) _ h)))
    (rises-tiles 1 rs (and_second (length (next_start rs) == 0) _ h))

first-sound : (rs : List ClusterRange) → tiles rs ≡ true → list_all is_leased rs ≡ true → IsSound (ranges_of 1 rs) (own_descs (ranges_of 1 rs)) (0 ∷ range_with_len 0 (length rs))
first-sound rs h leased =
    let t : Tiles [] (ranges_of 1 rs) = first-tiled rs h in
    let first : Keeps (first_world rs) = first-keeps rs t leased in
    let top : max 0 (greatest_id (own_descs (ranges_of 1 rs))) ≡ 0 + length rs = first-greatest 0 rs in
    let long : length (range_with_len 0 (length rs)) ≡ length rs = length-range_with_len 0 (length rs) in
    record {
      keeps = record {
        tiled = t;
        newest = first.newest;
        rise = first.rise;
        ids = first.ids;
        leases = first.leases;
      };
      own = first-noted (length rs) [] 1 rs refl (omega arith);
      count = omega (arith, top, long);
      low = λ k high. tiles-low k [] (ranges_of 1 rs) t high;
    }

-- the same over what the calls say
pub begun-sound : (rs : List ClusterRange) (items : List Range) (ds : List RangeDesc) (places : List ℕ) (n : ℕ) → tiles rs ≡ true → list_all is_leased rs ≡ true → items ≡ ranges_of 1 rs → ds ≡ own_descs items → n ≡ length items → places ≡ 0 ∷ range_with_len 0 n → IsSound items ds places
begun-sound rs items ds places n h leased made lineage long noted =
    let count : n ≡ length rs = long ∙ ap length made ∙ first-long 1 rs in
    subst (λ z. IsSound items ds z) (sym (noted ∙ ap (λ m. 0 ∷ range_with_len 0 m) count))
    (subst (λ z. IsSound items z (0 ∷ range_with_len 0 (length rs))) (sym (lineage ∙ ap own_descs made))
    (subst (λ z. IsSound z (own_descs (ranges_of 1 rs)) (0 ∷ range_with_len 0 (length rs))) (sym made) (first-sound rs h leased)))

-- ---- one more of each

-- the next range to be made
pub next_range : (rs : List ClusterRange) (i : ℕ) (r : ClusterRange) → i < length rs → r ≡ get_or rs i r → drop i rs ≡ r ∷ drop (i + 1) rs
next_range rs i r low at = drop_more rs i r low ∙ ap (λ z. z ∷ drop (i + 1) rs) (sym at)

-- the slice to the end is all that is left
pub next_end : (rs : List ClusterRange) (i : ℕ) (end : List ℕ) → end ≡ next_start (take (length rs - i) (drop i rs)) → end ≡ next_start (drop i rs)
next_end rs i end is = is ∙ ap (λ n. next_start (take n (drop i rs))) (sym (length-drop i rs)) ∙ ap next_start (take-length (drop i rs))

-- one range more was made
pub one_range_more : (rs rest : List ClusterRange) (id : ℕ) (r : ClusterRange) (end : List ℕ) (m : Range) (made next all : List Range) → rs ≡ r ∷ rest → end ≡ next_start rest → m ≡ range_of id r end → next ≡ made ++ m ∷ [] → made ++ ranges_of id rs ≡ all → next ++ ranges_of (id + 1) rest ≡ all
one_range_more rs rest id r end m made next all are ends is more so_far =
    ap (λ z. z ++ ranges_of (id + 1) rest) (more ∙ ap (λ z. made ++ z ∷ []) (is ∙ ap (range_of id r) ends))
    ∙ append_assoc made (range_of id r (next_start rest) ∷ []) (ranges_of (id + 1) rest)
    ∙ sym (ap (λ z. made ++ ranges_of id z) are) ∙ so_far

-- those after it still rise
pub later_rise : (rs rest : List ClusterRange) (r : ClusterRange) → rs ≡ r ∷ rest → rises rs ≡ true → rises rest ≡ true
later_rise rs rest r are h = and_second (key_lt r.start (next_start rest)) _ (sym (ap rises are) ∙ h)

range-more : (a n : ℕ) → range_with_len a (suc n) ≡ range_with_len a n ++ (a + n) ∷ []
range-more a zero = let same : a ≡ a + 0 = omega arith in ap (λ m. m ∷ []) same
range-more a (suc n) =
    let same : a + 1 + n ≡ a + suc n = omega arith in
    ap (λ zs. a ∷ zs) (range-more (a + 1) n ∙ ap (λ m. range_with_len (a + 1) n ++ m ∷ []) same)

-- one place more
pub places-more : (n : ℕ) (places after : List ℕ) → places ≡ 0 ∷ range_with_len 0 n → after ≡ places ++ n ∷ [] → after ≡ 0 ∷ range_with_len 0 (n + 1)
places-more n places after so_far more =
    let next : suc n ≡ n + 1 = omega arith in
    let here : 0 + n ≡ n = omega arith in
    more ∙ ap (λ zs. zs ++ n ∷ []) so_far ∙ ap (λ m. 0 ∷ (range_with_len 0 n ++ m ∷ [])) (sym here) ∙ ap (λ zs. 0 ∷ zs) (sym (range-more 0 n)) ∙ ap (λ m. 0 ∷ range_with_len 0 m) next
