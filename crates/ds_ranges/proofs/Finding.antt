-- Where the range stands that holds a key, and where the range of an id.
use Rattle.std.proofs.Common.{◌≡◌, ℕ, zero, suc, ◌<◌, ◌≤◌, Bool, true, false, cond, not, List, [], ◌∷◌, Some, None, refl, sym, ap, ◌∙◌, subst, length, get_or, arith}
use Rattle.std.specs.List.{find, slice_get}
use Rattle.std.specs.List.Sorted.{IsPartitionedBy}
use Rattle.std.proofs.lemmas.Bool.{and_left, and_right, eqb-true}
use Rattle.ds_base.specs.Order.{key_lt, key_le}
use Rattle.ds_base.proofs.KeyOrder.{key_le_lt-trans, key_lt-trans, not-key_le}
use Rattle.ds_base.proofs.OrderedFacts.{le_of_lt, le_trans, not_le_of_lt, not_lt_of_le}
use Rattle.ds_base.proofs.SmallFacts.{and_both, and_second, none_some, some_same}
use Rattle.ds_desc.specs.declared.desc.RangeDesc.{RangeDesc}
use Rattle.ds_rule.specs.Pieces.{Each}
use Rattle.ds_rule.specs.World.{Range, Tiles, start_of, end_of, has_id, holds_key}
use Rattle.ds_rule.proofs.Routes.{le_itself}
use Rattle.ds_world.proofs.Newest.{own-start}
use Rattle.ds_ranges.specs.Layout.{own_descs}
use Rattle.ds_ranges.specs.Places.{IsFirst, IsPoint}
use Rattle.ds_ranges.specs.Sound.{PlaceIsNoted, noted_desc}

-- ---- the first that passes

module _ {X : Type 0} (p : X → Bool) where
  pub first-low : (xs : List X) (i : ℕ) → IsFirst p xs i → i < length xs
  first-low [] i h = absurd h
  first-low (x ∷ xs) zero h = omega arith
  first-low (x ∷ xs) (suc i) h = let low : i < length xs = first-low xs i h.1 in omega arith

  pub first-found : (xs : List X) (i : ℕ) → IsFirst p xs i → slice_get xs i ≡ find p xs
  first-found [] i h = absurd h
  first-found (x ∷ xs) zero h = ap (λ t. cond t (Some x) (find p xs)) (sym h)
  first-found (x ∷ xs) (suc i) h = first-found xs i h.1 ∙ ap (λ t. cond t (Some x) (find p xs)) (sym h.0)

  pub none-found : (xs : List X) → Each (λ x. p x ≡ false) xs → None ≡ find p xs
  none-found [] h = refl
  none-found (x ∷ xs) h = none-found xs h.1 ∙ ap (λ t. cond t (Some x) (find p xs)) (sym h.0)

-- ---- tests on keys

pub lt_of_not_le : (a b : List ℕ) → key_le a b ≡ false → key_lt b a ≡ true
lt_of_not_le a b h = sym (not-key_le a b) ∙ ap not h

-- a range that ends at the key or below it, or starts above it, doesn't hold it
pub out-low : (k : List ℕ) (r : Range) → key_le (end_of r) k ≡ true → holds_key k r ≡ false
out-low k r h = and_right (key_le (start_of r) k) (key_lt k (end_of r)) (not_lt_of_le (end_of r) k h)

pub out-high : (k : List ℕ) (r : Range) → key_lt k (start_of r) ≡ true → holds_key k r ≡ false
out-high k r h = and_left (key_le (start_of r) k) (key_lt k (end_of r)) (not_le_of_lt k (start_of r) h)

-- ---- a search by halves

pub ends-above : (s : List ℕ) (rs : List Range) (j : ℕ) (d : Range) → Tiles s rs → j < length rs → key_le s (end_of (get_or rs j d)) ≡ true
ends-above s [] j d t low = absurd (omega (arith, low))
ends-above s (r ∷ rs) zero d t low = le_of_lt s (end_of r) t.0.some
ends-above s (r ∷ rs) (suc j) d t low =
    le_trans s (end_of r) (end_of (get_or rs j d)) (le_of_lt s (end_of r) t.0.some) (ends-above (end_of r) rs j d t.1 (omega (arith, low)))

pub ends-parted : (k s : List ℕ) (rs : List Range) → Tiles s rs → IsPartitionedBy (λ r. key_le (end_of r) k) rs
ends-parted k s [] t i j d up low h = absurd (omega (arith, low))
ends-parted k s (r ∷ rs) t i zero d up low h =
    let none : i ≡ 0 = omega (arith, up) in subst (λ n. key_le (end_of (get_or (r ∷ rs) n d)) k ≡ true) (sym none) h
ends-parted k s (r ∷ rs) t zero (suc j) d up low h =
    le_trans (end_of r) (end_of (get_or rs j d)) k (ends-above (end_of r) rs j d t.1 (omega (arith, low))) h
ends-parted k s (r ∷ rs) t (suc i) (suc j) d up low h = ends-parted k (end_of r) rs t.1 i j d (omega (arith, up)) (omega (arith, low)) h

pub starts-above : (s : List ℕ) (rs : List Range) (j : ℕ) (d : Range) → Tiles s rs → j < length rs → key_le s (start_of (get_or rs j d)) ≡ true
starts-above s [] j d t low = absurd (omega (arith, low))
starts-above s (r ∷ rs) zero d t low = subst (λ z. key_le s z ≡ true) (sym t.0.begins) (le_itself s)
starts-above s (r ∷ rs) (suc j) d t low =
    le_trans s (end_of r) (start_of (get_or rs j d)) (le_of_lt s (end_of r) t.0.some) (starts-above (end_of r) rs j d t.1 (omega (arith, low)))

pub starts-parted : (k s : List ℕ) (rs : List Range) → Tiles s rs → IsPartitionedBy (λ r. key_lt (start_of r) k) rs
starts-parted k s [] t i j d up low h = absurd (omega (arith, low))
starts-parted k s (r ∷ rs) t i zero d up low h =
    let none : i ≡ 0 = omega (arith, up) in subst (λ n. key_lt (start_of (get_or (r ∷ rs) n d)) k ≡ true) (sym none) h
starts-parted k s (r ∷ rs) t zero (suc j) d up low h =
    let over : key_le (start_of r) (end_of r) ≡ true = le_of_lt (start_of r) (end_of r) (subst (λ z. key_lt z (end_of r) ≡ true) (sym t.0.begins) t.0.some) in
    key_le_lt-trans (start_of r) (start_of (get_or rs j d)) k (le_trans (start_of r) (end_of r) (start_of (get_or rs j d)) over (starts-above (end_of r) rs j d t.1 (omega (arith, low)))) h
starts-parted k s (r ∷ rs) t (suc i) (suc j) d up low h = starts-parted k (end_of r) rs t.1 i j d (omega (arith, up)) (omega (arith, low)) h

-- the point that is found is the place of the range that holds the key
pub first-held : (k s : List ℕ) (rs : List Range) (i : ℕ) → Tiles s rs → key_le s k ≡ true → IsPoint (λ r. key_le (end_of r) k) rs i → i < length rs → IsFirst (holds_key k) rs i
first-held k s [] i t from p low = absurd (omega (arith, low))
first-held k s (r ∷ rs) zero t from p low =
    and_both _ _ (subst (λ z. key_le z k ≡ true) (sym t.0.begins) from) (lt_of_not_le (end_of r) k (p.1 0 r (omega arith) (omega arith)))
first-held k s (r ∷ rs) (suc i) t from p low =
    let out : key_le (end_of r) k ≡ true = p.0 0 r (omega arith) (omega arith) in (
      out-low k r out,
      first-held k (end_of r) rs i t.1 out
          (λ n d a b. p.0 (suc n) d (omega arith) (omega (arith, b)), λ n d a b. p.1 (suc n) d (omega (arith, a)) (omega (arith, b)))
          (omega (arith, low)),
    )

all-low : (k : List ℕ) (rs : List Range) → ((n : ℕ) (d : Range) → n < length rs → key_le (end_of (get_or rs n d)) k ≡ true) → Each (λ r. holds_key k r ≡ false) rs
all-low k [] low = tt
all-low k (r ∷ rs) low = (out-low k r (low 0 r (omega arith)), all-low k rs (λ n d a. low (suc n) d (omega (arith, a))))

pub none-held : (k : List ℕ) (rs : List Range) (i : ℕ) → IsPoint (λ r. key_le (end_of r) k) rs i → length rs ≤ i → Each (λ r. holds_key k r ≡ false) rs
none-held k rs i p past = all-low k rs (λ n d a. p.0 n d (omega arith) (omega (arith, a, past)))

-- ---- by id

fails : (a b : Bool) → (b ≡ true → a ≡ true) → a ≡ false → b ≡ false
fails a true over h = sym (over refl) ∙ h
fails a false over h = refl

module _ {X : Type 0} (p q : X → Bool) where
  pub none-both : (xs : List X) → Each (λ x. q x ≡ true → p x ≡ true) xs → Each (λ x. p x ≡ false) xs → Each (λ x. q x ≡ false) xs
  none-both [] over none = tt
  none-both (x ∷ xs) over none = (fails (p x) (q x) over.0 none.0, none-both xs over.1 none.1)

  pub first-both : (xs : List X) (i : ℕ) (x : X) → Each (λ x. q x ≡ true → p x ≡ true) xs → IsFirst p xs i → slice_get xs i ≡ Some x → q x ≡ true → IsFirst q xs i
  first-both [] i y over first at h = absurd first
  first-both (x ∷ xs) zero y over first at h = subst (λ z. q z ≡ true) (sym (some_same x y at)) h
  first-both (x ∷ xs) (suc i) y over first at h = (fails (p x) (q x) over.0 first.0, first-both xs i y over.1 first.1 at h)

-- who has the id starts where the descriptor does that is noted of it
pub with-id : (places : List ℕ) (ds : List RangeDesc) (id : ℕ) (d : RangeDesc) (s : List ℕ) (rs : List Range) → noted_desc id places ds ≡ Some d → Tiles s rs → Each (PlaceIsNoted places ds) (own_descs rs) → Each (λ r. has_id id r ≡ true → holds_key d.span.start r ≡ true) rs
with-id places ds id d s [] at t own = tt
with-id places ds id d s (r ∷ rs) at t own = (
  λ h.
      let same : r.info.desc.id ≡ id = eqb-true _ _ h in
      let is : r.info.desc ≡ d = some_same r.info.desc d (sym own.0 ∙ ap (λ n. noted_desc n places ds) same ∙ at) in
      subst (λ z. holds_key z.span.start r ≡ true) is (own-start s r t.0),
  with-id places ds id d (end_of r) rs at t.1 own.1,
)

pub none-noted : (places : List ℕ) (ds : List RangeDesc) (id : ℕ) (rs : List Range) → None ≡ noted_desc id places ds → Each (PlaceIsNoted places ds) (own_descs rs) → Each (λ r. has_id id r ≡ false) rs
none-noted places ds id [] at own = tt
none-noted places ds id (r ∷ rs) at own = (
  fails false (has_id id r) (λ h. none_some r.info.desc (at ∙ ap (λ n. noted_desc n places ds) (sym (eqb-true _ _ h)) ∙ own.0)) refl,
  none-noted places ds id rs at own.1,
)

-- no range from s on holds a key below it
none-above : (k s : List ℕ) (rs : List Range) → key_lt k s ≡ true → Tiles s rs → Each (λ r. holds_key k r ≡ false) rs
none-above k s [] low t = tt
none-above k s (r ∷ rs) low t = (
  out-high k r (subst (λ z. key_lt k z ≡ true) (sym t.0.begins) low),
  none-above k (end_of r) rs (key_lt-trans k s (end_of r) low t.0.some) t.1,
)

-- where the one that holds the key hasn't the id, none has
pub other-id : (k s : List ℕ) (id : ℕ) (rs : List Range) (i : ℕ) (r : Range) → Tiles s rs → Each (λ r. has_id id r ≡ true → holds_key k r ≡ true) rs → IsFirst (holds_key k) rs i → slice_get rs i ≡ Some r → has_id id r ≡ false → Each (λ r. has_id id r ≡ false) rs
other-id k s id [] i r t over first at h = absurd first
other-id k s id (q ∷ rs) zero r t over first at h = (
  subst (λ z. has_id id z ≡ false) (sym (some_same q r at)) h,
  none-both (holds_key k) (has_id id) rs over.1 (none-above k (end_of q) rs (and_second (key_le (start_of q) k) _ first) t.1),
)
other-id k s id (q ∷ rs) (suc i) r t over first at h = (
  fails (holds_key k q) (has_id id q) over.0 first.0,
  other-id k (end_of q) id rs i r t.1 over.1 first.1 at h,
)
