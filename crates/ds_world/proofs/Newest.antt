-- Descriptors one after another: the last that contains a key, and what more of them change.
use Rattle.std.proofs.Common.{◌≡◌, ℕ, ◌≤◌, ◌<◌, Bool, true, false, cond, ◌&&◌, List, [], ◌∷◌, ◌++◌, Some, inl, inr, refl, sym, ap, ◌∙◌, subst, arith}
use Rattle.std.specs.List.{filter, find}
use Rattle.std.proofs.lemmas.List.{reverse-append}
use Rattle.std.proofs.lemmas.List.Elements.{filter-append}
use Rattle.std.proofs.Math.Bool.{and-false}
use Rattle.ds_base.specs.Order.{key_lt, key_le}
use Rattle.ds_base.specs.declared.value.Dir.TheVariants.{Forward}
use Rattle.ds_base.proofs.OrderedFacts.{le_of_lt, le_trans, lt_le_trans, not_le_of_lt, not_lt_of_le}
use Rattle.ds_base.proofs.SmallFacts.{and_first, and_both, append_nil}
use Rattle.ds_desc.specs.Contains.{contains}
use Rattle.ds_desc.specs.Descs.{AllNewer, GenerationsRise, Newer, containing, greatest_id}
use Rattle.ds_desc.specs.declared.desc.RangeDesc.{RangeDesc}
use Rattle.ds_cell.specs.Seen.{last_of}
use Rattle.ds_rule.specs.Keeping.{IsNewest}
use Rattle.ds_rule.specs.Pieces.{Each}
use Rattle.ds_rule.specs.World.{Range, start_of, end_of, Fits, Tiles, holds_key}
use Rattle.ds_rule.proofs.Lasts.{last-cases}
use Rattle.ds_rule.proofs.Routes.{le_itself}

containing-append : (k : List ℕ) (xs ys : List RangeDesc) → containing k (xs ++ ys) ≡ containing k xs ++ containing k ys
containing-append k xs ys = filter-append (λ d. contains Forward k d.span) xs ys

pub last-append : {X : Type 0} (xs : List X) (y : X) → last_of (xs ++ y ∷ []) ≡ Some y
last-append xs y = ap (find (λ _. true)) (reverse-append xs (y ∷ []))

-- ---- generations

all-more : (g : ℕ) (xs : List RangeDesc) (e : RangeDesc) → AllNewer g xs → g < e.generation → AllNewer g (xs ++ e ∷ [])
all-more g [] e all h = (h, tt)
all-more g (x ∷ xs) e all h = (all.0, all-more g xs e all.1 h)

pub all-last : (g : ℕ) (xs : List RangeDesc) (d : RangeDesc) → AllNewer g xs → last_of xs ≡ Some d → g < d.generation
all-last g [] d all h = cc
all-last g (x ∷ xs) d all h = elim (last-cases x xs d h) [
  | inl one ↦ subst (λ z. g < z.generation) one.1 all.0
  | inr rest ↦ all-last g xs d all.1 rest
]

newer-last : (xs : List RangeDesc) (d e : RangeDesc) → Newer xs → last_of xs ≡ Some d → d.generation < e.generation → Newer (xs ++ e ∷ [])
newer-last [] d e n h low = cc
newer-last (x ∷ xs) d e n h low = elim (last-cases x xs d h) [
  | inl one ↦ subst (λ zs. AllNewer x.generation (zs ++ e ∷ []) × Newer (zs ++ e ∷ [])) (sym one.0) ((subst (λ z. z.generation < e.generation) (sym one.1) low, tt), (tt, tt))
  | inr rest ↦
      let below : x.generation < d.generation = all-last x.generation xs d n.0 rest in
      (all-more x.generation xs e n.0 (omega arith), newer-last xs d e n.1 rest low)
]

-- the last that contains the key is older
pub record IsOlder (k : List ℕ) (ds : List RangeDesc) (g : ℕ) : Type 0 where
  pub last : RangeDesc
  pub is : last_of (containing k ds) ≡ Some last
  pub low : last.generation < g

-- generations rise with one more descriptor that is newer at each of its keys
pub rise-one : (ds : List RangeDesc) (e : RangeDesc) → GenerationsRise ds → ((k : List ℕ) → contains Forward k e.span ≡ true → IsOlder k ds e.generation) → GenerationsRise (ds ++ e ∷ [])
rise-one ds e rise over k =
    subst Newer (sym (containing-append k ds (e ∷ [])))
    (elim (contains Forward k e.span) as (λ b. contains Forward k e.span ≡ b → Newer (containing k ds ++ cond b (e ∷ []) [])) [
      | true ↦ λ h. newer-last (containing k ds) (over k h).last e (rise k) (over k h).is (over k h).low
      | false ↦ λ h. subst Newer (sym (append_nil (containing k ds))) (rise k)
    ] refl)

-- ---- the newest of a range

-- what contains none of the key leaves the last that contains it
pub last-beside : (k : List ℕ) (ds made : List RangeDesc) (d : RangeDesc) → containing k made ≡ [] → last_of (containing k ds) ≡ Some d → last_of (containing k (ds ++ made)) ≡ Some d
last-beside k ds made d none is =
    ap last_of (containing-append k ds made ∙ ap (λ zs. containing k ds ++ zs) none ∙ append_nil (containing k ds)) ∙ is

-- a range whose keys are in none of them keeps its own
pub newest-beside : (ds made : List RangeDesc) (r : Range) → IsNewest ds r → ((k : List ℕ) → holds_key k r ≡ true → containing k made ≡ []) → IsNewest (ds ++ made) r
newest-beside ds made r new none k h = last-beside k ds made r.info.desc (none k h) (new k h)

-- a range that they were made for has its own
pub newest-made : (ds made : List RangeDesc) (r : Range) → ((k : List ℕ) → holds_key k r ≡ true → containing k made ≡ r.info.desc ∷ []) → IsNewest (ds ++ made) r
newest-made ds made r one k h =
    ap last_of (containing-append k ds made ∙ ap (λ zs. containing k ds ++ zs) (one k h)) ∙ last-append (containing k ds) r.info.desc

-- no key below m is in descriptors that start from m on
pub none-before : (k m : List ℕ) (ds : List RangeDesc) → key_lt k m ≡ true → Each (λ d. key_le m d.span.start ≡ true) ds → containing k ds ≡ []
none-before k m [] low all = refl
none-before k m (d ∷ ds) low all =
    let out : contains Forward k d.span ≡ false = ap (λ t. t && key_lt k d.span.end) (not_le_of_lt k d.span.start (lt_le_trans k m d.span.start low all.0)) in
    ap (λ t. cond t (d ∷ containing k ds) (containing k ds)) out ∙ none-before k m ds low all.1

-- no key from m on is in descriptors that end at m or below
none-after : (k m : List ℕ) (ds : List RangeDesc) → key_le m k ≡ true → Each (λ d. key_le d.span.end m ≡ true) ds → containing k ds ≡ []
none-after k m [] from all = refl
none-after k m (d ∷ ds) from all =
    let out : contains Forward k d.span ≡ false = ap (λ t. key_le d.span.start k && t) (not_lt_of_le d.span.end k (le_trans d.span.end m k all.0 from)) ∙ and-false (key_le d.span.start k) in
    ap (λ t. cond t (d ∷ containing k ds) (containing k ds)) out ∙ none-after k m ds from all.1

-- ranges from m on keep their own, where what was made ends there
pub newest-after : (ds made : List RangeDesc) (m n : List ℕ) (rs : List Range) → key_le m n ≡ true → Each (λ d. key_le d.span.end m ≡ true) made → Tiles n rs → Each (IsNewest ds) rs → Each (IsNewest (ds ++ made)) rs
newest-after ds made m n [] from ends t new = tt
newest-after ds made m n (r ∷ rs) from ends t new =
    let start : key_le m (start_of r) ≡ true = subst (λ z. key_le m z ≡ true) (sym t.0.begins) from in (
      newest-beside ds made r new.0 (λ k h. none-after k m made (le_trans m (start_of r) k start (and_first _ _ h)) ends),
      newest-after ds made m (end_of r) rs (le_trans m n (end_of r) from (le_of_lt n (end_of r) t.0.some)) ends t.1 new.1,
    )

-- ---- ids

greatest-less : (p : RangeDesc → Bool) (ds : List RangeDesc) → greatest_id (filter p ds) ≤ greatest_id ds
greatest-less p [] = omega arith
greatest-less p (d ∷ ds) =
    let rest : greatest_id (filter p ds) ≤ greatest_id ds = greatest-less p ds in
    elim (p d) as (λ b. greatest_id (cond b (d ∷ filter p ds) (filter p ds)) ≤ greatest_id (d ∷ ds)) [
      | true ↦ omega arith
      | false ↦ omega arith
    ]

last-id : (ds : List RangeDesc) (d : RangeDesc) → last_of ds ≡ Some d → d.id ≤ greatest_id ds
last-id [] d h = cc
last-id (x ∷ xs) d h = elim (last-cases x xs d h) [
  | inl one ↦ subst (λ z. z.id ≤ greatest_id (x ∷ xs)) one.1 (omega arith)
  | inr rest ↦ let below : d.id ≤ greatest_id xs = last-id xs d rest in omega arith
]

pub own-start : (s : List ℕ) (r : Range) → Fits s r → holds_key (start_of r) r ≡ true
own-start s r fits = and_both _ _ (le_itself (start_of r)) (subst (λ z. key_lt z (end_of r) ≡ true) (sym fits.begins) fits.some)

-- no range has an id above the greatest
pub id-known : (ds : List RangeDesc) (s : List ℕ) (r : Range) → Fits s r → IsNewest ds r → r.info.desc.id ≤ greatest_id ds
id-known ds s r fits new =
    let among : r.info.desc.id ≤ greatest_id (containing (start_of r) ds) = last-id (containing (start_of r) ds) r.info.desc (new (start_of r) (own-start s r fits)) in
    let less : greatest_id (containing (start_of r) ds) ≤ greatest_id ds = greatest-less (λ d. contains Forward (start_of r) d.span) ds in
    omega (arith, among, less)
