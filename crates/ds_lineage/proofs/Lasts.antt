-- The last descriptor that contains a key: which one it is, and what one more descriptor changes.
use Rattle.std.proofs.Common.{◌≡◌, ℕ, zero, suc, Bool, true, false, cond, List, [], ◌∷◌, ◌++◌, Some, refl, sym, ap, ◌∙◌, subst, length, take, reverse}
use Rattle.std.specs.List.{find, slice_get}
use Rattle.std.proofs.lemmas.List.{reverse-append}
use Rattle.ds_base.specs.declared.value.Dir.TheVariants.{Forward}
use Rattle.ds_base.proofs.SmallFacts.{some_same}
use Rattle.ds_desc.specs.Contains.{contains}
use Rattle.ds_desc.specs.Descs.{back_from, containing}
use Rattle.ds_desc.specs.declared.desc.RangeDesc.{RangeDesc}
use Rattle.ds_lineage.specs.Last.{IsLastAt}
use Rattle.ds_lineage.specs.Nodes.{ContainsAt}

-- ---- which one it is

pub last-stands : (ds : List RangeDesc) (k : List ℕ) (i : ℕ) → IsLastAt ds k i → ContainsAt ds k i
last-stands [] k i h = absurd h
last-stands (d ∷ ds) k zero h = record { one = d; there = refl; holds = h.0 }
last-stands (d ∷ ds) k (suc i) h =
    let rest : ContainsAt ds k i = last-stands ds k i h in record { one = rest.one; there = rest.there; holds = rest.holds }

-- those after it don't contain the key
pub last-cut : (ds : List RangeDesc) (k : List ℕ) (i : ℕ) → IsLastAt ds k i → containing k ds ≡ containing k (take (suc i) ds)
last-cut [] k i h = absurd h
last-cut (d ∷ ds) k zero h = ap (λ zs. cond (contains Forward k d.span) (d ∷ zs) zs) h.1
last-cut (d ∷ ds) k (suc i) h = ap (λ zs. cond (contains Forward k d.span) (d ∷ zs) zs) (last-cut ds k i h)

up-to : (ds : List RangeDesc) (k : List ℕ) (i : ℕ) (e : RangeDesc) → slice_get ds i ≡ Some e → contains Forward k e.span ≡ true → containing k (take (suc i) ds) ≡ containing k (take i ds) ++ e ∷ []
up-to [] k i e there holds = cc
up-to (d ∷ ds) k zero e there holds =
    subst (λ z. cond (contains Forward k z.span) (z ∷ []) [] ≡ e ∷ []) (sym (some_same d e there))
    (ap (λ t. cond t (e ∷ []) []) holds)
up-to (d ∷ ds) k (suc i) e there holds =
    ap (λ zs. cond (contains Forward k d.span) (d ∷ zs) zs) (up-to ds k i e there holds)
    ∙ kept (contains Forward k d.span) d (containing k (take i ds)) (e ∷ [])
  where
    kept : (t : Bool) (x : RangeDesc) (xs ys : List RangeDesc) → cond t (x ∷ (xs ++ ys)) (xs ++ ys) ≡ cond t (x ∷ xs) xs ++ ys
    kept true x xs ys = refl
    kept false x xs ys = refl

-- up to one that contains the key, backwards, that one is the first
pub backwards : (ds : List RangeDesc) (k : List ℕ) (i : ℕ) (e : RangeDesc) → slice_get ds i ≡ Some e → contains Forward k e.span ≡ true → reverse (containing k (take (suc i) ds)) ≡ e ∷ reverse (containing k (take i ds))
backwards ds k i e there holds =
    ap reverse (up-to ds k i e there holds) ∙ reverse-append (containing k (take i ds)) (e ∷ [])

own : (ds : List RangeDesc) (k : List ℕ) (i : ℕ) (d : RangeDesc) → slice_get ds i ≡ Some d → IsLastAt ds k i → reverse (containing k ds) ≡ d ∷ reverse (containing k (take i ds))
own ds k i d there h =
    let it : ContainsAt ds k i = last-stands ds k i h in
    let same : it.one ≡ d = some_same it.one d (sym it.there ∙ there) in
    ap reverse (last-cut ds k i h)
    ∙ backwards ds k i d there (subst (λ z. contains Forward k z.span ≡ true) same it.holds)

-- it stands none back
pub last-back : (ds : List RangeDesc) (k : List ℕ) (i : ℕ) (d : RangeDesc) → slice_get ds i ≡ Some d → IsLastAt ds k i → back_from 0 (containing k ds) ≡ Some d
last-back ds k i d there h = ap (λ zs. slice_get zs 0) (own ds k i d there h)

-- and it is the last of those that contain the key, as a search from the end finds it
pub last-found : (ds : List RangeDesc) (k : List ℕ) (i : ℕ) (d : RangeDesc) → slice_get ds i ≡ Some d → IsLastAt ds k i → find (λ _. true) (reverse (containing k ds)) ≡ Some d
last-found ds k i d there h = ap (find (λ _. true)) (own ds k i d there h)

-- ---- one descriptor more

-- one that doesn't contain the key changes nothing there
pub none-kept : (ds : List RangeDesc) (k : List ℕ) (e : RangeDesc) → contains Forward k e.span ≡ false → containing k (ds ++ e ∷ []) ≡ containing k ds
none-kept [] k e out = ap (λ t. cond t (e ∷ []) []) out
none-kept (d ∷ ds) k e out = ap (λ zs. cond (contains Forward k d.span) (d ∷ zs) zs) (none-kept ds k e out)

pub last-kept : (ds : List RangeDesc) (k : List ℕ) (i : ℕ) (e : RangeDesc) → contains Forward k e.span ≡ false → IsLastAt ds k i → IsLastAt (ds ++ e ∷ []) k i
last-kept [] k i e out h = absurd h
last-kept (d ∷ ds) k zero e out h = (h.0, none-kept ds k e out ∙ h.1)
last-kept (d ∷ ds) k (suc i) e out h = last-kept ds k i e out h

-- one that contains the key is the last
pub last-new : (ds : List RangeDesc) (k : List ℕ) (e : RangeDesc) → contains Forward k e.span ≡ true → IsLastAt (ds ++ e ∷ []) k (length ds)
last-new [] k e into = (into, refl)
last-new (d ∷ ds) k e into = last-new ds k e into

-- each stands where it stood, and the new one behind them
pub there-kept : (ds : List RangeDesc) (i : ℕ) (d e : RangeDesc) → slice_get ds i ≡ Some d → slice_get (ds ++ e ∷ []) i ≡ Some d
there-kept [] i d e h = cc
there-kept (x ∷ ds) zero d e h = h
there-kept (x ∷ ds) (suc i) d e h = there-kept ds i d e h

pub there-new : (ds : List RangeDesc) (e : RangeDesc) → slice_get (ds ++ e ∷ []) (length ds) ≡ Some e
there-new [] e = refl
there-new (x ∷ ds) e = there-new ds e
