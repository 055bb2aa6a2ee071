-- Under a limit the same holds of the requests with their resume spans cut off.
use Rattle.std.proofs.Common.{◌≡◌, ℕ, Bool, true, false, cond, ◌&&◌, List, [], ◌∷◌, ◌++◌, filter, refl, sym, ap, ◌∙◌}
use Rattle.std.specs.List.{flat_map}
use Rattle.ds_base.specs.Order.{Extent, key_lt}
use Rattle.ds_kind.specs.Request.{cut_to, span_of}
use Rattle.ds_kind.specs.declared.batch.Item.{Item}
use Rattle.ds_cover.specs.Coverage.{Covered, holds_at, positions_at}
use Rattle.ds_cover.specs.Limits.{cut_each, KeepsTaken, NoneTaken}
use Rattle.ds_cover.proofs.Cutting.{cut-holds, none-kept}
use Rattle.ds_cover.proofs.Moving.{join-append}
use Rattle.ds_cover.proofs.Sharing.{covers-all, positions-append}

-- what is kept at a key

step : (taken : ℕ → List ℕ → Bool) (k : List ℕ) (h : Bool) (n : ℕ) (xs ys : List ℕ) → ys ≡ filter (λ m. taken m k) xs → cond (h && taken n k) (n ∷ ys) ys ≡ filter (λ m. taken m k) (cond h (n ∷ xs) xs)
step taken k true n xs ys e = ap (λ zs. cond (taken n k) (n ∷ zs) zs) e
step taken k false n xs ys e = e

pub each-positions : (taken : ℕ → List ℕ → Bool) (g : Item → Extent → Extent) (items : List Item) → KeepsTaken taken g items → (k : List ℕ) → positions_at k (cut_each g items) ≡ filter (λ m. taken m k) (positions_at k items)
each-positions taken g [] keeps k = refl
each-positions taken g (i ∷ is) keeps k =
    let x = span_of i.request in
    let y = g i x in
    let more = cut_each g is in
    let cut = record i { request = cut_to y.start y.end i.request } in
    elim (key_lt y.start y.end) as (λ t. key_lt y.start y.end ≡ t → positions_at k (cond t (cut ∷ []) [] ++ more) ≡ filter (λ m. taken m k) (cond (holds_at k i) (i.pos ∷ positions_at k is) (positions_at k is))) [
      | true ↦ λ some.
          ap (λ t. cond t (i.pos ∷ positions_at k more) (positions_at k more)) (cut-holds y (taken i.pos) i.request keeps.0 some k)
          ∙ step taken k (holds_at k i) i.pos (positions_at k is) (positions_at k more) (each-positions taken g is keeps.1 k)
      | false ↦ λ none.
          sym (ap (λ t. cond t (i.pos ∷ positions_at k more) (positions_at k more)) (none-kept y x (taken i.pos) keeps.0 none k))
          ∙ step taken k (holds_at k i) i.pos (positions_at k is) (positions_at k more) (each-positions taken g is keeps.1 k)
    ] refl

none-positions : (taken : ℕ → List ℕ → Bool) (items : List Item) → NoneTaken taken items → (k : List ℕ) → filter (λ m. taken m k) (positions_at k items) ≡ []
none-positions taken [] none k = refl
none-positions taken (i ∷ is) none k =
    sym (step taken k (holds_at k i) i.pos (positions_at k is) [] (sym (none-positions taken is none.1 k)))
    ∙ ap (λ t. cond t (i.pos ∷ []) []) (none.0 k)

filter-append : (test : ℕ → Bool) (xs ys : List ℕ) → filter test (xs ++ ys) ≡ filter test xs ++ filter test ys
filter-append test [] ys = refl
filter-append test (x ∷ xs) ys =
    elim (test x) as (λ t. cond t (x ∷ filter test (xs ++ ys)) (filter test (xs ++ ys)) ≡ cond t (x ∷ filter test xs) (filter test xs) ++ filter test ys) [
      | true ↦ ap (λ zs. x ∷ zs) (filter-append test xs ys)
      | false ↦ filter-append test xs ys
    ]

append_nil : (xs : List ℕ) → xs ++ [] ≡ xs
append_nil [] = refl
append_nil (x ∷ xs) = ap (λ zs. x ∷ zs) (append_nil xs)

pub taken-covers : (taken : ℕ → List ℕ → Bool) (f g : Item → Extent → Extent) (items : List Item) (accepted left : List (List Item)) → Covered items (accepted ++ left) → KeepsTaken taken f items → KeepsTaken taken g (flat_map (λ b. b) accepted) → NoneTaken taken (flat_map (λ b. b) left) → (k : List ℕ) → positions_at k (cut_each g (flat_map (λ b. b) accepted)) ≡ positions_at k (cut_each f items)
taken-covers taken f g items accepted left cov whole parts none k =
    let test = λ (m : ℕ). taken m k in
    let as_ = flat_map (λ b. b) accepted in
    let ls = flat_map (λ b. b) left in
    each-positions taken g as_ parts k
    ∙ sym (append_nil (filter test (positions_at k as_)))
    ∙ ap (λ zs. filter test (positions_at k as_) ++ zs) (sym (none-positions taken ls none k))
    ∙ sym (filter-append test (positions_at k as_) (positions_at k ls))
    ∙ ap (filter test) (sym (positions-append k as_ ls))
    ∙ ap (λ zs. filter test (positions_at k zs)) (sym (join-append accepted left))
    ∙ ap (filter test) (covers-all items (accepted ++ left) cov k)
    ∙ sym (each-positions taken f items whole k)
