-- Facts on blocks of which one has all and the others none.
use Rattle.std.proofs.Common.{◌≡◌, ℕ, true, false, cond, List, [], ◌∷◌, ◌++◌, map, length, refl, sym, ap, ◌∙◌, ◌⊎◌, inl, inr, arith}
use Rattle.std.proofs.lemmas.List.Elements.{All-nil, All-cons, All-head, All-tail}
use Rattle.std.proofs.lemmas.List.Sorted.{All-permutation, sum_by-IsPermutation, IsPermutation-map}
use Rattle.std.proofs.lemmas.List.Sums.{sum_by-cons}
use Rattle.std.specs.List.{All, flat_map, sum_by}
use Rattle.std.specs.List.Sorted.{IsPermutation}
use Rattle.std.proofs.lemmas.List.{nil_from_length}
use Rattle.ds_kind.specs.declared.batch.Item.{Item}
use Rattle.ds_cover.specs.Coverage.{holds_at, positions_at, AllNone, Shares, Covered}
use Rattle.ds_cover.specs.Laws.{joined}

-- the same, told by a fact of each block and the sum of their lengths: these don't see the order

abbrev AllOrNone : List ℕ → List ℕ → Type 0
AllOrNone ws b = (b ≡ ws) ⊎ (b ≡ [])

none-each : (ws : List ℕ) (bs : List (List ℕ)) → AllNone bs → All (AllOrNone ws) bs
none-each ws [] h = All-nil (AllOrNone ws)
none-each ws (b ∷ bs) h = All-cons (AllOrNone ws) b bs (inr h.0) (none-each ws bs h.1)

none-sum : (bs : List (List ℕ)) → AllNone bs → sum_by (λ b. length b) bs ≡ 0
none-sum [] h = refl
none-sum (b ∷ bs) h =
    let e : length b ≡ 0 = ap length h.0 in
    omega (arith, sum_by-cons (λ b. length b) b bs, e, none-sum bs h.1)

shares-each : (ws : List ℕ) (bs : List (List ℕ)) → Shares ws bs → All (AllOrNone ws) bs
shares-each ws [] h = All-nil (AllOrNone ws)
shares-each ws (b ∷ bs) h =
    elim h [
      | inl g ↦ All-cons (AllOrNone ws) b bs (inl g.0) (none-each ws bs g.1)
      | inr g ↦ All-cons (AllOrNone ws) b bs (inr g.0) (shares-each ws bs g.1)
    ]

shares-sum : (ws : List ℕ) (bs : List (List ℕ)) → Shares ws bs → sum_by (λ b. length b) bs ≡ length ws
shares-sum ws [] h = ap length (sym h)
shares-sum ws (b ∷ bs) h =
    elim h [
      | inl g ↦ let e : length b ≡ length ws = ap length g.0 in omega (arith, sum_by-cons (λ b. length b) b bs, e, none-sum bs g.1)
      | inr g ↦ let e : length b ≡ 0 = ap length g.0 in omega (arith, sum_by-cons (λ b. length b) b bs, e, shares-sum ws bs g.1)
    ]

all-none : (bs : List (List ℕ)) → sum_by (λ b. length b) bs ≡ 0 → AllNone bs
all-none [] h = tt
all-none (b ∷ bs) h =
    (nil_from_length b (omega (arith, h, sum_by-cons (λ b. length b) b bs)), all-none bs (omega (arith, h, sum_by-cons (λ b. length b) b bs)))

shares-back : (ws : List ℕ) (bs : List (List ℕ)) → All (AllOrNone ws) bs → sum_by (λ b. length b) bs ≡ length ws → Shares ws bs
shares-back ws [] each h = nil_from_length ws (sym h)
shares-back ws (b ∷ bs) each h =
    elim (All-head (AllOrNone ws) b bs each) [
      | inl e ↦
          let l : length b ≡ length ws = ap length e in
          inl (e, all-none bs (omega (arith, h, l, sum_by-cons (λ b. length b) b bs)))
      | inr e ↦
          let l : length b ≡ 0 = ap length e in
          inr (e, shares-back ws bs (All-tail (AllOrNone ws) b bs each) (omega (arith, h, l, sum_by-cons (λ b. length b) b bs)))
    ]

pub shares-permutation : (ws : List ℕ) (xs ys : List (List ℕ)) → IsPermutation xs ys → Shares ws xs → Shares ws ys
shares-permutation ws xs ys p h =
    shares-back ws ys (All-permutation (AllOrNone ws) xs ys p (shares-each ws xs h))
    (sum_by-IsPermutation (λ b. length b) xs ys p ∙ shares-sum ws xs h)

pub stays-covered : (items : List Item) (xs ys : List (List Item)) → IsPermutation xs ys → Covered items xs → Covered items ys
stays-covered items xs ys p h k = shares-permutation (positions_at k items) _ _ (IsPermutation-map (positions_at k) xs ys p) (h k)

-- put together

join-none : (bs : List (List ℕ)) → AllNone bs → flat_map (λ b. b) bs ≡ []
join-none [] h = refl
join-none (b ∷ bs) h = ap (λ z. z ++ flat_map (λ b. b) bs) h.0 ∙ join-none bs h.1

append_nil : (xs : List ℕ) → xs ++ [] ≡ xs
append_nil [] = refl
append_nil (x ∷ xs) = ap (λ zs. x ∷ zs) (append_nil xs)

pub shares-join : (ws : List ℕ) (bs : List (List ℕ)) → Shares ws bs → flat_map (λ b. b) bs ≡ ws
shares-join ws [] h = sym h
shares-join ws (b ∷ bs) h =
    elim h [
      | inl g ↦ ap (λ z. z ++ flat_map (λ b. b) bs) g.0 ∙ ap (λ z. ws ++ z) (join-none bs g.1) ∙ append_nil ws
      | inr g ↦ ap (λ z. z ++ flat_map (λ b. b) bs) g.0 ∙ shares-join ws bs g.1
    ]

pub positions-append : (k : List ℕ) (xs ys : List Item) → positions_at k (xs ++ ys) ≡ positions_at k xs ++ positions_at k ys
positions-append k [] ys = refl
positions-append k (x ∷ xs) ys =
    elim (holds_at k x) as (λ t. cond t (x.pos ∷ positions_at k (xs ++ ys)) (positions_at k (xs ++ ys)) ≡ cond t (x.pos ∷ positions_at k xs) (positions_at k xs) ++ positions_at k ys) [
      | true ↦ ap (λ zs. x.pos ∷ zs) (positions-append k xs ys)
      | false ↦ positions-append k xs ys
    ]

pub positions-join : (k : List ℕ) (blocks : List (List Item)) → positions_at k (joined blocks) ≡ flat_map (λ b. b) (map (positions_at k) blocks)
positions-join k [] = refl
positions-join k (b ∷ bs) = positions-append k b (flat_map (λ b. b) bs) ∙ ap (λ z. positions_at k b ++ z) (positions-join k bs)

pub covers-all : (items : List Item) (blocks : List (List Item)) → Covered items blocks → (k : List ℕ) → positions_at k (joined blocks) ≡ positions_at k items
covers-all items blocks h k = positions-join k blocks ∙ shares-join (positions_at k items) _ (h k)
