-- What is covered by blocks of cuts gathers to chains.
use Rattle.std.proofs.Common.{◌≡◌, ℕ, ◌+◌, ◌<◌, true, false, cond, List, [], ◌∷◌, filter, refl, sym, ap, ◌∙◌, subst, inl, inr, arith, ◌==◌, eq-eqb, ne_eqb}
use Rattle.std.specs.List.{flat_map}
use Rattle.ds_base.specs.Order.{key_le}
use Rattle.ds_kind.specs.Request.{span_of}
use Rattle.ds_kind.specs.declared.batch.Item.{Item}
use Rattle.ds_cover.specs.Items.{item_pos, item_span, is_at, AllSome, AllAfter, PositionsRise, IsOneOf}
use Rattle.ds_cover.specs.Coverage.{holds_at, positions_at, Covered}
use Rattle.ds_cover.specs.Chains.{one_if, times_held, by_start, Chain}
use Rattle.ds_cover.proofs.Tests.{zero_plus}
use Rattle.ds_cover.proofs.Sharing.{covers-all}
use Rattle.ds_cover.proofs.Chaining.{once-chain}

-- how often a position stands among these
abbrev times : ℕ → List ℕ → ℕ
times n [] = 0
times n (w ∷ ws) = one_if (w == n) + times n ws

-- an item at a position counts where it holds the key
times-at : (n : ℕ) (k : List ℕ) (xs : List Item) → times_held item_span k (filter (is_at n) xs) ≡ times n (positions_at k xs)
times-at n k [] = refl
times-at n k (x ∷ xs) =
    let rest = filter (is_at n) xs in
    elim (is_at n x) as (λ t. is_at n x ≡ t → times_held item_span k (cond t (x ∷ rest) rest) ≡ times n (cond (holds_at k x) (x.pos ∷ positions_at k xs) (positions_at k xs))) [
      | true ↦ λ e.
          elim (holds_at k x) as (λ h. one_if h + times_held item_span k rest ≡ times n (cond h (x.pos ∷ positions_at k xs) (positions_at k xs))) [
            | true ↦ ap (λ m. 1 + m) (times-at n k xs) ∙ ap (λ t. one_if t + times n (positions_at k xs)) (sym e)
            | false ↦ zero_plus _ ∙ times-at n k xs
          ]
      | false ↦ λ e.
          elim (holds_at k x) as (λ h. times_held item_span k rest ≡ times n (cond h (x.pos ∷ positions_at k xs) (positions_at k xs))) [
            | true ↦ times-at n k xs ∙ sym (zero_plus _) ∙ ap (λ t. one_if t + times n (positions_at k xs)) (sym e)
            | false ↦ times-at n k xs
          ]
    ] refl

times-none : (n : ℕ) (k : List ℕ) (xs : List Item) → AllAfter item_pos n xs → times n (positions_at k xs) ≡ 0
times-none n k [] after = refl
times-none n k (x ∷ xs) after =
    elim (holds_at k x) as (λ h. times n (cond h (x.pos ∷ positions_at k xs) (positions_at k xs)) ≡ 0) [
      | true ↦ ap (λ t. one_if t + times n (positions_at k xs)) (ne_eqb x.pos n (λ e. let low : n < x.pos = after.0 in omega (arith, e, low))) ∙ ap (λ m. 0 + m) (times-none n k xs after.1)
      | false ↦ times-none n k xs after.1
    ]

pub after-in : (n : ℕ) (xs : List Item) → AllAfter item_pos n xs → (i : Item) → IsOneOf i xs → n < i.pos
after-in n [] after i h = absurd h
after-in n (x ∷ xs) after i h =
    elim h [
      | inl e ↦ subst (λ y. n < y.pos) (sym e) after.0
      | inr g ↦ after-in n xs after.1 i g
    ]

times-one : (k : List ℕ) (xs : List Item) → PositionsRise xs → (i : Item) → IsOneOf i xs → times i.pos (positions_at k xs) ≡ one_if (holds_at k i)
times-one k [] rise i h = absurd h
times-one k (x ∷ xs) rise i h =
    elim h [
      | inl e ↦ subst (λ y. times y.pos (positions_at k (x ∷ xs)) ≡ one_if (holds_at k y)) (sym e) (first x rise.0)
      | inr g ↦
          elim (holds_at k x) as (λ t. times i.pos (cond t (x.pos ∷ positions_at k xs) (positions_at k xs)) ≡ one_if (holds_at k i)) [
            | true ↦ ap (λ t. one_if t + times i.pos (positions_at k xs)) (ne_eqb x.pos i.pos (λ e. let low : x.pos < i.pos = after-in x.pos xs rise.0 i g in omega (arith, e, low))) ∙ zero_plus _ ∙ times-one k xs rise.1 i g
            | false ↦ times-one k xs rise.1 i g
          ]
    ]
  where
    first : (y : Item) → AllAfter item_pos y.pos xs → times y.pos (cond (holds_at k y) (y.pos ∷ positions_at k xs) (positions_at k xs)) ≡ one_if (holds_at k y)
    first y after =
        elim (holds_at k y) as (λ t. times y.pos (cond t (y.pos ∷ positions_at k xs) (positions_at k xs)) ≡ one_if t) [
          | true ↦ ap (λ t. one_if t + times y.pos (positions_at k xs)) (eq-eqb y.pos y.pos refl) ∙ ap (λ m. 1 + m) (times-none y.pos k xs after)
          | false ↦ times-none y.pos k xs after
        ]

some-filter : (n : ℕ) (xs : List Item) → AllSome item_span xs → AllSome item_span (filter (is_at n) xs)
some-filter n [] all = tt
some-filter n (x ∷ xs) all =
    elim (is_at n x) as (λ t. AllSome item_span (cond t (x ∷ filter (is_at n) xs) (filter (is_at n) xs))) [
      | true ↦ (all.0, some-filter n xs all.1)
      | false ↦ some-filter n xs all.1
    ]

pub covered-chain : (items : List Item) (blocks : List (List Item)) → PositionsRise items → Covered items blocks → AllSome item_span (flat_map (λ b. b) blocks) → (i : Item) → IsOneOf i items → key_le (span_of i.request).start (span_of i.request).end ≡ true → Chain item_span (span_of i.request).start (span_of i.request).end (by_start item_span (filter (is_at i.pos) (flat_map (λ b. b) blocks)))
covered-chain items blocks rise cov some i there le =
    once-chain item_span (span_of i.request).start (span_of i.request).end (filter (is_at i.pos) (flat_map (λ b. b) blocks))
    (some-filter i.pos (flat_map (λ b. b) blocks) some) le
    (λ k. times-at i.pos k (flat_map (λ b. b) blocks) ∙ ap (times i.pos) (covers-all items blocks cov k) ∙ times-one k items rise i there)
