-- Blocks that are taken from their places, dropped and begun with, and parts one after another.
use Rattle.std.proofs.Common.{◌≡◌, ℕ, ◌<◌, List, [], ◌∷◌, ◌++◌, map, length, get_or, refl, sym, ap, ◌∙◌, inl, inr}
use Rattle.std.proofs.lemmas.List.Sorted.{IsPermutation-sym, IsPermutation-middle, IsPermutation-remove}
use Rattle.std.specs.List.{flat_map, remove}
use Rattle.ds_kind.specs.declared.batch.Item.{Item}
use Rattle.ds_cover.specs.Coverage.{positions_at, AllNone, Shares, Covered, AllCovered}
use Rattle.ds_cover.proofs.Sharing.{stays-covered, covers-all, positions-append}

-- a part begins as one block
pub covered-first : (items : List Item) → Covered items (items ∷ [])
covered-first items k = inl (refl, tt)

-- a block comes to the front, from the middle or from a place in a vector, and goes back
pub covered-front : (items : List Item) (xs ys : List (List Item)) (b : List Item) → Covered items (xs ++ b ∷ ys) → Covered items (b ∷ (xs ++ ys))
covered-front items xs ys b h = stays-covered items _ _ (IsPermutation-middle xs b ys) h

pub covered-back : (items : List Item) (xs ys : List (List Item)) (b : List Item) → Covered items (b ∷ (xs ++ ys)) → Covered items (xs ++ b ∷ ys)
covered-back items xs ys b h = stays-covered items _ _ (IsPermutation-sym _ _ (IsPermutation-middle xs b ys)) h

pub covered-taken : (items : List Item) (blocks : List (List Item)) (i : ℕ) (b : List Item) → i < length blocks → b ≡ get_or blocks i b → Covered items blocks → Covered items (b ∷ remove blocks i)
covered-taken items blocks i b low is h = stays-covered items _ _ (IsPermutation-remove blocks i b low is) h

-- a block with no items may go, and come

none-shares : (ws : List ℕ) (bs : List (List ℕ)) → ws ≡ [] → AllNone bs → Shares ws bs
none-shares ws [] e h = e
none-shares ws (b ∷ bs) e h = inr (h.0, none-shares ws bs e h.1)

pub covered-drop : (items : List Item) (blocks : List (List Item)) → Covered items ([] ∷ blocks) → Covered items blocks
covered-drop items blocks h k =
    elim (h k) [
      | inl g ↦ none-shares (positions_at k items) (map (positions_at k) blocks) (sym g.0) g.1
      | inr g ↦ g.1
    ]

-- from any place
pub drops-empty : (items : List Item) (xs ys : List (List Item)) → Covered items (xs ++ [] ∷ ys) → Covered items (xs ++ ys)
drops-empty items xs ys h = covered-drop items (xs ++ ys) (covered-front items xs ys [] h)

pub covered-more : (items : List Item) (blocks : List (List Item)) → Covered items blocks → Covered items ([] ∷ blocks)
covered-more items blocks h k = inr (refl, h k)

-- parts

pub join-append : (xs ys : List (List Item)) → flat_map (λ b. b) (xs ++ ys) ≡ flat_map (λ b. b) xs ++ flat_map (λ b. b) ys
join-append [] ys = refl
join-append (x ∷ xs) ys = ap (λ z. x ++ z) (join-append xs ys) ∙ assoc x (flat_map (λ b. b) xs) (flat_map (λ b. b) ys)
  where
    assoc : (a b c : List Item) → a ++ (b ++ c) ≡ (a ++ b) ++ c
    assoc [] b c = refl
    assoc (x ∷ a) b c = ap (λ z. x ∷ z) (assoc a b c)

-- what the blocks of all parts do at a key, in order, is what the parts do there, in order
pub all-covered : (parts : List (List Item)) (work : List (List (List Item))) → AllCovered parts work → (k : List ℕ) → positions_at k (flat_map (λ b. b) (flat_map (λ w. w) work)) ≡ positions_at k (flat_map (λ p. p) parts)
all-covered [] [] h k = refl
all-covered [] (w ∷ ws) h k = absurd h
all-covered (p ∷ ps) [] h k = absurd h
all-covered (p ∷ ps) (w ∷ ws) h k =
    ap (positions_at k) (join-append w (flat_map (λ w. w) ws))
    ∙ positions-append k (flat_map (λ b. b) w) (flat_map (λ b. b) (flat_map (λ w. w) ws))
    ∙ ap (λ z. z ++ positions_at k (flat_map (λ b. b) (flat_map (λ w. w) ws))) (covers-all p w h.0 k)
    ∙ ap (λ z. positions_at k p ++ z) (all-covered ps ws h.1 k)
    ∙ sym (positions-append k p (flat_map (λ q. q) ps))
