-- The next items at a key: which of the batch's a piece's items there are.
use Rattle.std.proofs.Common.{◌≡◌, ℕ, true, false, cond, inl, inr, List, [], ◌∷◌, ◌++◌, map, refl, sym, ap, ◌∙◌, subst, append_assoc}
use Rattle.ds_kind.specs.declared.batch.Item.{Item}
use Rattle.ds_rule.specs.Journal.{Accepted}
use Rattle.ds_rule.specs.Pieces.{Each, IsCut, IsOneOf, position_of}
use Rattle.ds_rule.specs.Turn.{items_at, speaks_of}
use Rattle.ds_rule.proofs.Eachs.{each-left, each-right}
use Rattle.ds_cell.specs.Content.{Rises}
use Rattle.ds_turn.specs.Course.{ByBatch}
use Rattle.ds_turn.specs.Progress.{GoesTo}
use Rattle.ds_turn.proofs.Progress.{cuts_go_on}
use Rattle.ds_mean.specs.InTurn.{AreFirst, items_of, places_at}
use Rattle.ds_mean.proofs.Stilling.{each-at}

-- ---- lists

pub map-both : {X Y : Type 0} (f : X → Y) (xs ys : List X) → map f (xs ++ ys) ≡ map f xs ++ map f ys
map-both f [] ys = refl
map-both f (x ∷ xs) ys = ap (λ zs. f x ∷ zs) (map-both f xs ys)

first-two : (p q : ℕ) (ps qs : List ℕ) → ◌≡◌ {A = List ℕ} (p ∷ ps) (q ∷ qs) → (p ≡ q) × (ps ≡ qs)
first-two p q ps qs h = let a : p ≡ q = cc in let b : ps ≡ qs = cc in (a, b)

-- what follows the same front
pub after-front : (gs xs ys : List ℕ) → gs ++ xs ≡ gs ++ ys → xs ≡ ys
after-front [] xs ys h = h
after-front (g ∷ gs) xs ys h = after-front gs xs ys (first-two g g (gs ++ xs) (gs ++ ys) h).1

each-more : (P Q : Item → Type 0) (xs : List Item) → ((i : Item) → P i → Q i) → Each P xs → Each Q xs
each-more P Q [] more all = tt
each-more P Q (x ∷ xs) more all = (more x all.0, each-more P Q xs more all.1)

pub each-itself : (items : List Item) → Each (λ i. IsOneOf i items) items
each-itself [] = tt
each-itself (x ∷ xs) = (inl refl, each-more (λ i. IsOneOf i xs) (λ i. IsOneOf i (x ∷ xs)) xs (λ i one. inr one) (each-itself xs))

-- ---- at one key

pub held-both : (k : List ℕ) (xs ys : List Item) → items_at k (xs ++ ys) ≡ items_at k xs ++ items_at k ys
held-both k [] ys = refl
held-both k (x ∷ xs) ys =
    elim (speaks_of k x) as (λ t. cond t (x ∷ items_at k (xs ++ ys)) (items_at k (xs ++ ys)) ≡ cond t (x ∷ items_at k xs) (items_at k xs) ++ items_at k ys) [
      | true ↦ ap (λ zs. x ∷ zs) (held-both k xs ys)
      | false ↦ held-both k xs ys
    ]

pub places-both : (k : List ℕ) (xs ys : List Item) → places_at k (xs ++ ys) ≡ places_at k xs ++ places_at k ys
places-both k xs ys = ap (map position_of) (held-both k xs ys) ∙ map-both position_of (items_at k xs) (items_at k ys)

-- as many of the next items as these are, and the others
abbrev pub front_of : List Item → List Item → List Item
front_of [] rest = []
front_of (j ∷ js) [] = []
front_of (j ∷ js) (i ∷ rest) = i ∷ front_of js rest

abbrev pub back_of : List Item → List Item → List Item
back_of [] rest = rest
back_of (j ∷ js) [] = []
back_of (j ∷ js) (i ∷ rest) = back_of js rest

pub front-back : (js rest : List Item) → rest ≡ front_of js rest ++ back_of js rest
front-back [] rest = refl
front-back (j ∷ js) [] = refl
front-back (j ∷ js) (i ∷ rest) = ap (λ zs. i ∷ zs) (front-back js rest)

pub front-places : (js rest : List Item) (more : List ℕ) → map position_of rest ≡ map position_of js ++ more → map position_of (front_of js rest) ≡ map position_of js
front-places [] rest more e = refl
front-places (j ∷ js) [] more e = cc
front-places (j ∷ js) (i ∷ rest) more e =
    let both = first-two i.pos j.pos (map position_of rest) (map position_of js ++ more) e in
    ap (λ n. n ∷ map position_of (front_of js rest)) both.0 ∙ ap (λ ns. j.pos ∷ ns) (front-places js rest more both.1)

-- what was accepted at each key is what acted there
abbrev pub Reached : List Accepted → (List ℕ → List Item) → Type 0
Reached got acted = (k : List ℕ) → map position_of (acted k) ≡ places_at k (items_of got)

-- the items that follow begin at the positions of the piece's
pub comes-next : (items js acted rest : List Item) (got : List Accepted) (k : List ℕ) → items_at k items ≡ acted ++ rest → map position_of acted ≡ places_at k (items_of got) → AreFirst items (items_of got ++ js)
    → (more : List ℕ) × (map position_of rest ≡ places_at k js ++ more)
comes-next items js acted rest got k all reached first =
    let f = first k in
    let there : map position_of acted ++ map position_of rest ≡ map position_of acted ++ (places_at k js ++ f.0) =
    sym (map-both position_of acted rest) ∙ ap (map position_of) (sym all) ∙ f.1 ∙ ap (λ ns. ns ++ f.0) (places-both k (items_of got) js)
    ∙ append_assoc (places_at k (items_of got)) (places_at k js) f.0 ∙ ap (λ ns. ns ++ (places_at k js ++ f.0)) (sym reached)
    in (f.0, after-front (map position_of acted) (map position_of rest) (places_at k js ++ f.0) there)

-- so the piece's items act there in their turn
pub goes-next : (items js acted rest : List Item) (got : List Accepted) (k : List ℕ) → Rises position_of items → Each (IsCut items) js → items_at k items ≡ acted ++ rest → map position_of acted ≡ places_at k (items_of got) → AreFirst items (items_of got ++ js)
    → GoesTo (map ByBatch (items_at k js)) acted rest (acted ++ front_of (items_at k js) rest)
goes-next items js acted rest got k rises cuts all reached first =
    let next = comes-next items js acted rest got k all reached first in
    let zs = items_at k js in
    let held : Each (λ i. IsOneOf i items) (acted ++ rest) = subst (Each (λ i. IsOneOf i items)) all (each-at (λ i. IsOneOf i items) k items (each-itself items)) in
    let of-rest : Each (λ i. IsOneOf i items) (front_of zs rest ++ back_of zs rest) = subst (Each (λ i. IsOneOf i items)) (front-back zs rest) (each-right (λ i. IsOneOf i items) acted rest held) in
    subst (λ us. GoesTo (map ByBatch zs) acted us (acted ++ front_of zs rest)) (sym (front-back zs rest))
    (cuts_go_on items zs acted (front_of zs rest) (back_of zs rest) rises (each-at (IsCut items) k js cuts)
    (each-left (λ i. IsOneOf i items) (front_of zs rest) (back_of zs rest) of-rest) (sym (front-places zs rest next.0 next.1)))

-- and are reached then
pub reached-next : (items js acted rest : List Item) (got : List Accepted) (k : List ℕ) → items_at k items ≡ acted ++ rest → map position_of acted ≡ places_at k (items_of got) → AreFirst items (items_of got ++ js)
    → map position_of (acted ++ front_of (items_at k js) rest) ≡ places_at k (items_of got ++ js)
reached-next items js acted rest got k all reached first =
    let next = comes-next items js acted rest got k all reached first in
    map-both position_of acted (front_of (items_at k js) rest)
    ∙ ap (λ ns. ns ++ map position_of (front_of (items_at k js) rest)) reached
    ∙ ap (λ ns. places_at k (items_of got) ++ ns) (front-places (items_at k js) rest next.0 next.1)
    ∙ sym (places-both k (items_of got) js)
