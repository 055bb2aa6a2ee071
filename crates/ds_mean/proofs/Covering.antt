-- From the coverage of parts by blocks to the order in which a batch's pieces come.
use Rattle.std.proofs.Common.{◌≡◌, ℕ, true, false, cond, ◌⊎◌, inl, inr, List, [], ◌∷◌, ◌++◌, map, refl, sym, ap, ◌∙◌, subst, append_assoc}
use Rattle.std.proofs.lemmas.List.{append-nil}
use Rattle.ds_base.specs.Order.{key_le, key_lt}
use Rattle.ds_base.proofs.KeyFacts.{le_itself}
use Rattle.ds_base.proofs.SmallFacts.{and_both}
use Rattle.ds_cover.specs.Coverage.{AllNone, Covered, Shares, positions_at}
use Rattle.ds_cover.specs.Laws.{joined}
use Rattle.ds_cover.proofs.Sharing.{covers-all}
use Rattle.ds_kind.specs.Asks.{has_proper_span}
use Rattle.ds_kind.specs.Request.{span_of}
use Rattle.ds_kind.specs.declared.batch.Item.{Item}
use Rattle.ds_kind.proofs.RequestFacts.{proper_some}
use Rattle.ds_rule.specs.declared.journal.JournalStep.{JournalStep}
use Rattle.ds_rule.specs.declared.journal.JournalStep.TheVariants.{Look, Send}
use Rattle.ds_rule.specs.Journal.{Accepted, Moved, Did, accepted, accepted_by}
use Rattle.ds_rule.specs.Pieces.{position_of}
use Rattle.ds_rule.specs.Turn.{items_at, speaks_of}
use Rattle.ds_mean.specs.Covering.{BlocksAll, BlocksFirst, BlocksInTurn, BlocksLeft, BlocksShare, PartsAll, PartsInTurn, PartsLeft, TurnsAlike, TurnsJoin}
use Rattle.ds_mean.specs.InTurn.{AllInTurn, AreAll, AreFirst, StepInTurn, items_of, places_at}
use Rattle.ds_mean.proofs.Coming.{map-both, places-both}

-- ---- one part

-- the same positions, by a filter or one by one
pub same-places : (k : List ℕ) (items : List Item) → positions_at k items ≡ places_at k items
same-places k [] = refl
same-places k (i ∷ is) =
    elim (speaks_of k i) as (λ t. cond t (i.pos ∷ positions_at k is) (positions_at k is) ≡ map position_of (cond t (i ∷ items_at k is) (items_at k is))) [
      | true ↦ ap (λ ns. i.pos ∷ ns) (same-places k is)
      | false ↦ same-places k is
    ]

joined-both : (xs ys : List (List Item)) → joined (xs ++ ys) ≡ joined xs ++ joined ys
joined-both [] ys = refl
joined-both (x ∷ xs) ys = ap (λ zs. x ++ zs) (joined-both xs ys) ∙ sym (append_assoc x (joined xs) (joined ys))

all-places : (items : List Item) (blocks : List (List Item)) → Covered items blocks → (k : List ℕ) → places_at k items ≡ places_at k (joined blocks)
all-places items blocks c k = sym (same-places k items) ∙ sym (covers-all items blocks c k) ∙ same-places k (joined blocks)

-- the positions at a key, block after block
parted : (items : List Item) (done : List (List Item)) (js : List Item) (rest : List (List Item)) → Covered items (done ++ js ∷ rest) → (k : List ℕ) → places_at k items ≡ places_at k (joined done) ++ (places_at k js ++ places_at k (joined rest))
parted items done js rest c k =
    all-places items (done ++ js ∷ rest) c k ∙ ap (places_at k) (joined-both done (js ∷ rest)) ∙ places-both k (joined done) (js ++ joined rest)
    ∙ ap (λ ns. places_at k (joined done) ++ ns) (places-both k js (joined rest))

pub blocks_first : BlocksFirst
blocks_first items done js rest c k =
    (places_at k (joined rest), parted items done js rest c k ∙ sym (append_assoc (places_at k (joined done)) (places_at k js) (places_at k (joined rest))) ∙ ap (λ ns. ns ++ places_at k (joined rest)) (sym (places-both k (joined done) js)))

pub blocks_in_turn : BlocksInTurn
blocks_in_turn items done js rest others c all = (
  λ k.
      let h = blocks_first items done js rest c k in
      (h.0, h.1 ∙ ap (λ ns. ns ++ h.0) (places-both k (joined done) js ∙ ap (λ ns. ns ++ places_at k js) (all k) ∙ sym (places-both k others js))),
  λ k.
      ap (places_at k) (joined-both done (js ∷ [])) ∙ places-both k (joined done) (js ++ []) ∙ ap (λ zs. places_at k (joined done) ++ places_at k zs) (append-nil js)
      ∙ ap (λ ns. ns ++ places_at k js) (all k) ∙ sym (places-both k others js),
)

pub blocks_all : BlocksAll
blocks_all items done c k = all-places items done c k

no-items : (js : List Item) → map position_of js ≡ [] → js ≡ []
no-items [] h = refl
no-items (j ∷ js) h = cc

-- of blocks that share positions each has all or none
one-shares : (ws b : List ℕ) (xs ys : List (List ℕ)) → Shares ws (xs ++ b ∷ ys) → (b ≡ []) ⊎ (b ≡ ws)
one-shares ws b [] ys (inl all) = inr all.0
one-shares ws b [] ys (inr none) = inl none.0
one-shares ws b (x ∷ xs) ys (inl all) = inl (none-of xs all.1)
  where
    none-of : (xs : List (List ℕ)) → AllNone (xs ++ b ∷ ys) → b ≡ []
    none-of [] h = h.0
    none-of (x ∷ xs) h = none-of xs h.1
one-shares ws b (x ∷ xs) ys (inr none) = one-shares ws b xs ys none.1

pub blocks_share : BlocksShare
blocks_share items done js rest c k =
    elim (one-shares (positions_at k items) (positions_at k js) (map (positions_at k) done) (map (positions_at k) rest) (subst (Shares (positions_at k items)) (map-both (positions_at k) done (js ∷ rest)) (c k))) [
      | inl none ↦ inl (no-items (items_at k js) (sym (same-places k js) ∙ none))
      | inr all ↦ inr (sym (same-places k js) ∙ all ∙ same-places k items)
    ]

first-here : (i : Item) (is : List Item) → has_proper_span i.request ≡ true → places_at (span_of i.request).start (i ∷ is) ≡ i.pos ∷ places_at (span_of i.request).start is
first-here i is proper =
    let k = (span_of i.request).start in
    ap (λ t. map position_of (cond t (i ∷ items_at k is) (items_at k is))) (and_both (key_le k k) (key_lt k (span_of i.request).end) (le_itself k) (proper_some i.request proper))

pub blocks_left : BlocksLeft
blocks_left items done i is rest c proper =
    let k = (span_of i.request).start in
    (k, i.pos, places_at k is ++ places_at k (joined rest), parted items done (i ∷ is) rest c k ∙ ap (λ ns. places_at k (joined done) ++ (ns ++ places_at k (joined rest))) (first-here i is proper))

-- ---- parts, one after another

two-places : (k : List ℕ) (first got : List Accepted) → places_at k (items_of (first ++ got)) ≡ places_at k (items_of first) ++ places_at k (items_of got)
two-places k first got = ap (places_at k) (map-both (λ a. a.item) first got) ∙ places-both k (items_of first) (items_of got)

three-places : (k : List ℕ) (before ps later : List Item) → places_at k (before ++ (ps ++ later)) ≡ places_at k before ++ (places_at k ps ++ places_at k later)
three-places k before ps later = places-both k before (ps ++ later) ∙ ap (λ ns. places_at k before ++ ns) (places-both k ps later)

first-parts : (before ps later : List Item) (first got : List Accepted) (js : List Item) → AreAll before (items_of first) → AreFirst ps (items_of got ++ js) → AreFirst (before ++ (ps ++ later)) (items_of (first ++ got) ++ js)
first-parts before ps later first got js all here k =
    let h = here k in
    let f = places_at k (items_of first) in
    let g = places_at k (items_of got) in
    let j = places_at k js in
    let l = places_at k later in (
      h.0 ++ l,
      three-places k before ps later ∙ ap (λ ns. ns ++ (places_at k ps ++ l)) (all k)
          ∙ ap (λ ns. f ++ (ns ++ l)) (h.1 ∙ ap (λ ns. ns ++ h.0) (places-both k (items_of got) js))
          ∙ ap (λ ns. f ++ ns) (append_assoc (g ++ j) h.0 l ∙ append_assoc g j (h.0 ++ l))
          ∙ sym (append_assoc f g (j ++ (h.0 ++ l)))
          ∙ sym (append_assoc (f ++ g) j (h.0 ++ l))
          ∙ ap (λ ns. ns ++ (h.0 ++ l)) (ap (λ ns. ns ++ j) (sym (two-places k first got)) ∙ sym (places-both k (items_of (first ++ got)) js)),
    )

step-parts : (before ps later : List Item) (first got : List Accepted) (s : JournalStep) → AreAll before (items_of first) → StepInTurn ps got s → StepInTurn (before ++ (ps ++ later)) (first ++ got) s
step-parts before ps later first got (Look k d l) all here = tt
step-parts before ps later first got (Send n p a) all here = first-parts before ps later first got p.items all here

pub parts_in_turn : PartsInTurn
parts_in_turn before ps later first got [] all turns = tt
parts_in_turn before ps later first got (Moved e ∷ hs) all turns = parts_in_turn before ps later first got hs all turns
parts_in_turn before ps later first got (Did s ∷ hs) all turns = (
  step-parts before ps later first got s all turns.0,
  subst (λ zs. AllInTurn (before ++ (ps ++ later)) zs hs) (sym (append_assoc first got (accepted_by s))) (parts_in_turn before ps later first (got ++ accepted_by s) hs all turns.1),
)

pub parts_all : PartsAll
parts_all before ps first got all here k = places-both k before ps ∙ ap (λ ns. ns ++ places_at k ps) (all k) ∙ ap (λ ns. places_at k (items_of first) ++ ns) (here k) ∙ sym (two-places k first got)

pub parts_left : PartsLeft
parts_left before ps later first got all left =
    let k = left.0 in
    let f = places_at k (items_of first) in
    let g = places_at k (items_of got) in
    let l = places_at k later in (
      k,
      left.1,
      left.2 ++ l,
      three-places k before ps later ∙ ap (λ ns. ns ++ (places_at k ps ++ l)) (all k) ∙ ap (λ ns. f ++ (ns ++ l)) left.3
          ∙ ap (λ ns. f ++ ns) (append_assoc g (left.1 ∷ left.2) l) ∙ sym (append_assoc f g (left.1 ∷ (left.2 ++ l))) ∙ ap (λ ns. ns ++ (left.1 ∷ (left.2 ++ l))) (sym (two-places k first got)),
    )

pub turns_join : TurnsJoin
turns_join items got [] ys a b = subst (λ zs. AllInTurn items zs ys) (append-nil got) b
turns_join items got (Moved e ∷ xs) ys a b = turns_join items got xs ys a b
turns_join items got (Did s ∷ xs) ys a b = (a.0, turns_join items (got ++ accepted_by s) xs ys a.1 (subst (λ zs. AllInTurn items zs ys) (sym (append_assoc got (accepted_by s) (accepted xs))) b))

-- ---- what was accepted before, by its positions

first-alike : (items js : List Item) (got others : List Accepted) → AreAll (items_of got) (items_of others) → AreFirst items (items_of got ++ js) → AreFirst items (items_of others ++ js)
first-alike items js got others same here k =
    let h = here k in
    (h.0, h.1 ∙ ap (λ ns. ns ++ h.0) (places-both k (items_of got) js ∙ ap (λ ns. ns ++ places_at k js) (same k) ∙ sym (places-both k (items_of others) js)))

step-alike : (items : List Item) (got others : List Accepted) (s : JournalStep) → AreAll (items_of got) (items_of others) → StepInTurn items got s → StepInTurn items others s
step-alike items got others (Look k d l) same here = tt
step-alike items got others (Send n p a) same here = first-alike items p.items got others same here

pub turns_alike : TurnsAlike
turns_alike items got others [] same turns = tt
turns_alike items got others (Moved e ∷ hs) same turns = turns_alike items got others hs same turns
turns_alike items got others (Did s ∷ hs) same turns = (
  step-alike items got others s same turns.0,
  turns_alike items (got ++ accepted_by s) (others ++ accepted_by s) hs
      (λ k. two-places k got (accepted_by s) ∙ ap (λ ns. ns ++ places_at k (items_of (accepted_by s))) (same k) ∙ sym (two-places k others (accepted_by s))) turns.1,
)
