-- At which place an arrival is put.
use Rattle.std.proofs.Common.{◌≡◌, ℕ, zero, suc, ◌+◌, ◌≤◌, ◌<◌, ◌==◌, Bool, true, false, cond, List, [], ◌∷◌, map, length, get_or, refl, sym, ap, ◌∙◌, subst, arith, nat_lt, eq-eqb, ne_eqb}
use Rattle.std.specs.List.{prefix_len}
use Rattle.std.specs.List.Sorted.{IsPartitionPoint, IsPartitionedBy}
use Rattle.std.proofs.Math.ListN.{set}
use Rattle.std.proofs.lemmas.Bool.Decides.{nat_tests}
use Rattle.std.proofs.lemmas.List.Sums.{prefix_len_is}
use Rattle.ds_base.proofs.TestFacts.{not_both}
use Rattle.ds_cover.specs.Items.{AllAfter}
use Rattle.ds_gather.specs.Places.{NoneAt, Rises, wanted_in, wanted_pos, change_at}
use Rattle.ds_gather.specs.declared.place.Place.{Place}

-- a test that fails on all that follow one on which it fails

abbrev NonePass : {X : Type 0} → (X → Bool) → List X → Type 0
NonePass p [] = Unit {0}
NonePass p (x ∷ xs) = (p x ≡ false) × NonePass p xs

abbrev pub Parts : {X : Type 0} → (X → Bool) → List X → Type 0
Parts p [] = Unit {0}
Parts p (x ∷ xs) = (p x ≡ false → NonePass p xs) × Parts p xs

none_at : {X : Type 0} (p : X → Bool) (xs : List X) (j : ℕ) (d : X) → NonePass p xs → j < length xs → p (get_or xs j d) ≡ false
none_at p [] j d none low = absurd (omega (arith, low))
none_at p (x ∷ xs) zero d none low = none.0
none_at p (x ∷ xs) (suc j) d none low = none_at p xs j d none.1 (omega (arith, low))

pub parted : {X : Type 0} (p : X → Bool) (xs : List X) → Parts p xs → IsPartitionedBy p xs
parted p [] h i j d le low passes = absurd (omega (arith, low))
parted p (x ∷ xs) h zero zero d le low passes = passes
parted p (x ∷ xs) h zero (suc j) d le low passes =
    elim (p x) as (λ t. p x ≡ t → t ≡ true) [
      | true ↦ λ e. refl
      | false ↦ λ e. not_both (p (get_or xs j d)) passes (none_at p xs j d (h.0 e) (omega (arith, low)))
    ] refl
parted p (x ∷ xs) h (suc i) zero d le low passes = absurd (omega (arith, le))
parted p (x ∷ xs) h (suc i) (suc j) d le low passes = parted p xs h.1 i j d (omega (arith, le)) (omega (arith, low)) passes

pub point_is_prefix : {X : Type 0} (p : X → Bool) (xs : List X) (i : ℕ) → i ≤ length xs → IsPartitionPoint (λ y. p y ≡ true) (λ y. p y ≡ false) xs i → i ≡ prefix_len p xs
point_is_prefix p [] i within point = let none : i ≡ 0 = omega (arith, within) in none
point_is_prefix p (x ∷ xs) i within point = sym (prefix_len_is p (x ∷ xs) i x within (λ k l. point.0 k x (omega arith) l) (λ l. point.1 i x (omega arith) l))

one_more : (n : ℕ) → 1 + n ≡ suc n
one_more n = omega arith

-- positions

after_none : (n m : ℕ) (ps : List Place) → n ≤ m → AllAfter wanted_pos m (wanted_in ps) → NonePass (λ p. nat_lt p.wanted.pos n) ps
after_none n m [] le all = tt
after_none n m (p ∷ ps) le all = (high, after_none n m ps le all.1)
  where
    high : nat_lt p.wanted.pos n ≡ false
    high = let a : m < p.wanted.pos = all.0 in grind (arith, nat_tests, le)

pub at_least : (n m : ℕ) → nat_lt m n ≡ false → n ≤ m
at_least n m h = grind (arith, nat_tests)

pub under : (n m : ℕ) → nat_lt m n ≡ true → m < n
under n m h = grind (arith, nat_tests)

pub rising_parts : (n : ℕ) (ps : List Place) → Rises (wanted_in ps) → Parts (λ p. nat_lt p.wanted.pos n) ps
rising_parts n [] r = tt
rising_parts n (p ∷ ps) r = (λ e. after_none n p.wanted.pos ps (at_least n p.wanted.pos e) r.0, rising_parts n ps r.1)

-- none of these is at the position
none_there : (n m : ℕ) (f : Place → Place) (ps : List Place) → n ≤ m → AllAfter wanted_pos m (wanted_in ps) → map (change_at n f) ps ≡ ps
none_there n m f [] le all = refl
none_there n m f (p ∷ ps) le all =
    ap (λ t. cond t (f p) p ∷ map (change_at n f) ps) (ne_eqb p.wanted.pos n (λ e. let a : m < p.wanted.pos = all.0 in omega (arith, e, a, le)))
    ∙ ap (λ zs. p ∷ zs) (none_there n m f ps le all.1)

-- the place found by halving, changed where it stands
pub changed_there : (n : ℕ) (f : Place → Place) (ps : List Place) (i : ℕ) (y : Place) → Rises (wanted_in ps) → i ≡ prefix_len (λ p. nat_lt p.wanted.pos n) ps → i < length ps → (get_or ps i y).wanted.pos ≡ n → y ≡ f (get_or ps i y) → set ps i y ≡ map (change_at n f) ps
changed_there n f [] i y r at low here is = absurd (omega (arith, low))
changed_there n f (p ∷ ps) i y r at low here is =
    elim (nat_lt p.wanted.pos n) as (λ t. nat_lt p.wanted.pos n ≡ t → i ≡ cond t (1 + prefix_len (λ p. nat_lt p.wanted.pos n) ps) 0 → set (p ∷ ps) i y ≡ cond (p.wanted.pos == n) (f p) p ∷ map (change_at n f) ps) [
      | true ↦ λ e at.
          let j = prefix_len (λ p. nat_lt p.wanted.pos n) ps in
          let l : p.wanted.pos < n = under n p.wanted.pos e in
          subst (λ k. k < length (p ∷ ps) → (get_or (p ∷ ps) k y).wanted.pos ≡ n → y ≡ f (get_or (p ∷ ps) k y) → set (p ∷ ps) k y ≡ cond (p.wanted.pos == n) (f p) p ∷ map (change_at n f) ps) (sym (at ∙ one_more j))
          (λ low here is. ap (λ zs. p ∷ zs) (changed_there n f ps j y r.1 refl (omega (arith, low)) here is)
          ∙ ap (λ t. cond t (f p) p ∷ map (change_at n f) ps) (sym (ne_eqb p.wanted.pos n (λ e. omega (arith, e, l))))) low here is
      | false ↦ λ e at.
          subst (λ k. (get_or (p ∷ ps) k y).wanted.pos ≡ n → y ≡ f (get_or (p ∷ ps) k y) → set (p ∷ ps) k y ≡ cond (p.wanted.pos == n) (f p) p ∷ map (change_at n f) ps) (sym at)
          (λ here is. ap (λ z. z ∷ ps) is
          ∙ ap (λ t. cond t (f p) p ∷ ps) (sym (eq-eqb p.wanted.pos n here))
          ∙ ap (λ zs. cond (p.wanted.pos == n) (f p) p ∷ zs) (sym (none_there n p.wanted.pos f ps (at_least n p.wanted.pos e) r.0))) here is
    ] refl at

-- where no place is at the position, nothing changes
pub unchanged : (n : ℕ) (f : Place → Place) (ps : List Place) → NoneAt n ps → map (change_at n f) ps ≡ ps
unchanged n f [] none = refl
unchanged n f (p ∷ ps) none =
    ap (λ t. cond t (f p) p ∷ map (change_at n f) ps) none.0
    ∙ ap (λ zs. p ∷ zs) (unchanged n f ps none.1)

none_after : (n m : ℕ) (ps : List Place) → n ≤ m → AllAfter wanted_pos m (wanted_in ps) → NoneAt n ps
none_after n m [] le all = tt
none_after n m (p ∷ ps) le all = (ne_eqb p.wanted.pos n (λ e. let a : m < p.wanted.pos = all.0 in omega (arith, e, a, le)), none_after n m ps le all.1)

-- nor is one, where the first from the position on is at another
pub none_found : (n : ℕ) (ps : List Place) (i : ℕ) → Rises (wanted_in ps) → i ≡ prefix_len (λ p. nat_lt p.wanted.pos n) ps → ((d : Place) → i < length ps → (get_or ps i d).wanted.pos ≡ n → ⊥) → NoneAt n ps
none_found n [] i r at none = tt
none_found n (p ∷ ps) i r at none =
    elim (nat_lt p.wanted.pos n) as (λ t. nat_lt p.wanted.pos n ≡ t → i ≡ cond t (1 + prefix_len (λ p. nat_lt p.wanted.pos n) ps) 0 → ((p.wanted.pos == n) ≡ false) × NoneAt n ps) [
      | true ↦ λ e at.
          let j = prefix_len (λ p. nat_lt p.wanted.pos n) ps in
          let l : p.wanted.pos < n = under n p.wanted.pos e in (
            ne_eqb p.wanted.pos n (λ e. omega (arith, e, l)),
            none_found n ps j r.1 refl
                (subst (λ k. ((d : Place) → k < length (p ∷ ps) → (get_or (p ∷ ps) k d).wanted.pos ≡ n → ⊥) → (d : Place) → j < length ps → (get_or ps j d).wanted.pos ≡ n → ⊥) (sym (at ∙ one_more j))
                (λ no d low here. no d (omega (arith, low)) here) none),
          )
      | false ↦ λ e at.
          let apart : p.wanted.pos ≡ n → ⊥ = subst (λ k. ((d : Place) → k < length (p ∷ ps) → (get_or (p ∷ ps) k d).wanted.pos ≡ n → ⊥) → p.wanted.pos ≡ n → ⊥) (sym at) (λ no h. no p (omega arith) h) none in
          (ne_eqb p.wanted.pos n apart, none_after n p.wanted.pos ps (at_least n p.wanted.pos e) r.0)
    ] refl at
