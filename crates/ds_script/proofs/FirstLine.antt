-- The first line of some bytes.
use Rattle.std.proofs.Common.{◌≡◌, ℕ, suc, ◌+◌, ◌<◌, ◌≤◌, List, [], ◌∷◌, Bool, true, false, cond, not, eqb, ltb, length, take, drop, Some, None, refl, ap, arith}
use Rattle.std.proofs.lemmas.Bool.Decides.{nat_tests}
use Rattle.std.specs.List.{position_or_len, position}
use Rattle.ds_script.specs.Split.{lines_of, onto_first}

abbrev pub ends : ℕ → Bool
ends b = eqb b 10

suc-one : (n : ℕ) → 1 + n ≡ suc n
suc-one n = omega arith

cut_by : (is : Bool) (b : ℕ) (bs : List ℕ) → ends b ≡ is
    → (position_or_len ends bs < length bs → lines_of bs ≡ take (position_or_len ends bs) bs ∷ lines_of (drop (position_or_len ends bs + 1) bs))
    → position_or_len ends (b ∷ bs) < length (b ∷ bs)
    → lines_of (b ∷ bs) ≡ take (position_or_len ends (b ∷ bs)) (b ∷ bs) ∷ lines_of (drop (position_or_len ends (b ∷ bs) + 1) (b ∷ bs))
cut_by true b bs e ih h = rw e refl
cut_by false b bs e ih h =
    let n = position_or_len ends bs in
    let small : n < length bs = let g : cond (not (ends b)) (1 + n) 0 < length (b ∷ bs) = h in let g2 = rw e at g in omega arith in
    let k : suc n + 1 ≡ suc (n + 1) = omega arith in
    rw (e, suc-one) (rw k (ap (onto_first b) (ih small)))

pub cut : (bs : List ℕ) → position_or_len ends bs < length bs → lines_of bs ≡ take (position_or_len ends bs) bs ∷ lines_of (drop (position_or_len ends bs + 1) bs)
cut [] h = absurd (omega arith)
cut (b ∷ bs) h = cut_by _ b bs refl (cut bs) h

uncut_by : (is : Bool) (b : ℕ) (bs : List ℕ) → ends b ≡ is
    → (length bs ≤ position_or_len ends bs → 0 < length bs → lines_of bs ≡ bs ∷ [])
    → length (b ∷ bs) ≤ position_or_len ends (b ∷ bs) → lines_of (b ∷ bs) ≡ (b ∷ bs) ∷ []
uncut_by true b bs e ih h = let g : length (b ∷ bs) ≤ cond (not (ends b)) (1 + position_or_len ends bs) 0 = h in let g2 = rw e at g in absurd (omega arith)
uncut_by false b [] e ih h = rw e refl
uncut_by false b (c ∷ bs) e ih h =
    let g : length (b ∷ c ∷ bs) ≤ cond (not (ends b)) (1 + position_or_len ends (c ∷ bs)) 0 = h in
    let g2 = rw e at g in
    rw e (ap (onto_first b) (ih (omega arith) (omega arith)))

pub uncut : (bs : List ℕ) → length bs ≤ position_or_len ends bs → 0 < length bs → lines_of bs ≡ bs ∷ []
uncut [] h k = absurd (omega arith)
uncut (b ∷ bs) h k = uncut_by _ b bs refl (uncut bs) h

some_by : (t : Bool) (n m i : ℕ) → ltb n m ≡ t → Some i ≡ cond t (Some n) None → (n < m) × (i ≡ n)
some_by true n m i e h = (grind (arith, nat_tests), cc)
some_by false n m i e h = absurd cc

none_by : (t : Bool) (n m : ℕ) → ltb n m ≡ t → None ≡ cond t (Some n) None → m ≤ n
none_by true n m e h = absurd cc
none_by false n m e h = grind (arith, nat_tests)

-- by what `position` answers
pub first_some : (bs : List ℕ) (i : ℕ) → Some i ≡ position ends bs → lines_of bs ≡ take i bs ∷ lines_of (drop (i + 1) bs)
first_some bs i e = let w = some_by _ (position_or_len ends bs) (length bs) i refl e in rw w.1 (cut bs w.0)

pub first_none : (bs : List ℕ) → None ≡ position ends bs → 0 < length bs → lines_of bs ≡ bs ∷ []
first_none bs e h = uncut bs (none_by _ (position_or_len ends bs) (length bs) refl e) h
