-- What a change took, given back.
use Rattle.std.proofs.Common.{◌≡◌, ℕ, Bool, true, false, not, cond, List, [], ◌∷◌, ◌++◌, is_some, refl, ap, ◌∙◌, Some, None, arith, nat_lt, ◌==◌, ◌||◌, Result, Ok, Err, OnOk, OnErr}
use Rattle.std.specs.declared.alloc.AllocError.{AllocError}
use Rattle.std.specs.List.{filter, find, insert, list_any}
use Rattle.std.proofs.lemmas.Bool.Decides.{nat_tests}
use Rattle.ds_base.specs.declared.value.Stamp.{Stamp}
use Rattle.ds_cell.specs.declared.entry.Version.{Version}
use Rattle.ds_cell.specs.declared.entry.Written.{Written}
use Rattle.ds_cell.specs.Content.{stamp_of, seq_of}
use Rattle.ds_cell.specs.Seen.{under}
use Rattle.ds_cell.specs.Change.{place_before, made, with_write}
use Rattle.ds_cell.specs.Taken.{is_among, without_stamps, without_write}
use Rattle.ds_cell.proofs.RisingFacts.{IsFree, free_from_any, free_from_find, insert_before, insert-place}

-- an element passes where the first that does is there
pub any_found : {X : Type 0} (p : X → Bool) (xs : List X) → is_some (find p xs) ≡ list_any p xs
any_found p [] = refl
any_found p (x ∷ xs) =
    elim (p x) as (λ t. is_some (cond t (Some x) (find p xs)) ≡ (t || list_any p xs)) [
      | true ↦ refl
      | false ↦ any_found p xs
    ]

module _ {X : Type 0} (q r : X → Bool) where
  -- both tests say the same of each element
  abbrev pub Agree : List X → Type 0
  Agree [] = Unit {0}
  Agree (x ∷ xs) = (q x ≡ r x) × Agree xs

  pub filter-agree : (xs : List X) → Agree xs → filter q xs ≡ filter r xs
  filter-agree [] a = refl
  filter-agree (x ∷ xs) a =
      ap (λ t. cond t (x ∷ filter q xs) (filter q xs)) a.0
      ∙ ap (λ ys. cond (r x) (x ∷ ys) ys) (filter-agree xs a.1)

  -- an element that was put in and doesn't pass
  pub filter-inserted : (p : X → Bool) (x : X) (xs : List X) → q x ≡ false → Agree xs → filter q (insert_before p x xs) ≡ filter r xs
  filter-inserted p x [] out a = ap (λ t. cond t (x ∷ []) []) out
  filter-inserted p x (y ∷ ys) out a =
      elim (p y) as (λ t. filter q (cond t (x ∷ y ∷ ys) (y ∷ insert_before p x ys)) ≡ filter r (y ∷ ys)) [
        | true ↦ ap (λ t. cond t (x ∷ filter q (y ∷ ys)) (filter q (y ∷ ys))) out ∙ filter-agree (y ∷ ys) a
        | false ↦
            ap (λ t. cond t (y ∷ filter q (insert_before p x ys)) (filter q (insert_before p x ys))) a.0
            ∙ ap (λ zs. cond (r y) (y ∷ zs) zs) (filter-inserted p x ys out a.1)
      ]

filter-all : {X : Type 0} (xs : List X) → filter (λ _. true) xs ≡ xs
filter-all [] = refl
filter-all (x ∷ xs) = ap (λ ys. x ∷ ys) (filter-all xs)

itself : (n : ℕ) → not (n == n) ≡ false
itself n = grind (arith, nat_tests)

others_pass : (n : ℕ) (h : List Written) → IsFree seq_of n h → Agree (λ w. not (w.seq.0 == n)) (λ _. true) h
others_pass n [] free = tt
others_pass n (w ∷ h) free = (ap not free.0, others_pass n h free.1)

-- a write that was added
pub without_added : (h : List Written) (w : Written) → under w.seq.0 h ≡ None → without_write w.seq.0 (with_write w h) ≡ h
without_added h w free =
    ap (without_write w.seq.0) (insert-place (λ v. nat_lt w.seq.0 v.seq.0) w h)
    ∙ filter-inserted _ _ (λ v. nat_lt w.seq.0 v.seq.0) w h (itself w.seq.0) (others_pass w.seq.0 h (free_from_find seq_of _ h free))
    ∙ filter-all h

apart : (m n : ℕ) → (m == n) ≡ false → (n == m || false) ≡ false
apart m n h = grind (arith, nat_tests)

among_other : (stamps : List Stamp) (s : Stamp) (v : Version) → (v.stamp.0 == s.0) ≡ false → is_among (stamps ++ s ∷ []) v ≡ is_among stamps v
among_other [] s v other = apart v.stamp.0 s.0 other
among_other (t ∷ stamps) s v other = ap (λ b. t.0 == v.stamp.0 || b) (among_other stamps s v other)

same_or : (n : ℕ) → (n == n || false) ≡ true
same_or n = grind (arith, nat_tests)

or_true : (b : Bool) → (b || true) ≡ true
or_true true = refl
or_true false = refl

among_last : (stamps : List Stamp) (v : Version) → is_among (stamps ++ v.stamp ∷ []) v ≡ true
among_last [] v = same_or v.stamp.0
among_last (t ∷ stamps) v = ap (λ b. t.0 == v.stamp.0 || b) (among_last stamps v) ∙ or_true (t.0 == v.stamp.0)

others_agree : (stamps : List Stamp) (s : Stamp) (vs : List Version) → IsFree stamp_of s.0 vs → Agree (λ v. not (is_among (stamps ++ s ∷ []) v)) (λ v. not (is_among stamps v)) vs
others_agree stamps s [] free = tt
others_agree stamps s (v ∷ vs) free = (ap not (among_other stamps s v free.0), others_agree stamps s vs free.1)

-- one more stamp, where no version has it
pub without_more : (stamps : List Stamp) (s : Stamp) (vs : List Version) → list_any (λ u. u.stamp.0 == s.0) vs ≡ false → without_stamps (stamps ++ s ∷ []) vs ≡ without_stamps stamps vs
without_more stamps s vs free = filter-agree _ _ vs (others_agree stamps s vs (free_from_any stamp_of s.0 vs free))

made_free : (vs : List Version) (v : Version) → list_any (λ u. u.stamp.0 == v.stamp.0) vs ≡ false → made vs v ≡ insert_before (λ u. nat_lt v.stamp.0 u.stamp.0) v vs
made_free vs v free =
    ap (λ t. cond t vs (insert vs (place_before (λ u. nat_lt v.stamp.0 u.stamp.0) vs) v)) free
    ∙ insert-place (λ u. nat_lt v.stamp.0 u.stamp.0) v vs

-- one more version, and its stamp
pub without_made : (stamps : List Stamp) (vs : List Version) (v : Version) → list_any (λ u. u.stamp.0 == v.stamp.0) vs ≡ false → without_stamps (stamps ++ v.stamp ∷ []) (made vs v) ≡ without_stamps stamps vs
without_made stamps vs v free =
    ap (without_stamps (stamps ++ v.stamp ∷ [])) (made_free vs v free)
    ∙ filter-inserted _ _ (λ u. nat_lt v.stamp.0 u.stamp.0) v vs (ap not (among_last stamps v)) (others_agree stamps v.stamp vs (free_from_any stamp_of v.stamp.0 vs free))

-- whether there was memory for it or not
pub noted_either : (stamps more : List Stamp) (old new : List Version) (v : Version) → {U : Type 0} → (r : Result U AllocError) → list_any (λ u. u.stamp.0 == v.stamp.0) old ≡ false → more ≡ stamps ++ v.stamp ∷ [] → OnOk r (new ≡ made old v) → OnErr r (new ≡ old) → without_stamps more new ≡ without_stamps stamps old
noted_either stamps more old new v (Ok u) free is ok err = ap (λ ss. without_stamps ss new) is ∙ ap (without_stamps (stamps ++ v.stamp ∷ [])) ok ∙ without_made stamps old v free
noted_either stamps more old new v (Err e) free is ok err = ap (λ ss. without_stamps ss new) is ∙ ap (without_stamps (stamps ++ v.stamp ∷ [])) err ∙ without_more stamps v.stamp old free

pub without_none : (vs : List Version) → without_stamps [] vs ≡ vs
without_none vs = filter-all vs
