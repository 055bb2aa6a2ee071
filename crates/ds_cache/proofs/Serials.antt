-- What stands under which serial, after each change.
use Rattle.std.proofs.Common.{◌≡◌, ℕ, suc, ◌≤◌, Bool, true, false, cond, List, [], ◌∷◌, length, Some, None, find, refl, sym, ap, ◌∙◌, arith, nat_eq, true≢false}
use Rattle.std.specs.Cmp.{nat_eq_equiv}
use Rattle.std.specs.List.{IsDistinct, AllByRecursion}
use Rattle.std.specs.Map.{lookup_entry, keys_of}
use Rattle.std.proofs.lemmas.Map.{lookup-remove_entry}
use Rattle.std.proofs.lemmas.Map.Views.{exact_unsigned_eq}
use Rattle.ds_base.proofs.SmallFacts.{some_none, some_same}
use Rattle.ds_desc.specs.declared.desc.Info.{Info}
use Rattle.ds_cache.specs.Entries.{Entry, at_serial, without, to_front}

pub is_false : (b : Bool) → (b ≡ true → ⊥) → b ≡ false
is_false true h = absurd (h refl)
is_false false h = refl

-- the entry that a look-up by serial finds
pub entry_at : (s : ℕ) (i : Info) (es : List Entry) → at_serial s es ≡ Some i → lookup_entry (nat_eq s) es ≡ Some (s, i)
entry_at s i [] h = cc
entry_at s i (e ∷ es) h =
    (elim (nat_eq s e.0) as (λ t. nat_eq s e.0 ≡ t → lookup_entry (nat_eq s) (e ∷ es) ≡ Some (s, i)) [
      | true ↦ λ t. let k : e.0 ≡ s = sym (exact_unsigned_eq s e.0 t) in
          let v : e.1 ≡ i = some_same e.1 i (rw t at h) in
          rw t (λ j. Some (k j, v j))
      | false ↦ λ t. rw t (entry_at s i es (rw t at h))
    ]) refl

-- no later entry has the first one's serial
none_by : (k : ℕ) (es : List Entry) → AllByRecursion (λ y. nat_eq k y ≡ false) (keys_of es) → at_serial k es ≡ None
none_by k [] h = refl
none_by k (e ∷ es) h = rw h.0 (none_by k es h.1)

pub none_later : (e : Entry) (es : List Entry) → IsDistinct nat_eq (keys_of (e ∷ es)) → at_serial e.0 es ≡ None
unfolding IsDistinct
none_later e es d = none_by e.0 es d.0

pub distinct_tail : (e : Entry) (es : List Entry) → IsDistinct nat_eq (keys_of (e ∷ es)) → IsDistinct nat_eq (keys_of es)
unfolding IsDistinct
distinct_tail e es d = d.1

-- what stands behind the first entry stands in the list
pub at_tail : (e : Entry) (es : List Entry) → IsDistinct nat_eq (keys_of (e ∷ es)) → (s : ℕ) (i : Info) → at_serial s es ≡ Some i → at_serial s (e ∷ es) ≡ Some i
at_tail e es d s i h =
    (elim (nat_eq s e.0) as (λ t. nat_eq s e.0 ≡ t → at_serial s (e ∷ es) ≡ Some i) [
      | true ↦ λ t. absurd (some_none i (sym h ∙ ap (λ k. at_serial k es) (exact_unsigned_eq s e.0 t) ∙ none_later e es d))
      | false ↦ λ t. rw t h
    ]) refl

pub at_head : (e : Entry) (es : List Entry) → at_serial e.0 (e ∷ es) ≡ Some e.1
at_head e es = rw (nat_eq_equiv.refl e.0) refl

-- ---- a search for the first entry that passes

pub find_none : (test : Entry → Bool) (es : List Entry) → IsDistinct nat_eq (keys_of es) → ((t : ℕ) (j : Info) → at_serial t es ≡ Some j → test (t, j) ≡ false) → find test es ≡ None
find_none test [] d h = refl
find_none test (e ∷ es) d h = rw (h e.0 e.1 (at_head e es)) (find_none test es (distinct_tail e es d) (λ t j g. h t j (at_tail e es d t j g)))

-- the one that passes
pub find_only : (test : Entry → Bool) (es : List Entry) → IsDistinct nat_eq (keys_of es) → (s : ℕ) (i : Info) → at_serial s es ≡ Some i → test (s, i) ≡ true → ((t : ℕ) (j : Info) → at_serial t es ≡ Some j → test (t, j) ≡ true → t ≡ s) → find test es ≡ Some (s, i)
find_only test [] d s i h p only = absurd (some_none i (sym h))
find_only test (e ∷ es) d s i h p only =
    (elim (nat_eq s e.0) as (λ t. nat_eq s e.0 ≡ t → find test (e ∷ es) ≡ Some (s, i)) [
      | true ↦ λ t. let k : e.0 ≡ s = sym (exact_unsigned_eq s e.0 t) in
          let v : e.1 ≡ i = some_same e.1 i (rw t at h) in
          let same : e ≡ (s, i) = λ j. (k j, v j) in
          rw (ap test same ∙ p) (ap (λ x. Some x) same)
      | false ↦ λ t. (elim (test e) as (λ u. test e ≡ u → find test (e ∷ es) ≡ Some (s, i)) [
        | true ↦ λ u. let k : e.0 ≡ s = only e.0 e.1 (at_head e es) u in
            absurd (true≢false (sym (nat_eq_equiv.refl s) ∙ ap (nat_eq s) (sym k) ∙ t))
        | false ↦ λ u. rw u (find_only test es (distinct_tail e es d) s i (rw t at h) p (λ t j g. only t j (at_tail e es d t j g)))
      ]) refl
    ]) refl

-- ---- an entry taken out

pub one : (s x y : ℕ) → nat_eq s x ≡ true → nat_eq s y ≡ nat_eq x y
one s x y h = ap (λ k. nat_eq k y) (exact_unsigned_eq s x h)

pub at_without : (s q : ℕ) (es : List Entry) → IsDistinct nat_eq (keys_of es) → at_serial q (without s es) ≡ cond (nat_eq s q) None (at_serial q es)
at_without s q es d = lookup-remove_entry nat_eq_equiv (nat_eq s) (one s) q es d

all_without : (P : ℕ → Type 0) (s : ℕ) (es : List Entry) → AllByRecursion P (keys_of es) → AllByRecursion P (keys_of (without s es))
all_without P s [] h = h
all_without P s (e ∷ es) h =
    (elim (nat_eq s e.0) as (λ t. nat_eq s e.0 ≡ t → AllByRecursion P (keys_of (without s (e ∷ es)))) [
      | true ↦ λ t. rw t h.1
      | false ↦ λ t. rw t (h.0, all_without P s es h.1)
    ]) refl

pub distinct_without : (s : ℕ) (es : List Entry) → IsDistinct nat_eq (keys_of es) → IsDistinct nat_eq (keys_of (without s es))
unfolding IsDistinct
distinct_without s [] d = d
distinct_without s (e ∷ es) d =
    (elim (nat_eq s e.0) as (λ t. nat_eq s e.0 ≡ t → IsDistinct nat_eq (keys_of (without s (e ∷ es)))) [
      | true ↦ λ t. rw t d.1
      | false ↦ λ t. rw t (all_without (λ y. nat_eq e.0 y ≡ false) s es d.0, distinct_without s es d.1)
    ]) refl

pub length_without : (s : ℕ) (es : List Entry) → length (without s es) ≤ length es
length_without s [] = omega arith
length_without s (e ∷ es) =
    (elim (nat_eq s e.0) as (λ t. nat_eq s e.0 ≡ t → length (without s (e ∷ es)) ≤ length (e ∷ es)) [
      | true ↦ λ t. rw t (omega arith)
      | false ↦ λ t. let on = length_without s es in rw t (omega (arith, on))
    ]) refl

-- ---- an entry brought to the front

pub at_front : (s q : ℕ) (i : Info) (es : List Entry) → IsDistinct nat_eq (keys_of es) → at_serial s es ≡ Some i → at_serial q (to_front (Some (s, i)) es) ≡ at_serial q es
at_front s q i es d h =
    (elim (nat_eq q s) as (λ t. nat_eq q s ≡ t → at_serial q ((s, i) ∷ without s es) ≡ at_serial q es) [
      | true ↦ λ t. rw t (sym (ap (λ k. at_serial k es) (exact_unsigned_eq q s t) ∙ h))
      | false ↦ λ t. rw t (at_without s q es d ∙ ap (λ b. cond b None (at_serial q es)) (nat_eq_equiv.symm s q ∙ t))
    ]) refl

pub none_without : (s : ℕ) (es : List Entry) → IsDistinct nat_eq (keys_of es) → at_serial s (without s es) ≡ None
none_without s es d = at_without s s es d ∙ ap (λ b. cond b None (at_serial s es)) (nat_eq_equiv.refl s)

all_by : (k : ℕ) (es : List Entry) → at_serial k es ≡ None → AllByRecursion (λ y. nat_eq k y ≡ false) (keys_of es)
all_by k [] h = tt
all_by k (e ∷ es) h =
    (elim (nat_eq k e.0) as (λ t. nat_eq k e.0 ≡ t → AllByRecursion (λ y. nat_eq k y ≡ false) (keys_of (e ∷ es))) [
      | true ↦ λ t. absurd (some_none e.1 (rw t at h))
      | false ↦ λ t. (t, all_by k es (rw t at h))
    ]) refl

-- one entry more, under a serial that isn't there
pub distinct_more : (e : Entry) (es : List Entry) → at_serial e.0 es ≡ None → IsDistinct nat_eq (keys_of es) → IsDistinct nat_eq (keys_of (e ∷ es))
unfolding IsDistinct
distinct_more e es h d = (all_by e.0 es h, d)

pub distinct_front : (s : ℕ) (i : Info) (es : List Entry) → IsDistinct nat_eq (keys_of es) → IsDistinct nat_eq (keys_of (to_front (Some (s, i)) es))
distinct_front s i es d = distinct_more (s, i) (without s es) (none_without s es d) (distinct_without s es d)

pub length_front : (s : ℕ) (i : Info) (es : List Entry) → at_serial s es ≡ Some i → length (to_front (Some (s, i)) es) ≡ length es
length_front s i [] h = absurd (some_none i (sym h))
length_front s i (e ∷ es) h =
    (elim (nat_eq s e.0) as (λ t. nat_eq s e.0 ≡ t → length ((s, i) ∷ without s (e ∷ es)) ≡ length (e ∷ es)) [
      | true ↦ λ t. rw t refl
      | false ↦ λ t. let on = length_front s i es (rw t at h) in rw t (ap suc on)
    ]) refl
