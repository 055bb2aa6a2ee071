-- The last uses of entries, after each change, and the entry used last of several.
use Rattle.std.proofs.Common.{◌≡◌, ℕ, ◌+◌, ◌≤◌, ◌<◌, Bool, true, false, cond, List, [], ◌∷◌, Some, None, IsSome, find, refl, sym, ap, ◌∙◌, arith, nat_eq}
use Rattle.std.specs.Cmp.{nat_eq_equiv}
use Rattle.std.specs.List.{IsDistinct}
use Rattle.std.specs.Map.{keys_of}
use Rattle.std.proofs.lemmas.Map.Views.{exact_unsigned_eq}
use Rattle.ds_base.proofs.SmallFacts.{some_none, some_same}
use Rattle.ds_desc.specs.declared.desc.Info.{Info}
use Rattle.ds_desc.specs.declared.desc.Lease.{Lease}
use Rattle.ds_cache.specs.Entries.{Entry, at_serial, without}
use Rattle.ds_cache.specs.Insert.{leased}
use Rattle.ds_cache.specs.Uses.{last_use, Fall, AreRanked, Noted, Forgotten}
use Rattle.ds_cache.proofs.Serials.{at_head, at_tail, distinct_tail, none_without}

-- ---- what a change of one number leaves

fall_more : (n k : ℕ) (m : List (ℕ × ℕ)) (es : List Entry) → n ≤ k → Fall n m es → Fall k m es
fall_more n k m [] le h = h
fall_more n k m (e ∷ es) le h = let b = h.2 in (h.0, h.1, omega (arith, le, b), h.3)

fall_without : (s n : ℕ) (m : List (ℕ × ℕ)) (es : List Entry) → Fall n m es → Fall n m (without s es)
fall_without s n m [] h = h
fall_without s n m (e ∷ es) h =
    (elim (nat_eq s e.0) as (λ t. nat_eq s e.0 ≡ t → Fall n m (without s (e ∷ es))) [
      | true ↦ λ t. let b = h.2 in rw t (fall_more h.0 n m es (omega (arith, b)) h.3)
      | false ↦ λ t. rw t (h.0, h.1, h.2, fall_without s h.0 m es h.3)
    ]) refl

-- the number of a serial that doesn't stand
fall_beside : (s n : ℕ) (m r : List (ℕ × ℕ)) (es : List Entry) → ((q : ℕ) → nat_eq s q ≡ false → last_use q r ≡ last_use q m) → at_serial s es ≡ None → Fall n m es → Fall n r es
fall_beside s n m r [] same none h = h
fall_beside s n m r (e ∷ es) same none h =
    (elim (nat_eq s e.0) as (λ t. nat_eq s e.0 ≡ t → Fall n r (e ∷ es)) [
      | true ↦ λ t. absurd (some_none e.1 (rw t at none))
      | false ↦ λ t. (h.0, same e.0 t ∙ h.1, h.2, fall_beside s h.0 m r es same (rw t at none) h.3)
    ]) refl

noted_others : (s n : ℕ) (m r : List (ℕ × ℕ)) → Noted s n m r → (q : ℕ) → nat_eq s q ≡ false → last_use q r ≡ last_use q m
noted_others s n m r h q other = h q ∙ ap (λ b. cond b (Some n) (last_use q m)) other

noted_here : (s n : ℕ) (m r : List (ℕ × ℕ)) → Noted s n m r → last_use s r ≡ Some n
noted_here s n m r h = h s ∙ ap (λ b. cond b (Some n) (last_use s m)) (nat_eq_equiv.refl s)

forgotten_others : (s : ℕ) (m r : List (ℕ × ℕ)) → Forgotten s m r → (q : ℕ) → nat_eq s q ≡ false → last_use q r ≡ last_use q m
forgotten_others s m r h q other = h q ∙ ap (λ b. cond b None (last_use q m)) other

-- ---- the last use of one entry

pub fall_at : (n s : ℕ) (i : Info) (m : List (ℕ × ℕ)) (es : List Entry) → Fall n m es → at_serial s es ≡ Some i → (u : ℕ) × (last_use s m ≡ Some u) × (u < n)
fall_at n s i m [] h there = absurd (some_none i (sym there))
fall_at n s i m (e ∷ es) h there =
    (elim (nat_eq s e.0) as (λ t. nat_eq s e.0 ≡ t → (u : ℕ) × (last_use s m ≡ Some u) × (u < n)) [
      | true ↦ λ t. (h.0, ap (λ q. last_use q m) (exact_unsigned_eq s e.0 t) ∙ h.1, h.2)
      | false ↦ λ t. let on = fall_at h.0 s i m es h.3 (rw t at there) in let a = on.2 in let b = h.2 in (on.0, on.1, omega (arith, a, b))
    ]) refl

-- ---- what each change of the entries leaves

pub ranked_none : (n : ℕ) (m : List (ℕ × ℕ)) (es : List Entry) → es ≡ [] → AreRanked n m es
ranked_none n m [] h = λ low. tt
ranked_none n m (e ∷ es) h = cc

pub ranked_front : (s n k : ℕ) (i w : Info) (m r : List (ℕ × ℕ)) (es : List Entry) → (IsSome (last_use s m) → Noted s n m r) → k ≡ n + 1 → IsDistinct nat_eq (keys_of es) → at_serial s es ≡ Some i → AreRanked n m es → AreRanked k r ((s, w) ∷ without s es)
ranked_front s n k i w m r es now is d there h = λ low.
    let f = h (omega (arith, low, is)) in
    let at = fall_at n s i m es f there in
    let noted = now (rw at.1 refl) in
    (n, noted_here s n m r noted, omega (arith, is), fall_beside s n m r (without s es) (noted_others s n m r noted) (none_without s es d) (fall_without s n m es f))

pub ranked_new : (s n k : ℕ) (i : Info) (m r : List (ℕ × ℕ)) (es : List Entry) → Noted s n m r → k ≡ n + 1 → at_serial s es ≡ None → AreRanked n m es → AreRanked k r ((s, i) ∷ es)
ranked_new s n k i m r es noted is none h = λ low.
    (n, noted_here s n m r noted, omega (arith, is), fall_beside s n m r es (noted_others s n m r noted) none (h (omega (arith, low, is))))

pub ranked_others : (s n k : ℕ) (m r : List (ℕ × ℕ)) (es : List Entry) → Noted s n m r → k ≡ n + 1 → at_serial s es ≡ None → AreRanked n m es → AreRanked k r es
ranked_others s n k m r es noted is none h = λ low.
    fall_beside s k m r es (noted_others s n m r noted) none (fall_more n k m es (omega (arith, is)) (h (omega (arith, low, is))))

pub ranked_without : (s n : ℕ) (m r : List (ℕ × ℕ)) (es : List Entry) → Forgotten s m r → IsDistinct nat_eq (keys_of es) → AreRanked n m es → AreRanked n r (without s es)
ranked_without s n m r es gone d h = λ low.
    fall_beside s n m r (without s es) (forgotten_others s m r gone) (none_without s es d) (fall_without s n m es (h low))

fall_leased : (s n : ℕ) (l : Lease) (m : List (ℕ × ℕ)) (es : List Entry) → Fall n m es → Fall n m (leased s l es)
fall_leased s n l m [] h = h
fall_leased s n l m (e ∷ es) h =
    (elim (nat_eq s e.0) as (λ t. nat_eq s e.0 ≡ t → Fall n m (leased s l (e ∷ es))) [
      | true ↦ λ t. rw t h
      | false ↦ λ t. rw t (h.0, h.1, h.2, fall_leased s h.0 l m es h.3)
    ]) refl

pub ranked_leased : (s n : ℕ) (l : Lease) (m : List (ℕ × ℕ)) (es : List Entry) → AreRanked n m es → AreRanked n m (leased s l es)
ranked_leased s n l m es h = λ low. fall_leased s n l m es (h low)

-- ---- the first of several

-- of those that pass a test, the one used last is the first
pub find_latest : (test : Entry → Bool) (n : ℕ) (m : List (ℕ × ℕ)) (es : List Entry) → Fall n m es → IsDistinct nat_eq (keys_of es) → (s u : ℕ) (i : Info) → at_serial s es ≡ Some i → test (s, i) ≡ true → last_use s m ≡ Some u → ((t v : ℕ) (j : Info) → at_serial t es ≡ Some j → test (t, j) ≡ true → last_use t m ≡ Some v → v ≤ u) → find test es ≡ Some (s, i)
find_latest test n m [] f d s u i there pass used h = absurd (some_none i (sym there))
find_latest test n m (e ∷ es) f d s u i there pass used h =
    (elim (nat_eq s e.0) as (λ t. nat_eq s e.0 ≡ t → find test (e ∷ es) ≡ Some (s, i)) [
      | true ↦ λ t.
          let k : e.0 ≡ s = sym (exact_unsigned_eq s e.0 t) in
          let v : e.1 ≡ i = some_same e.1 i (rw t at there) in
          let same : e ≡ (s, i) = λ x. (k x, v x) in
          rw (ap test same ∙ pass) (ap (λ x. Some x) same)
      | false ↦ λ t.
          let behind : at_serial s es ≡ Some i = rw t at there in
          (elim (test e) as (λ w. test e ≡ w → find test (e ∷ es) ≡ Some (s, i)) [
            | true ↦ λ w.
                let le : f.0 ≤ u = h e.0 f.0 e.1 (at_head e es) w f.1 in
                let on = fall_at f.0 s i m es f.3 behind in
                let same : on.0 ≡ u = some_same on.0 u (sym on.1 ∙ used) in
                let low = on.2 in
                absurd (omega (arith, le, same, low))
            | false ↦ λ w.
                rw w (find_latest test f.0 m es f.3 (distinct_tail e es d) s u i behind pass used (λ q v j g p l. h q v j (at_tail e es d q j g) p l))
          ]) refl
    ]) refl
