-- What holds while an entry is placed.
use Rattle.std.proofs.Common.{◌≡◌, ℕ, zero, suc, ◌+◌, ◌-◌, ◌≤◌, ◌<◌, Bool, true, false, cond, not, ◌||◌, List, [], ◌∷◌, length, take, filter, Some, None, IsSome, refl, sym, ap, ◌∙◌, subst, arith, nat_eq, true≢false}
use Rattle.std.specs.Cmp.{nat_eq_equiv}
use Rattle.std.specs.List.{IsDistinct}
use Rattle.std.specs.Map.{lookup, lookup_entry, keys_of}
use Rattle.lru.specs.LruCache.{LruCache, put_entries}
use Rattle.std.specs.BTreeMap.{is_at}
use Rattle.std.proofs.lemmas.Map.Views.{exact_unsigned_eq}
use Rattle.ds_base.specs.Order.{key_cmp, key_lt, key_le}
use Rattle.ds_base.proofs.KeyOrder.{key_le_lt-trans, key_lt-trans, key_lt-irrefl, key_le-not_lt, key_le-antisymm}
use Rattle.ds_base.specs.declared.value.Dir.TheVariants.{Reverse}
use Rattle.ds_base.proofs.SmallFacts.{and_both, and_first, and_second, some_none, some_same}
use Rattle.ds_desc.specs.declared.desc.Info.{Info}
use Rattle.ds_desc.specs.Descs.{overlap}
use Rattle.ds_cache.specs.Entries.{Entry, cache, at_serial, without, IsSound, IsIndex}
use Rattle.ds_cache.specs.Insert.{clear_of}
use Rattle.ds_cache.specs.Nearest.{NoneBefore, IsLastBefore}
use Rattle.ds_cache.specs.Placing.{OthersApart, AreSpans, IsBeside, IsAlone, spared, IsPlaced, Reindexed}
use Rattle.ds_cache.proofs.Serials.{is_false, at_head, at_tail, distinct_tail, distinct_more, at_without, distinct_without}
use Rattle.ds_cache.proofs.Sound.{left_without, same_at}
use Rattle.ds_base.proofs.OrderedFacts.{eq_same}

-- ---- another entry that overlaps

-- the last that starts below the end
pub inside_beside : (s : ℕ) (i : Info) (es : List Entry) (m : List (List ℕ × ℕ)) (t : ℕ) → IsIndex es m → AreSpans es → at_serial s es ≡ Some i → nat_eq s t ≡ false → IsLastBefore Reverse i.desc.span.end m t → IsBeside s es t
inside_beside s i es m t ix spans here other l =
    let on = ix.only l.key t l.there in
    let some : IsSome (lookup (is_at (key_cmp i.desc.span.start)) m) = rw (ix.each s i here) refl in
    let le : key_le i.desc.span.start l.key ≡ true = key_le-not_lt i.desc.span.start l.key ∙ ap not (l.last i.desc.span.start (spans s i here) some) in
    let le2 : key_le i.desc.span.start on.0.desc.span.start ≡ true = ap (key_le i.desc.span.start) on.2 ∙ le in
    let up : key_lt i.desc.span.start on.0.desc.span.end ≡ true = key_le_lt-trans i.desc.span.start on.0.desc.span.start on.0.desc.span.end le2 (spans t on.0 on.1) in
    let low : key_lt on.0.desc.span.start i.desc.span.end ≡ true = ap (λ k. key_lt k i.desc.span.end) on.2 ∙ l.low in
    (i, on.0, here, on.1, other, and_both _ _ up low)

-- what overlaps, where the entry itself is the last that starts below its end, starts below it
lower : (s : ℕ) (i : Info) (es : List Entry) (m : List (List ℕ × ℕ)) → IsIndex es m → at_serial s es ≡ Some i → IsLastBefore Reverse i.desc.span.end m s → (t : ℕ) (j : Info) → at_serial t es ≡ Some j → nat_eq s t ≡ false → overlap i.desc.span j.desc.span ≡ true → key_lt j.desc.span.start i.desc.span.start ≡ true
lower s i es m ix here l t j there other o =
    let on = ix.only l.key s l.there in
    let start : i.desc.span.start ≡ l.key = ap (λ x. x.desc.span.start) (some_same i on.0 (sym here ∙ on.1)) ∙ on.2 in
    let some : IsSome (lookup (is_at (key_cmp j.desc.span.start)) m) = rw (ix.each t j there) refl in
    let last : key_lt i.desc.span.start j.desc.span.start ≡ false = ap (λ k. key_lt k j.desc.span.start) start ∙ l.last j.desc.span.start (and_second (key_lt i.desc.span.start j.desc.span.end) _ o) some in
    let le : key_le j.desc.span.start i.desc.span.start ≡ true = key_le-not_lt j.desc.span.start i.desc.span.start ∙ ap not last in
    (elim (key_lt j.desc.span.start i.desc.span.start) as (λ u. key_lt j.desc.span.start i.desc.span.start ≡ u → key_lt j.desc.span.start i.desc.span.start ≡ true) [
      | true ↦ λ u. u
      | false ↦ λ u.
          let ks : j.desc.span.start ≡ i.desc.span.start = key_le-antisymm _ _ le u in
          let st : s ≡ t = some_same s t (sym (ix.each s i here) ∙ ap (λ k. lookup (is_at (key_cmp k)) m) (sym ks) ∙ ix.each t j there) in
          absurd (true≢false (sym (nat_eq_equiv.refl s) ∙ ap (nat_eq s) st ∙ other))
    ]) refl

-- nothing starts below the entry
pub outside_none : (s : ℕ) (i : Info) (es : List Entry) (m : List (List ℕ × ℕ)) → IsIndex es m → at_serial s es ≡ Some i → IsLastBefore Reverse i.desc.span.end m s → NoneBefore Reverse i.desc.span.start m → IsAlone s es
outside_none s i es m ix here l none = λ i2 here2 t j there other.
    let same : i ≡ i2 = some_same i i2 (sym here ∙ here2) in
    subst (λ x. overlap x.desc.span j.desc.span ≡ false) same (is_false _ (λ o.
    some_none t (sym (ix.each t j there) ∙ none j.desc.span.start (lower s i es m ix here l t j there other o))))

pub differs : (s t : ℕ) → (s ≡ t → ⊥) → nat_eq s t ≡ false
differs s t h = is_false _ (λ e. h (exact_unsigned_eq s t e))

-- the last that starts below the entry isn't the entry
not_itself : (s : ℕ) (i : Info) (es : List Entry) (m : List (List ℕ × ℕ)) (u : ℕ) → IsIndex es m → at_serial s es ≡ Some i → IsLastBefore Reverse i.desc.span.start m u → nat_eq s u ≡ false
not_itself s i es m u ix here l = differs s u (λ e.
    let on = ix.only l.key u l.there in
    let same : on.0 ≡ i = some_same on.0 i (sym on.1 ∙ ap (λ x. at_serial x es) (sym e) ∙ here) in
    let start : i.desc.span.start ≡ l.key = sym (ap (λ x. x.desc.span.start) same) ∙ on.2 in
    true≢false (sym l.low ∙ ap (λ k. key_lt k i.desc.span.start) (sym start) ∙ key_lt-irrefl i.desc.span.start))

-- it reaches above the entry's start
pub outside_beside : (s : ℕ) (i : Info) (es : List Entry) (m : List (List ℕ × ℕ)) (u : ℕ) (b : Info) → IsIndex es m → AreSpans es → at_serial s es ≡ Some i → IsLastBefore Reverse i.desc.span.start m u → at_serial u es ≡ Some b → key_lt i.desc.span.start b.desc.span.end ≡ true → IsBeside s es u
outside_beside s i es m u b ix spans here l there up =
    let on = ix.only l.key u l.there in
    let start : b.desc.span.start ≡ l.key = ap (λ x. x.desc.span.start) (some_same b on.0 (sym there ∙ on.1)) ∙ on.2 in
    let low : key_lt b.desc.span.start i.desc.span.end ≡ true = key_lt-trans b.desc.span.start i.desc.span.start i.desc.span.end (ap (λ k. key_lt k i.desc.span.start) start ∙ l.low) (spans s i here) in
    (i, b, here, there, not_itself s i es m u ix here l, and_both _ _ up low)

-- or it doesn't
pub outside_alone : (s : ℕ) (i : Info) (es : List Entry) (m : List (List ℕ × ℕ)) (u : ℕ) (b : Info) → IsIndex es m → AreSpans es → OthersApart s es → at_serial s es ≡ Some i → IsLastBefore Reverse i.desc.span.end m s → IsLastBefore Reverse i.desc.span.start m u → at_serial u es ≡ Some b → key_lt i.desc.span.start b.desc.span.end ≡ false → IsAlone s es
outside_alone s i es m u b ix spans apart here l1 l there up = λ i2 here2 t j at other.
    let same : i ≡ i2 = some_same i i2 (sym here ∙ here2) in
    subst (λ x. overlap x.desc.span j.desc.span ≡ false) same (is_false _ (λ o.
    let low = lower s i es m ix here l1 t j at other o in
    let on = ix.only l.key u l.there in
    let start : b.desc.span.start ≡ l.key = ap (λ x. x.desc.span.start) (some_same b on.0 (sym there ∙ on.1)) ∙ on.2 in
    let some : IsSome (lookup (is_at (key_cmp j.desc.span.start)) m) = rw (ix.each t j at) refl in
    let last : key_lt b.desc.span.start j.desc.span.start ≡ false = ap (λ k. key_lt k j.desc.span.start) start ∙ l.last j.desc.span.start low some in
    let le : key_le j.desc.span.start b.desc.span.start ≡ true = key_le-not_lt j.desc.span.start b.desc.span.start ∙ ap not last in
    let reach : key_lt i.desc.span.start j.desc.span.end ≡ true = and_first _ _ o in
    let first : key_lt b.desc.span.start j.desc.span.end ≡ true = key_lt-trans b.desc.span.start i.desc.span.start j.desc.span.end (ap (λ k. key_lt k i.desc.span.start) start ∙ l.low) reach in
    let second : key_lt j.desc.span.start b.desc.span.end ≡ true = key_le_lt-trans j.desc.span.start b.desc.span.start b.desc.span.end le (spans u b there) in
    let ut : u ≡ t = apart u t b j there at (not_itself s i es m u ix here l) other (and_both _ _ first second) in
    let bj : b ≡ j = some_same b j (sym there ∙ ap (λ x. at_serial x es) ut ∙ at) in
    true≢false (sym reach ∙ ap (λ x. key_lt i.desc.span.start x.desc.span.end) (sym bj) ∙ up)))

-- nothing starts below the entry's end: not so
pub not_none : (s : ℕ) (i : Info) (es : List Entry) (m : List (List ℕ × ℕ)) → IsIndex es m → AreSpans es → at_serial s es ≡ Some i → NoneBefore Reverse i.desc.span.end m → ⊥
not_none s i es m ix spans here none = some_none s (sym (ix.each s i here) ∙ none i.desc.span.start (spans s i here))

-- ---- entries taken out, one after another

pub record Clearing (s : ℕ) (old es : List Entry) (m : List (List ℕ × ℕ)) (oldcap cap : ℕ) : Type 0 where
  pub here : at_serial s es ≡ at_serial s old
  pub rest : (t : ℕ) (j : Info) → at_serial t es ≡ Some j → at_serial t old ≡ Some j
  pub distinct : IsDistinct nat_eq (keys_of es)
  pub index : IsIndex es m
  pub same : (i : Info) → at_serial s old ≡ Some i → spared s i es ≡ spared s i old
  pub capacity : cap ≡ oldcap

pub clearing_first : (s : ℕ) (es : List Entry) (m : List (List ℕ × ℕ)) (cap : ℕ) → IsDistinct nat_eq (keys_of es) → IsIndex es m → Clearing s es es m cap cap
clearing_first s es m cap d ix = record {
  here = refl;
  rest = λ t j h. h;
  distinct = d;
  index = ix;
  same = λ i h. refl;
  capacity = refl;
}

filter_without : (p : Entry → Bool) (t : ℕ) (j : Info) (es : List Entry) → at_serial t es ≡ Some j → p (t, j) ≡ false → filter p (without t es) ≡ filter p es
filter_without p t j [] h q = refl
filter_without p t j (e ∷ es) h q =
    (elim (nat_eq t e.0) as (λ u. nat_eq t e.0 ≡ u → filter p (without t (e ∷ es)) ≡ filter p (e ∷ es)) [
      | true ↦ λ u. let k : e.0 ≡ t = sym (exact_unsigned_eq t e.0 u) in
          let v : e.1 ≡ j = some_same e.1 j (rw u at h) in
          let same : e ≡ (t, j) = λ x. (k x, v x) in
          rw u (rw (ap p same ∙ q) refl)
      | false ↦ λ u. let on = filter_without p t j es (rw u at h) q in rw u (filtered (p e) e on)
    ]) refl
  where
    filtered : (b : Bool) (e : Entry) {xs ys : List Entry} → xs ≡ ys → cond b (e ∷ xs) xs ≡ cond b (e ∷ ys) ys
    filtered true e h = ap (λ l. e ∷ l) h
    filtered false e h = h

filter_all : (p : Entry → Bool) (es : List Entry) → IsDistinct nat_eq (keys_of es) → ((t : ℕ) (j : Info) → at_serial t es ≡ Some j → p (t, j) ≡ true) → filter p es ≡ es
filter_all p [] d h = refl
filter_all p (e ∷ es) d h = rw (h e.0 e.1 (at_head e es)) (ap (λ l. e ∷ l) (filter_all p es (distinct_tail e es d) (λ t j g. h t j (at_tail e es d t j g))))

length_out : (t : ℕ) (j : Info) (es : List Entry) → at_serial t es ≡ Some j → length (without t es) + 1 ≡ length es
length_out t j [] h = absurd (some_none j (sym h))
length_out t j (e ∷ es) h =
    (elim (nat_eq t e.0) as (λ u. nat_eq t e.0 ≡ u → length (without t (e ∷ es)) + 1 ≡ length (e ∷ es)) [
      | true ↦ λ u. rw u (omega arith)
      | false ↦ λ u. let on = length_out t j es (rw u at h) in rw u (omega (arith, on))
    ]) refl

pub beside_fewer : (s t : ℕ) (es : List Entry) → IsBeside s es t → length (without t es) < length es
beside_fewer s t es b = let l = length_out t b.1 es b.3 in omega (arith, l)

-- one more
pub clearing_more : (s t : ℕ) (old es : List Entry) (m r : List (List ℕ × ℕ)) (oldcap cap : ℕ) → Clearing s old es m oldcap cap → IsBeside s es t → IsIndex (without t es) r → Clearing s old (without t es) r oldcap cap
clearing_more s t old es m r oldcap cap h b ix = record {
  here = at_without t s es h.distinct ∙ ap (λ u. cond u None (at_serial s es)) (nat_eq_equiv.symm t s ∙ b.4) ∙ h.here;
  rest = λ q j g. h.rest q j (left_without t q j es h.distinct g).1;
  distinct = distinct_without t es h.distinct;
  index = ix;
  same = λ i g.
      let o : overlap i.desc.span b.1.desc.span ≡ true = ap (λ x. overlap x.desc.span b.1.desc.span) (some_same i b.0 (sym g ∙ sym h.here ∙ b.2)) ∙ b.5 in
      filter_without (λ e. nat_eq s e.0 || not (overlap i.desc.span e.1.desc.span)) t b.1 es b.3 (rw b.4 (ap not o)) ∙ h.same i g;
  capacity = h.capacity;
}

-- none is left
pub clearing_last : (s : ℕ) (old es : List Entry) (m : List (List ℕ × ℕ)) (oldcap cap : ℕ) (i : Info) → Clearing s old es m oldcap cap → IsAlone s es → at_serial s old ≡ Some i → es ≡ spared s i old
clearing_last s old es m oldcap cap i h alone there =
    sym (filter_all (λ e. nat_eq s e.0 || not (overlap i.desc.span e.1.desc.span)) es h.distinct (λ t j g.
    (elim (nat_eq s t) as (λ u. nat_eq s t ≡ u → (nat_eq s t || not (overlap i.desc.span j.desc.span)) ≡ true) [
      | true ↦ λ u. rw u refl
      | false ↦ λ u. rw u (ap not (alone i (h.here ∙ there) t j g u))
    ]) refl)) ∙ h.same i there

-- ---- an entry put in front

none_of : (s : ℕ) (es : List Entry) (n g : ℕ) → IsSound (cache es n g) → g < s → at_serial s es ≡ None
none_of s es n g h low =
    (elim (at_serial s es) as (λ o. at_serial s es ≡ o → at_serial s es ≡ None) [
      | None ↦ λ e. e
      | Some i ↦ λ e. let le = (h.serials s i e).1 in absurd (omega (arith, le, low))
    ]) refl

spared_clear : (s : ℕ) (i : Info) (es : List Entry) → at_serial s es ≡ None → spared s i es ≡ clear_of i es
spared_clear s i [] h = refl
spared_clear s i (e ∷ es) h =
    (elim (nat_eq s e.0) as (λ u. nat_eq s e.0 ≡ u → spared s i (e ∷ es) ≡ clear_of i (e ∷ es)) [
      | true ↦ λ u. absurd (some_none e.1 (rw u at h))
      | false ↦ λ u. let on = spared_clear s i es (rw u at h) in rw u (ap (λ l. cond (not (overlap i.desc.span e.1.desc.span)) (e ∷ l) l) on)
    ]) refl

spared_front : (s : ℕ) (i : Info) (es : List Entry) → at_serial s es ≡ None → spared s i ((s, i) ∷ es) ≡ (s, i) ∷ clear_of i es
spared_front s i es h = rw (nat_eq_equiv.refl s) (ap (λ l. (s, i) ∷ l) (spared_clear s i es h))

at_second : (s q : ℕ) (i : Info) (es : List Entry) → nat_eq s q ≡ false → at_serial q ((s, i) ∷ es) ≡ at_serial q es
at_second s q i es h = rw (nat_eq_equiv.symm q s ∙ h) refl

-- under a start that was free
pub placed_new : (s : ℕ) (i : Info) (es fs : List Entry) → fs ≡ (s, i) ∷ es → IsDistinct nat_eq (keys_of es) → at_serial s es ≡ None → key_lt i.desc.span.start i.desc.span.end ≡ true → IsPlaced s i es fs
placed_new s i es fs is d fresh span = subst (IsPlaced s i es) (sym is) (record {
  here = at_head (s, i) es;
  rest = λ t j g other. sym (at_second s t i es other) ∙ g;
  distinct = distinct_more (s, i) es fresh d;
  spare = spared_front s i es fresh;
  span = span;
})

-- in the place of an entry with the same start
pub placed_over : (s o : ℕ) (i b : Info) (es fs : List Entry) → fs ≡ without o ((s, i) ∷ es) → IsDistinct nat_eq (keys_of es) → at_serial s es ≡ None → key_lt i.desc.span.start i.desc.span.end ≡ true → at_serial o es ≡ Some b → overlap i.desc.span b.desc.span ≡ true → IsPlaced s i es fs
placed_over s o i b es fs is d fresh span there lap =
    let os : nat_eq o s ≡ false = differs o s (λ e. some_none b (sym there ∙ ap (λ x. at_serial x es) e ∙ fresh)) in
    let so : nat_eq s o ≡ false = nat_eq_equiv.symm s o ∙ os in
    let dm = distinct_more (s, i) es fresh d in
    subst (IsPlaced s i es) (sym is) (record {
      here = at_without o s ((s, i) ∷ es) dm ∙ ap (λ u. cond u None (at_serial s ((s, i) ∷ es))) os ∙ at_head (s, i) es;
      rest = λ t j g other. sym (at_second s t i es other) ∙ (left_without o t j ((s, i) ∷ es) dm g).1;
      distinct = distinct_without o ((s, i) ∷ es) dm;
      spare = filter_without (λ e. nat_eq s e.0 || not (overlap i.desc.span e.1.desc.span)) o b ((s, i) ∷ es) (at_second s o i es so ∙ there) (rw so (ap not lap)) ∙ spared_front s i es fresh;
      span = span;
    })

-- the index with one start more
index_put : (s : ℕ) (i : Info) (es fs : List Entry) (m r : List (List ℕ × ℕ)) → IsIndex es m → Reindexed i.desc.span.start s m r → at_serial s fs ≡ Some i → ((t : ℕ) (j : Info) → at_serial t fs ≡ Some j → nat_eq s t ≡ false → (at_serial t es ≡ Some j) × (is_at (key_cmp i.desc.span.start) j.desc.span.start ≡ false)) → ((t : ℕ) (j : Info) → at_serial t es ≡ Some j → is_at (key_cmp i.desc.span.start) j.desc.span.start ≡ false → at_serial t fs ≡ Some j) → IsIndex fs r
index_put s i es fs m r ix now here back kept = record {
  only = λ k t p.
      (elim (is_at (key_cmp i.desc.span.start) k) as (λ u. is_at (key_cmp i.desc.span.start) k ≡ u → (j : Info) × (at_serial t fs ≡ Some j) × (j.desc.span.start ≡ k)) [
        | true ↦ λ u.
            let st : s ≡ t = some_same s t (sym (now k ∙ ap (λ b. cond b (Some s) (lookup (is_at (key_cmp k)) m)) u) ∙ p) in
            (i, ap (λ x. at_serial x fs) (sym st) ∙ here, eq_same _ _ u)
        | false ↦ λ u.
            let was : lookup (is_at (key_cmp k)) m ≡ Some t = sym (now k ∙ ap (λ b. cond b (Some s) (lookup (is_at (key_cmp k)) m)) u) ∙ p in
            let on = ix.only k t was in
            (on.0, kept t on.0 on.1 (ap (is_at (key_cmp i.desc.span.start)) on.2 ∙ u), on.2)
      ]) refl;
  each = λ t j p.
      (elim (nat_eq s t) as (λ w. nat_eq s t ≡ w → lookup (is_at (key_cmp j.desc.span.start)) r ≡ Some t) [
        | true ↦ λ w.
            let st : s ≡ t = exact_unsigned_eq s t w in
            let ij : i ≡ j = some_same i j (sym here ∙ ap (λ x. at_serial x fs) st ∙ p) in
            let at : is_at (key_cmp i.desc.span.start) j.desc.span.start ≡ true = ap (λ x. is_at (key_cmp i.desc.span.start) x.desc.span.start) (sym ij) ∙ same_at i.desc.span.start in
            now j.desc.span.start ∙ ap (λ b. cond b (Some s) (lookup (is_at (key_cmp j.desc.span.start)) m)) at ∙ ap (λ x. Some x) st
        | false ↦ λ w.
            let on = back t j p w in
            now j.desc.span.start ∙ ap (λ b. cond b (Some s) (lookup (is_at (key_cmp j.desc.span.start)) m)) on.1 ∙ ix.each t j on.0
      ]) refl;
}

pub index_new : (s : ℕ) (i : Info) (es fs : List Entry) (m r : List (List ℕ × ℕ)) → fs ≡ (s, i) ∷ es → IsIndex es m → Reindexed i.desc.span.start s m r → at_serial s es ≡ None → lookup (is_at (key_cmp i.desc.span.start)) m ≡ None → IsIndex fs r
index_new s i es fs m r is ix now fresh free = subst (λ l. IsIndex l r) (sym is) (index_put s i es ((s, i) ∷ es) m r ix now (at_head (s, i) es)
    (λ t j p other.
    let was : at_serial t es ≡ Some j = sym (at_second s t i es other) ∙ p in
    (was, is_false _ (λ u. some_none t (sym (ix.each t j was) ∙ ap (λ k. lookup (is_at (key_cmp k)) m) (sym (eq_same _ _ u)) ∙ free))))
    (λ t j p apart. at_second s t i es (differs s t (λ e. some_none j (sym p ∙ ap (λ x. at_serial x es) (sym e) ∙ fresh))) ∙ p))

pub index_over : (s o : ℕ) (i b : Info) (es fs : List Entry) (m r : List (List ℕ × ℕ)) → fs ≡ without o ((s, i) ∷ es) → IsDistinct nat_eq (keys_of es) → IsIndex es m → Reindexed i.desc.span.start s m r → at_serial s es ≡ None → at_serial o es ≡ Some b → b.desc.span.start ≡ i.desc.span.start → IsIndex fs r
index_over s o i b es fs m r is d ix now fresh there start =
    let os : nat_eq o s ≡ false = differs o s (λ e. some_none b (sym there ∙ ap (λ x. at_serial x es) e ∙ fresh)) in
    let dm = distinct_more (s, i) es fresh d in
    subst (λ l. IsIndex l r) (sym is) (index_put s i es (without o ((s, i) ∷ es)) m r ix now
    (at_without o s ((s, i) ∷ es) dm ∙ ap (λ u. cond u None (at_serial s ((s, i) ∷ es))) os ∙ at_head (s, i) es)
    (λ t j p other.
    let on = left_without o t j ((s, i) ∷ es) dm p in
    let was : at_serial t es ≡ Some j = sym (at_second s t i es other) ∙ on.1 in (
      was,
      is_false _ (λ u.
          let ot : o ≡ t = some_same o t (sym (ix.each o b there) ∙ ap (λ k. lookup (is_at (key_cmp k)) m) (start ∙ eq_same _ _ u) ∙ ix.each t j was) in
          true≢false (sym (nat_eq_equiv.refl o) ∙ ap (nat_eq o) ot ∙ on.0)),
    ))
    (λ t j p apart.
    let ot : nat_eq o t ≡ false = differs o t (λ e.
    let bj : b ≡ j = some_same b j (sym there ∙ ap (λ x. at_serial x es) e ∙ p) in
    true≢false (sym (same_at i.desc.span.start) ∙ ap (is_at (key_cmp i.desc.span.start)) (sym start ∙ ap (λ x. x.desc.span.start) bj) ∙ apart)) in
    at_without o t ((s, i) ∷ es) dm ∙ ap (λ u. cond u None (at_serial t ((s, i) ∷ es))) ot ∙ at_second s t i es (differs s t (λ e. some_none j (sym p ∙ ap (λ x. at_serial x es) (sym e) ∙ fresh))) ∙ p))

-- ---- what `put` leaves

entry_none : (s : ℕ) (es : List Entry) → at_serial s es ≡ None → lookup_entry (nat_eq s) es ≡ None
entry_none s [] h = refl
entry_none s (e ∷ es) h =
    (elim (nat_eq s e.0) as (λ u. nat_eq s e.0 ≡ u → lookup_entry (nat_eq s) (e ∷ es) ≡ None) [
      | true ↦ λ u. absurd (some_none e.1 (rw u at h))
      | false ↦ λ u. rw u (entry_none s es (rw u at h))
    ]) refl

take_nothing : (n : ℕ) (es : List Entry) → es ≡ [] → take n es ≡ es
take_nothing zero es h = sym h
take_nothing (suc n) [] h = refl
take_nothing (suc n) (e ∷ es) h = cc

take_all : (n : ℕ) (es : List Entry) → length es ≤ n → take n es ≡ es
take_all n [] h = take_nothing n [] refl
take_all zero (e ∷ es) h = absurd (omega (arith, h))
take_all (suc n) (e ∷ es) h = ap (λ l. e ∷ l) (take_all n es (omega (arith, h)))

pub put_fresh : (s : ℕ) (i : Info) (c : LruCache ℕ Info) → at_serial s c.entries ≡ None → length c.entries < c.cap → put_entries nat_eq c s i ≡ (s, i) ∷ c.entries
put_fresh s i c h low = rw (entry_none s c.entries h) (ap (λ l. (s, i) ∷ l) (take_all (c.cap - 1) c.entries (omega (arith, low))))

pub back_again : (s : ℕ) (i : Info) (es fs ks : List Entry) → fs ≡ (s, i) ∷ es → ks ≡ without s fs → ks ≡ es
back_again s i es fs ks is left = left ∙ ap (without s) is ∙ rw (nat_eq_equiv.refl s) refl

-- two spans with one start overlap
pub one_start : (i b : Info) → b.desc.span.start ≡ i.desc.span.start → key_lt i.desc.span.start i.desc.span.end ≡ true → key_lt b.desc.span.start b.desc.span.end ≡ true → overlap i.desc.span b.desc.span ≡ true
one_start i b same p q = and_both _ _ (subst (λ k. key_lt k b.desc.span.end ≡ true) same q) (subst (λ k. key_lt k i.desc.span.end ≡ true) (sym same) p)
