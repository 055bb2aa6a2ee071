-- What every cache keeps, after each change.
use Rattle.std.proofs.Common.{◌≡◌, ℕ, ◌≤◌, true, false, cond, not, List, [], ◌∷◌, length, Some, None, IsSome, option_map, refl, sym, ap, ◌∙◌, subst, arith, nat_eq, true≢false}
use Rattle.std.specs.Ordering.{is_eq}
use Rattle.std.specs.Cmp.{nat_eq_equiv}
use Rattle.std.specs.List.{IsDistinct}
use Rattle.std.specs.Map.{lookup, keys_of}
use Rattle.std.specs.BTreeMap.{is_at}
use Rattle.std.proofs.lemmas.Map.Views.{exact_unsigned_eq}
use Rattle.std.proofs.lemmas.Cmp.{tied_itself, nat_list_cmp_total}
use Rattle.lru.specs.LruCache.{promoted}
use Rattle.ds_base.specs.Order.{key_cmp, key_lt, key_le, Extent}
use Rattle.ds_base.proofs.KeyOrder.{key_le_lt-trans, key_le-not_lt}
use Rattle.ds_base.proofs.OrderedFacts.{eq_same, lt_le_trans}
use Rattle.ds_base.specs.declared.value.Dir.{Dir}
use Rattle.ds_base.specs.declared.value.Dir.TheVariants.{Forward, Reverse}
use Rattle.ds_base.proofs.SmallFacts.{and_both, and_first, and_second, some_none, some_same}
use Rattle.ds_desc.specs.Contains.{contains}
use Rattle.ds_desc.specs.declared.desc.Info.{Info}
use Rattle.ds_desc.specs.Descs.{overlap}
use Rattle.ds_cache.specs.Entries.{Entry, Cache, cache, found, at_serial, without, to_front, IsSound, IsIndex, Unindexed}
use Rattle.ds_cache.specs.Nearest.{before, NoneBefore, IsLastBefore}
use Rattle.ds_cache.proofs.Serials.{entry_at, find_none, find_only, at_without, distinct_without, length_without, at_front, distinct_front, length_front}

-- ---- fewer entries, or the same in another order

pub sound_less : (es fs : List Entry) (n g : ℕ) → IsSound (cache es n g) → ((q : ℕ) (i : Info) → at_serial q fs ≡ Some i → at_serial q es ≡ Some i) → IsDistinct nat_eq (keys_of fs) → length fs ≤ n → IsSound (cache fs n g)
sound_less es fs n g h less d l = record {
  apart = λ s t a b p q. h.apart s t a b (less s a p) (less t b q);
  spans = λ s i p. h.spans s i (less s i p);
  serials = λ s i p. h.serials s i (less s i p);
  distinct = d;
  fits = l;
  some = h.some;
}

pub index_same : (es fs : List Entry) (m : List (List ℕ × ℕ)) → IsIndex es m → ((q : ℕ) → at_serial q fs ≡ at_serial q es) → IsIndex fs m
index_same es fs m h same = record {
  only = λ k s p. let on = h.only k s p in (on.0, same s ∙ on.1, on.2);
  each = λ s i p. h.each s i (sym (same s) ∙ p);
}

-- ---- an entry taken out

pub left_without : (s q : ℕ) (i : Info) (es : List Entry) → IsDistinct nat_eq (keys_of es) → at_serial q (without s es) ≡ Some i → (nat_eq s q ≡ false) × (at_serial q es ≡ Some i)
left_without s q i es d h =
    (elim (nat_eq s q) as (λ t. nat_eq s q ≡ t → (nat_eq s q ≡ false) × (at_serial q es ≡ Some i)) [
      | true ↦ λ t. absurd (some_none i (sym h ∙ at_without s q es d ∙ ap (λ b. cond b None (at_serial q es)) t))
      | false ↦ λ t. (t, sym (at_without s q es d ∙ ap (λ b. cond b None (at_serial q es)) t) ∙ h)
    ]) refl

pub sound_without : (s : ℕ) (es : List Entry) (n g : ℕ) → IsSound (cache es n g) → IsSound (cache (without s es) n g)
sound_without s es n g h =
    let l = length_without s es in
    let f = h.fits in
    sound_less es (without s es) n g h (λ q i p. (left_without s q i es h.distinct p).1) (distinct_without s es h.distinct) (omega (arith, l, f))

-- a serial that doesn't stand
pub without_none : (s : ℕ) (es : List Entry) → at_serial s es ≡ None → without s es ≡ es
without_none s [] h = refl
without_none s (e ∷ es) h =
    (elim (nat_eq s e.0) as (λ t. nat_eq s e.0 ≡ t → without s (e ∷ es) ≡ e ∷ es) [
      | true ↦ λ t. absurd (some_none e.1 (rw t at h))
      | false ↦ λ t. rw t (ap (λ l. e ∷ l) (without_none s es (rw t at h)))
    ]) refl

pub same_at : (k : List ℕ) → is_at (key_cmp k) k ≡ true
same_at k = ap is_eq (tied_itself nat_list_cmp_total k)

pub index_without : (s : ℕ) (i : Info) (es : List Entry) (m r : List (List ℕ × ℕ)) → IsDistinct nat_eq (keys_of es) → IsIndex es m → at_serial s es ≡ Some i → Unindexed i.desc.span.start m r → IsIndex (without s es) r
index_without s i es m r d h there now = record {
  only = λ k t p.
      (elim (is_at (key_cmp i.desc.span.start) k) as (λ u. is_at (key_cmp i.desc.span.start) k ≡ u → (j : Info) × (at_serial t (without s es) ≡ Some j) × (j.desc.span.start ≡ k)) [
        | true ↦ λ u. absurd (some_none t (sym p ∙ now k ∙ ap (λ b. cond b None (lookup (is_at (key_cmp k)) m)) u))
        | false ↦ λ u.
            let was : lookup (is_at (key_cmp k)) m ≡ Some t = sym (now k ∙ ap (λ b. cond b None (lookup (is_at (key_cmp k)) m)) u) ∙ p in
            let on = h.only k t was in
            (elim (nat_eq s t) as (λ w. nat_eq s t ≡ w → (j : Info) × (at_serial t (without s es) ≡ Some j) × (j.desc.span.start ≡ k)) [
              | true ↦ λ w.
                  let st : s ≡ t = exact_unsigned_eq s t w in
                  let ij : i ≡ on.0 = some_same i on.0 (sym there ∙ ap (λ x. at_serial x es) st ∙ on.1) in
                  let ik : i.desc.span.start ≡ k = ap (λ x. x.desc.span.start) ij ∙ on.2 in
                  absurd (true≢false (sym (same_at k) ∙ ap (λ x. is_at (key_cmp x) k) (sym ik) ∙ u))
              | false ↦ λ w. (on.0, at_without s t es d ∙ ap (λ b. cond b None (at_serial t es)) w ∙ on.1, on.2)
            ]) refl
      ]) refl;
  each = λ t j p.
      let on = left_without s t j es d p in
      let was = h.each t j on.1 in
      (elim (is_at (key_cmp i.desc.span.start) j.desc.span.start) as (λ u. is_at (key_cmp i.desc.span.start) j.desc.span.start ≡ u → lookup (is_at (key_cmp j.desc.span.start)) r ≡ Some t) [
        | true ↦ λ u.
            let ks : i.desc.span.start ≡ j.desc.span.start = eq_same _ _ u in
            let st : s ≡ t = some_same s t (sym (h.each s i there) ∙ ap (λ k. lookup (is_at (key_cmp k)) m) ks ∙ was) in
            absurd (true≢false (sym (nat_eq_equiv.refl s) ∙ ap (nat_eq s) st ∙ on.0))
        | false ↦ λ u. now j.desc.span.start ∙ ap (λ b. cond b None (lookup (is_at (key_cmp j.desc.span.start)) m)) u ∙ was
      ]) refl;
}

-- ---- the entry that contains a key, through the index

-- a span that starts before k, and one that contains k
before_overlap : (d : Dir) (k a : List ℕ) (t : Extent) → before d a k ≡ true → contains d k t ≡ true → key_lt a t.end ≡ true
before_overlap Forward k a t h c = key_le_lt-trans a k t.end h (and_second _ _ c)
before_overlap Reverse k a t h c = lt_le_trans a k t.end h (and_second _ _ c)

contains_before : (d : Dir) (k : List ℕ) (t : Extent) → contains d k t ≡ true → before d t.start k ≡ true
contains_before Forward k t c = and_first _ _ c
contains_before Reverse k t c = and_first _ _ c

-- two spans that contain a key overlap
both_overlap : (d : Dir) (k : List ℕ) (s t : Extent) → contains d k s ≡ true → contains d k t ≡ true → overlap s t ≡ true
both_overlap d k s t p q = and_both _ _ (before_overlap d k s.start t (contains_before d k s p) q) (before_overlap d k t.start s (contains_before d k t q) p)

-- nothing starts before the key
pub none_found : (d : Dir) (k : List ℕ) (es : List Entry) (n g : ℕ) (m : List (List ℕ × ℕ)) → IsSound (cache es n g) → IsIndex es m → NoneBefore d k m → found d k es ≡ None
none_found d k es n g m h ix none = find_none (λ e. contains d k e.1.desc.span) es h.distinct (λ t j p.
    (elim (contains d k j.desc.span) as (λ u. contains d k j.desc.span ≡ u → contains d k j.desc.span ≡ false) [
      | true ↦ λ u. absurd (some_none t (sym (ix.each t j p) ∙ none j.desc.span.start (contains_before d k j.desc.span u)))
      | false ↦ λ u. u
    ]) refl)

-- the last that starts before the key, where it contains the key
pub found_last : (d : Dir) (k : List ℕ) (es : List Entry) (n g : ℕ) (s : ℕ) (i : Info) → IsSound (cache es n g) → at_serial s es ≡ Some i → contains d k i.desc.span ≡ true → found d k es ≡ Some (s, i)
found_last d k es n g s i h there c = find_only (λ e. contains d k e.1.desc.span) es h.distinct s i there c (λ t j p u. h.apart t s j i p there (both_overlap d k j.desc.span i.desc.span u c))

-- and where it doesn't
pub missed_last : (d : Dir) (k : List ℕ) (es : List Entry) (n g : ℕ) (m : List (List ℕ × ℕ)) (s : ℕ) (i : Info) → IsSound (cache es n g) → IsIndex es m → IsLastBefore d k m s → at_serial s es ≡ Some i → contains d k i.desc.span ≡ false → found d k es ≡ None
missed_last d k es n g m s i h ix l there c = find_none (λ e. contains d k e.1.desc.span) es h.distinct (λ t j p.
    (elim (contains d k j.desc.span) as (λ u. contains d k j.desc.span ≡ u → contains d k j.desc.span ≡ false) [
      | true ↦ λ u.
          let on = ix.only l.key s l.there in
          let ij : on.0 ≡ i = some_same on.0 i (sym on.1 ∙ there) in
          let start : i.desc.span.start ≡ l.key = sym (ap (λ x. x.desc.span.start) ij) ∙ on.2 in
          let low : before d i.desc.span.start k ≡ true = ap (λ x. before d x k) start ∙ l.low in
          let some : IsSome (lookup (is_at (key_cmp j.desc.span.start)) m) = rw (ix.each t j p) refl in
          let last : key_lt i.desc.span.start j.desc.span.start ≡ false = ap (λ x. key_lt x j.desc.span.start) start ∙ l.last j.desc.span.start (contains_before d k j.desc.span u) some in
          let le : key_le j.desc.span.start i.desc.span.start ≡ true = key_le-not_lt j.desc.span.start i.desc.span.start ∙ ap not last in
          let meet : overlap i.desc.span j.desc.span ≡ true = and_both _ _ (before_overlap d k i.desc.span.start j.desc.span low u) (key_le_lt-trans j.desc.span.start i.desc.span.start i.desc.span.end le (h.spans s i there)) in
          let st : s ≡ t = h.apart s t i j there p meet in
          let same : i ≡ j = some_same i j (sym there ∙ ap (λ x. at_serial x es) st ∙ p) in
          absurd (true≢false (sym u ∙ ap (λ x. contains d k x.desc.span) (sym same) ∙ c))
      | false ↦ λ u. u
    ]) refl)

-- the entry at the front
pub sound_front : (s : ℕ) (i : Info) (es : List Entry) (n g : ℕ) → IsSound (cache es n g) → at_serial s es ≡ Some i → IsSound (cache (to_front (Some (s, i)) es) n g)
sound_front s i es n g h there =
    let l = length_front s i es there in
    let f = h.fits in
    sound_less es (to_front (Some (s, i)) es) n g h (λ q j p. sym (at_front s q i es h.distinct there) ∙ p) (distinct_front s i es h.distinct) (omega (arith, l, f))

-- ---- what `find` says, of the cache as it was seen

pub token_none : (d : Dir) (k : List ℕ) (w x : Cache) → w ≡ x → found d k w.entries ≡ None → None ≡ option_map (λ e. e.0) (found d k x.entries)
token_none d k w x same f = let g : found d k x.entries ≡ None = ap (λ c. found d k c.entries) (sym same) ∙ f in rw g refl

pub cache_none : (d : Dir) (k : List ℕ) (w x : Cache) → w ≡ x → found d k w.entries ≡ None → x ≡ cache (to_front (found d k x.entries) x.entries) x.capacity x.given
cache_none d k w x same f = let g : found d k x.entries ≡ None = ap (λ c. found d k c.entries) (sym same) ∙ f in rw g refl

pub token_some : (d : Dir) (k : List ℕ) (w x : Cache) (s : ℕ) (i : Info) → w ≡ x → found d k w.entries ≡ Some (s, i) → Some s ≡ option_map (λ e. e.0) (found d k x.entries)
token_some d k w x s i same f = let g : found d k x.entries ≡ Some (s, i) = ap (λ c. found d k c.entries) (sym same) ∙ f in rw g refl

pub cache_some : (d : Dir) (k : List ℕ) (w x : Cache) (s : ℕ) (i : Info) (fs : List Entry) → w ≡ x → found d k w.entries ≡ Some (s, i) → fs ≡ to_front (Some (s, i)) w.entries → cache fs w.capacity w.given ≡ cache (to_front (found d k x.entries) x.entries) x.capacity x.given
cache_some d k w x s i fs same f front =
    subst (λ c. cache fs w.capacity w.given ≡ cache (to_front (found d k c.entries) c.entries) c.capacity c.given) same (rw f (ap (λ l. cache l w.capacity w.given) front))

-- what `promote` leaves
pub promoted_front : (s : ℕ) (i : Info) (es : List Entry) → at_serial s es ≡ Some i → promoted (nat_eq s) es ≡ to_front (Some (s, i)) es
promoted_front s i es h = rw (entry_at s i es h) refl
