-- The entries that overlap a descriptor, the last first, and the one used last of those that outdate it.
use Rattle.std.proofs.Common.{◌≡◌, ℕ, ◌≤◌, ◌<◌, true, false, not, List, Option, Some, None, option_map, refl, sym, ap, ◌∙◌, subst, arith, nat_eq, nat_le, nat_lt, true≢false}
use Rattle.std.specs.List.{IsDistinct}
use Rattle.std.specs.Map.{lookup, keys_of}
use Rattle.std.specs.BTreeMap.{is_at}
use Rattle.ds_base.specs.Order.{IsKey, key_cmp, key_lt, key_le}
use Rattle.ds_base.specs.Number.{key_number}
use Rattle.ds_base.proofs.KeyNumber.{key_number-rises}
use Rattle.ds_base.proofs.KeyOrder.{key_le_lt-trans, key_lt-trans, key_le-not_lt, key_le-antisymm}
use Rattle.ds_base.proofs.SmallFacts.{and_both, and_first, and_second, none_some, some_none, some_same, lt_of, ge_of}
use Rattle.ds_base.specs.declared.value.Dir.TheVariants.{Reverse}
use Rattle.ds_desc.specs.declared.desc.Info.{Info}
use Rattle.ds_desc.specs.Descs.{overlap}
use Rattle.ds_cache.specs.Entries.{Entry, at_serial, NoOverlap, IsIndex}
use Rattle.ds_desc.specs.Descs.{same_desc}
use Rattle.ds_cache.specs.Insert.{outdates, newer}
use Rattle.ds_cache.specs.Nearest.{NoneBefore, IsLastBefore}
use Rattle.ds_cache.specs.Outdating.{NoneReaches, IsLastReaching, IsLatestAbove, Walked}
use Rattle.ds_cache.specs.Placing.{AreSpans}
use Rattle.ds_cache.specs.Uses.{last_use, Fall, used_later}
use Rattle.ds_cache.proofs.Ranked.{fall_at, find_latest}
use Rattle.ds_cache.proofs.Serials.{is_false, find_none}

-- ---- the last entry that starts below a key

pub none_reaches : (i : Info) (k : List ℕ) (es : List Entry) (m : List (List ℕ × ℕ)) → IsIndex es m → NoneBefore Reverse k m → NoneReaches i k es
none_reaches i k es m ix none t j p low = some_none t (sym (ix.each t j p) ∙ none j.desc.span.start low)

pub last_of : (k : List ℕ) (es : List Entry) (m : List (List ℕ × ℕ)) (u : ℕ) (b : Info) → IsIndex es m → IsLastBefore Reverse k m u → at_serial u es ≡ Some b → IsLastReaching k es u b
last_of k es m u b ix l there =
    let on = ix.only l.key u l.there in
    let start : b.desc.span.start ≡ l.key = ap (λ x. x.desc.span.start) (some_same b on.0 (sym there ∙ on.1)) ∙ on.2 in
    record {
      there = there;
      low = ap (λ x. key_lt x k) start ∙ l.low;
      last = λ t j p low. ap (λ x. key_lt x j.desc.span.start) start ∙ l.last j.desc.span.start low (rw (ix.each t j p) refl);
    }

-- where it doesn't reach above the start, none does
pub none_further : (i : Info) (k : List ℕ) (es : List Entry) (s : ℕ) (b : Info) → NoOverlap es → AreSpans es → IsLastReaching k es s b → key_lt i.desc.span.start b.desc.span.end ≡ false → NoneReaches i k es
none_further i k es s b apart spans l up t j p below = is_false _ (λ o.
    let le : key_le j.desc.span.start b.desc.span.start ≡ true = key_le-not_lt j.desc.span.start b.desc.span.start ∙ ap not (l.last t j p below) in
    let reach : key_lt i.desc.span.start j.desc.span.end ≡ true = and_first _ _ o in
    let beneath : key_le b.desc.span.end i.desc.span.start ≡ true = key_le-not_lt b.desc.span.end i.desc.span.start ∙ ap not up in
    let first : key_lt b.desc.span.start j.desc.span.end ≡ true = key_lt-trans b.desc.span.start b.desc.span.end j.desc.span.end (spans s b l.there) (key_le_lt-trans b.desc.span.end i.desc.span.start j.desc.span.end beneath reach) in
    let second : key_lt j.desc.span.start b.desc.span.end ≡ true = key_le_lt-trans j.desc.span.start b.desc.span.start b.desc.span.end le (spans s b l.there) in
    let same : s ≡ t = apart s t b j l.there p (and_both _ _ first second) in
    let bj : b ≡ j = some_same b j (sym l.there ∙ ap (λ x. at_serial x es) same ∙ p) in
    true≢false (sym reach ∙ ap (λ x. key_lt i.desc.span.start x.desc.span.end) (sym bj) ∙ up))

-- ---- from entry to entry

pub overlaps_of : (i j : Info) → outdates i j ≡ true → overlap i.desc.span j.desc.span ≡ true
overlaps_of i j h = and_first (overlap i.desc.span j.desc.span) (nat_le i.desc.generation j.desc.generation) (and_first _ (not (same_desc i.desc j.desc)) h)

pub walked_first : (i : Info) (es : List Entry) (us : List (ℕ × ℕ)) → Walked i i.desc.span.end es us None
walked_first i es us t j p o = and_second (key_lt i.desc.span.start j.desc.span.end) _ (overlaps_of i j o)

module _ (i : Info) (k : List ℕ) (es : List Entry) (m : List (List ℕ × ℕ)) (us : List (ℕ × ℕ)) (s : ℕ) (b : Info) (ix : IsIndex es m) (l : IsLastReaching k es s b) where
  -- an entry that starts at the last one's start or above it is that one, or starts at k or above it
  at_or_above : (t : ℕ) (j : Info) → at_serial t es ≡ Some j → key_lt j.desc.span.start k ≡ true → key_lt j.desc.span.start b.desc.span.start ≡ false → t ≡ s
  at_or_above t j p below not_lower =
      let le : key_le j.desc.span.start b.desc.span.start ≡ true = key_le-not_lt j.desc.span.start b.desc.span.start ∙ ap not (l.last t j p below) in
      let start : j.desc.span.start ≡ b.desc.span.start = key_le-antisymm _ _ le not_lower in
      some_same t s (sym (ix.each t j p) ∙ ap (λ x. lookup (is_at (key_cmp x)) m) start ∙ ix.each s b l.there)

  -- the last one doesn't outdate
  not_that_one : outdates i b ≡ false → (t : ℕ) (j : Info) → at_serial t es ≡ Some j → outdates i j ≡ true → t ≡ s → ⊥
  not_that_one not_so t j p o same =
      let jb : j ≡ b = some_same j b (sym p ∙ ap (λ x. at_serial x es) same ∙ l.there) in
      true≢false (sym o ∙ ap (outdates i) jb ∙ not_so)

  walked_past : (by : Option (ℕ × ℕ)) → outdates i b ≡ false → Walked i k es us by → Walked i b.desc.span.start es us by
  walked_past None not_so h = λ t j p o.
      (elim (key_lt j.desc.span.start b.desc.span.start) as (λ w. key_lt j.desc.span.start b.desc.span.start ≡ w → key_lt j.desc.span.start b.desc.span.start ≡ true) [
        | true ↦ λ w. w
        | false ↦ λ w. absurd (not_that_one not_so t j p o (at_or_above t j p (h t j p o) w))
      ]) refl
  walked_past (Some g) not_so h = record {
    serial = h.serial;
    entry = h.entry;
    there = h.there;
    newer = h.newer;
    used = h.used;
    generation = h.generation;
    latest = λ t v j p o w was.
        (elim (key_lt j.desc.span.start k) as (λ x. key_lt j.desc.span.start k ≡ x → v ≤ g.0) [
          | true ↦ λ x. absurd (not_that_one not_so t j p o (at_or_above t j p x w))
          | false ↦ λ x. h.latest t v j p o x was
        ]) refl;
  }

  -- the use of an entry at the last one's start or above it
  use_above : (u n : ℕ) → last_use s us ≡ Some u → u ≤ n → (t v : ℕ) (j : Info) → at_serial t es ≡ Some j → key_lt j.desc.span.start k ≡ true → key_lt j.desc.span.start b.desc.span.start ≡ false → last_use t us ≡ Some v → v ≤ n
  use_above u n used le t v j p below w was =
      let same : v ≡ u = some_same v u (sym was ∙ ap (λ x. last_use x us) (at_or_above t j p below w) ∙ used) in
      omega (arith, same, le)

  -- the last one does
  walked_one : (u : ℕ) (by : Option (ℕ × ℕ)) → outdates i b ≡ true → last_use s us ≡ Some u → Walked i k es us by → IsLatestAbove i b.desc.span.start es us (used_later by (u, b.desc.generation))
  walked_one u None is_so used h = record {
    serial = s;
    entry = b;
    there = l.there;
    newer = is_so;
    used = used;
    generation = refl;
    latest = λ t v j p o w was. use_above u u used (omega arith) t v j p (h t j p o) w was;
  }
  walked_one u (Some q) is_so used h =
      (elim (nat_lt q.0 u) as (λ y. nat_lt q.0 u ≡ y → IsLatestAbove i b.desc.span.start es us (used_later (Some q) (u, b.desc.generation))) [
        | true ↦ λ y. rw y (record {
          serial = s;
          entry = b;
          there = l.there;
          newer = is_so;
          used = used;
          generation = refl;
          latest = λ t v j p o w was.
              (elim (key_lt j.desc.span.start k) as (λ x. key_lt j.desc.span.start k ≡ x → v ≤ u) [
                | true ↦ λ x. use_above u u used (omega arith) t v j p x w was
                | false ↦ λ x. let le = h.latest t v j p o x was in let lt = lt_of q.0 u y in omega (arith, le, lt)
              ]) refl;
        })
        | false ↦ λ y. rw y (record {
          serial = h.serial;
          entry = h.entry;
          there = h.there;
          newer = h.newer;
          used = h.used;
          generation = h.generation;
          latest = λ t v j p o w was.
              (elim (key_lt j.desc.span.start k) as (λ x. key_lt j.desc.span.start k ≡ x → v ≤ q.0) [
                | true ↦ λ x. use_above u q.0 used (ge_of q.0 u y) t v j p x w was
                | false ↦ λ x. h.latest t v j p o x was
              ]) refl;
        })
      ]) refl

  -- ---- as the loop has it

  pub walked_older : (start : List ℕ) (old new : Option (ℕ × ℕ)) → outdates i b ≡ false → Walked i k es us old → start ≡ b.desc.span.start → new ≡ old → Walked i start es us new
  walked_older start old new not_so h is same = subst (λ x. Walked i x es us new) (sym is) (subst (Walked i b.desc.span.start es us) (sym same) (walked_past old not_so h))

  pub walked_newer : (start : List ℕ) (u : ℕ) (old new : Option (ℕ × ℕ)) → outdates i b ≡ true → last_use s us ≡ Some u → Walked i k es us old → start ≡ b.desc.span.start → new ≡ Some (used_later old (u, b.desc.generation)) → Walked i start es us new
  walked_newer start u old new is_so used h is same = subst (λ x. Walked i x es us new) (sym is) (subst (Walked i b.desc.span.start es us) (sym same) (walked_one u old is_so used h))

pub reached_lower : (k start : List ℕ) (es : List Entry) (s : ℕ) (b : Info) → IsLastReaching k es s b → start ≡ b.desc.span.start → IsKey b.desc.span.start → IsKey k → key_number start < key_number k
reached_lower k start es s b l is low up = subst (λ x. key_number x < key_number k) (sym is) (key_number-rises b.desc.span.start k low up l.low)

-- the number that is read is the entry's
pub used_of : (n s r : ℕ) (b : Info) (us : List (ℕ × ℕ)) (es : List Entry) → Fall n us es → at_serial s es ≡ Some b → ((u : ℕ) → last_use s us ≡ Some u → r ≡ u) → last_use s us ≡ Some r
used_of n s r b us es f there read = let on = fall_at n s b us es f there in on.1 ∙ ap (λ x. Some x) (sym (read on.0 on.1))

-- ---- none is left

pub walked_none : (i : Info) (k : List ℕ) (es : List Entry) (us : List (ℕ × ℕ)) (by : Option (ℕ × ℕ)) → by ≡ None → IsDistinct nat_eq (keys_of es) → NoneReaches i k es → Walked i k es us by → None ≡ option_map (λ e. e.1.desc.generation) (newer i es)
walked_none i k es us (Some p) is d none h = some_none p is
walked_none i k es us None is d none h =
    let no : newer i es ≡ None = find_none (λ e. outdates i e.1) es d (λ t j p. is_false _ (λ o. true≢false (sym (overlaps_of i j o) ∙ none t j p (h t j p o)))) in
    rw no refl

pub walked_some : (i : Info) (k : List ℕ) (es : List Entry) (us : List (ℕ × ℕ)) (n : ℕ) (by : Option (ℕ × ℕ)) (p : ℕ × ℕ) → by ≡ Some p → Fall n us es → IsDistinct nat_eq (keys_of es) → NoneReaches i k es → Walked i k es us by → Some p.1 ≡ option_map (λ e. e.1.desc.generation) (newer i es)
walked_some i k es us n None p is f d none h = none_some p is
walked_some i k es us n (Some q) p is f d none h =
    let first : newer i es ≡ Some (h.serial, h.entry) = find_latest (λ e. outdates i e.1) n us es f d h.serial q.0 h.entry h.there h.newer h.used (λ t v j g o was.
    h.latest t v j g o (is_false _ (λ low. true≢false (sym (overlaps_of i j o) ∙ none t j g low))) was) in
    rw first (sym (ap (λ x. Some x) h.generation ∙ ap (λ x. Some x.1) (some_same q p is)))
