-- The cache has descriptors that are known alone, whatever is done to it.
use Rattle.std.proofs.Common.{◌≡◌, ℕ, zero, suc, ◌+◌, ◌-◌, ◌^◌, Bool, true, false, cond, List, [], ◌∷◌, ◌++◌, map, find, filter, take, drop, nat_eq, Option, Some, None, refl, sym, subst, inl, inr}
use Rattle.ds_base.proofs.SmallFacts.{none_some, some_same}
use Rattle.ds_base.specs.declared.value.Dir.{Dir}
use Rattle.ds_desc.specs.declared.desc.Info.{Info}
use Rattle.ds_desc.specs.declared.desc.Lease.{Lease}
use Rattle.ds_desc.specs.declared.desc.RangeDesc.{RangeDesc}
use Rattle.ds_cache.specs.Entries.{Entry, Cache, cache, found, to_front, without}
use Rattle.ds_cache.specs.declared.inserted.Inserted.TheVariants.{Added, Spent}
use Rattle.ds_cache.specs.Insert.{Put, newer, standing, put_in, put_new, put_standing, put_newer, put_all, PutFrom, leased, later, with_lease, clear_of}
use Rattle.ds_rule.specs.Journal.{Happening}
use Rattle.ds_rule.specs.Pieces.{Each, IsOneOf}
use Rattle.ds_flight.specs.Goes.{descs_of, known_after}
use Rattle.ds_flight.specs.Ran.{AreKnown}
use Rattle.ds_flight.proofs.Working.{each-more, known-grows, of-left, of-right}

-- ---- parts of lists

pub each-found : {X : Type 0} (P : X → Type 0) (p : X → Bool) (xs : List X) (x : X) → find p xs ≡ Some x → Each P xs → P x
each-found P p [] x h all = none_some x h
each-found P p (y ∷ ys) x h all =
    elim (p y) as (λ t. cond t (Some y) (find p ys) ≡ Some x → P x) [
      | true ↦ λ e. subst P (some_same y x e) all.0
      | false ↦ λ e. each-found P p ys x e all.1
    ] h

each-filter : {X : Type 0} (P : X → Type 0) (p : X → Bool) (xs : List X) → Each P xs → Each P (filter p xs)
each-filter P p [] all = tt
each-filter P p (x ∷ xs) all =
    elim (p x) as (λ t. Each P (cond t (x ∷ filter p xs) (filter p xs))) [
      | true ↦ (all.0, each-filter P p xs all.1)
      | false ↦ each-filter P p xs all.1
    ]

each-take : {X : Type 0} (P : X → Type 0) (n : ℕ) (xs : List X) → Each P xs → Each P (take n xs)
each-take P zero [] all = tt
each-take P zero (x ∷ xs) all = tt
each-take P (suc n) [] all = tt
each-take P (suc n) (x ∷ xs) all = (all.0, each-take P n xs all.1)

each-drop : {X : Type 0} (P : X → Type 0) (n : ℕ) (xs : List X) → Each P xs → Each P (drop n xs)
each-drop P zero [] all = tt
each-drop P zero (x ∷ xs) all = all
each-drop P (suc n) [] all = tt
each-drop P (suc n) (x ∷ xs) all = each-drop P n xs all.1

-- ---- what is known

pub entries-later : (known : List RangeDesc) (hs : List Happening) (es : List Entry) → AreKnown known es → AreKnown (known_after known hs) es
entries-later known hs es all = each-more (λ e. IsOneOf e.1.desc known) (λ e. IsOneOf e.1.desc (known_after known hs)) es (λ e. known-grows e.1.desc known hs) all

pub entries-more : (known more : List RangeDesc) (es : List Entry) → AreKnown known es → AreKnown (known ++ more) es
entries-more known more es all = each-more (λ e. IsOneOf e.1.desc known) (λ e. IsOneOf e.1.desc (known ++ more)) es (λ e. of-left e.1.desc known more) all

-- the descriptors of the cache at first are all that it has
pub entries-first : (es : List Entry) → AreKnown (map (λ e. e.1.desc) es) es
entries-first [] = tt
entries-first (e ∷ es) = (inl refl, each-more (λ x. IsOneOf x.1.desc (map (λ e. e.1.desc) es)) (λ x. IsOneOf x.1.desc (e.1.desc ∷ map (λ e. e.1.desc) es)) es (λ x one. inr one) (entries-first es))

abbrev pub RowsKnown : List RangeDesc → List Info → Type 0
RowsKnown known is = Each (λ i. IsOneOf i.desc known) is

rows-itself : (is : List Info) → RowsKnown (descs_of is) is
rows-itself [] = tt
rows-itself (i ∷ is) = (inl refl, each-more (λ x. IsOneOf x.desc (descs_of is)) (λ x. IsOneOf x.desc (i.desc ∷ descs_of is)) is (λ x one. inr one) (rows-itself is))

pub rows-told : (known : List RangeDesc) (is : List Info) → RowsKnown (known ++ descs_of is) is
rows-told known is = each-more (λ x. IsOneOf x.desc (descs_of is)) (λ x. IsOneOf x.desc (known ++ descs_of is)) is (λ x. of-right x.desc known (descs_of is)) (rows-itself is)

-- ---- what is done to the entries

pub known-without : (known : List RangeDesc) (s : ℕ) (es : List Entry) → AreKnown known es → AreKnown known (without s es)
known-without known s [] all = tt
known-without known s (e ∷ es) all =
    elim (nat_eq s e.0) as (λ t. AreKnown known (cond t es (e ∷ without s es))) [
      | true ↦ all.1
      | false ↦ (all.0, known-without known s es all.1)
    ]

pub front-known : (known : List RangeDesc) (o : Option Entry) (es : List Entry) → ((e : Entry) → o ≡ Some e → IsOneOf e.1.desc known) → AreKnown known es → AreKnown known (to_front o es)
front-known known None es one all = all
front-known known (Some e) es one all = (one e refl, known-without known e.0 es all)

pub known-front : (known : List RangeDesc) (d : Dir) (k : List ℕ) (es : List Entry) → AreKnown known es → AreKnown known (to_front (found d k es) es)
known-front known d k es all = front-known known (found d k es) es (λ e h. each-found (λ x. IsOneOf x.1.desc known) _ es e h all) all

pub known-leased : (known : List RangeDesc) (s : ℕ) (l : Lease) (es : List Entry) → AreKnown known es → AreKnown known (leased s l es)
known-leased known s l [] all = tt
known-leased known s l (e ∷ es) all =
    elim (nat_eq s e.0) as (λ t. AreKnown known (cond t ((e.0, with_lease (later e.1.lease l) e.1) ∷ es) (e ∷ leased s l es))) [
      | true ↦ all
      | false ↦ (all.0, known-leased known s l es all.1)
    ]

known-new : (known : List RangeDesc) (i : Info) (c : Cache) → IsOneOf i.desc known → AreKnown known c.entries → AreKnown known (put_new i c).after.entries
known-new known i c one all =
    elim (nat_eq c.given (2 ^ 64 - 1)) as (λ t. AreKnown known (cond {A = Put} t (record { inserted = Spent; token = 0; after = c }) (record { inserted = Added; token = c.given + 1; after = cache (take c.capacity ((c.given + 1, i) ∷ clear_of i c.entries)) c.capacity (c.given + 1) })).after.entries) [
      | true ↦ all
      | false ↦ each-take (λ e. IsOneOf e.1.desc known) c.capacity ((c.given + 1, i) ∷ clear_of i c.entries) (one, each-filter (λ e. IsOneOf e.1.desc known) _ c.entries all)
    ]

known-standing : (known : List RangeDesc) (i : Info) (c : Cache) (o : Option Entry) → ((e : Entry) → o ≡ Some e → IsOneOf e.1.desc known) → IsOneOf i.desc known → AreKnown known c.entries → AreKnown known (put_standing i c o).after.entries
known-standing known i c None stood one all = known-new known i c one all
known-standing known i c (Some e) stood one all = (stood e refl, known-without known e.0 c.entries all)

known-newer : (known : List RangeDesc) (i : Info) (c : Cache) (o : Option Entry) → IsOneOf i.desc known → AreKnown known c.entries → AreKnown known (put_newer i c o).after.entries
known-newer known i c None one all = known-standing known i c (standing i c.entries) (λ e h. each-found (λ x. IsOneOf x.1.desc known) _ c.entries e h all) one all
known-newer known i c (Some e) one all = all

pub known-put : (known : List RangeDesc) (i : Info) (c : Cache) → IsOneOf i.desc known → AreKnown known c.entries → AreKnown known (put_in i c).after.entries
known-put known i c one all = known-newer known i c (newer i c.entries) one all

pub known-all : (known : List RangeDesc) (is : List Info) (c : Cache) → RowsKnown known is → AreKnown known c.entries → AreKnown known (put_all is c).entries
known-all known [] c rows all = all
known-all known (i ∷ is) c rows all = known-put known i (put_all is c) rows.0 (known-all known is c rows.1 all)

pub known-from : (known : List RangeDesc) (is : List Info) (c d : Cache) → PutFrom is c d → RowsKnown known is → AreKnown known c.entries → AreKnown known d.entries
known-from known is c d from rows all =
    subst (λ x. AreKnown known x.entries) (sym from.1) (known-all known (drop from.0 is) c (each-drop (λ i. IsOneOf i.desc known) from.0 is rows) all)

-- rows that are told go into the cache, all of them or the last ones

pub known-told : (known : List RangeDesc) (is : List Info) (c d : Cache) → d ≡ put_all is c → AreKnown known c.entries → AreKnown (known ++ descs_of is) d.entries
known-told known is c d same all =
    subst (λ x. AreKnown (known ++ descs_of is) x.entries) (sym same) (known-all (known ++ descs_of is) is c (rows-told known is) (entries-more known (descs_of is) c.entries all))

pub known-begun : (known : List RangeDesc) (is : List Info) (c d : Cache) → PutFrom is c d → AreKnown known c.entries → AreKnown (known ++ descs_of is) d.entries
known-begun known is c d from all = known-from (known ++ descs_of is) is c d from (rows-told known is) (entries-more known (descs_of is) c.entries all)
