-- Maps of keys, moved into one another: told by what is found at each key.
use Rattle.std.proofs.Common.{◌≡◌, ℕ, Bool, true, false, cond, ◌||◌, List, [], ◌∷◌, ◌++◌, Option, Some, None, refl, sym, ap, ◌∙◌, subst, is_some}
use Rattle.std.specs.Option.{option_or, option_map}
use Rattle.std.specs.Ordering.{is_eq}
use Rattle.std.specs.BTreeMap.{is_at}
use Rattle.ds_base.specs.Order.{key_cmp}
use Rattle.ds_base.specs.Ordered.{key_eq, AllOver, Ascends, at_key}
use Rattle.ds_base.proofs.OrderedFacts.{eq_same, eq_itself, same_list}
use Rattle.ds_base.proofs.SmallFacts.{or_right}
use Rattle.ds_cell.specs.Content.{Content}
use Rattle.ds_cell.specs.Ask.{Cell, Cells, key_of}
use Rattle.ds_range.specs.Joins.{found, ChangedAt, Apart, Among, SameBeside, HoldsBoth}
use Rattle.ds_range.proofs.Maps.{key_eq_turned, missing}

-- two ordered maps in which the same is found at each key are one

find_found : (k : List ℕ) (es : Cells) → at_key key_of k es ≡ option_map (λ c. (k, c)) (found k es)
find_found k [] = refl
find_found k (p ∷ ps) =
    subst (λ t. at_key key_of k (p ∷ ps) ≡ option_map (λ c. (k, c)) (cond t (Some p.1) (found k ps))) (sym (key_eq_turned k p.0))
    (elim (key_eq p.0 k) as (λ t. key_eq p.0 k ≡ t → cond t (Some p) (at_key key_of k ps) ≡ option_map (λ c. (k, c)) (cond t (Some p.1) (found k ps))) [
      | true ↦ λ e. ap (λ q. Some (q, p.1)) (eq_same p.0 k e)
      | false ↦ λ e. find_found k ps
    ] refl)

same_found : (xs ys : Cells) → Ascends key_of xs → Ascends key_of ys → ((k : List ℕ) → found k xs ≡ found k ys) → xs ≡ ys
same_found xs ys a b h =
    same_list key_of xs ys a b (λ k. find_found k xs ∙ ap (option_map (λ c. (k, c))) (h k) ∙ sym (find_found k ys))

found_both : (k : List ℕ) (xs ys : Cells) → found k (xs ++ ys) ≡ option_or (found k xs) (found k ys)
found_both k [] ys = refl
found_both k (p ∷ ps) ys = elim (is_eq (key_cmp k p.0)) as (λ t. cond t (Some p.1) (found k (ps ++ ys)) ≡ option_or (cond t (Some p.1) (found k ps)) (found k ys)) [
  | true ↦ refl
  | false ↦ found_both k ps ys
]

-- maps without a key in common

over_second : (k : List ℕ) (xs ys : Cells) → AllOver key_of k (xs ++ ys) → AllOver key_of k ys
over_second k [] ys all = all
over_second k (x ∷ xs) ys all = over_second k xs ys all.1

nothing_found : {G : Type 0} → false ≡ true → G
nothing_found h = cc

pub apart_left : (xs ys : Cells) → Ascends key_of (xs ++ ys) → Apart xs ys
apart_left [] ys asc k h = nothing_found h
apart_left (p ∷ ps) ys asc k h =
    elim (key_eq k p.0) as (λ t. key_eq k p.0 ≡ t → is_some (cond t (Some p.1) (found k ps)) ≡ true → found k ys ≡ None) [
      | true ↦ λ e g. missing k ys (subst (λ q. AllOver key_of q ys) (sym (eq_same k p.0 e)) (over_second p.0 ps ys asc.0))
      | false ↦ λ e g. apart_left ps ys asc.1 k g
    ] refl h

turned : {X : Type 0} (o p : Option X) → (is_some o ≡ true → p ≡ None) → is_some p ≡ true → o ≡ None
turned None p h g = refl
turned (Some x) p h g = nothing_found (sym (ap is_some (h refl)) ∙ g)

pub apart_right : (xs ys : Cells) → Ascends key_of (xs ++ ys) → Apart ys xs
apart_right xs ys asc k h = turned (found k xs) (found k ys) (apart_left xs ys asc k) h

or_turned : {X : Type 0} (o p : Option X) → (is_some o ≡ true → p ≡ None) → option_or p o ≡ option_or o p
or_turned None None h = refl
or_turned None (Some x) h = refl
or_turned (Some x) p h = ap (λ z. option_or z (Some x)) (h refl)

-- what was moved stands in front of the others, or behind them

pub joined_left : (xs ys new : Cells) → Ascends key_of (xs ++ ys) → Ascends key_of new → HoldsBoth xs ys new → new ≡ xs ++ ys
joined_left xs ys new asc now h = same_found new (xs ++ ys) now asc (λ k. h k ∙ sym (found_both k xs ys))

pub joined_right : (xs ys new : Cells) → Ascends key_of (xs ++ ys) → Ascends key_of new → HoldsBoth ys xs new → new ≡ xs ++ ys
joined_right xs ys new asc now h =
    same_found new (xs ++ ys) now asc (λ k. h k ∙ or_turned (found k xs) (found k ys) (apart_left xs ys asc k) ∙ sym (found_both k xs ys))

-- all cells moved, to where empty ones were begun

second : {X : Type 0} (o p q : Option X) → (o ≡ None → p ≡ q) → option_or o p ≡ option_or o q
second None p q h = h refl
second (Some x) p q h = refl

pub holds_old : (from old mid new : Cells) → SameBeside from mid old → HoldsBoth from mid new → HoldsBoth from old new
holds_old from old mid new beside h k = h k ∙ second (found k from) (found k mid) (found k old) (beside k)

-- the begun ones removed

back_at : {X : Type 0} (o p q r : Option X) → (o ≡ None → p ≡ q) → (o ≡ None → q ≡ r) → (is_some o ≡ true → p ≡ None) → (is_some o ≡ true → r ≡ None) → p ≡ r
back_at None p q r a b c d = a refl ∙ b refl
back_at (Some x) p q r a b c d = c refl ∙ sym (d refl)

pub all_back : (from old mid new : Cells) → Ascends key_of old → Ascends key_of new → Apart from old → SameBeside from mid old → Apart from new → SameBeside from new mid → new ≡ old
all_back from old mid new asc now apart begun gone ended =
    same_found new old now asc (λ k. back_at (found k from) (found k new) (found k mid) (found k old) (ended k) (begun k) (gone k) (apart k))

-- ---- one key

same_test : (k q : List ℕ) → is_at (key_cmp k) q ≡ is_at (key_cmp q) k
same_test k q = key_eq_turned k q

-- elsewhere all stays
pub beside_more : (k : List ℕ) (o : Option Content) (from old now next : Cells) → is_some (found k from) ≡ true → ChangedAt k o now next → SameBeside from now old → SameBeside from next old
beside_more k o from old now next of_from changed beside q none =
    changed q
    ∙ elim (key_eq k q) as (λ t. key_eq k q ≡ t → cond t o (found q now) ≡ found q old) [
      | true ↦ λ e. nothing_found (sym (ap is_some (ap (λ z. found z from) (eq_same k q e) ∙ none)) ∙ of_from)
      | false ↦ λ e. beside q none
    ] refl

some_either : {X : Type 0} (t : Bool) (x : X) (o : Option X) → is_some o ≡ true → is_some (cond t (Some x) o) ≡ true
some_either true x o h = refl
some_either false x o h = h

-- the keys still to come are some of all
pub rest_among : (from rest all : Cells) (p : Cell) → all ≡ p ∷ rest → Among all from → Among rest from
rest_among from rest all p is among k h =
    among k (ap (λ z. is_some (found k z)) is ∙ some_either (is_at (key_cmp k) p.0) p.1 (found k rest) h)

pub first_among : (from rest all : Cells) (p : Cell) → all ≡ p ∷ rest → Among all from → is_some (found p.0 from) ≡ true
first_among from rest all p is among =
    among p.0 (ap (λ z. is_some (found p.0 z)) is ∙ ap (λ t. is_some (cond t (Some p.1) (found p.0 rest))) (eq_itself p.0))

-- ---- cells that are begun, one after another

-- each key of the first is one of those still to come, or begun
abbrev pub Begun : Cells → Cells → Cells → Type 0
Begun from rest to = (k : List ℕ) → is_some (found k from) ≡ true → (is_some (found k rest) || is_some (found k to)) ≡ true

pub begun_first : (from to : Cells) → Begun from from to
begun_first from to k h = ap (λ t. t || is_some (found k to)) h

begun_at : {X : Type 0} (t : Bool) (x y : X) (o p : Option X) → (is_some (cond t (Some x) o) || is_some p) ≡ true → (is_some o || is_some (cond t (Some y) p)) ≡ true
begun_at true x y o p h = or_right (is_some o) true refl
begun_at false x y o p h = h

pub begun_more : (from rest all to next : Cells) (p : Cell) (c : Content) → all ≡ p ∷ rest → ChangedAt p.0 (Some c) to next → Begun from all to → Begun from rest next
begun_more from rest all to next p c is changed begun k h =
    ap (λ o. is_some (found k rest) || is_some o) (changed k ∙ ap (λ t. cond t (Some c) (found k to)) (same_test p.0 k))
    ∙ begun_at (is_at (key_cmp k) p.0) p.1 c (found k rest) (found k to) (sym (ap (λ z. is_some (found k z) || is_some (found k to)) is) ∙ begun k h)

pub begun_all : (from to : Cells) → Begun from [] to → Among from to
begun_all from to begun k h = begun k h

-- ---- keys that are removed, one after another

-- each key of the first is one of those still to come, or gone
abbrev pub Gone : Cells → Cells → Cells → Type 0
Gone from rest to = (k : List ℕ) → is_some (found k from) ≡ true → found k rest ≡ None → found k to ≡ None

pub gone_first : (from to : Cells) → Gone from from to
gone_first from to k h none = nothing_found (sym (ap is_some none) ∙ h)

gone_at : {X : Type 0} (t : Bool) (x : X) (o p : Option X) → o ≡ None → (cond t (Some x) o ≡ None → p ≡ None) → cond t None p ≡ None
gone_at true x o p none h = refl
gone_at false x o p none h = h none

pub gone_more : (from rest all to next : Cells) (p : Cell) → all ≡ p ∷ rest → ChangedAt p.0 None to next → Gone from all to → Gone from rest next
gone_more from rest all to next p is changed gone k h none =
    changed k ∙ ap (λ t. cond t None (found k to)) (same_test p.0 k)
    ∙ gone_at (is_at (key_cmp k) p.0) p.1 (found k rest) (found k to) none (λ e. gone k h (ap (found k) is ∙ e))

pub gone_all : (from to : Cells) → Gone from [] to → Apart from to
gone_all from to gone k h = gone k h refl

-- ---- cells that are moved, one after another

-- with those still to be moved all is as it was
abbrev pub Moving : Cells → Cells → Cells → Cells → Type 0
Moving from to rest now = (k : List ℕ) → option_or (found k rest) (found k now) ≡ option_or (found k from) (found k to)

moved_at : {X : Type 0} (t : Bool) (x : X) (o p q : Option X) → o ≡ cond t (Some x) q → option_or (cond t None o) (cond t (Some x) p) ≡ option_or o p
moved_at true x o p q is = ap (λ z. option_or z p) (sym is)
moved_at false x o p q is = refl

pub moving_more : (from to rest less now next : Cells) (p : Cell) → rest ≡ p ∷ less → ChangedAt p.0 None rest less → ChangedAt p.0 (Some p.1) now next → Moving from to rest now → Moving from to less next
moving_more from to rest less now next p is taken put moving k =
    ap (λ o. option_or o (found k next)) (taken k)
    ∙ ap (option_or (cond (is_at (key_cmp p.0) k) None (found k rest))) (put k)
    ∙ moved_at (is_at (key_cmp p.0) k) p.1 (found k rest) (found k now) (found k less) (ap (found k) is ∙ ap (λ t. cond t (Some p.1) (found k less)) (sym (same_test p.0 k)))
    ∙ moving k

pub moving_all : (from to rest now : Cells) → rest ≡ [] → Moving from to rest now → HoldsBoth from to now
moving_all from to rest now none moving k = sym (ap (λ z. option_or (found k z) (found k now)) none) ∙ moving k

among_at : {X : Type 0} (t : Bool) (x : X) (o p : Option X) → (is_some o ≡ true → is_some p ≡ true) → is_some (cond t None o) ≡ true → is_some (cond t (Some x) p) ≡ true
among_at true x o p h g = refl
among_at false x o p h g = h g

pub among_more : (rest less now next : Cells) (p : Cell) → ChangedAt p.0 None rest less → ChangedAt p.0 (Some p.1) now next → Among rest now → Among less next
among_more rest less now next p taken put among k h =
    ap is_some (put k) ∙ among_at (is_at (key_cmp p.0) k) p.1 (found k rest) (found k now) (among k) (sym (ap is_some (taken k)) ∙ h)
