-- The key at which several blocks are sought is the nearest of theirs.
use Rattle.std.proofs.Common.{◌≡◌, ℕ, ◌+◌, ◌<◌, Bool, true, false, cond, List, [], ◌∷◌, ◌++◌, get_or, length, map, take, Option, Some, refl, sym, ap, ◌∙◌, append_assoc}
use Rattle.std.proofs.lemmas.List.{map-append, take_more}
use Rattle.std.proofs.lemmas.Option.{slice_get_read}
use Rattle.ds_base.specs.Order.{key_lt, max_key, min_key}
use Rattle.ds_base.specs.declared.value.Dir.{Dir}
use Rattle.ds_base.specs.declared.value.Dir.TheVariants.{Forward, Reverse}
use Rattle.ds_base.proofs.KeyOrder.{key_lt-trans}
use Rattle.ds_base.proofs.OrderedFacts.{le_of_not_lt, le_trans, not_lt_of_le}
use Rattle.ds_base.proofs.SmallFacts.{append_nil}
use Rattle.ds_kind.specs.Request.{span_of}
use Rattle.ds_kind.specs.declared.batch.Item.{Item}
use Rattle.ds_cover.specs.Cuts.{seek_from, seek_key}
use Rattle.ds_cover.specs.Laws.{joined}
use Rattle.ds_rule.specs.Pieces.{Each}
use Rattle.ds_rule.proofs.Eachs.{each-of, of-get}
use Rattle.ds_flight.specs.Sends.{first_met, goes, nearer, IsProperTask}
use Rattle.ds_flight.specs.Works.{items_of}
use Rattle.ds_flight.specs.declared.work.Task.{Task}

-- ---- the lesser and the greater of three

lesser-so : (a b : List ℕ) (t : Bool) → key_lt b a ≡ t → min_key a b ≡ cond t b a
lesser-so a b t is = ap (λ x. cond x b a) is

greater-so : (a b : List ℕ) (t : Bool) → key_lt a b ≡ t → max_key a b ≡ cond t b a
greater-so a b t is = ap (λ x. cond x b a) is

not-below : (a b c : List ℕ) → key_lt b a ≡ false → key_lt c b ≡ false → key_lt c a ≡ false
not-below a b c p q = not_lt_of_le a c (le_trans a b c (le_of_not_lt b a p) (le_of_not_lt c b q))

pub min-three : (a b c : List ℕ) → min_key (min_key a b) c ≡ min_key a (min_key b c)
min-three a b c =
    elim (key_lt b a) as (λ t. key_lt b a ≡ t → min_key (cond t b a) c ≡ min_key a (min_key b c)) [
      | true ↦ λ low.
          elim (key_lt c b) as (λ u. key_lt c b ≡ u → cond u c b ≡ min_key a (cond u c b)) [
            | true ↦ λ lower. sym (lesser-so a c true (key_lt-trans c b a lower low))
            | false ↦ λ lower. sym (lesser-so a b true low)
          ] refl
      | false ↦ λ low.
          elim (key_lt c b) as (λ u. key_lt c b ≡ u → min_key a c ≡ min_key a (cond u c b)) [
            | true ↦ λ lower. refl
            | false ↦ λ lower. lesser-so a c false (not-below a b c low lower) ∙ sym (lesser-so a b false low)
          ] refl
    ] refl

pub max-three : (a b c : List ℕ) → max_key (max_key a b) c ≡ max_key a (max_key b c)
max-three a b c =
    elim (key_lt a b) as (λ t. key_lt a b ≡ t → max_key (cond t b a) c ≡ max_key a (max_key b c)) [
      | true ↦ λ high.
          elim (key_lt b c) as (λ u. key_lt b c ≡ u → cond u c b ≡ max_key a (cond u c b)) [
            | true ↦ λ higher. sym (greater-so a c true (key_lt-trans a b c high higher))
            | false ↦ λ higher. sym (greater-so a b true high)
          ] refl
      | false ↦ λ high.
          elim (key_lt b c) as (λ u. key_lt b c ≡ u → max_key a c ≡ max_key a (cond u c b)) [
            | true ↦ λ higher. refl
            | false ↦ λ higher. greater-so a c false (not-below c b a higher high) ∙ sym (greater-so a b false high)
          ] refl
    ] refl

-- ---- two blocks

from-first : (d : Dir) (k l : List ℕ) (is : List Item) → seek_from d (first_met d k l) is ≡ first_met d k (seek_from d l is)
from-first Forward k l [] = refl
from-first Reverse k l [] = refl
from-first Forward k l (i ∷ is) = ap (λ m. seek_from Forward m is) (min-three k l (span_of i.request).start) ∙ from-first Forward k (min_key l (span_of i.request).start) is
from-first Reverse k l (i ∷ is) = ap (λ m. seek_from Reverse m is) (max-three k l (span_of i.request).end) ∙ from-first Reverse k (max_key l (span_of i.request).end) is

from-append : (d : Dir) (k : List ℕ) (xs ys : List Item) → seek_from d k (xs ++ ys) ≡ seek_from d (seek_from d k xs) ys
from-append Forward k [] ys = refl
from-append Reverse k [] ys = refl
from-append Forward k (x ∷ xs) ys = from-append Forward (min_key k (span_of x.request).start) xs ys
from-append Reverse k (x ∷ xs) ys = from-append Reverse (max_key k (span_of x.request).end) xs ys

pub seek-append : (d : Dir) (xs ys : List Item) → seek_key d (xs ++ ys) ≡ nearer d (seek_key d xs) (seek_key d ys)
seek-append d [] ys = refl
seek-append Forward (x ∷ xs) [] = ap (λ zs. Some (seek_from Forward (span_of x.request).start zs)) (append_nil xs)
seek-append Reverse (x ∷ xs) [] = ap (λ zs. Some (seek_from Reverse (span_of x.request).end zs)) (append_nil xs)
seek-append Forward (x ∷ xs) (y ∷ ys) = ap Some (from-append Forward (span_of x.request).start xs (y ∷ ys) ∙ from-first Forward (seek_from Forward (span_of x.request).start xs) (span_of y.request).start ys)
seek-append Reverse (x ∷ xs) (y ∷ ys) = ap Some (from-append Reverse (span_of x.request).end xs (y ∷ ys) ∙ from-first Reverse (seek_from Reverse (span_of x.request).end xs) (span_of y.request).end ys)

-- ---- the tasks of the work

joined-append : (xs ys : List (List Item)) → joined (xs ++ ys) ≡ joined xs ++ joined ys
joined-append [] ys = refl
joined-append (x ∷ xs) ys = ap (λ zs. x ++ zs) (joined-append xs ys) ∙ sym (append_assoc x (joined xs) (joined ys))

seek-last : (d : Dir) (work more : List Task) (t : Task) → more ≡ work ++ t ∷ [] → nearer d (seek_key d (joined (map items_of work))) (seek_key d (items_of t)) ≡ seek_key d (joined (map items_of more))
seek-last d work more t is =
    let one : joined (map items_of (work ++ t ∷ [])) ≡ joined (map items_of work) ++ items_of t =
    ap joined (map-append items_of work (t ∷ [])) ∙ joined-append (map items_of work) (items_of t ∷ []) ∙ ap (λ zs. joined (map items_of work) ++ zs) (append_nil (items_of t)) in
    sym (seek-append d (joined (map items_of work)) (items_of t)) ∙ ap (seek_key d) (sym one ∙ ap (λ w. joined (map items_of w)) (sym is))

-- one task more
pub seek-more :
    (d : Dir) (work : List Task) (i : ℕ) (t : Task) (k l m : Option (List ℕ)) → i < length work → t ≡ get_or work i t → Each (IsProperTask d) work
    → k ≡ seek_key d (joined (map items_of (take i work))) → l ≡ seek_key (goes t) (items_of t) → m ≡ nearer d k l → m ≡ seek_key d (joined (map items_of (take (i + 1) work)))
seek-more d work i t k l m low is all so_far one more =
    let proper = each-of (IsProperTask d) t work all (of-get t work i (slice_get_read work (length work) i t refl low is)) in
    let last : take (i + 1) work ≡ take i work ++ t ∷ [] = take_more work i t low ∙ ap (λ x. take i work ++ x ∷ []) (sym is) in
    more ∙ ap (λ o. nearer d o l) so_far ∙ ap (nearer d (seek_key d (joined (map items_of (take i work))))) (one ∙ ap (λ e. seek_key e (items_of t)) proper.dir)
    ∙ seek-last d (take i work) (take (i + 1) work) t last
