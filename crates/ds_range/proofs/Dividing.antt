-- The keys at which writes can stand, of a part of the contents and of two contents together; and the parts themselves.
use Rattle.std.proofs.Common.{◌≡◌, ℕ, Bool, true, false, cond, ◌||◌, List, [], ◌∷◌, ◌++◌, Option, Some, None, refl, sym, ap, ◌∙◌, subst, append_assoc}
use Rattle.std.specs.List.{filter}
use Rattle.std.specs.BTreeMap.Range.{entries_below}
use Rattle.std.proofs.lemmas.Cmp.{nat_list_cmp_total}
use Rattle.std.proofs.lemmas.List.Folds.{list_any-append}
use Rattle.std.specs.Ordering.{is_lt, is_gt}
use Rattle.ds_base.specs.Order.{key_cmp, key_lt}
use Rattle.ds_base.specs.Ordered.{key_eq}
use Rattle.ds_base.proofs.OrderedFacts.{eq_same}
use Rattle.ds_base.proofs.SmallFacts.{or_right, less_reversed, append_nil}
use Rattle.ds_cell.specs.declared.entry.Written.{Written}
use Rattle.ds_cell.specs.Seen.{last_of}
use Rattle.ds_cell.specs.Ask.{Cells}
use Rattle.ds_range.specs.Covers.{has_key, IsNoted, Covers, CoversIf}
use Rattle.ds_range.proofs.Covering.{Within, covers_within}

-- what a map gives below a key
above_is_below : (k q : List ℕ) → is_gt (key_cmp k q) ≡ key_lt q k
above_is_below k q = sym (less_reversed (key_cmp k q)) ∙ sym (ap is_lt (nat_list_cmp_total.antisymm q k))

pub below_is : (k : List ℕ) (es : Cells) → entries_below (key_cmp k) es ≡ filter (λ p. key_lt p.0 k) es
below_is k es = λ i. filter (λ p. above_is_below k p.0 i) es

-- keys, one after another, that pass a test

pub added : (t : List ℕ → Bool) (k : List ℕ) (xs ys : List (List ℕ)) → t k ≡ true → ys ≡ xs ++ k ∷ [] → ys ≡ xs ++ filter t (k ∷ [])
added t k xs ys pass now = now ∙ ap (λ b. xs ++ cond b (k ∷ []) []) (sym pass)

pub left_out : (t : List ℕ → Bool) (k : List ℕ) (xs : List (List ℕ)) → t k ≡ false → xs ≡ xs ++ filter t (k ∷ [])
left_out t k xs fail = sym (append_nil xs) ∙ ap (λ b. xs ++ cond b (k ∷ []) []) (sym fail)

one_then : (b : Bool) (k : List ℕ) (ks : List (List ℕ)) → cond b (k ∷ []) [] ++ ks ≡ cond b (k ∷ ks) ks
one_then true k ks = refl
one_then false k ks = refl

pub part_more : (t : List ℕ → Bool) (k : List ℕ) (xs ys rest left all : List (List ℕ)) → left ≡ k ∷ rest → ys ≡ xs ++ filter t (k ∷ []) → xs ++ filter t left ≡ all → ys ++ filter t rest ≡ all
part_more t k xs ys rest left all is more so_far =
    ap (λ z. z ++ filter t rest) more ∙ append_assoc xs (filter t (k ∷ [])) (filter t rest)
    ∙ ap (λ z. xs ++ z) (one_then (t k) k (filter t rest))
    ∙ ap (λ z. xs ++ filter t z) (sym is) ∙ so_far

-- the keys that pass a test, and the cells whose keys do

has_part : (t : List ℕ → Bool) (k : List ℕ) (ks : List (List ℕ)) → t k ≡ true → has_key k ks ≡ true → has_key k (filter t ks) ≡ true
has_part t k [] pass h = h
has_part t k (q ∷ ks) pass h =
    elim (key_eq q k) as (λ b. key_eq q k ≡ b → (b || has_key k ks) ≡ true → has_key k (filter t (q ∷ ks)) ≡ true) [
      | true ↦ λ e g.
          ap (λ b. has_key k (cond b (q ∷ filter t ks) (filter t ks))) (ap t (eq_same q k e) ∙ pass)
          ∙ ap (λ b. b || has_key k (filter t ks)) e
      | false ↦ λ e g. elim (t q) as (λ b. has_key k (cond b (q ∷ filter t ks) (filter t ks)) ≡ true) [
        | true ↦ or_right (key_eq q k) (has_key k (filter t ks)) (has_part t k ks pass g)
        | false ↦ has_part t k ks pass g
      ]
    ] refl h

noted_part : (t : List ℕ → Bool) (ks : List (List ℕ)) (k : List ℕ) (o : Option Written) → t k ≡ true → IsNoted ks k o → IsNoted (filter t ks) k o
noted_part t ks k None pass h = tt
noted_part t ks k (Some w) pass h = has_part t k ks pass h

pub covers_part : (t : List ℕ → Bool) (ks : List (List ℕ)) (es : Cells) → Covers ks es → Covers (filter t ks) (filter (λ p. t p.0) es)
covers_part t ks [] h = tt
covers_part t ks (p ∷ ps) h =
    elim (t p.0) as (λ b. t p.0 ≡ b → Covers (filter t ks) (cond b (p ∷ filter (λ p. t p.0) ps) (filter (λ p. t p.0) ps))) [
      | true ↦ λ e. (noted_part t ks p.0 (last_of p.1.history) e h.0, covers_part t ks ps h.1)
      | false ↦ λ e. covers_part t ks ps h.1
    ] refl

-- the same where the keys are known
pub covers_of : (t : List ℕ → Bool) (o : Option (List (List ℕ))) (ks ls : List (List ℕ)) → o ≡ Some ks → ls ≡ filter t ks → (es : Cells) → CoversIf o es → CoversIf (Some ls) (filter (λ p. t p.0) es)
covers_of t o ks ls known are es h =
    subst (λ z. Covers z (filter (λ p. t p.0) es)) (sym are) (covers_part t ks es (subst (λ z. CoversIf z es) known h))

-- two contents together

covers-append : (ks : List (List ℕ)) (xs ys : Cells) → Covers ks xs → Covers ks ys → Covers ks (xs ++ ys)
covers-append ks [] ys a b = b
covers-append ks (x ∷ xs) ys a b = (a.0, covers-append ks xs ys a.1 b)

or_left : (a b : Bool) → a ≡ true → (a || b) ≡ true
or_left true b h = refl
or_left false b h = cc

within_left : (ks ls : List (List ℕ)) → Within ks (ks ++ ls)
within_left ks ls k h = list_any-append (λ q. key_eq q k) ks ls ∙ or_left (has_key k ks) (has_key k ls) h

within_right : (ks ls : List (List ℕ)) → Within ls (ks ++ ls)
within_right ks ls k h = list_any-append (λ q. key_eq q k) ks ls ∙ or_right (has_key k ks) (has_key k ls) h

covers_both : (ks ls : List (List ℕ)) (xs ys : Cells) → Covers ks xs → Covers ls ys → Covers (ks ++ ls) (xs ++ ys)
covers_both ks ls xs ys a b =
    covers-append (ks ++ ls) xs ys (covers_within ks (ks ++ ls) xs (within_left ks ls) a) (covers_within ls (ks ++ ls) ys (within_right ks ls) b)

-- the same where both are known
pub covers_all : (o p : Option (List (List ℕ))) (ks ls ms : List (List ℕ)) → o ≡ Some ks → p ≡ Some ls → ms ≡ ks ++ ls → (xs ys : Cells) → CoversIf o xs → CoversIf p ys → CoversIf (Some ms) (xs ++ ys)
covers_all o p ks ls ms known more are xs ys a b =
    subst (λ z. Covers z (xs ++ ys)) (sym are) (covers_both ks ls xs ys (subst (λ z. CoversIf z xs) known a) (subst (λ z. CoversIf z ys) more b))
