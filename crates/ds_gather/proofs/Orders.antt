-- What is gathered doesn't see the order of arrival.
use Rattle.std.proofs.Common.{◌≡◌, ℕ, ◌+◌, ◌≤◌, Bool, true, false, cond, ◌&&◌, List, [], ◌∷◌, filter, refl, sym, ap, ◌∙◌, subst, inl, inr, arith}
use Rattle.std.specs.List.{sum_by}
use Rattle.std.specs.List.Sorted.{IsPermutation}
use Rattle.std.proofs.lemmas.List.Sorted.{IsPermutation-sym, sum_by-IsPermutation}
use Rattle.std.proofs.lemmas.List.Sums.{sum_by-cons}
use Rattle.ds_base.specs.Ordered.{key_eq}
use Rattle.ds_kind.specs.Bodies.{in_order, stands_at}
use Rattle.ds_cover.specs.Items.{IsOneOf}
use Rattle.ds_cover.specs.Chains.{one_if, times_keyed, KeysDiffer}
use Rattle.ds_cover.proofs.InOrder.{Included, moved-in, in-sorted, sorted-in, ascends-sorted, same_members}
use Rattle.ds_gather.specs.Gathered.{pos_of, start_of, in_direction, joined, resume_at, reply_of, gathered}
use Rattle.ds_gather.specs.Laws.{StartsDiffer}
use Rattle.ds_gather.specs.declared.arrival.Arrival.{Arrival}
use Rattle.ds_gather.specs.declared.arrival.Wanted.{Wanted}

in-kept : {X : Type 0} (p : X → Bool) (xs : List X) (z : X) → IsOneOf z xs → p z ≡ true → IsOneOf z (filter p xs)
in-kept p [] z h e = absurd h
in-kept p (x ∷ xs) z h e =
    elim h [
      | inl s ↦ subst (λ t. IsOneOf z (cond t (x ∷ filter p xs) (filter p xs))) (sym (ap p (sym s) ∙ e)) (inl s)
      | inr g ↦ elim (p x) as (λ t. IsOneOf z (cond t (x ∷ filter p xs) (filter p xs))) [
        | true ↦ inr (in-kept p xs z g e)
        | false ↦ in-kept p xs z g e
      ]
    ]

kept-in : {X : Type 0} (p : X → Bool) (xs : List X) (z : X) → IsOneOf z (filter p xs) → IsOneOf z xs × (p z ≡ true)
kept-in p [] z h = absurd h
kept-in p (x ∷ xs) z h =
    elim (p x) as (λ t. p x ≡ t → IsOneOf z (cond t (x ∷ filter p xs) (filter p xs)) → IsOneOf z (x ∷ xs) × (p z ≡ true)) [
      | true ↦ λ e g. elim g [
        | inl s ↦ (inl s, ap p s ∙ e)
        | inr r ↦ let k = kept-in p xs z r in (inr k.0, k.1)
      ]
      | false ↦ λ e g. let k = kept-in p xs z g in (inr k.0, k.1)
    ] refl h

kept_moved : {X : Type 0} (p : X → Bool) (xs ys : List X) → IsPermutation xs ys → Included (filter p ys) (filter p xs)
kept_moved p xs ys m z h = let k = kept-in p ys z h in in-kept p xs z (moved-in xs ys m z k.0) k.1

keyed_kept : {X : Type 0} (key : X → List ℕ) (k : List ℕ) (p : X → Bool) (xs : List X) → times_keyed key k (filter p xs) ≡ sum_by (λ x. one_if (p x && key_eq (key x) k)) xs
keyed_kept key k p [] = refl
keyed_kept key k p (x ∷ xs) =
    elim (p x) as (λ t. times_keyed key k (cond t (x ∷ filter p xs) (filter p xs)) ≡ one_if (t && key_eq (key x) k) + sum_by (λ x. one_if (p x && key_eq (key x) k)) xs) [
      | true ↦ ap (λ n. one_if (key_eq (key x) k) + n) (keyed_kept key k p xs)
      | false ↦ keyed_kept key k p xs ∙ zero_plus _
    ]
    ∙ sym (sum_by-cons (λ z. one_if (p z && key_eq (key z) k)) x xs)
  where
    zero_plus : (n : ℕ) → n ≡ 0 + n
    zero_plus n = omega arith

differ_kept : {X : Type 0} (key : X → List ℕ) (p : X → Bool) (xs ys : List X) → IsPermutation xs ys → KeysDiffer key (filter p xs) → KeysDiffer key (filter p ys)
differ_kept key p xs ys m d k =
    subst (λ n. n ≤ 1) (keyed_kept key k p xs ∙ sym (sum_by-IsPermutation (λ x. one_if (p x && key_eq (key x) k)) xs ys m) ∙ sym (keyed_kept key k p ys)) (d k)

same_kept : {X : Type 0} (key : X → List ℕ) (p : X → Bool) (xs ys : List X) → IsPermutation xs ys → KeysDiffer key (filter p xs) → in_order key (filter p ys) ≡ in_order key (filter p xs)
same_kept key p xs ys m d =
    same_members key (in_order key (filter p ys)) (in_order key (filter p xs))
    (ascends-sorted key (filter p ys) (differ_kept key p xs ys m d)) (ascends-sorted key (filter p xs) d)
    (λ z h. sorted-in key (filter p xs) z (kept_moved p xs ys m z (in-sorted key (filter p ys) z h)))
    (λ z h. sorted-in key (filter p ys) z (kept_moved p ys xs (IsPermutation-sym xs ys m) z (in-sorted key (filter p xs) z h)))

same_reply : (w : Wanted) (xs ys : List Arrival) → IsPermutation xs ys → StartsDiffer xs → reply_of ys w ≡ reply_of xs w
same_reply w xs ys m d =
    ap (λ zs. record { body = joined w.empty (in_direction w.down zs); resume = resume_at (in_direction w.down zs) })
    (same_kept start_of (stands_at pos_of w.pos) xs ys m (d w.pos))

pub order_free : (ws : List Wanted) (xs ys : List Arrival) → IsPermutation xs ys → StartsDiffer xs → gathered ws ys ≡ gathered ws xs
order_free [] xs ys m d = refl
order_free (w ∷ ws) xs ys m d = ap (λ r. r ∷ gathered ws ys) (same_reply w xs ys m d) ∙ ap (λ rs. reply_of xs w ∷ rs) (order_free ws xs ys m d)
