-- What a batch that breaks no rule is like.
use Rattle.std.proofs.Common.{◌≡◌, ℕ, suc, ◌+◌, ◌<◌, ◌≤◌, Bool, true, false, not, ◌&&◌, ◌||◌, cond, List, [], ◌∷◌, length, Option, Some, None, refl, sym, ap, ◌∙◌, nat_lt, ◌==◌, arith}
use Rattle.std.proofs.lemmas.Bool.Decides.{nat_tests}
use Rattle.std.specs.List.{list_all, list_any, position, position_or_len}
use Rattle.std.proofs.lemmas.List.Recursion.{is_position_or_len}
use Rattle.std.specs.Option.{is_some, is_none}
use Rattle.ds_base.proofs.SmallFacts.{and_both, ge_of}
use Rattle.ds_kind.specs.declared.batch.Batch.{Batch}
use Rattle.ds_kind.specs.declared.illegal.Illegal.{Illegal}
use Rattle.ds_kind.specs.Asks.{has_proper_span, is_end, needs_txn, is_get_or_scan, knows_limit, acts}
use Rattle.ds_kind.specs.Groups.{groups}
use Rattle.ds_kind.specs.Parts.{may_join, before_last}
use Rattle.ds_legal.specs.Rules.{fault_if, fault_at, first_of, first_illegal, empty, too_many, bad_span, end_txn_place, needs_a_txn, inconsistent_txn, inconsistent_write, limit_kind, limit_mixed, limit_order, no_txn_parts}
use Rattle.ds_legal.specs.Legal.{IsLegal}

none_first : (o : Option Illegal) (os : List (Option Illegal)) → first_of (o ∷ os) ≡ None → (o ≡ None) × (first_of os ≡ None)
none_first None os h = (refl, h)
none_first (Some e) os h = cc

no_reason : (t : Bool) (e : Illegal) → fault_if t e ≡ None → t ≡ false
no_reason true e h = cc
no_reason false e h = refl

no_place : (t : Bool) (f : ℕ → Illegal) (o : Option ℕ) → fault_at t f o ≡ None → t ≡ true → o ≡ None
no_place true f None h e = refl
no_place true f (Some i) h e = cc
no_place false f o h e = cc

place_step : (a b : ℕ) → nat_lt (1 + a) (suc b) ≡ nat_lt a b
place_step a b = grind (arith, nat_tests)

place_zero : (b : ℕ) → nat_lt 0 (suc b) ≡ true
place_zero b = grind (arith, nat_tests)

place : {X : Type 0} (p : X → Bool) → List X → ℕ
place p [] = 0
place p (x ∷ xs) = cond (p x) 0 (1 + place p xs)

place_below : {X : Type 0} (p : X → Bool) (xs : List X) → nat_lt (place p xs) (length xs) ≡ list_any p xs
unfolding place
place_below p [] = refl
place_below p (x ∷ xs) =
    elim (p x) as (λ t. nat_lt (cond t 0 (1 + place p xs)) (suc (length xs)) ≡ (t || list_any p xs)) [
      | true ↦ place_zero (length xs)
      | false ↦ place_step (place p xs) (length xs) ∙ place_below p xs
    ]

place_is : {X : Type 0} (p : X → Bool) (xs : List X) → nat_lt (position_or_len p xs) (length xs) ≡ list_any p xs
unfolding place
place_is p xs =
    ap (λ n. nat_lt n (length xs)) (sym (is_position_or_len (place p) p refl (λ x ys. refl) xs)) ∙ place_below p xs

none_under : {X : Type 0} (t : Bool) (x : X) → cond t (Some x) None ≡ None → t ≡ false
none_under true x h = cc
none_under false x h = refl

none_passes : {X : Type 0} (p : X → Bool) (xs : List X) → position p xs ≡ None → list_any p xs ≡ false
none_passes p xs h = sym (place_is p xs) ∙ none_under _ (position_or_len p xs) h

not_any : {X : Type 0} (p : X → Bool) (xs : List X) → list_any (λ x. not (p x)) xs ≡ false → list_all p xs ≡ true
not_any p [] h = refl
not_any p (x ∷ xs) h =
    elim (p x) as (λ t. (not t || list_any (λ y. not (p y)) xs) ≡ false → (t && list_all p xs) ≡ true) [
      | true ↦ λ e. not_any p xs e
      | false ↦ λ e. sym e
    ] h

all_pass : {X : Type 0} (p : X → Bool) (xs : List X) → position (λ x. not (p x)) xs ≡ None → list_all p xs ≡ true
all_pass p xs h = not_any p xs (none_passes (λ x. not (p x)) xs h)

some_length : (n : ℕ) → (n == 0) ≡ false → 0 < n
some_length n h = grind (arith, nat_tests)

of_txn : {X : Type 0} (o : Option X) (c : Bool) → (not c && is_none o) ≡ false → c ≡ false → is_some o ≡ true
of_txn None true h e = sym e
of_txn None false h e = sym h
of_txn (Some x) c h e = refl

split_low : (a b : Bool) (n : ℕ) → (a && b && nat_lt 1 n) ≡ false → a ≡ true → b ≡ true → n ≤ 1
split_low a b n h p q = ge_of 1 n (ap (λ t. t && nat_lt 1 n) (sym (and_both a b p q)) ∙ h)

pub legal_of : (b : Batch) → first_illegal b ≡ None → IsLegal b
unfolding empty too_many bad_span end_txn_place needs_a_txn inconsistent_txn inconsistent_write limit_kind limit_mixed limit_order no_txn_parts
legal_of b h =
    let h1 = none_first (empty b) (too_many b ∷ bad_span b ∷ end_txn_place b ∷ needs_a_txn b ∷ inconsistent_txn b ∷ inconsistent_write b ∷ limit_kind b ∷ limit_mixed b ∷ limit_order b ∷ no_txn_parts b ∷ []) h in
    let h2 = none_first (too_many b) (bad_span b ∷ end_txn_place b ∷ needs_a_txn b ∷ inconsistent_txn b ∷ inconsistent_write b ∷ limit_kind b ∷ limit_mixed b ∷ limit_order b ∷ no_txn_parts b ∷ []) h1.1 in
    let h3 = none_first (bad_span b) (end_txn_place b ∷ needs_a_txn b ∷ inconsistent_txn b ∷ inconsistent_write b ∷ limit_kind b ∷ limit_mixed b ∷ limit_order b ∷ no_txn_parts b ∷ []) h2.1 in
    let h4 = none_first (end_txn_place b) (needs_a_txn b ∷ inconsistent_txn b ∷ inconsistent_write b ∷ limit_kind b ∷ limit_mixed b ∷ limit_order b ∷ no_txn_parts b ∷ []) h3.1 in
    let h5 = none_first (needs_a_txn b) (inconsistent_txn b ∷ inconsistent_write b ∷ limit_kind b ∷ limit_mixed b ∷ limit_order b ∷ no_txn_parts b ∷ []) h4.1 in
    let h6 = none_first (inconsistent_txn b) (inconsistent_write b ∷ limit_kind b ∷ limit_mixed b ∷ limit_order b ∷ no_txn_parts b ∷ []) h5.1 in
    let h7 = none_first (inconsistent_write b) (limit_kind b ∷ limit_mixed b ∷ limit_order b ∷ no_txn_parts b ∷ []) h6.1 in
    let h8 = none_first (limit_kind b) (limit_mixed b ∷ limit_order b ∷ no_txn_parts b ∷ []) h7.1 in
    let h9 = none_first (limit_mixed b) (limit_order b ∷ no_txn_parts b ∷ []) h8.1 in
    let h10 = none_first (limit_order b) (no_txn_parts b ∷ []) h9.1 in
    let h11 = none_first (no_txn_parts b) [] h10.1 in
    let rs = b.requests in
    record {
      some = some_length (length rs) (no_reason _ _ h1.0);
      few = ge_of 256 (length rs) (no_reason _ _ h2.0);
      spans = all_pass has_proper_span rs (no_place _ _ _ h3.0 refl);
      end_last = none_passes is_end (before_last rs) (no_place _ _ _ h4.0 refl);
      txn = λ t. none_passes needs_txn rs (no_place _ _ _ h5.0 t);
      consistent_txn = of_txn b.at b.consistent (no_reason _ _ h6.0);
      inconsistent_reads = λ t. all_pass is_get_or_scan rs (no_place _ _ _ h7.0 (ap not t));
      limit_kinds = λ t. all_pass knows_limit rs (no_place _ _ _ h8.0 t);
      limit_fit = λ t. no_place _ _ _ h9.0 t;
      limit_order = λ t u. no_place _ _ _ h10.0 (and_both _ _ t u);
      one_part = split_low (is_some b.at) (list_any acts rs) (length (groups (may_join true) rs)) (no_reason _ _ h11.0);
    }
