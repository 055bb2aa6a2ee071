-- Facts on resume spans, and on the replies that are given them.
use Rattle.std.proofs.Common.{◌≡◌, ℕ, zero, suc, ◌+◌, ◌<◌, ◌≤◌, true, List, [], ◌∷◌, ◌++◌, Option, Some, length, drop, get_or, set, refl, sym, ap, ◌∙◌, arith, subst, length-append, length-set}
use Rattle.std.specs.List.{list_all}
use Rattle.ds_base.specs.Order.{Extent, key_lt, key_le}
use Rattle.ds_base.specs.declared.value.Dir.{Dir}
use Rattle.ds_base.proofs.KeyOrder.{key_le_lt-trans}
use Rattle.ds_base.proofs.OrderedFacts.{lt_le_trans}
use Rattle.ds_base.proofs.SmallFacts.{and_first, and_second, append_nil}
use Rattle.ds_kind.specs.Asks.{has_proper_span}
use Rattle.ds_kind.specs.Parts.{requests_of}
use Rattle.ds_kind.specs.Request.{span_of}
use Rattle.ds_kind.specs.declared.batch.Item.{Item}
use Rattle.ds_kind.specs.declared.reply.Reply.{Reply}
use Rattle.ds_kind.specs.Filled.{resumed_at, filled}
use Rattle.ds_limit.specs.Rests.{is_inside, are_inside, rests, with_rests}

-- a span that lies in another begins below its end, and ends above its start

pub below_end : (s r : Extent) → is_inside s (Some r) ≡ true → key_lt r.start r.end ≡ true → key_lt r.start s.end ≡ true
below_end s r h some = lt_le_trans r.start r.end s.end some (and_second (key_le s.start r.start) (key_le r.end s.end) h)

pub above_start : (s r : Extent) → is_inside s (Some r) ≡ true → key_lt r.start r.end ≡ true → key_lt s.start r.end ≡ true
above_start s r h some = key_le_lt-trans s.start r.start r.end (and_first (key_le s.start r.start) (key_le r.end s.end) h) some

-- what a loop over the items still has to do

pub record Ahead (d : Dir) (seek : Option (List ℕ)) (is : List Item) (rs : List Reply) (got : List (Option Extent)) (i : ℕ) : Type 0 where
  pub whole : got ++ rests d seek (drop i is) (drop i rs) ≡ rests d seek is rs
  pub inside : are_inside (drop i is) (drop i rs) ≡ true
  pub proper : list_all has_proper_span (requests_of (drop i is)) ≡ true

pub same_length : (is : List Item) (rs : List Reply) → are_inside is rs ≡ true → length rs ≡ length is
same_length [] [] h = refl
same_length [] (r ∷ rs) h = cc
same_length (i ∷ is) [] h = cc
same_length (i ∷ is) (r ∷ rs) h = ap (λ n. suc n) (same_length is rs (and_second (is_inside (span_of i.request) r.resume) (are_inside is rs) h))

-- all is ahead at first
pub all_ahead : (d : Dir) (seek : Option (List ℕ)) (is : List Item) (rs : List Reply) → are_inside is rs ≡ true → list_all has_proper_span (requests_of is) ≡ true → Ahead d seek is rs [] 0
all_ahead d seek is rs inside proper = record { whole = refl; inside = inside; proper = proper }

module _ (d : Dir) (seek : Option (List ℕ)) (is : List Item) (rs : List Reply) (got : List (Option Extent)) (i : ℕ) (x : Item) (r : Reply) (a : Ahead d seek is rs got i) (at_item : drop i is ≡ x ∷ drop (i + 1) is) (at_reply : drop i rs ≡ r ∷ drop (i + 1) rs) where
  here : are_inside (x ∷ drop (i + 1) is) (r ∷ drop (i + 1) rs) ≡ true
  here = subst (λ ys. are_inside (x ∷ drop (i + 1) is) ys ≡ true) at_reply (subst (λ xs. are_inside xs (drop i rs) ≡ true) at_item a.inside)

  these : list_all has_proper_span (requests_of (x ∷ drop (i + 1) is)) ≡ true
  these = subst (λ xs. list_all has_proper_span (requests_of xs) ≡ true) at_item a.proper

  pub next_inside : is_inside (span_of x.request) r.resume ≡ true
  next_inside = and_first (is_inside (span_of x.request) r.resume) (are_inside (drop (i + 1) is) (drop (i + 1) rs)) here

  pub next_proper : has_proper_span x.request ≡ true
  next_proper = and_first (has_proper_span x.request) (list_all has_proper_span (requests_of (drop (i + 1) is))) these

  pub one_ahead : Ahead d seek is rs (got ++ resumed_at d seek x r ∷ []) (i + 1)
  one_ahead = record {
    whole = moved got (resumed_at d seek x r) (rests d seek (drop (i + 1) is) (drop (i + 1) rs))
        ∙ ap (λ zs. got ++ zs) (sym (ap (λ xs. rests d seek xs (drop i rs)) at_item ∙ ap (λ ys. rests d seek (x ∷ drop (i + 1) is) ys) at_reply))
        ∙ a.whole;
    inside = and_second (is_inside (span_of x.request) r.resume) (are_inside (drop (i + 1) is) (drop (i + 1) rs)) here;
    proper = and_second (has_proper_span x.request) (list_all has_proper_span (requests_of (drop (i + 1) is))) these;
  }
    where
      moved : {X : Type 0} (xs : List X) (y : X) (zs : List X) → (xs ++ y ∷ []) ++ zs ≡ xs ++ (y ∷ zs)
      moved [] y zs = refl
      moved (x ∷ xs) y zs = ap (λ ws. x ∷ ws) (moved xs y zs)

drop_all : {X : Type 0} (xs : List X) (i : ℕ) → length xs ≤ i → drop i xs ≡ []
drop_all [] zero h = refl
drop_all [] (suc i) h = refl
drop_all (x ∷ xs) zero h = absurd (omega arith)
drop_all (x ∷ xs) (suc i) h = drop_all xs i (omega arith)

-- nothing is ahead at the end
pub none_ahead : (d : Dir) (seek : Option (List ℕ)) (is : List Item) (rs : List Reply) (got : List (Option Extent)) (i : ℕ) → length is ≤ i → Ahead d seek is rs got i → got ≡ rests d seek is rs
none_ahead d seek is rs got i h a =
    sym (ap (λ xs. got ++ rests d seek xs (drop i rs)) (drop_all is i h) ∙ append_nil got) ∙ a.whole

-- one reply for each item gives one rest for each
pub as_many : (d : Dir) (seek : Option (List ℕ)) (is : List Item) (rs : List Reply) → are_inside is rs ≡ true → length (rests d seek is rs) ≡ length rs
as_many d seek [] [] h = refl
as_many d seek [] (r ∷ rs) h = cc
as_many d seek (i ∷ is) [] h = cc
as_many d seek (i ∷ is) (r ∷ rs) h = ap (λ n. suc n) (as_many d seek is rs (and_second (is_inside (span_of i.request) r.resume) (are_inside is rs) h))

-- the replies with their rests are filled
pub in_two_steps : (d : Dir) (seek : Option (List ℕ)) (is : List Item) (rs : List Reply) → with_rests rs (rests d seek is rs) ≡ filled d seek is rs
in_two_steps d seek [] [] = refl
in_two_steps d seek [] (r ∷ rs) = refl
in_two_steps d seek (i ∷ is) [] = refl
in_two_steps d seek (i ∷ is) (r ∷ rs) = ap (λ zs. record { body = r.body; resume = resumed_at d seek i r } ∷ zs) (in_two_steps d seek is rs)

-- the last rest put into its reply first
pub last_rest : (rs : List Reply) (xs : List (Option Extent)) (x : Option Extent) (r : Reply) → length xs < length rs → r ≡ get_or rs (length xs) r → with_rests (set rs (length xs) (record { body = r.body; resume = x })) xs ≡ with_rests rs (xs ++ x ∷ [])
last_rest [] xs x r h e = absurd (omega arith)
last_rest (q ∷ rs) [] x r h e = ap (λ p. record { body = p.body; resume = x } ∷ rs) e ∙ sym (rest_none q rs x)
  where
    rest_none : (q : Reply) (rs : List Reply) (x : Option Extent) → with_rests (q ∷ rs) (x ∷ []) ≡ record { body = q.body; resume = x } ∷ rs
    rest_none q [] x = refl
    rest_none q (r ∷ rs) x = refl
last_rest (q ∷ rs) (y ∷ xs) x r h e = ap (λ zs. record { body = q.body; resume = y } ∷ zs) (last_rest rs xs x r (omega arith) e)

-- one rest more put into its reply: `goal` is what all come to
pub put_one : (list : List Reply) (all new : List (Option Extent)) (x : Option Extent) (r : Reply) (n : ℕ) (goal : List Reply) → n ≡ length new → all ≡ new ++ x ∷ [] → length all ≤ length list → r ≡ get_or list n r → with_rests list all ≡ goal → (with_rests (set list n (record { body = r.body; resume = x })) new ≡ goal) × (length new ≤ length (set list n (record { body = r.body; resume = x })))
put_one list all new x r n goal here more fit is whole =
    let longer : length all ≡ length new + 1 = ap length more ∙ length-append new (x ∷ []) in
    let same_len : length (set list n (record { body = r.body; resume = x })) ≡ length list = length-set list n (record { body = r.body; resume = x }) in (
      subst (λ m. with_rests (set list m (record { body = r.body; resume = x })) new ≡ goal) (sym here)
          (last_rest list new x r (omega arith) (is ∙ ap (λ m. get_or list m r) here) ∙ ap (with_rests list) (sym more) ∙ whole),
      omega arith,
    )

-- where no rest is to be put, the replies stay
pub none_put : (list : List Reply) (xs : List (Option Extent)) → length xs ≡ 0 → with_rests list xs ≡ list
none_put [] [] h = refl
none_put [] (x ∷ xs) h = refl
none_put (r ∷ rs) [] h = refl
none_put (r ∷ rs) (x ∷ xs) h = absurd (omega arith)
