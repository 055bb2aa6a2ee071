-- What the parts of a batch keep.
use Rattle.std.proofs.Common.{◌≡◌, ℕ, ◌+◌, ◌-◌, ◌<◌, ◌≤◌, Bool, true, false, not, ◌&&◌, ◌||◌, cond, List, [], ◌∷◌, ◌++◌, length, map, refl, sym, ap, ◌∙◌, subst, arith, nat_lt, None}
use Rattle.std.specs.List.{list_all, list_any, range_with_len, All}
use Rattle.std.proofs.lemmas.List.{length-append, length-map, take_at, map_push, map-append}
use Rattle.std.proofs.lemmas.List.Elements.{All-map, All-nil, All-cons}
use Rattle.std.proofs.lemmas.List.Folds.{flat_map-map, list_all-append}
use Rattle.std.specs.Option.{is_some}
use Rattle.std.proofs.lemmas.Bool.Decides.{nat_tests}
use Rattle.ds_base.specs.declared.value.Seq.{Seq}
use Rattle.ds_base.proofs.SmallFacts.{and_first, and_second, and_both, or_neither, or_right, not_true}
use Rattle.ds_kind.specs.Flags.{fit}
use Rattle.ds_kind.specs.declared.batch.Batch.{Batch}
use Rattle.ds_kind.specs.declared.batch.Item.{Item}
use Rattle.ds_kind.specs.declared.batch.Part.{Part}
use Rattle.ds_kind.specs.declared.request.Request.{Request}
use Rattle.ds_kind.specs.declared.request.Request.TheVariants.{EndTxn}
use Rattle.ds_kind.proofs.FitFacts.{alone_fits_nothing, fit_symmetric}
use Rattle.ds_kind.specs.Asks.{flags_at, is_alone, is_end, needs_txn, knows_limit, acts, fits_all}
use Rattle.ds_kind.specs.Groups.{groups, groups_from, first_where}
use Rattle.ds_legal.specs.Legal.{IsLegal}
use Rattle.ds_kind.specs.Parts.{may_join, item_may_join, items_from, requests_of, part_of, parts_of, before_last, all_fit, is_apart, IsPart, all_items, AreParts, EachRequest}
use Rattle.ds_legal.specs.Rules.{is_misfit}
use Rattle.ds_legal.proofs.GroupFacts.{groups_joined, groups_each, groups_split, groups_some, groups_map}
use Rattle.ds_legal.proofs.MixFacts.{any_push}

-- the items

items_requests : (pos : ℕ) (rs : List Request) (ss : List Seq) → length ss ≡ length rs → requests_of (items_from pos rs ss) ≡ rs
items_requests pos [] ss h = refl
items_requests pos (r ∷ rs) [] h = absurd (omega arith)
items_requests pos (r ∷ rs) (s ∷ ss) h = ap (λ qs. r ∷ qs) (items_requests (pos + 1) rs ss (omega arith))

items_seqs : (pos : ℕ) (rs : List Request) (ss : List Seq) → length ss ≡ length rs → map (λ i. i.seq) (items_from pos rs ss) ≡ ss
items_seqs pos [] [] h = refl
items_seqs pos [] (s ∷ ss) h = absurd (omega arith)
items_seqs pos (r ∷ rs) [] h = refl
items_seqs pos (r ∷ rs) (s ∷ ss) h = ap (λ qs. s ∷ qs) (items_seqs (pos + 1) rs ss (omega arith))

items_positions : (pos : ℕ) (rs : List Request) (ss : List Seq) → length ss ≡ length rs → map (λ i. i.pos) (items_from pos rs ss) ≡ range_with_len pos (length rs)
items_positions pos [] ss h = refl
items_positions pos (r ∷ rs) [] h = absurd (omega arith)
items_positions pos (r ∷ rs) (s ∷ ss) h = ap (λ ps. pos ∷ ps) (items_positions (pos + 1) rs ss (omega arith))

parts_joined : (split_end : Bool) (rs : List Request) (ss : List Seq) → all_items (parts_of split_end rs ss) ≡ items_from 0 rs ss
parts_joined split_end rs ss =
    flat_map-map (λ p. p.items) part_of (groups (item_may_join split_end) (items_from 0 rs ss))
    ∙ groups_joined (item_may_join split_end) (items_from 0 rs ss)

-- a part

not_both : (a b : Bool) → (a ≡ true → b ≡ false) → b ≡ true → a ≡ false
not_both true b f h = let g : b ≡ false = f refl in cc
not_both false b f h = refl

fits_not_alone : (q r : Request) → fit (flags_at q) (flags_at r) ≡ true → (is_alone q ≡ false) × (is_alone r ≡ false)
fits_not_alone q r h = (
  not_both (is_alone q) (fit (flags_at q) (flags_at r)) (alone_fits_nothing (flags_at q) (flags_at r)) h,
  not_both (is_alone r) (fit (flags_at r) (flags_at q)) (alone_fits_nothing (flags_at r) (flags_at q)) (fit_symmetric (flags_at r) (flags_at q) ∙ h),
)

-- what one fits all of, none of them stands alone, nor does it beside one
fits_all_alone : (rs : List Request) (r : Request) → fits_all rs r ≡ true → list_any is_alone rs ≡ false
fits_all_alone [] r h = refl
fits_all_alone (q ∷ rs) r h =
    or_neither (is_alone q) (list_any is_alone rs) (fits_not_alone q r (and_first _ (fits_all rs r) h)).0 (fits_all_alone rs r (and_second (fit (flags_at q) (flags_at r)) _ h))

fits_all_not_alone : (rs : List Request) (r : Request) → 0 < length rs → fits_all rs r ≡ true → is_alone r ≡ false
fits_all_not_alone [] r some h = absurd (omega arith)
fits_all_not_alone (q ∷ rs) r some h = (fits_not_alone q r (and_first _ (fits_all rs r) h)).1

-- the two ways to join
join_ways : {P : Type 0} (split_end : Bool) (rs : List Request) (r : Request) → may_join split_end rs r ≡ true → (split_end ≡ false → is_end r ≡ true → list_any is_alone rs ≡ false → P) → (fits_all rs r ≡ true → P) → P
join_ways {P = P} true rs r h by_end by_fit = by_fit h
join_ways {P = P} false rs r h by_end by_fit =
    elim (is_end r) as (λ t. is_end r ≡ t → cond t (not (list_any is_alone rs)) (fits_all rs r) ≡ true → P) [
      | true ↦ λ e g. by_end refl e (not_true _ g)
      | false ↦ λ e g. by_fit g
    ] refl h

join_alone : (split_end : Bool) (rs : List Request) (r : Request) → may_join split_end rs r ≡ true → list_any is_alone rs ≡ false
join_alone split_end rs r h = join_ways split_end rs r h (λ s e a. a) (λ f. fits_all_alone rs r f)

all_true : (rs : List Request) (r : Request) → is_end r ≡ true → list_all (λ q. is_end r || fit (flags_at q) (flags_at r)) rs ≡ true
all_true [] r e = refl
all_true (q ∷ rs) r e = ap (λ t. (t || fit (flags_at q) (flags_at r)) && list_all (λ p. is_end r || fit (flags_at p) (flags_at r)) rs) e ∙ all_true rs r e

all_weaker : (rs : List Request) (r : Request) → fits_all rs r ≡ true → list_all (λ q. is_end r || fit (flags_at q) (flags_at r)) rs ≡ true
all_weaker [] r h = refl
all_weaker (q ∷ rs) r h =
    and_both _ (list_all (λ p. is_end r || fit (flags_at p) (flags_at r)) rs) (or_right (is_end r) _ (and_first _ (fits_all rs r) h)) (all_weaker rs r (and_second (fit (flags_at q) (flags_at r)) _ h))

join_fit : (split_end : Bool) (rs : List Request) (r : Request) → may_join split_end rs r ≡ true → list_all (λ q. is_end r || fit (flags_at q) (flags_at r)) rs ≡ true
join_fit split_end rs r h = join_ways split_end rs r h (λ s e a. all_true rs r e) (λ f. all_weaker rs r f)

all_push : {X : Type 0} (p : X → Bool) (xs : List X) (x : X) → list_all p xs ≡ true → p x ≡ true → list_all p (xs ++ x ∷ []) ≡ true
all_push p xs x h k = list_all-append p xs (x ∷ []) ∙ and_both (list_all p xs) (p x && true) h (and_both (p x) true k refl)

all_fit_push : (rs : List Request) (r : Request) → all_fit rs ≡ true → list_all (λ q. is_end r || fit (flags_at q) (flags_at r)) rs ≡ true → all_fit (rs ++ r ∷ []) ≡ true
all_fit_push [] r h k = refl
all_fit_push (q ∷ rs) r h k =
    and_both _ (all_fit (rs ++ r ∷ []))
    (all_push (λ p. is_end p || fit (flags_at q) (flags_at p)) rs r (and_first _ (all_fit rs) h) (and_first _ (list_all (λ p. is_end r || fit (flags_at p) (flags_at r)) rs) k))
    (all_fit_push rs r (and_second (list_all (λ p. is_end p || fit (flags_at q) (flags_at p)) rs) _ h) (and_second (is_end r || fit (flags_at q) (flags_at r)) _ k))

before_last_push : (rs : List Request) (r : Request) → before_last (rs ++ r ∷ []) ≡ rs
before_last_push rs r =
    let n : length rs ≡ length (rs ++ r ∷ []) - 1 = omega (arith, length-append rs (r ∷ [])) in
    take_at rs (r ∷ []) (length (rs ++ r ∷ []) - 1) n

none_apart : (split_end : Bool) (rs : List Request) → list_any is_alone rs ≡ false → list_any (is_apart split_end) rs ≡ false
none_apart split_end [] h = refl
none_apart split_end (r ∷ rs) h =
    elim (is_alone r) as (λ t. (t || list_any is_alone rs) ≡ false → ((t && (split_end || not (is_end r))) || list_any (is_apart split_end) rs) ≡ false) [
      | true ↦ λ e. absurd (true_false e)
      | false ↦ λ e. none_apart split_end rs e
    ] h
  where
    true_false : true ≡ false → ⊥
    true_false e = cc

end_not_apart : (split_end : Bool) (r : Request) → split_end ≡ false → is_end r ≡ true → is_apart split_end r ≡ false
end_not_apart split_end r s e =
    ap (λ t. is_alone r && (t || not (is_end r))) s ∙ ap (λ t. is_alone r && not t) e ∙ none (is_alone r)
  where
    none : (t : Bool) → (t && false) ≡ false
    none true = refl
    none false = refl

not_alone_not_apart : (split_end : Bool) (r : Request) → is_alone r ≡ false → is_apart split_end r ≡ false
not_alone_not_apart split_end r h = ap (λ t. t && (split_end || not (is_end r))) h

join_apart : (split_end : Bool) (rs : List Request) (r : Request) → 0 < length rs → may_join split_end rs r ≡ true → is_apart split_end r ≡ false
join_apart split_end rs r some h =
    join_ways split_end rs r h (λ s e a. end_not_apart split_end r s e) (λ f. not_alone_not_apart split_end r (fits_all_not_alone rs r some f))

part_one : (split_end : Bool) (x : Item) → IsPart split_end (part_of (x ∷ []))
part_one split_end x = record {
  some = omega arith;
  fit = refl;
  alone_last = refl;
  apart = λ h. absurd (omega arith);
  dir = refl;
}

part_more : (split_end : Bool) (g : List Item) (x : Item) → IsPart split_end (part_of g) → item_may_join split_end g x ≡ true → IsPart split_end (part_of (g ++ x ∷ []))
part_more split_end g x h j =
    let rs = requests_of g in
    let r = x.request in
    let e : requests_of (g ++ x ∷ []) ≡ rs ++ r ∷ [] = map_push (λ (i : Item). i.request) g x in
    let n : 0 < length rs = omega (arith, h.some, length-map g (λ (i : Item). i.request)) in
    let alone : list_any is_alone rs ≡ false = join_alone split_end rs r j in
    let fit : all_fit (rs ++ r ∷ []) ≡ true = all_fit_push rs r h.fit (join_fit split_end rs r j) in
    let last : list_any is_alone (before_last (rs ++ r ∷ [])) ≡ false = ap (list_any is_alone) (before_last_push rs r) ∙ alone in
    let apart : list_any (is_apart split_end) (rs ++ r ∷ []) ≡ false = any_push (is_apart split_end) rs r ∙ or_neither _ _ (none_apart split_end rs alone) (join_apart split_end rs r n j) in
    record {
      some = omega (arith, length-append g (x ∷ []));
      fit = ap all_fit e ∙ fit;
      alone_last = ap (λ qs. list_any is_alone (before_last qs)) e ∙ last;
      apart = λ _. ap (list_any (is_apart split_end)) e ∙ apart;
      dir = refl;
    }

parts_each : (split_end : Bool) (items : List Item) → All (IsPart split_end) (map part_of (groups (item_may_join split_end) items))
parts_each split_end items =
    All-map (IsPart split_end) part_of (groups (item_may_join split_end) items)
    (groups_each (λ g. IsPart split_end (part_of g)) (item_may_join split_end) (part_one split_end) (part_more split_end) items)

pub are_parts : (split_end : Bool) (rs : List Request) (ss : List Seq) (ps : List Part) → ps ≡ parts_of split_end rs ss → length ss ≡ length rs → AreParts split_end rs ss ps
are_parts split_end rs ss ps e n =
    let joined : all_items ps ≡ items_from 0 rs ss = ap all_items e ∙ parts_joined split_end rs ss in
    record {
      requests = ap requests_of joined ∙ items_requests 0 rs ss n;
      positions = ap (map (λ (i : Item). i.pos)) joined ∙ items_positions 0 rs ss n;
      numbers = ap (map (λ (i : Item). i.seq)) joined ∙ items_seqs 0 rs ss n;
      each = subst (All (IsPart split_end)) (sym e) (parts_each split_end (items_from 0 rs ss));
    }

-- what holds of each request of the batch

each_of_joined : (test : Request → Bool) (ps : List Part) → list_all test (requests_of (all_items ps)) ≡ true → EachRequest test ps
each_of_joined test [] h = All-nil (λ p. list_all test (requests_of p.items) ≡ true)
each_of_joined test (p ∷ ps) h =
    let two : list_all test (requests_of p.items ++ requests_of (all_items ps)) ≡ true = ap (list_all test) (sym (map-append (λ (i : Item). i.request) p.items (all_items ps))) ∙ h in
    let both : (list_all test (requests_of p.items) && list_all test (requests_of (all_items ps))) ≡ true = sym (list_all-append test (requests_of p.items) (requests_of (all_items ps))) ∙ two in
    All-cons (λ q. list_all test (requests_of q.items) ≡ true) p ps (and_first _ (list_all test (requests_of (all_items ps))) both) (each_of_joined test ps (and_second (list_all test (requests_of p.items)) _ both))

pub each_request : (test : Request → Bool) (split_end : Bool) (rs : List Request) (ss : List Seq) (ps : List Part) → ps ≡ parts_of split_end rs ss → length ss ≡ length rs → list_all test rs ≡ true → EachRequest test ps
each_request test split_end rs ss ps e n h =
    each_of_joined test ps (ap (list_all test) (are_parts split_end rs ss ps e n).requests ∙ h)

-- batches of one part

groups_from_no_end : (split_end : Bool) (last rs : List Request) → list_any is_end rs ≡ false → groups_from (may_join split_end) last rs ≡ groups_from (may_join true) last rs
groups_from_no_end true last rs h = refl
groups_from_no_end false last [] h = refl
groups_from_no_end false last (r ∷ rs) h =
    elim (is_end r) as (λ t. (t || list_any is_end rs) ≡ false → cond (cond t (not (list_any is_alone last)) (fits_all last r)) (groups_from (may_join false) (last ++ r ∷ []) rs) (last ∷ groups_from (may_join false) (r ∷ []) rs) ≡ cond (fits_all last r) (groups_from (may_join true) (last ++ r ∷ []) rs) (last ∷ groups_from (may_join true) (r ∷ []) rs)) [
      | true ↦ λ e. absurd (true_false e)
      | false ↦ λ e. same (fits_all last r) _ _ _ _ (groups_from_no_end false (last ++ r ∷ []) rs e) (ap (λ gs. last ∷ gs) (groups_from_no_end false (r ∷ []) rs e))
    ] h
  where
    true_false : true ≡ false → ⊥
    true_false e = cc

    same : (t : Bool) (a b c d : List (List Request)) → a ≡ c → b ≡ d → cond t a b ≡ cond t c d
    same t a b c d p q = cc

groups_no_end : (split_end : Bool) (rs : List Request) → list_any is_end rs ≡ false → groups (may_join split_end) rs ≡ groups (may_join true) rs
groups_no_end split_end [] h = refl
groups_no_end split_end (r ∷ rs) h = groups_from_no_end split_end (r ∷ []) rs (second (is_end r) _ h)
  where
    second : (a b : Bool) → (a || b) ≡ false → b ≡ false
    second true b e = cc
    second false b e = e

weaker_none : (p q : Request → Bool) (rs : List Request) → ((r : Request) → q r ≡ true → p r ≡ true) → list_any p rs ≡ false → list_any q rs ≡ false
weaker_none p q [] f h = refl
weaker_none p q (r ∷ rs) f h =
    or_neither (q r) (list_any q rs) (not_both (q r) (not (p r)) (λ e. ap not (f r e)) (ap not (first (p r) _ h))) (weaker_none p q rs f (second (p r) _ h))
  where
    first : (a b : Bool) → (a || b) ≡ false → a ≡ false
    first true b e = e
    first false b e = refl

    second : (a b : Bool) → (a || b) ≡ false → b ≡ false
    second true b e = cc
    second false b e = e

end_needs_txn : (r : Request) → is_end r ≡ true → needs_txn r ≡ true
end_needs_txn (EndTxn a) h = refl
end_needs_txn r h = cc

end_knows_no_limit : (r : Request) → is_end r ≡ true → not (knows_limit r) ≡ true
end_knows_no_limit (EndTxn a) h = refl
end_knows_no_limit r h = cc

all_not_any : (p : Request → Bool) (rs : List Request) → list_all p rs ≡ true → list_any (λ r. not (p r)) rs ≡ false
all_not_any p [] h = refl
all_not_any p (r ∷ rs) h = or_neither _ _ (ap not (and_first _ (list_all p rs) h)) (all_not_any p rs (and_second (p r) _ h))

one_group : (split_end : Bool) (rs : List Request) (ss : List Seq) (ps : List Part) → ps ≡ parts_of split_end rs ss → length ss ≡ length rs → 0 < length rs → list_any is_end rs ≡ false → length (groups (may_join true) rs) ≤ 1 → length ps ≡ 1
one_group split_end rs ss ps e n some ends few =
    let items = items_from 0 rs ss in
    let gs = groups (item_may_join split_end) items in
    let a : length ps ≡ length gs = ap length e ∙ length-map gs part_of in
    let b : length (map requests_of gs) ≡ length gs = length-map gs requests_of in
    let c : map requests_of gs ≡ groups (may_join true) rs = groups_map (λ (i : Item). i.request) (may_join split_end) items ∙ ap (groups (may_join split_end)) (items_requests 0 rs ss n) ∙ groups_no_end split_end rs ends in
    let d : length (map requests_of gs) ≡ length (groups (may_join true) rs) = ap length c in
    omega (arith, groups_some (may_join true) rs some)

pub one_if_acting : (split_end : Bool) (b : Batch) (ss : List Seq) (ps : List Part) → IsLegal b → ps ≡ parts_of split_end b.requests ss → length ss ≡ length b.requests → is_some b.at ≡ true → list_any acts b.requests ≡ true → length ps ≡ 1
one_if_acting split_end b ss ps l e n t a =
    one_group split_end b.requests ss ps e n l.some (weaker_none needs_txn is_end b.requests end_needs_txn (l.txn t)) (l.one_part t a)

one_if_none : (rs : List Request) → first_where is_misfit rs ≡ None → length (groups (may_join true) rs) ≤ 1
one_if_none rs h = low (length (groups (may_join true) rs)) (groups_split (may_join true) rs (λ r. refl) ∙ ap is_some h)
  where
    low : (n : ℕ) → nat_lt 1 n ≡ false → n ≤ 1
    low n e = grind (arith, nat_tests)

pub one_if_limited : (split_end : Bool) (b : Batch) (ss : List Seq) (ps : List Part) → IsLegal b → ps ≡ parts_of split_end b.requests ss → length ss ≡ length b.requests → is_some b.limit ≡ true → length ps ≡ 1
one_if_limited split_end b ss ps l e n t =
    one_group split_end b.requests ss ps e n l.some
    (weaker_none (λ r. not (knows_limit r)) is_end b.requests end_knows_no_limit (all_not_any knows_limit b.requests (l.limit_kinds t)))
    (one_if_none b.requests (l.limit_fit t))
