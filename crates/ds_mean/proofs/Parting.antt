-- A piece of a part is one of its batch.
use Rattle.std.proofs.Common.{◌≡◌, ℕ, ◌<◌, Bool, true, false, cond, ◌&&◌, ◌||◌, ◌==◌, ◌⊎◌, inl, inr, List, [], ◌∷◌, ◌++◌, length, Some, refl, sym, ap, ◌∙◌, subst, eq-eqb, arith}
use Rattle.std.specs.List.{find, list_all, list_any}
use Rattle.std.proofs.lemmas.Bool.{eqb-true}
use Rattle.ds_base.proofs.SmallFacts.{and_both, and_first, and_second}
use Rattle.ds_cover.specs.Origins.{CutsOf, IsCut as IsCutOf}
use Rattle.ds_kind.specs.Asks.{flags_at, has_proper_span, is_end}
use Rattle.ds_kind.specs.Flags.{fit}
use Rattle.ds_kind.specs.Parts.{all_fit, all_items, requests_of}
use Rattle.ds_kind.specs.Request.{cut_to, span_of}
use Rattle.ds_kind.specs.declared.batch.Item.{Item}
use Rattle.ds_kind.specs.declared.batch.Part.{Part}
use Rattle.ds_kind.specs.declared.flags.Flags.{Flags}
use Rattle.ds_kind.specs.declared.request.Request.{Request}
use Rattle.ds_kind.specs.declared.request.Request.TheVariants.{Get, Scan, ReverseScan, Put, ConditionalPut, InitPut, Increment, Delete, DeleteRange, EndTxn, QueryIntent, ResolveIntent, ResolveIntentRange, AdminSplit, AdminTransferLease}
use Rattle.ds_kind.proofs.RequestFacts.{proper_some}
use Rattle.ds_cell.specs.Content.{AllAbove, Rises}
use Rattle.ds_rule.specs.Pieces.{Each, IsCut, IsOneOf, dir_for, dir_of_first, dir_of_part, has_position, is_lone_end, parts_apart, position_of, unless_lone}
use Rattle.ds_mean.specs.Parting.{PartsPieces}
use Rattle.ds_mean.proofs.Coming.{each-itself}

-- ---- cuts

cut-position : (i c : Item) → IsCutOf i c → c.pos ≡ i.pos
cut-position i c cut = ap position_of cut.same

cuts-above : (n : ℕ) (items cs : List Item) → AllAbove position_of n items → CutsOf items cs → AllAbove position_of n cs
cuts-above n [] [] all cuts = tt
cuts-above n (i ∷ is) [] all cuts = tt
cuts-above n [] (c ∷ cs) all cuts = absurd cuts
cuts-above n (i ∷ is) (c ∷ cs) all (inl one) = (subst (λ m. n < m) (sym (cut-position i c one.0)) all.0, cuts-above n is cs all.1 one.1)
cuts-above n (i ∷ is) (c ∷ cs) all (inr more) = cuts-above n is (c ∷ cs) all.1 more

cuts-rise : (items cs : List Item) → Rises position_of items → CutsOf items cs → Rises position_of cs
cuts-rise [] [] r cuts = tt
cuts-rise (i ∷ is) [] r cuts = tt
cuts-rise [] (c ∷ cs) r cuts = absurd cuts
cuts-rise (i ∷ is) (c ∷ cs) r (inl one) = (cuts-above c.pos is cs (subst (λ m. AllAbove position_of m is) (sym (cut-position i c one.0)) r.0) one.1, cuts-rise is cs r.1 one.1)
cuts-rise (i ∷ is) (c ∷ cs) r (inr more) = cuts-rise is (c ∷ cs) r.1 more

cut-flags : (s e : List ℕ) (r : Request) → flags_at (cut_to s e r) ≡ flags_at r
cut-flags s e (Get a) = refl
cut-flags s e (Scan a) = refl
cut-flags s e (ReverseScan a) = refl
cut-flags s e (Put a) = refl
cut-flags s e (ConditionalPut a) = refl
cut-flags s e (InitPut a) = refl
cut-flags s e (Increment a) = refl
cut-flags s e (Delete a) = refl
cut-flags s e (DeleteRange a) = refl
cut-flags s e (EndTxn a) = refl
cut-flags s e (QueryIntent a) = refl
cut-flags s e (ResolveIntent a) = refl
cut-flags s e (ResolveIntentRange a) = refl
cut-flags s e (AdminSplit a) = refl
cut-flags s e (AdminTransferLease a) = refl

cut-ends : (s e : List ℕ) (r : Request) → is_end (cut_to s e r) ≡ is_end r
cut-ends s e (Get a) = refl
cut-ends s e (Scan a) = refl
cut-ends s e (ReverseScan a) = refl
cut-ends s e (Put a) = refl
cut-ends s e (ConditionalPut a) = refl
cut-ends s e (InitPut a) = refl
cut-ends s e (Increment a) = refl
cut-ends s e (Delete a) = refl
cut-ends s e (DeleteRange a) = refl
cut-ends s e (EndTxn a) = refl
cut-ends s e (QueryIntent a) = refl
cut-ends s e (ResolveIntent a) = refl
cut-ends s e (ResolveIntentRange a) = refl
cut-ends s e (AdminSplit a) = refl
cut-ends s e (AdminTransferLease a) = refl

-- a test that a cut passes where the whole does
abbrev Keeps : (Request → Bool) → Type 0
Keeps test = (s e : List ℕ) (r : Request) → test (cut_to s e r) ≡ test r

one-passes : (test : Request → Bool) → Keeps test → (i c : Item) → IsCutOf i c → test c.request ≡ test i.request
one-passes test keep i c cut = ap (λ (z : Item). test z.request) cut.same ∙ keep (span_of c.request).start (span_of c.request).end i.request

cuts-pass : (test : Request → Bool) → Keeps test → (items cs : List Item) → list_all test (requests_of items) ≡ true → CutsOf items cs → list_all test (requests_of cs) ≡ true
cuts-pass test keep [] [] all cuts = refl
cuts-pass test keep (i ∷ is) [] all cuts = refl
cuts-pass test keep [] (c ∷ cs) all cuts = absurd cuts
cuts-pass test keep (i ∷ is) (c ∷ cs) all (inl one) = and_both (test c.request) (list_all test (requests_of cs)) (one-passes test keep i c one.0 ∙ and_first _ _ all) (cuts-pass test keep is cs (and_second (test i.request) _ all) one.1)
cuts-pass test keep (i ∷ is) (c ∷ cs) all (inr more) = cuts-pass test keep is (c ∷ cs) (and_second (test i.request) _ all) more

-- whether a request may follow one with these flags
abbrev may_follow : Flags → Request → Bool
may_follow f q = is_end q || fit f (flags_at q)

may-keep : (f : Flags) → Keeps (may_follow f)
may-keep f s e r = ap (λ t. t || fit f (flags_at (cut_to s e r))) (cut-ends s e r) ∙ ap (λ g. is_end r || fit f g) (cut-flags s e r)

one-flags : (i c : Item) → IsCutOf i c → flags_at c.request ≡ flags_at i.request
one-flags i c cut = ap (λ (z : Item). flags_at z.request) cut.same ∙ cut-flags (span_of c.request).start (span_of c.request).end i.request

cuts-fit : (items cs : List Item) → all_fit (requests_of items) ≡ true → CutsOf items cs → all_fit (requests_of cs) ≡ true
cuts-fit [] [] all cuts = refl
cuts-fit (i ∷ is) [] all cuts = refl
cuts-fit [] (c ∷ cs) all cuts = absurd cuts
cuts-fit (i ∷ is) (c ∷ cs) all (inl one) =
    and_both (list_all (may_follow (flags_at c.request)) (requests_of cs)) (all_fit (requests_of cs))
    (ap (λ f. list_all (may_follow f) (requests_of cs)) (one-flags i c one.0) ∙ cuts-pass (may_follow (flags_at i.request)) (may-keep (flags_at i.request)) is cs (and_first _ _ all) one.1)
    (cuts-fit is cs (and_second (list_all (may_follow (flags_at i.request)) (requests_of is)) _ all) one.1)
cuts-fit (i ∷ is) (c ∷ cs) all (inr more) = cuts-fit is (c ∷ cs) (and_second (list_all (may_follow (flags_at i.request)) (requests_of is)) _ all) more

-- each is a request of the batch, cut
one-cut : (whole : List Item) (i c : Item) → IsOneOf i whole → has_proper_span c.request ≡ true → IsCutOf i c → IsCut whole c
one-cut whole i c there proper cut = record {
  whole = i;
  there = there;
  position = ap position_of cut.same;
  number = ap (λ (z : Item). z.seq) cut.same;
  request = ap (λ (z : Item). z.request) cut.same;
  some = proper_some c.request proper;
  from = cut.inside.0;
  to = cut.inside.1;
}

cuts-each : (whole items cs : List Item) → Each (λ i. IsOneOf i whole) items → list_all has_proper_span (requests_of cs) ≡ true → CutsOf items cs → Each (IsCut whole) cs
cuts-each whole [] [] all proper cuts = tt
cuts-each whole (i ∷ is) [] all proper cuts = tt
cuts-each whole [] (c ∷ cs) all proper cuts = absurd cuts
cuts-each whole (i ∷ is) (c ∷ cs) all proper (inl one) = (one-cut whole i c all.0 (and_first _ _ proper) one.0, cuts-each whole is cs all.1 (and_second (has_proper_span c.request) _ proper) one.1)
cuts-each whole (i ∷ is) (c ∷ cs) all proper (inr more) = cuts-each whole is (c ∷ cs) all.1 proper more

-- ---- a part among the others

one-left : (i : Item) (xs ys : List Item) → IsOneOf i xs → IsOneOf i (xs ++ ys)
one-left i [] ys one = absurd one
one-left i (x ∷ xs) ys (inl same) = inl same
one-left i (x ∷ xs) ys (inr more) = inr (one-left i xs ys more)

one-right : (i : Item) (xs ys : List Item) → IsOneOf i ys → IsOneOf i (xs ++ ys)
one-right i [] ys one = one
one-right i (x ∷ xs) ys one = inr (one-right i xs ys one)

each-more : (P Q : Item → Type 0) (xs : List Item) → ((i : Item) → P i → Q i) → Each P xs → Each Q xs
each-more P Q [] more all = tt
each-more P Q (x ∷ xs) more all = (more x all.0, each-more P Q xs more all.1)

part-in : (ps : List Part) (part : Part) → IsOneOf part ps → Each (λ i. IsOneOf i (all_items ps)) part.items
part-in [] part one = absurd one
part-in (p ∷ ps) part (inl same) =
    each-more (λ i. IsOneOf i part.items) (λ i. IsOneOf i (all_items (p ∷ ps))) part.items
    (λ i one. one-left i p.items (all_items ps) (subst (λ (z : Part). IsOneOf i z.items) same one)) (each-itself part.items)
part-in (p ∷ ps) part (inr more) = each-more (λ i. IsOneOf i (all_items ps)) (λ i. IsOneOf i (all_items (p ∷ ps))) part.items (λ i one. one-right i p.items (all_items ps) one) (part-in ps part more)

above-left : (n : ℕ) (xs ys : List Item) → AllAbove position_of n (xs ++ ys) → AllAbove position_of n xs
above-left n [] ys all = tt
above-left n (x ∷ xs) ys all = (all.0, above-left n xs ys all.1)

rises-left : (xs ys : List Item) → Rises position_of (xs ++ ys) → Rises position_of xs
rises-left [] ys r = tt
rises-left (x ∷ xs) ys r = (above-left x.pos xs ys r.0, rises-left xs ys r.1)

rises-right : (xs ys : List Item) → Rises position_of (xs ++ ys) → Rises position_of ys
rises-right [] ys r = r
rises-right (x ∷ xs) ys r = rises-right xs ys r.1

part-rises : (ps : List Part) (part : Part) → IsOneOf part ps → Rises position_of (all_items ps) → Rises position_of part.items
part-rises [] part one r = absurd one
part-rises (p ∷ ps) part (inl same) r = subst (λ (z : Part). Rises position_of z.items) (sym same) (rises-left p.items (all_items ps) r)
part-rises (p ∷ ps) part (inr more) r = part-rises ps part more (rises-right p.items (all_items ps) r)

-- ---- the part at a position

-- some item has the position
abbrev HasPlace : ℕ → List Item → Type 0
HasPlace n [] = ⊥
HasPlace n (i ∷ is) = (i.pos ≡ n) ⊎ HasPlace n is

place-test : (n : ℕ) (is : List Item) → HasPlace n is → list_any (λ i. i.pos == n) is ≡ true
place-test n [] has = absurd has
place-test n (i ∷ is) (inl here) = ap (λ t. t || list_any (λ i. i.pos == n) is) (eq-eqb i.pos n here)
place-test n (i ∷ is) (inr more) = elim (i.pos == n) as (λ t. (t || list_any (λ i. i.pos == n) is) ≡ true) [ true ↦ refl | false ↦ place-test n is more ]

test-place : (n : ℕ) (is : List Item) → list_any (λ i. i.pos == n) is ≡ true → HasPlace n is
test-place n [] h = cc
test-place n (i ∷ is) h =
    elim (i.pos == n) as (λ t. (i.pos == n) ≡ t → (t || list_any (λ i. i.pos == n) is) ≡ true → HasPlace n (i ∷ is)) [
      | true ↦ λ e g. inl (eqb-true _ _ e)
      | false ↦ λ e g. inr (test-place n is g)
    ] refl h

place-right : (n : ℕ) (xs ys : List Item) → HasPlace n ys → HasPlace n (xs ++ ys)
place-right n [] ys has = has
place-right n (x ∷ xs) ys has = inr (place-right n xs ys has)

above-place : (n m : ℕ) (xs : List Item) → AllAbove position_of n xs → HasPlace m xs → n < m
above-place n m [] all has = absurd has
above-place n m (x ∷ xs) all (inl here) = subst (λ k. n < k) here all.0
above-place n m (x ∷ xs) all (inr more) = above-place n m xs all.1 more

-- no position stands in two lists one after the other
never-twice : (n : ℕ) (xs ys : List Item) → Rises position_of (xs ++ ys) → HasPlace n xs → HasPlace n ys → ⊥
never-twice n [] ys r has other = has
never-twice n (x ∷ xs) ys r (inl here) other =
    let low : x.pos < n = above-place x.pos n (xs ++ ys) r.0 (place-right n xs ys other) in
    omega (arith, low, here)
never-twice n (x ∷ xs) ys r (inr more) other = never-twice n xs ys r.1 more other

part-place : (n : ℕ) (ps : List Part) (part : Part) → IsOneOf part ps → HasPlace n part.items → HasPlace n (all_items ps)
part-place n [] part one has = absurd one
part-place n (p ∷ ps) part (inl same) has = by p.items (subst (λ (z : Part). HasPlace n z.items) same has)
  where
    by : (xs : List Item) → HasPlace n xs → HasPlace n (xs ++ all_items ps)
    by [] has = absurd has
    by (x ∷ xs) (inl here) = inl here
    by (x ∷ xs) (inr more) = inr (by xs more)
part-place n (p ∷ ps) part (inr more) has = place-right n p.items (all_items ps) (part-place n ps part more has)

find-part : (n : ℕ) (ps : List Part) (part : Part) → Rises position_of (all_items ps) → IsOneOf part ps → HasPlace n part.items → find (has_position n) ps ≡ Some part
find-part n [] part r one has = absurd one
find-part n (p ∷ ps) part r (inl same) has =
    ap (λ t. cond t (Some p) (find (has_position n) ps)) (place-test n p.items (subst (λ (z : Part). HasPlace n z.items) same has)) ∙ ap Some (sym same)
find-part n (p ∷ ps) part r (inr more) has =
    elim (has_position n p) as (λ t. has_position n p ≡ t → cond t (Some p) (find (has_position n) ps) ≡ Some part) [
      | true ↦ λ e. absurd (never-twice n p.items (all_items ps) r (test-place n p.items e) (part-place n ps part more has))
      | false ↦ λ e. find-part n ps part (rises-right p.items (all_items ps) r) more has
    ] refl

cut-place : (items : List Item) (c : Item) (cs : List Item) → CutsOf items (c ∷ cs) → HasPlace c.pos items
cut-place [] c cs cuts = absurd cuts
cut-place (i ∷ is) c cs (inl one) = inl (sym (cut-position i c one.0))
cut-place (i ∷ is) c cs (inr more) = inr (cut-place is c cs more)

-- ---- its direction

lone-not : (c : Item) (cs : List Item) → is_end c.request ≡ false → is_lone_end (c ∷ cs) ≡ false
lone-not c cs none = ap (λ t. t && (length cs == 0)) none

first-of : (a b : Bool) → (a || b) ≡ false → a ≡ false
first-of true b h = cc
first-of false b h = refl

piece-dir : (items : List Item) (ps : List Part) (part : Part) (cs : List Item) → ps ≡ parts_apart items → Rises position_of (all_items ps) → IsOneOf part ps → 0 < length cs → CutsOf part.items cs → list_any is_end (requests_of cs) ≡ false → part.dir ≡ dir_for items cs
piece-dir items ps part [] is r one some cuts none = absurd (omega (arith, some))
piece-dir items ps part (c ∷ cs) is r one some cuts none =
    sym (ap (λ t. unless_lone t (dir_of_first items (c ∷ cs))) (lone-not c cs (first-of (is_end c.request) (list_any is_end (requests_of cs)) none))
    ∙ ap (λ qs. dir_of_part (find (has_position c.pos) qs)) (sym is) ∙ ap dir_of_part (find-part c.pos ps part r one (cut-place part.items c cs cuts)))

pub parts_pieces : PartsPieces
parts_pieces q part left p joined one rises fit head some cuts proper none dir =
    let r : Rises position_of (all_items (parts_apart q.items)) = subst (Rises position_of) (sym joined) rises in
    record {
      head = head;
      some = some;
      rising = cuts-rise part.items p.items (part-rises (parts_apart q.items) part one r) cuts;
      cuts = cuts-each q.items part.items p.items (subst (λ zs. Each (λ i. IsOneOf i zs) part.items) joined (part-in (parts_apart q.items) part one)) proper cuts;
      fit = cuts-fit part.items p.items fit cuts;
      ends = λ h. let never : false ≡ true = sym none ∙ h in cc;
      dir = dir ∙ piece-dir q.items (parts_apart q.items) part p.items refl r one some cuts none;
    }
