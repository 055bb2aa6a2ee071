-- Facts on the rules.
use Rattle.std.proofs.Common.{◌≡◌, ℕ, ◌+◌, ◌-◌, ◌<◌, ◌≤◌, Bool, true, false, not, List, [], ◌∷◌, ◌++◌, length, get_or, take, drop, Option, Some, None, refl, sym, ap, ◌∙◌, arith}
use Rattle.std.specs.Ordering.{is_lt, is_gt, ordering_reverse}
use Rattle.std.specs.declared.cmp.Ordering.{Ordering}
use Rattle.std.specs.declared.cmp.Ordering.TheVariants.{Less, Equal, Greater}
use Rattle.std.specs.List.{last_or}
use Rattle.std.proofs.lemmas.Cmp.{nat_list_cmp_total}
use Rattle.std.proofs.lemmas.List.{take_more}
use Rattle.ds_base.specs.Order.{key_cmp, key_lt, key_le, after}
use Rattle.ds_base.proofs.KeyOrder.{after-above, key_le-not_lt}
use Rattle.ds_base.proofs.SmallFacts.{less_reversed}
use Rattle.std.specs.Option.{option_map_or}
use Rattle.ds_kind.specs.Reach.{At, extent_of}
use Rattle.ds_kind.specs.Request.{reach_of, span_of}
use Rattle.ds_kind.specs.declared.request.Request.{Request}
use Rattle.ds_kind.specs.Asks.{flags_at, overtakes}
use Rattle.ds_kind.specs.Groups.{first_after}
use Rattle.ds_legal.specs.Mix.{mix_of, mix_with, mix_fits}
use Rattle.ds_legal.specs.declared.mix.Mix.{Mix}
use Rattle.ds_legal.specs.Rules.{is_misfit, is_overtaken}
use Rattle.ds_legal.proofs.MixFacts.{fits_mix, mix_push}
use Rattle.ds_legal.proofs.GroupFacts.{first_found, first_passed}

-- below the next key of a is what is not above a
pub below_next : (b a : List ℕ) → key_lt b (after a) ≡ key_le b a
below_next b a = ap is_lt (nat_list_cmp_total.antisymm b (after a)) ∙ less_reversed (key_cmp (after a) b) ∙ after-above a b ∙ sym (key_le-not_lt b a)

-- a point ends at its next key
pub overtakes_point : (a b : Request) (k : List ℕ) → At k ≡ reach_of a → overtakes a b ≡ key_le (span_of b).start k
overtakes_point a b k e = ap (λ x. key_lt (span_of b).start (extent_of x).end) (sym e) ∙ below_next (span_of b).start k

-- whether one misfits is told by the mix of those before it
pub misfit_by_mix : (past : List Request) (r : Request) → is_misfit past r ≡ not (mix_fits (mix_of past) (flags_at r))
misfit_by_mix past r = ap not (fits_mix past (flags_at r))

last_push : {A : Type 0} (o : Option A) (xs : List A) (x : A) → last_or o (xs ++ x ∷ []) ≡ Some x
last_push o [] x = refl
last_push o (y ∷ ys) x = last_push (Some y) ys x

take_last : {A : Type 0} (xs : List A) (i : ℕ) (q : A) → 1 ≤ i → i < length xs → q ≡ get_or xs (i - 1) q → last_or None (take i xs) ≡ Some q
take_last xs i q some low e =
    let before : i - 1 < length xs = omega arith in
    let next : i ≡ i - 1 + 1 = omega arith in
    ap (λ n. last_or None (take n xs)) next
    ∙ ap (λ zs. last_or None zs) (take_more xs (i - 1) q before)
    ∙ last_push None (take (i - 1) xs) (get_or xs (i - 1) q)
    ∙ ap (λ x. Some x) (sym e)

overtaken_at : (rs : List Request) (i : ℕ) (q r : Request) → 1 ≤ i → i < length rs → q ≡ get_or rs (i - 1) q → is_overtaken (take i rs) r ≡ overtakes q r
overtaken_at rs i q r some low e = ap (λ o. option_map_or (λ p. overtakes p r) o false) (take_last rs i q some low e)

-- a search for an overtaken request, come to the place i
pub overtaken_found : (rs : List Request) (i : ℕ) (q r : Request) → 1 ≤ i → i < length rs → q ≡ get_or rs (i - 1) q → r ≡ get_or rs i r → overtakes q r ≡ true → first_after is_overtaken (take i rs) (drop i rs) ≡ Some i
overtaken_found rs i q r some low e f h =
    first_found is_overtaken rs i r low (ap (λ x. is_overtaken (take i rs) x) (sym f) ∙ overtaken_at rs i q r some low e ∙ h)

pub overtaken_passed : (rs : List Request) (i : ℕ) (q r : Request) → 1 ≤ i → i < length rs → q ≡ get_or rs (i - 1) q → r ≡ get_or rs i r → overtakes q r ≡ false → first_after is_overtaken (take i rs) (drop i rs) ≡ first_after is_overtaken (take (i + 1) rs) (drop (i + 1) rs)
overtaken_passed rs i q r some low e f h =
    first_passed is_overtaken rs i r low (ap (λ x. is_overtaken (take i rs) x) (sym f) ∙ overtaken_at rs i q r some low e ∙ h)

misfit_at : (rs : List Request) (i : ℕ) (m : Mix) (r : Request) (t : Bool) → r ≡ get_or rs i r → m ≡ mix_of (take i rs) → mix_fits m (flags_at r) ≡ t → is_misfit (take i rs) (get_or rs i r) ≡ not t
misfit_at rs i m r t f e h =
    ap (λ x. is_misfit (take i rs) x) (sym f) ∙ misfit_by_mix (take i rs) r ∙ ap (λ n. not (mix_fits n (flags_at r))) (sym e) ∙ ap not h

-- a search for a misfit, come to the place i
pub misfit_found : (rs : List Request) (i : ℕ) (m : Mix) (r : Request) → i < length rs → r ≡ get_or rs i r → m ≡ mix_of (take i rs) → mix_fits m (flags_at r) ≡ false → first_after is_misfit (take i rs) (drop i rs) ≡ Some i
misfit_found rs i m r low f e h = first_found is_misfit rs i r low (misfit_at rs i m r false f e h)

pub misfit_passed : (rs : List Request) (i : ℕ) (m : Mix) (r : Request) → i < length rs → r ≡ get_or rs i r → m ≡ mix_of (take i rs) → mix_fits m (flags_at r) ≡ true → first_after is_misfit (take i rs) (drop i rs) ≡ first_after is_misfit (take (i + 1) rs) (drop (i + 1) rs)
misfit_passed rs i m r low f e h = first_passed is_misfit rs i r low (misfit_at rs i m r true f e h)

pub mix_more : (rs : List Request) (i : ℕ) (m : Mix) (r : Request) → i < length rs → r ≡ get_or rs i r → m ≡ mix_of (take i rs) → mix_with m (flags_at r) ≡ mix_of (take (i + 1) rs)
mix_more rs i m r low f e =
    ap (λ n. mix_with n (flags_at r)) e
    ∙ sym (mix_push (take i rs) r)
    ∙ ap (λ x. mix_of (take i rs ++ x ∷ [])) f
    ∙ ap mix_of (sym (take_more rs i r low))
