-- A mix decides what fits all of its requests.
use Rattle.std.proofs.Common.{◌≡◌, Bool, true, false, not, ◌&&◌, ◌||◌, cond, List, [], ◌∷◌, ◌++◌, refl, sym, ap, ◌∙◌}
use Rattle.std.specs.List.{list_any, list_all}
use Rattle.ds_base.proofs.TestFacts.{and_pairs}
use Rattle.ds_kind.specs.Flags.{fit, same}
use Rattle.ds_kind.specs.declared.flags.Flags.{Flags}
use Rattle.ds_kind.specs.declared.request.Request.{Request}
use Rattle.ds_kind.specs.Asks.{flags_at, is_alone, is_end}
use Rattle.ds_kind.specs.Parts.{may_join}
use Rattle.ds_legal.specs.declared.mix.Mix.{Mix}
use Rattle.ds_legal.specs.Mix.{mix_of, mix_with, mix_fits, reads_only, writes, goes_forward, goes_back}

shuffle_four : (a b c d p q r s : Bool) → ((((a && p) && (b && q)) && (c && r)) && (d && s)) ≡ ((((a && b) && c) && d) && (((p && q) && r) && s))
shuffle_four a b c d p q r s =
    ap (λ t. (t && (c && r)) && (d && s)) (and_pairs a p b q)
    ∙ ap (λ t. t && (d && s)) (and_pairs (a && b) (p && q) c r)
    ∙ and_pairs ((a && b) && c) ((p && q) && r) d s

not_or : (a b : Bool) → not (a || b) ≡ (not a && not b)
not_or true b = refl
not_or false b = refl

-- each test of a mix, with one request more
alone_step : (alone write reads writes : Bool) → not (alone && ((not write || reads) || (write || writes))) ≡ (not alone && not (alone && (reads || writes)))
alone_step false write reads writes = refl
alone_step true true true writes = refl
alone_step true true false writes = refl
alone_step true false reads writes = refl

write_step : (write mine reads writes : Bool) → not (cond write (not mine || reads) (mine || writes)) ≡ (same mine write && not (cond write reads writes))
write_step true true reads writes = refl
write_step true false reads writes = refl
write_step false true reads writes = refl
write_step false false reads writes = refl

range_step : (range reverse mine back forward_there back_there : Bool) → not (range && cond reverse ((mine && not back) || forward_there) ((mine && back) || back_there)) ≡ (not (mine && range && not (same back reverse)) && not (range && cond reverse forward_there back_there))
range_step false reverse true back f b = refl
range_step false reverse false back f b = refl
range_step true true true true f b = refl
range_step true true true false f b = refl
range_step true true false back f b = refl
range_step true false true true f b = refl
range_step true false true false f b = refl
range_step true false false back f b = refl

none_fits : (alone write range reverse : Bool) → (true && not (alone && false) && not (cond write false false) && not (range && cond reverse false false)) ≡ true
none_fits true true true true = refl
none_fits true true true false = refl
none_fits true true false reverse = refl
none_fits true false true true = refl
none_fits true false true false = refl
none_fits true false false reverse = refl
none_fits false true true true = refl
none_fits false true true false = refl
none_fits false true false reverse = refl
none_fits false false true true = refl
none_fits false false true false = refl
none_fits false false false reverse = refl

all_four : (a b c d p q r s : Bool) → a ≡ p → b ≡ q → c ≡ r → d ≡ s → (((a && b) && c) && d) ≡ (((p && q) && r) && s)
all_four a b c d p q r s i j k l = cc

mix_step : (q : Request) (rs : List Request) (f : Flags) → mix_fits (mix_of (q ∷ rs)) f ≡ (fit (flags_at q) f && mix_fits (mix_of rs) f)
mix_step q rs f =
    all_four _ _ _ _ _ _ _ _
    (not_or (is_alone q) (list_any is_alone rs))
    (alone_step f.alone (flags_at q).write (list_any reads_only rs) (list_any writes rs))
    (write_step f.write (flags_at q).write (list_any reads_only rs) (list_any writes rs))
    (range_step f.range f.reverse (flags_at q).range (flags_at q).reverse (list_any goes_forward rs) (list_any goes_back rs))
    ∙ shuffle_four
    (not (is_alone q))
    (not f.alone)
    (same (flags_at q).write f.write)
    (not ((flags_at q).range && f.range && not (same (flags_at q).reverse f.reverse)))
    (not (list_any is_alone rs))
    (not (f.alone && (list_any reads_only rs || list_any writes rs)))
    (not (cond f.write (list_any reads_only rs) (list_any writes rs)))
    (not (f.range && cond f.reverse (list_any goes_forward rs) (list_any goes_back rs)))

-- what fits the mix fits each
pub fits_mix : (rs : List Request) (f : Flags) → list_all (λ q. fit (flags_at q) f) rs ≡ mix_fits (mix_of rs) f
fits_mix [] f = sym (none_fits f.alone f.write f.range f.reverse)
fits_mix (q ∷ rs) f = ap (λ t. fit (flags_at q) f && t) (fits_mix rs f) ∙ sym (mix_step q rs f)

-- whether a request may join is told by the mix
pub join_by_mix : (split_end : Bool) (rs : List Request) (r : Request) (m : Mix) → m ≡ mix_of rs → may_join split_end rs r ≡ cond (not split_end && is_end r) (not m.alone) (mix_fits m (flags_at r))
join_by_mix split_end rs r m e =
    ap (λ t. cond (not split_end && is_end r) (not (list_any is_alone rs)) t) (fits_mix rs (flags_at r))
    ∙ ap (λ n. cond (not split_end && is_end r) (not n.alone) (mix_fits n (flags_at r))) (sym e)

or_false : (a : Bool) → (a || false) ≡ a
or_false true = refl
or_false false = refl

or_assoc : (a b c : Bool) → (a || (b || c)) ≡ ((a || b) || c)
or_assoc true b c = refl
or_assoc false b c = refl

pub any_push : {X : Type 0} (p : X → Bool) (xs : List X) (x : X) → list_any p (xs ++ x ∷ []) ≡ (list_any p xs || p x)
any_push p [] x = or_false (p x)
any_push p (y ∷ ys) x = ap (λ t. p y || t) (any_push p ys x) ∙ or_assoc (p y) (list_any p ys) (p x)

pub mix_push : (rs : List Request) (r : Request) → mix_of (rs ++ r ∷ []) ≡ mix_with (mix_of rs) (flags_at r)
mix_push rs r =
    let a = any_push is_alone rs r in
    let b = any_push reads_only rs r in
    let c = any_push writes rs r in
    let d = any_push goes_forward rs r in
    let e = any_push goes_back rs r in
    cc
