-- What the items of a piece shift, one after another.
use Rattle.std.proofs.Common.{◌≡◌, ℕ, zero, suc, ◌+◌, ◌<◌, ◌≤◌, min, List, [], ◌∷◌, ◌++◌, Option, Some, None, refl, sym, ap, ◌∙◌, append_assoc, drop, get_or, length, arith}
use Rattle.std.proofs.lemmas.List.{drop_all, drop_more}
use Rattle.ds_kind.specs.declared.batch.Item.{Item}
use Rattle.ds_kind.specs.declared.reply.Reply.{Reply}
use Rattle.ds_rule.specs.World.{World}
use Rattle.ds_ranges.specs.Layout.{Became, Layout, laid}
use Rattle.ds_sim.specs.declared.shift.Shift.{Shift}
use Rattle.ds_sim.specs.Done.{shift_all, shift_unless, shift_world, shifts_of, with_shift}
use Rattle.ds_base.proofs.SmallFacts.{append_nil}

-- ---- gathered

with-more : (o : Option Shift) (ss : List Shift) → with_shift o ss ≡ with_shift o [] ++ ss
with-more None ss = refl
with-more (Some s) ss = refl

pub shifts-more : (is : List Item) (rs : List Reply) (i : ℕ) (x : Item) (r : Reply) (o : Option Shift) (before after all : List Shift) → x ≡ get_or is i x → i < length is → r ≡ get_or rs i r → i < length rs → o ≡ shift_unless r.resume x.request → after ≡ before ++ with_shift o [] → before ++ shifts_of (drop i is) (drop i rs) ≡ all → after ++ shifts_of (drop (i + 1) is) (drop (i + 1) rs) ≡ all
shifts-more is rs i x r o before after all at low there below shift more so_far =
    let rest = shifts_of (drop (i + 1) is) (drop (i + 1) rs) in
    let here : drop i is ≡ x ∷ drop (i + 1) is = drop_more is i x low ∙ ap (λ z. z ∷ drop (i + 1) is) (sym at) in
    let beside : drop i rs ≡ r ∷ drop (i + 1) rs = drop_more rs i r below ∙ ap (λ z. z ∷ drop (i + 1) rs) (sym there) in
    ap (λ z. z ++ rest) more ∙ append_assoc before (with_shift o []) rest
    ∙ ap (λ z. before ++ z) (sym (with-more o rest) ∙ ap (λ z. with_shift z rest) shift)
    ∙ sym (ap (λ z. before ++ shifts_of z (drop i rs)) here ∙ ap (λ z. before ++ shifts_of (x ∷ drop (i + 1) is) z) beside)
    ∙ so_far

no-replies : (is : List Item) → shifts_of is [] ≡ []
no-replies [] = refl
no-replies (i ∷ is) = refl

shifts-none : (is : List Item) (rs : List Reply) (i : ℕ) → min (length is) (length rs) ≤ i → shifts_of (drop i is) (drop i rs) ≡ []
shifts-none [] rs i high = ap (λ z. shifts_of z (drop i rs)) (drop_all i [] (omega arith))
shifts-none (x ∷ is) [] i high = ap (shifts_of (drop i (x ∷ is))) (drop_all i [] (omega arith)) ∙ no-replies (drop i (x ∷ is))
shifts-none (x ∷ is) (r ∷ rs) zero high = absurd (omega (arith, high))
shifts-none (x ∷ is) (r ∷ rs) (suc i) high = shifts-none is rs i (omega (arith, high))

pub shifts-done : (is : List Item) (rs : List Reply) (i : ℕ) (now : List Shift) → min (length is) (length rs) ≤ i → now ++ shifts_of (drop i is) (drop i rs) ≡ shifts_of is rs → now ≡ shifts_of is rs
shifts-done is rs i now high so_far =
    sym (append_nil now) ∙ ap (λ z. now ++ z) (sym (shifts-none is rs i high)) ∙ so_far

-- ---- made

-- those so far were made, and so many are still to come
pub made-more : (ss : List Shift) (i : ℕ) (s : Shift) (first now after : Layout) → s ≡ get_or ss i s → i < length ss → Became (shift_world s) now after → ((w : World) → shift_all (drop i ss) (laid now w) ≡ shift_all ss (laid first w)) → (w : World) → shift_all (drop (i + 1) ss) (laid after w) ≡ shift_all ss (laid first w)
made-more ss i s first now after at low made so_far w =
    let here : drop i ss ≡ s ∷ drop (i + 1) ss = drop_more ss i s low ∙ ap (λ z. z ∷ drop (i + 1) ss) (sym at) in
    ap (shift_all (drop (i + 1) ss)) (made w) ∙ sym (ap (λ z. shift_all z (laid now w)) here) ∙ so_far w

pub made-done : (ss : List Shift) (i : ℕ) (first now : Layout) → length ss ≤ i → ((w : World) → shift_all (drop i ss) (laid now w) ≡ shift_all ss (laid first w)) → Became (shift_all ss) first now
made-done ss i first now high so_far w = sym (ap (λ z. shift_all z (laid now w)) (drop_all i ss high)) ∙ so_far w
