use Rattle.std.proofs.Common.{rules, ◌≡◌, Some, nat_eq, true, false, subst, arith}
use Rattle.std.proofs.lemmas.Grind.{common_steps}
use Rattle.std.proofs.lemmas.Bool.Decides.{nat_tests}
use Rattle.ds_base.specs.Order.{key_lt}
use Rattle.ds_base.specs.declared.value.Dir.TheVariants.{Reverse}
use Rattle.ds_cache.specs.Entries.{at_serial}
use Rattle.ds_cache.specs.Nearest.{NoneBefore, IsLastBefore}
use Rattle.ds_cache.proofs.Placed.{inside_beside, outside_none, outside_beside, outside_alone}
use Rattle.ds_cache.proofs.place.beside.Goals as goal

pub returns-then-last-serial : goal.returns-then-last-serial
returns-then-last-serial c =
    let here : at_serial c.args.serial c.args.recency.now.entries ≡ Some c.in-Some.info.now = search rules in
    let other : nat_eq c.args.serial c.in-Some-last_before.last ≡ false = grind (arith, nat_tests, common_steps) in
    inside_beside _ _ _ _ _ c.requires.index c.requires.spans here other (subst (λ k. IsLastBefore Reverse k c.args.index.now.entries c.in-Some-last_before.last) c.end_of.ensures.key c.in-Some-last_before.ensures)

pub returns-in_default-last_before-2 : goal.returns-in_default-last_before-2
returns-in_default-last_before-2 c =
    let here : at_serial c.args.serial c.args.recency.now.entries ≡ Some c.in-Some.info.now = search rules in
    let it : c.in-Some-last_before.last ≡ c.args.serial = search rules in
    let last : IsLastBefore Reverse c.in-Some.info.now.desc.span.end c.args.index.now.entries c.args.serial = subst (IsLastBefore Reverse c.in-Some.info.now.desc.span.end c.args.index.now.entries) it (subst (λ k. IsLastBefore Reverse k c.args.index.now.entries c.in-Some-last_before.last) c.end_of.ensures.key c.in-Some-last_before.ensures) in
    outside_none _ _ _ _ c.requires.index here last (subst (λ k. NoneBefore Reverse k c.args.index.now.entries) c.start_of.ensures.key c.in_default-last_before-2.ensures)

pub returns-then-lt : goal.returns-then-lt
returns-then-lt c =
    let here : at_serial c.args.serial c.args.recency.now.entries ≡ Some c.in-Some.info.now = search rules in
    let there : at_serial c.in-Some-last_before-2.lower c.args.recency.now.entries ≡ Some c.in-Some-peek.entry.now = search rules in
    let up : key_lt c.in-Some.info.now.desc.span.start c.in-Some-peek.entry.now.desc.span.end ≡ true = search rules in
    outside_beside _ _ _ _ _ _ c.requires.index c.requires.spans here (subst (λ k. IsLastBefore Reverse k c.args.index.now.entries c.in-Some-last_before-2.lower) c.start_of.ensures.key c.in-Some-last_before-2.ensures) there up

pub returns-else-lt : goal.returns-else-lt
returns-else-lt c =
    let here : at_serial c.args.serial c.args.recency.now.entries ≡ Some c.in-Some.info.now = search rules in
    let it : c.in-Some-last_before.last ≡ c.args.serial = search rules in
    let last : IsLastBefore Reverse c.in-Some.info.now.desc.span.end c.args.index.now.entries c.args.serial = subst (IsLastBefore Reverse c.in-Some.info.now.desc.span.end c.args.index.now.entries) it (subst (λ k. IsLastBefore Reverse k c.args.index.now.entries c.in-Some-last_before.last) c.end_of.ensures.key c.in-Some-last_before.ensures) in
    let there : at_serial c.in-Some-last_before-2.lower c.args.recency.now.entries ≡ Some c.in-Some-peek.entry.now = search rules in
    let up : key_lt c.in-Some.info.now.desc.span.start c.in-Some-peek.entry.now.desc.span.end ≡ false = search rules in
    outside_alone _ _ _ _ _ _ c.requires.index c.requires.spans c.requires.apart here last (subst (λ k. IsLastBefore Reverse k c.args.index.now.entries c.in-Some-last_before-2.lower) c.start_of.ensures.key c.in-Some-last_before-2.ensures) there up
