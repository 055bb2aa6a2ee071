use Rattle.std.proofs.Common.{rules, ◌≡◌, true, false, Some, None, subst}
use Rattle.std.specs.Map.{lookup}
use Rattle.std.specs.BTreeMap.{is_at}
use Rattle.ds_base.specs.Order.{key_cmp}
use Rattle.ds_cache.specs.Entries.{at_serial}
use Rattle.ds_desc.specs.Descs.{same_desc}
use Rattle.ds_cache.proofs.Stands.{stands, stands_free, stands_other}
use Rattle.ds_cache.proofs.standing.standing_at.Goals as goal

pub returns-in_default : goal.returns-in_default
returns-in_default c =
    let at : lookup (is_at (key_cmp c.args.info.now.desc.span.start)) c.args.index.now.entries ≡ None = subst (λ k. lookup (is_at (key_cmp k)) c.args.index.now.entries ≡ None) c.start_of.ensures.key (search rules) in
    stands_free c.args.info.now _ _ c.requires.distinct c.requires.index at

pub returns-then-is_same : goal.returns-then-is_same
returns-then-is_same c =
    let at : lookup (is_at (key_cmp c.args.info.now.desc.span.start)) c.args.index.now.entries ≡ Some c.in-Some.serial.now = subst (λ k. lookup (is_at (key_cmp k)) c.args.index.now.entries ≡ Some c.in-Some.serial.now) c.start_of.ensures.key (search rules) in
    let there : at_serial c.in-Some.serial.now c.args.recency.now.entries ≡ Some c.in-Some-peek.entry.now = search rules in
    let same : same_desc c.args.info.now.desc c.in-Some-peek.entry.now.desc ≡ true = search rules in
    stands c.args.info.now _ _ _ _ c.requires.distinct c.requires.index at there same

pub returns-else-is_same : goal.returns-else-is_same
returns-else-is_same c =
    let at : lookup (is_at (key_cmp c.args.info.now.desc.span.start)) c.args.index.now.entries ≡ Some c.in-Some.serial.now = subst (λ k. lookup (is_at (key_cmp k)) c.args.index.now.entries ≡ Some c.in-Some.serial.now) c.start_of.ensures.key (search rules) in
    let there : at_serial c.in-Some.serial.now c.args.recency.now.entries ≡ Some c.in-Some-peek.entry.now = search rules in
    let other : same_desc c.args.info.now.desc c.in-Some-peek.entry.now.desc ≡ false = search rules in
    stands_other c.args.info.now _ _ _ _ c.requires.distinct c.requires.index at there other
