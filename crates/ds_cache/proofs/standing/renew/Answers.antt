use Rattle.std.proofs.Common.{rules, ◌≡◌, Some, true, false, nat_lt, arith}
use Rattle.std.proofs.lemmas.Grind.{common_steps}
use Rattle.std.proofs.lemmas.Bool.Decides.{nat_tests}
use Rattle.ds_cache.specs.Entries.{at_serial}
use Rattle.ds_cache.proofs.Stands.{renew_then, renew_else}
use Rattle.ds_cache.proofs.standing.renew.Goals as goal

pub returns-then-entry-lease-clause-entries : goal.returns-then-entry-lease-clause-entries
returns-then-entry-lease-clause-entries c = λ e there.
    let was : at_serial c.args.serial c.args.recency.now.entries ≡ Some c.in-Some.entry.now = search rules in
    let low : nat_lt c.in-Some.entry.now.lease.number c.args.lease.number ≡ true = grind (arith, nat_tests, common_steps) in
    renew_then c.args.serial c.in-Some.entry.now e c.args.lease c.args.recency.now.entries was there low

pub returns-else-entry-lease-clause-entries : goal.returns-else-entry-lease-clause-entries
returns-else-entry-lease-clause-entries c = λ e there.
    let was : at_serial c.args.serial c.args.recency.now.entries ≡ Some c.in-Some.entry.now = search rules in
    let low : nat_lt c.in-Some.entry.now.lease.number c.args.lease.number ≡ false = grind (arith, nat_tests, common_steps) in
    renew_else c.args.serial c.in-Some.entry.now e c.args.lease c.args.recency.now.entries was there low
