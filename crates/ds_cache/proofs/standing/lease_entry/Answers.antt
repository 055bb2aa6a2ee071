use Rattle.std.proofs.Common.{rules, ◌≡◌, Some, None, true, false, nat_lt, sym, arith}
use Rattle.std.proofs.lemmas.Grind.{common_steps}
use Rattle.std.proofs.lemmas.Bool.Decides.{nat_tests}
use Rattle.ds_cache.specs.Entries.{at_serial}
use Rattle.ds_cache.proofs.Leases.{leased_none, lease_then, lease_else}
use Rattle.ds_cache.proofs.standing.lease_entry.Goals as goal

pub returns-in_default-clause-entries : goal.returns-in_default-clause-entries
returns-in_default-clause-entries c =
    let none : at_serial c.args.serial c.args.recency.now.entries ≡ None = search rules in
    sym (leased_none c.args.serial c.args.lease c.args.recency.now.entries none)

pub returns-then-entry-lease-clause-entries : goal.returns-then-entry-lease-clause-entries
returns-then-entry-lease-clause-entries c =
    let there : at_serial c.args.serial c.args.recency.now.entries ≡ Some c.in-Some.entry.now = search rules in
    let low : nat_lt c.in-Some.entry.now.lease.number c.args.lease.number ≡ true = grind (arith, nat_tests, common_steps) in
    lease_then c.args.serial c.in-Some.entry.now c.args.lease c.args.recency.now.entries there low

pub returns-clause-entries : goal.returns-clause-entries
returns-clause-entries c =
    let there : at_serial c.args.serial c.args.recency.now.entries ≡ Some c.in-Some.entry.now = search rules in
    let low : nat_lt c.in-Some.entry.now.lease.number c.args.lease.number ≡ false = grind (arith, nat_tests, common_steps) in
    lease_else c.args.serial c.in-Some.entry.now c.args.lease c.args.recency.now.entries there low
