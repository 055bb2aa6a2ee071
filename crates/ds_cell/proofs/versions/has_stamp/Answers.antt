use Rattle.std.proofs.Common.{rules, ◌≡◌, ◌==◌, is_some}
use Rattle.std.specs.List.{find}
use Rattle.ds_cell.proofs.TakenFacts.{any_found}
use Rattle.ds_cell.proofs.versions.has_stamp.Goals as goal

pub returns : goal.returns
returns c =
    let is : c.is_some.result ≡ is_some (find (λ v. v.stamp.0 == c.args.stamp.0) c.args.versions.now) = search rules in
    rw (← any_found (λ v. v.stamp.0 == c.args.stamp.0) c.args.versions.now) is
