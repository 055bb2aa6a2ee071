use Rattle.std.proofs.Common.{◌∙◌}
use Rattle.ds_rule.specs.World.{holds_key}
use Rattle.ds_ranges.proofs.Finding.{first-found, none-found}
use Rattle.ds_ranges.proofs.find.find_key.Goals as goal

pub returns-in-Some : goal.returns-in-Some
returns-in-Some c = c.nth.ensures ∙ first-found (holds_key c.args.key.now) c.args.ranges.now c.in-Some.at c.in-Some.ensures.place

pub returns-in-None : goal.returns-in-None
returns-in-None c = none-found (holds_key c.args.key.now) c.args.ranges.now c.in-None.ensures.place
