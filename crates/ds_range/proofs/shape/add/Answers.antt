use Rattle.std.proofs.Common.{rules, ◌≡◌, true, false}
use Rattle.ds_base.specs.Order.{key_lt, key_le}
use Rattle.ds_base.proofs.OrderedFacts.{not_le_of_lt, le_of_not_lt}
use Rattle.ds_range.proofs.Dividing.{added, left_out}
use Rattle.ds_range.proofs.shape.add.Goals as goal

pub returns-then-lt-clause-high : goal.returns-then-lt-clause-high
returns-then-lt-clause-high c =
    let below : key_lt c.args.one c.args.key.now ≡ true = search rules in
    left_out (λ q. key_le c.args.key.now q) c.args.one c.args.high.now (not_le_of_lt c.args.one c.args.key.now below)

pub returns-clause-high : goal.returns-clause-high
returns-clause-high c =
    let not_below : key_lt c.args.one c.args.key.now ≡ false = search rules in
    added (λ q. key_le c.args.key.now q) c.args.one c.args.high.now c.push-2.new.self (le_of_not_lt c.args.one c.args.key.now not_below) c.in_ok-push-2.ensures.ok
