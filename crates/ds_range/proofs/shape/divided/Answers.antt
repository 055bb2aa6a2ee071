use Rattle.ds_base.specs.Order.{key_lt, key_le}
use Rattle.ds_range.proofs.Dividing.{covers_of}
use Rattle.ds_range.proofs.shape.divided.Goals as goal

pub returns-in-Ok-clause-low : goal.returns-in-Ok-clause-low
returns-in-Ok-clause-low c = covers_of (λ q. key_lt q c.args.key.now) c.args.written c.in-Some.keys c.in-Ok.low c.in-Some.is c.in-Ok.ensures.low

pub returns-in-Ok-clause-high : goal.returns-in-Ok-clause-high
returns-in-Ok-clause-high c = covers_of (λ q. key_le c.args.key.now q) c.args.written c.in-Some.keys c.in-Ok.high c.in-Some.is c.in-Ok.ensures.high
