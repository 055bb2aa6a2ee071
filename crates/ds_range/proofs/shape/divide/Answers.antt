use Rattle.std.proofs.Common.{rules, ◌≡◌, ◌∷◌}
use Rattle.std.specs.Vec.Iter.{into_iter_items}
use Rattle.ds_base.specs.Order.{key_lt, key_le}
use Rattle.ds_range.proofs.Dividing.{part_more}
use Rattle.ds_range.proofs.shape.divide.Goals as goal

pub keys-preserved : goal.keys-preserved
keys-preserved c =
    let is : into_iter_items c.keys.one-iterator ≡ c.in-Some.one ∷ into_iter_items c.next.new.self = search rules in record {
      low = part_more (λ q. key_lt q c.args.key.now) c.in-Some.one c.keys.low c.add.new.low (into_iter_items c.next.new.self) (into_iter_items c.keys.one-iterator) _ is c.in_ok-add.ensures.low c.keys.invariant.low;
      high = part_more (λ q. key_le c.args.key.now q) c.in-Some.one c.keys.high c.add.new.high (into_iter_items c.next.new.self) (into_iter_items c.keys.one-iterator) _ is c.in_ok-add.ensures.high c.keys.invariant.high;
    }
