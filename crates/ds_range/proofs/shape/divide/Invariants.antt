use Rattle.std.proofs.Common.{◌≡◌, ◌++◌, filter}
use Rattle.std.specs.Vec.Iter.{into_iter_items}
use Rattle.ds_base.specs.Order.{key_lt, key_le}
use Rattle.ds_range.proofs.shape.divide.Given as goal

-- the keys so far, and what is still to come
abbrev pub invariant-keys : goal.invariant-keys
invariant-keys l = record {
  low : l.low ++ filter (λ q. key_lt q l.key) (into_iter_items l.one-iterator) ≡ filter (λ q. key_lt q l.key) l.fn.keys;
  high : l.high ++ filter (λ q. key_le l.key q) (into_iter_items l.one-iterator) ≡ filter (λ q. key_le l.key q) l.fn.keys;
}
