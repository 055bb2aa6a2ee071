-- What lies in a slot of the list of ranges.
use Rattle.std.specs.Prelude.{[], Option, Some, None}
use Rattle.ds_rule.specs.World.{Range}

-- a range that holds no key, for a slot in which none lies: no list has one
abbrev no_range : Range
no_range = record {
  info = record { desc = record { id = 0; span = record { start = []; end = [] }; nodes = []; generation = 0 }; lease = record { node = 0; number = 0 } };
  cells = [];
}

abbrev pub held : Option Range → Range
held (Some r) = r
held None = no_range
