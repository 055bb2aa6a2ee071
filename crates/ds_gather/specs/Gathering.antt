-- What a gatherer holds: what is wanted of the part, and what came so far, in the order of arrival.
use Rattle.std.specs.Prelude.{List}
use Rattle.ds_gather.specs.declared.arrival.Arrival.{Arrival}
use Rattle.ds_gather.specs.declared.arrival.Wanted.{Wanted}

pub record Gathering : Type 0 where
  pub wanted : List Wanted
  pub got : List Arrival
