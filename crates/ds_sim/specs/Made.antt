-- Which events can be made of a cluster.
use Rattle.std.specs.Prelude.{◌≡◌, true}
use Rattle.ds_kind.specs.Asks.{has_room}
use Rattle.ds_rule.specs.declared.event.Event.{Event}
use Rattle.ds_rule.specs.declared.event.Event.TheVariants.{Write, Split, Merge, Lease, Move, Stale, Abort, Arrive, LoseRequest, LoseReply, Copy, Restart}

-- a write is at a key with room for one more byte, so that what is left of a span behind it can be said
abbrev pub CanBeMade : Event → Type 0
CanBeMade (Write k s v) = has_room k ≡ true
CanBeMade (Split k) = Unit {0}
CanBeMade (Merge k) = Unit {0}
CanBeMade (Lease k n) = Unit {0}
CanBeMade (Move k ns) = Unit {0}
CanBeMade (Stale k b) = Unit {0}
CanBeMade Abort = Unit {0}
CanBeMade (Arrive c) = Unit {0}
CanBeMade (LoseRequest c) = Unit {0}
CanBeMade (LoseReply c) = Unit {0}
CanBeMade (Copy c) = Unit {0}
CanBeMade (Restart t) = Unit {0}
