-- What the moves of a world promise.
use Rattle.std.specs.Prelude.{ℕ, ◌≤◌}
use Rattle.ds_cell.specs.Store.{Store}
use Rattle.ds_rule.specs.declared.event.Event.{Event}
use Rattle.ds_rule.specs.Moves.{IsMove, moved}
use Rattle.ds_rule.specs.Plain.{after_event}
use Rattle.ds_rule.specs.StandsFor.{StandsFor, open_stamp}
use Rattle.ds_rule.specs.World.{World}

-- whatever a wire may make by itself above the open transaction's stamp, the world stands for its store afterwards as before
abbrev pub MoveLaw : Type 0
MoveLaw = (w : World) (p : Store) (e : Event) (floor : ℕ) → IsMove floor e → open_stamp p.txn ≤ floor → StandsFor w p → StandsFor (moved w e) (after_event e p)
