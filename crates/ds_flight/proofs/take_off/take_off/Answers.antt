use Rattle.std.proofs.Common.{sym, ◌∙◌}
use Rattle.ds_flight.proofs.TakingOff.{takes-off}
use Rattle.ds_flight.proofs.take_off.take_off.Goals as goal

pub unreachable-requires : goal.unreachable-requires
unreachable-requires c = takes-off c.args.head.now c.args.info.now.desc c.args.rest.now c.span_known.ensures c.known.ensures c.requires.seek c.requires.some (sym c.in_ok-piece.ensures.piece ∙ c.in-None.is)
