use Rattle.std.proofs.Common.{◌∙◌}
use Rattle.ds_range.proofs.Maps.{wrote_last}
use Rattle.ds_range.proofs.Evaluating.{noted_last}
use Rattle.ds_range.proofs.piece.write_all_noted.Goals as goal

pub writes-preserved : goal.writes-preserved
writes-preserved c = record {
  made = wrote_last c.args.at c.writes.yielded (c.in-Some.key, c.in-Some.value) _ c.writes.cells.entries c.write_noted.new.cells.entries c.writes.invariant.made c.in_ok-write_noted.ensures.ok;
  keys = noted_last _ c.writes.keys c.write_noted.new.keys c.writes.yielded (c.in-Some.key, c.in-Some.value) c.writes.invariant.keys c.in_ok-write_noted.ensures.keys;
  back = c.write_noted.ensures.back ∙ c.writes.invariant.back;
}
