use Rattle.std.proofs.Common.{◌≡◌, ◌<◌, ◌≤◌, true, length, Ok}
use Rattle.ds_script.specs.Rules.{start, walk, numbers_rise}
use Rattle.ds_script.specs.Script.{read_from}
use Rattle.ds_script.specs.Split.{lines_of}
use Rattle.ds_script.proofs.Walks.{joined, last_number}
use Rattle.ds_script.proofs.script.read_script.Given as goal

abbrev pub invariant-lines : goal.invariant-lines
invariant-lines l = record {
  read : joined l.found (read_from l.number l.state (lines_of l.rest)) ≡ read_from 1 start (lines_of l.bytes);
  few : l.number ≤ 20001;
  walked : walk l.found start ≡ Ok l.state;
  rising : numbers_rise 0 l.found ≡ true;
  below : last_number 0 l.found < l.number;
}

abbrev pub decreases-lines : goal.decreases-lines
decreases-lines l = length l.rest
