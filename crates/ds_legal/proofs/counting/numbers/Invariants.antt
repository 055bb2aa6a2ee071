use Rattle.std.proofs.Common.{◌≡◌, ◌≤◌, ◌+◌, ◌++◌, drop}
use Rattle.ds_kind.specs.Numbers.{numbers_from}
use Rattle.ds_legal.proofs.counting.numbers.Given as goal

-- the numbers so far, with those of the rest, are the numbers of all
abbrev pub invariant-loop-request : goal.invariant-loop-request
invariant-loop-request l = record {
  low : l.number ≤ l.fn.last.0 + l.request-index;
  numbers : l.seqs.items ++ numbers_from l.number (drop l.request-index l.requests) ≡ numbers_from l.fn.last.0 l.requests;
}
