use Rattle.std.proofs.Common.{◌≡◌, take, drop}
use Rattle.ds_kind.specs.Groups.{first_after, first_where}
use Rattle.ds_legal.specs.Mix.{mix_of}
use Rattle.ds_legal.specs.Rules.{is_misfit}
use Rattle.ds_legal.proofs.firsts.first_misfit.Given as goal

-- none before i is a misfit, and the mix is of those
abbrev pub invariant-loop-i : goal.invariant-loop-i
invariant-loop-i l = record {
  mix : l.mix ≡ mix_of (take l.i l.requests);
  none : first_after is_misfit (take l.i l.requests) (drop l.i l.requests) ≡ first_where is_misfit l.requests;
}
