use Rattle.std.proofs.Common.{sym, ap, ◌∙◌, arith, ◌≡◌, true, false}
use Rattle.ds_kind.specs.Asks.{flags_at}
use Rattle.ds_legal.specs.Mix.{mix_fits, mix_with}
use Rattle.ds_legal.proofs.RuleFacts.{misfit_found, misfit_passed, mix_more}
use Rattle.ds_legal.proofs.firsts.first_misfit.Goals as goal

pub returns-then-not-fits-clause-is : goal.returns-then-not-fits-clause-is
returns-then-not-fits-clause-is c =
    let r = c.index-requests-i.result in
    let no : mix_fits c.loop-i.mix (flags_at r) ≡ false = ap (mix_fits c.loop-i.mix) (sym c.flags-flags.ensures) ∙ sym c.fits.ensures ∙ c.if-not-fits.true in
    sym (misfit_found c.args.requests.now c.loop-i.i c.loop-i.mix r (omega arith) c.index-requests-i.is c.loop-i.invariant.mix no) ∙ c.loop-i.invariant.none

pub loop-i-preserved : goal.loop-i-preserved
loop-i-preserved c =
    let r = c.index-requests-i.result in
    let m = c.loop-i.mix in
    let rs = c.args.requests.now in
    let i = c.loop-i.i in
    let yes : mix_fits m (flags_at r) ≡ true = ap (mix_fits m) (sym c.flags-flags.ensures) ∙ sym c.fits.ensures ∙ c.if-not-fits.false in
    record {
      mix = c.with-mix.ensures ∙ ap (mix_with m) c.flags-flags.ensures ∙ mix_more rs i m r (omega arith) c.index-requests-i.is c.loop-i.invariant.mix;
      none = sym (misfit_passed rs i m r (omega arith) c.index-requests-i.is c.loop-i.invariant.mix yes) ∙ c.loop-i.invariant.none;
    }
