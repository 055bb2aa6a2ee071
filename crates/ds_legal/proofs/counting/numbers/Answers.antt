use Rattle.std.proofs.Common.{◌≡◌, ap, ◌∙◌, length, sym, subst, arith}
use Rattle.std.proofs.lemmas.Grind.{common_steps}
use Rattle.ds_kind.specs.Numbers.{numbers_from, last_number, NeverFall}
use Rattle.ds_legal.proofs.NumberFacts.{numbers_one_each, numbers_never_fall, numbers_end}
use Rattle.ds_legal.proofs.counting.numbers.Goals as goal

pub returns-clause-one_each : goal.returns-clause-one_each
returns-clause-one_each c =
    let e : c.from_vec.result ≡ numbers_from c.args.last.0 c.args.legal.now.requests = grind (arith, common_steps) in
    ap length e ∙ numbers_one_each c.args.last.0 c.args.legal.now.requests

pub returns-clause-never_fall : goal.returns-clause-never_fall
returns-clause-never_fall c =
    let e : c.from_vec.result ≡ numbers_from c.args.last.0 c.args.legal.now.requests = grind (arith, common_steps) in
    subst (λ ss. NeverFall c.args.last.0 ss) (sym e) (numbers_never_fall c.args.last.0 c.args.legal.now.requests)

pub returns-clause-ends : goal.returns-clause-ends
returns-clause-ends c =
    let e : c.from_vec.result ≡ numbers_from c.args.last.0 c.args.legal.now.requests = grind (arith, common_steps) in
    ap (last_number c.args.last.0) e ∙ numbers_end c.args.last.0 c.args.legal.now.requests
