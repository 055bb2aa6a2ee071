use Rattle.std.proofs.Common.{sym, ◌∙◌, arith, ◌≡◌, true, false}
use Rattle.ds_kind.specs.Asks.{overtakes}
use Rattle.ds_legal.proofs.RuleFacts.{overtaken_found, overtaken_passed}
use Rattle.ds_legal.proofs.firsts.first_overtaken.Goals as goal

pub returns-then-overtakes-clause-is : goal.returns-then-overtakes-clause-is
returns-then-overtakes-clause-is c =
    let q = c.index-requests-i.result in
    let r = c.index-requests-i-in-loop-i.result in
    let i = c.loop-i.i in
    let rs = c.args.requests.now in
    let yes : overtakes q r ≡ true = sym c.overtakes.ensures ∙ c.if-overtakes.true in
    sym (overtaken_found rs i q r (omega arith) (omega arith) c.index-requests-i.is c.index-requests-i-in-loop-i.is yes) ∙ c.loop-i.invariant

pub loop-i-preserved : goal.loop-i-preserved
loop-i-preserved c =
    let q = c.index-requests-i.result in
    let r = c.index-requests-i-in-loop-i.result in
    let i = c.loop-i.i in
    let rs = c.args.requests.now in
    let no : overtakes q r ≡ false = sym c.overtakes.ensures ∙ c.if-overtakes.false in
    sym (overtaken_passed rs i q r (omega arith) (omega arith) c.index-requests-i.is c.index-requests-i-in-loop-i.is no) ∙ c.loop-i.invariant
