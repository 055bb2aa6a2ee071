use Rattle.std.proofs.Common.{◌∙◌, sym, ◌+◌, rules, tests}
use Rattle.std.proofs.lemmas.List.{take_rest}
use Rattle.std.proofs.lemmas.Iterator.{YieldsList-from_slice}
use Rattle.std.proofs.lemmas.Iterator.Search.{position_from_yields_List}
use Rattle.ds_script.proofs.FirstLine.{ends, first_some, first_none}
use Rattle.ds_script.proofs.split.first_line.Goals as goal

pub returns-in-Some-clause-lines : goal.returns-in-Some-clause-lines
returns-in-Some-clause-lines c =
    let p = position_from_yields_List ends _ _ c.position.result c.position.ensures.ran (YieldsList-from_slice c.args.bytes.now cc) (λ x b q k. search (rules, tests)) in
    let cut = first_some c.args.bytes.now c.in-Some.end (sym c.in-Some.is ∙ p) in
    rw (take_rest c.args.bytes.now (c.in-Some.end + 1)) cut

pub returns-in-None-clause-lines : goal.returns-in-None-clause-lines
returns-in-None-clause-lines c =
    let p = position_from_yields_List ends _ _ c.position.result c.position.ensures.ran (YieldsList-from_slice c.args.bytes.now cc) (λ x b q k. search (rules, tests)) in
    first_none c.args.bytes.now (sym c.in-None.is ∙ p) c.requires
