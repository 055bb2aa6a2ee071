use Rattle.std.proofs.Common.{rules, ◌≡◌, length, ap, ◌∙◌}
use Rattle.std.specs.Option.{option_copied}
use Rattle.ds_limit.specs.Rests.{rests, with_rests}
use Rattle.ds_limit.proofs.RestFacts.{as_many, in_two_steps}
use Rattle.ds_limit.proofs.fill.fill_rest.Goals as goal

pub put_rests-requires : goal.put_rests-requires
put_rests-requires c =
    let are : c.in_ok-rests.rests.items ≡ rests c.args.part.now.dir (option_copied c.args.seek) c.args.part.now.items c.args.replies.now = search rules in
    ap length are ∙ as_many c.args.part.now.dir (option_copied c.args.seek) c.args.part.now.items c.args.replies.now c.requires.inside

pub returns-clause-ok : goal.returns-clause-ok
returns-clause-ok c =
    let are : c.in_ok-rests.rests.items ≡ rests c.args.part.now.dir (option_copied c.args.seek) c.args.part.now.items c.args.replies.now = search rules in
    c.put_rests.ensures ∙ ap (with_rests c.args.replies.now) are ∙ in_two_steps c.args.part.now.dir (option_copied c.args.seek) c.args.part.now.items c.args.replies.now
