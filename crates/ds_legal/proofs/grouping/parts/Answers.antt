use Rattle.std.proofs.Common.{◌≡◌, arith}
use Rattle.std.proofs.lemmas.Grind.{common_steps}
use Rattle.ds_kind.specs.Asks.{has_proper_span, knows_limit}
use Rattle.ds_kind.specs.Parts.{parts_of}
use Rattle.ds_legal.proofs.PartFacts.{are_parts, each_request, one_if_acting, one_if_limited}
use Rattle.ds_legal.proofs.grouping.parts.Goals as goal

pub returns-clause-law : goal.returns-clause-law
returns-clause-law c =
    let b = c.args.legal.now in
    let e : c.push.new.self ≡ parts_of c.args.split_end b.requests c.args.seqs.now = grind (arith, common_steps) in
    are_parts c.args.split_end b.requests c.args.seqs.now c.push.new.self e c.requires

pub returns-clause-spans : goal.returns-clause-spans
returns-clause-spans c =
    let b = c.args.legal.now in
    let e : c.push.new.self ≡ parts_of c.args.split_end b.requests c.args.seqs.now = grind (arith, common_steps) in
    each_request has_proper_span c.args.split_end b.requests c.args.seqs.now c.push.new.self e c.requires c.batch.ensures.legal.spans

pub returns-clause-limited : goal.returns-clause-limited
returns-clause-limited c = λ t.
    let b = c.args.legal.now in
    let e : c.push.new.self ≡ parts_of c.args.split_end b.requests c.args.seqs.now = grind (arith, common_steps) in (
      one_if_limited c.args.split_end b c.args.seqs.now c.push.new.self c.batch.ensures.legal e c.requires t,
      each_request knows_limit c.args.split_end b.requests c.args.seqs.now c.push.new.self e c.requires (c.batch.ensures.legal.limit_kinds t),
    )

pub returns-clause-acting : goal.returns-clause-acting
returns-clause-acting c = λ t a.
    let b = c.args.legal.now in
    let e : c.push.new.self ≡ parts_of c.args.split_end b.requests c.args.seqs.now = grind (arith, common_steps) in
    one_if_acting c.args.split_end b c.args.seqs.now c.push.new.self c.batch.ensures.legal e c.requires t a
