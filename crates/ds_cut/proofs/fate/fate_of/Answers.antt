use Rattle.std.proofs.Common.{rules, ◌≡◌, ◌&&◌, true}
use Rattle.ds_base.specs.declared.value.Dir.TheVariants.{Forward, Reverse}
use Rattle.ds_kind.specs.Request.{span_of}
use Rattle.ds_cut.specs.Fates.{lies_past}
use Rattle.ds_cut.specs.Within.{stays_within}
use Rattle.ds_cut.proofs.Parting.{inside, past}
use Rattle.ds_cut.proofs.fate.fate_of.Goals as goal

pub returns-then-is_inside : goal.returns-then-is_inside
returns-then-is_inside c =
    let h : (stays_within Forward c.args.span.now (span_of c.args.item.now.request) && stays_within Reverse c.args.span.now (span_of c.args.item.now.request)) ≡ true = search rules in
    inside c.args.dir c.args.span.now c.args.item.now c.requires h

pub returns-then-lies_past : goal.returns-then-lies_past
returns-then-lies_past c =
    let h : lies_past c.args.dir c.args.span.now (span_of c.args.item.now.request) ≡ true = search rules in
    past c.args.dir c.args.span.now c.args.item.now c.requires h
