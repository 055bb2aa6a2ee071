use Rattle.std.proofs.Common.{Some, ap, ◌∙◌, refl, sym, subst}
use Rattle.ds_range.specs.declared.piece.Evaluation.{Evaluation}
use Rattle.ds_rule.specs.declared.answer.Answer.TheVariants as Answer
use Rattle.ds_ranges.specs.Serving.{Applies}
use Rattle.ds_ranges.specs.Sound.{bare}
use Rattle.ds_sim.specs.Done.{Delivers}
use Rattle.ds_sim.proofs.Delivering.{failed-back, noted-ok, on-err, serves, tiled-back}
use Rattle.ds_sim.proofs.deliver.serve.Goals as goal

pub undo-requires : goal.undo-requires
undo-requires c =
    let p = c.args.piece.now in
    let served : Applies c.args.piece.now c.args.records.now c.apply.new.records c.args.ranges.now c.apply.new.self (Some (Evaluation.Served c.in-Some-Served.replies c.in-Some-Served.undo)) =
    subst (Applies p c.args.records.now c.apply.new.records c.args.ranges.now c.apply.new.self) (c.in-Some-Served.is ∙ ap Some c.in-Some-Served.field-0-is) c.in_ok-apply.ensures.ok in
    tiled-back p.range c.in-Some-Served.undo.kept c.args.ranges.now c.apply.new.self c.complete.new.ranges c.in-Err.ensures.err served.back (c.known.ensures bare).tiled

pub returns-in-Some-Failed-clause-delivers : goal.returns-in-Some-Failed-clause-delivers
returns-in-Some-Failed-clause-delivers c =
    let p = c.args.piece.now in
    let failed : Applies c.args.piece.now c.args.records.now c.apply.new.records c.args.ranges.now c.apply.new.self (Some (Evaluation.Failed c.in-Some-Failed.failure)) =
    subst (Applies p c.args.records.now c.apply.new.records c.args.ranges.now c.apply.new.self) (c.in-Some-Failed.is ∙ ap Some c.in-Some-Failed.field-0-is) c.in_ok-apply.ensures.ok in
    noted-ok c.args.node p c.args.ranges.now c.apply.new.self c.args.records.now c.apply.new.records (Answer.Failed c.in-Some-Failed.failure) c.noted-in-Some-Failed.result
    (serves c.args.node p c.args.ranges.now c.apply.new.self c.apply.new.self c.args.records.now c.apply.new.records (Evaluation.Failed c.in-Some-Failed.failure) c.requires.goes failed (λ w. refl))
    c.noted-in-Some-Failed.ensures.answer

pub returns-in-Some-Failed-clause-err : goal.returns-in-Some-Failed-clause-err
returns-in-Some-Failed-clause-err c =
    let p = c.args.piece.now in
    let failed : Applies c.args.piece.now c.args.records.now c.apply.new.records c.args.ranges.now c.apply.new.self (Some (Evaluation.Failed c.in-Some-Failed.failure)) =
    subst (Applies p c.args.records.now c.apply.new.records c.args.ranges.now c.apply.new.self) (c.in-Some-Failed.is ∙ ap Some c.in-Some-Failed.field-0-is) c.in_ok-apply.ensures.ok in
    on-err c.noted-in-Some-Failed.result (failed-back p.range c.args.ranges.now c.apply.new.self failed.back)

pub returns-in-Ok-clause-delivers : goal.returns-in-Ok-clause-delivers
returns-in-Ok-clause-delivers c =
    let p = c.args.piece.now in
    let served : Applies c.args.piece.now c.args.records.now c.apply.new.records c.args.ranges.now c.apply.new.self (Some (Evaluation.Served c.in-Some-Served.replies c.in-Some-Served.undo)) =
    subst (Applies p c.args.records.now c.apply.new.records c.args.ranges.now c.apply.new.self) (c.in-Some-Served.is ∙ ap Some c.in-Some-Served.field-0-is) c.in_ok-apply.ensures.ok in
    subst (Delivers c.args.node p c.args.ranges.now c.complete.new.ranges c.args.records.now c.apply.new.records) (sym c.in-Ok.ensures.answer)
    (serves c.args.node p c.args.ranges.now c.apply.new.self c.complete.new.ranges c.args.records.now c.apply.new.records (Evaluation.Served c.in-Some-Served.replies c.in-Some-Served.undo) c.requires.goes served c.in-Ok.ensures.shifted)
