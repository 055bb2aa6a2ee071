use Rattle.ds_ranges.proofs.Serving.{filled-at, serves-at}
use Rattle.ds_ranges.proofs.serve.apply_at.Goals as goal

pub returns-clause-ok : goal.returns-clause-ok
returns-clause-ok c =
    serves-at c.args.piece.now c.args.records.now c.apply.new.records c.args.ranges.now.items c.args.at c.index_mut-range.result.now c.apply.new.self c.in_ok-evaluation.evaluation c.index_mut-range.ensures.value c.requires.within
    c.in_ok-evaluation.ensures.answer c.in_ok-evaluation.ensures.after c.in_ok-evaluation.ensures.records c.in_ok-evaluation.ensures.back c.in_ok-evaluation.ensures.records_back

pub returns-clause-after : goal.returns-clause-after
returns-clause-after c =
    filled-at c.args.piece.now c.args.records.now c.args.ranges.now.items c.args.at c.index_mut-range.result.now c.apply.new.self c.index_mut-range.ensures.value c.requires.within c.in_ok-evaluation.ensures.after
