use Rattle.ds_iter.proofs.RowSteps.{inserting_stops, on_err}
use Rattle.ds_iter.proofs.rows.insert_rows.Goals as goal

pub returns-in_err-token-clause-err : goal.returns-in_err-token-clause-err
returns-in_err-token-clause-err c = on_err _ _ (inserting_stops c.args.rows c.rows.rows.items c.args.cache.now c.rows.cache c.insert-2.new.self c.rows.invariant.0 c.in_err-token.ensures.err)
