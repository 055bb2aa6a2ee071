use Rattle.std.proofs.Common.{sym, subst}
use Rattle.ds_kind.specs.Table.{IsSymmetric, AloneFitsNothing}
use Rattle.ds_kind.proofs.FitFacts.{table_symmetric, table_alone}
use Rattle.ds_kind.proofs.table.KindTable.of.Goals as goal

pub returns-clause-symmetric : goal.returns-clause-symmetric
returns-clause-symmetric g c =
    subst IsSymmetric (sym c.rows-fits.ensures) (table_symmetric c.flags_of_all-flags.result)

pub returns-clause-alone : goal.returns-clause-alone
returns-clause-alone g c =
    subst (λ fits. AloneFitsNothing c.flags_of_all-flags.result fits) (sym c.rows-fits.ensures)
    (table_alone c.flags_of_all-flags.result)
