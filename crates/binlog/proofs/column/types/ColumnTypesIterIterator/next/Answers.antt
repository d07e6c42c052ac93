use Rattle.std.proofs.Common.{sym, ap, ◌∙◌}
use Rattle.binlog.specs.Columns.{columns_of}
use Rattle.binlog.specs.ColumnsView.{columns_in}
use Rattle.binlog.proofs.TableColumns.{column_first, fewer}
use Rattle.binlog.proofs.column.types.ColumnTypesIterIterator.next.Goals as goal

pub returns-in-Ok-clause-steps : goal.returns-in-Ok-clause-steps
returns-in-Ok-clause-steps c = sym c.self.view_is ∙ ap columns_in c.in-Encoded.is ∙ ap (λ l. columns_of l c.in-Encoded.metadata.now) c.in_ok-code-in-Encoded.ensures.cases.0
    ∙ column_first c.in-Ok.column.kind c.in_ok-code-in-Encoded.code.now c.in_ok-code-in-Encoded.codes.now c.in-Ok.metadata.now c.in-Encoded.metadata.now c.in-Ok.ensures.found

pub returns-in-Ok-clause-goes : goal.returns-in-Ok-clause-goes
returns-in-Ok-clause-goes c = record { on = λ _. (tt, tt, fewer _ _ _ (returns-in-Ok-clause-steps c)); keeps = tt; rests = λ _. tt }
