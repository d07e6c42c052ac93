use Rattle.binlog.proofs.Names.{◌+◌, ◌∷◌, ◌≤◌, Ok, length, sym, ◌∙◌, arith, length-map, take_rest, kinds, items_of, ColumnType}
use Rattle.binlog.proofs.RowsItems.{pair_first, shorter}
use Rattle.binlog.proofs.rows.RowsIterator.next.Goals as goal

pub returns-in-Ok-clause-steps : goal.returns-in-Ok-clause-steps
returns-in-Ok-clause-steps c =
    let bytes = c.self.inside.bytes.now in
    let types = kinds c.self.inside.types.now in
    let columns = length-map c.self.inside.types.now (λ (t : ColumnType). t.kind) in
    let some_columns = c.self.inside.some_columns in
    let some : 1 ≤ length types = omega (arith, columns, some_columns) in
    let all : length bytes ≤ length bytes = omega arith in
    let left : 1 ≤ length bytes = grind (arith, c.if-is_empty.ensures) in
    let rest = sym (take_rest bytes c.in-Ok.size) in
    sym c.self.view_is
    ∙ pair_first (length bytes) c.self.inside.kind types bytes c.self.inside.at c.in-Ok.size some all left c.in-Ok.ensures.end
    ∙ (λ i. Ok (sym c.in-Ok.ensures.pair i) ∷ items_of (length (rest i)) c.self.inside.kind types (rest i) (c.self.inside.at + c.in-Ok.size))

pub returns-in-Ok-clause-goes : goal.returns-in-Ok-clause-goes
returns-in-Ok-clause-goes c = record { on = λ _. (tt, tt, shorter _ _ _ (returns-in-Ok-clause-steps c)); keeps = tt; rests = λ _. tt }
