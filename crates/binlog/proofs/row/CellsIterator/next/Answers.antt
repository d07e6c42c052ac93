use Rattle.binlog.proofs.Names.{◌≡◌, ◌+◌, ◌∷◌, Ok, Err, sym, ap, ◌∙◌, ltb-true, take_rest, shape, value_end, cell_of, kinds}
use Rattle.std.proofs.Common.{drop}
use Rattle.binlog.specs.Row.{cells_from}
use Rattle.binlog.proofs.RowCells.{null_first, value_first, none_first, fewer}
use Rattle.binlog.proofs.row.CellsIterator.next.Goals as goal

pub returns-then-is_null-clause-steps : goal.returns-then-is_null-clause-steps
returns-then-is_null-clause-steps c = sym c.self.view_is
    ∙ null_first c.self.inside.bitmap.now c.self.inside.values.now c.self.inside.types.now c.self.inside.index c.in_ok-column.field-0.now
    (ltb-true _ _ (sym c.in_ok-column.ensures.lookup.0)) c.in_ok-column.ensures.lookup.1 (sym c.is_null.ensures ∙ c.if-is_null.true)

pub returns-then-is_null-clause-goes : goal.returns-then-is_null-clause-goes
returns-then-is_null-clause-goes c = record { on = λ _. (tt, tt, fewer _ _ _ (returns-then-is_null-clause-steps c)); keeps = tt; rests = λ _. tt }

pub returns-in_default-clause-steps : goal.returns-in_default-clause-steps
returns-in_default-clause-steps c =
    let end : value_end (shape c.in_ok-column.field-0.now.kind) c.self.inside.values.now ≡ Err c.in_default.field-0 = ap (λ s. value_end s c.self.inside.values.now) (sym c.shape_of.ensures.shape) ∙ c.in_default.ensures.fault in
    let none = sym c.self.view_is
    ∙ none_first c.self.inside.bitmap.now c.self.inside.values.now c.self.inside.types.now c.self.inside.index c.in_default.field-0 c.in_ok-column.field-0.now
    (ltb-true _ _ (sym c.in_ok-column.ensures.lookup.0)) c.in_ok-column.ensures.lookup.1 (sym c.is_null.ensures ∙ c.if-is_null.false) end in
    (none, none)

pub returns-clause-steps : goal.returns-clause-steps
returns-clause-steps c =
    let values = c.self.inside.values.now in
    let s = sym c.shape_of.ensures.shape in
    let end : value_end (shape c.in_ok-column.field-0.now.kind) values ≡ Ok c.in-Ok.size = ap (λ k. value_end k values) s ∙ c.in-Ok.ensures.end in
    let cell = ap (λ k. cell_of k values) s ∙ sym c.in-Ok.ensures.cell in
    let rest = sym (take_rest values c.in-Ok.size) in
    sym c.self.view_is
    ∙ value_first c.self.inside.bitmap.now values c.self.inside.types.now c.self.inside.index c.in-Ok.size c.in_ok-column.field-0.now
    (ltb-true _ _ (sym c.in_ok-column.ensures.lookup.0)) c.in_ok-column.ensures.lookup.1 (sym c.is_null.ensures ∙ c.if-is_null.false) end
    ∙ (λ i. cell i ∷ cells_from c.self.inside.bitmap.now (c.self.inside.index + 1) (drop (c.self.inside.index + 1) (kinds c.self.inside.types.now)) (rest i))

pub returns-clause-goes : goal.returns-clause-goes
returns-clause-goes c = record { on = λ _. (tt, tt, fewer _ _ _ (returns-clause-steps c)); keeps = tt; rests = λ _. tt }
