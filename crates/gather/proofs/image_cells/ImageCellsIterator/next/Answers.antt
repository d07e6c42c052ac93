use Rattle.gather.proofs.Names.{◌∷◌, sym, ap, ◌∙◌, take_rest, cell_value, cells_in}
use Rattle.binlog.proofs.RowCells.{fewer}
use Rattle.gather.proofs.CellImages.{first_cell}
use Rattle.gather.proofs.image_cells.ImageCellsIterator.next.Goals as goal

pub returns-clause-steps : goal.returns-clause-steps
returns-clause-steps c =
    let bytes = c.self.inside.left.now in
    sym c.self.view_is
    ∙ first_cell bytes (cell_value c.in_ok-cell.cell, c.in_ok-cell.size) (sym c.in_ok-cell.ensures.front)
    ∙ ap (λ l. cell_value c.in_ok-cell.cell ∷ cells_in l) (sym (take_rest bytes c.in_ok-cell.size))

pub returns-clause-goes : goal.returns-clause-goes
returns-clause-goes c = record { on = λ _. (tt, tt, fewer _ _ _ (returns-clause-steps c)); keeps = tt; rests = λ _. tt }
