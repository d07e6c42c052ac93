use Rattle.std.proofs.Common.{◌≡◌, false, ◌∷◌, ◌++◌, ap, sym, subst, ◌∙◌, append_assoc}
use Rattle.std.proofs.KnownBytes.{Appends-trans}
use Rattle.binlog.specs.Cell.{cell_value}
use Rattle.rows.specs.RowText.{cell_text, after_comma, cells_text}
use Rattle.rows.proofs.RowTexts.{left_text, next_left}
use Rattle.rows.proofs.cells.write_cells.Goals as goal

pub loop-cell-preserved : goal.loop-cell-preserved
loop-cell-preserved g c =
    let inv = c.loop-cell.invariant in
    let cell = cell_value c.in-Some.cell in
    let rest = c.next.new.self in
    let text = after_comma c.loop-cell.first (cell_text cell) in
    let left : inv.0 ++ left_text c.loop-cell.first (cell ∷ rest) ≡ cells_text c.args.row.now = subst (λ l. inv.0 ++ left_text c.loop-cell.first l ≡ cells_text c.args.row.now) c.in-Some.ensures.steps inv.2 in (
      inv.0 ++ text,
      Appends-trans (g.W.Write.contents c.args.out.now) (g.W.Write.contents c.loop-cell.out) (g.W.Write.contents c.write_next.new.out) inv.0 text inv.1 c.in_ok-write_next.ensures,
      append_assoc inv.0 text (left_text false rest) ∙ ap (λ l. inv.0 ++ l) (sym (next_left c.loop-cell.first cell rest)) ∙ left,
    )
