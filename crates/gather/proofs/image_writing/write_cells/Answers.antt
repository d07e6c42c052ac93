use Rattle.gather.proofs.Names.{◌++◌, ◌+◌, length, ap, arith, flat_map, length-append, err_from_is_err_and, cell_image, image, cell_values}
use Rattle.std.proofs.Common.{drop}
use Rattle.binlog.specs.declared.cell.Cell.TheVariants.{Null}
use Rattle.gather.proofs.ImageParts.{next_values, all_after, first_has, first_size, next_written}
use Rattle.gather.proofs.image_writing.write_cells.Goals as goal

pub write_cell-requires : goal.write_cell-requires
write_cell-requires c =
    let values = cell_values c.args.cells.now in
    let first = next_values c.loop-cell.cell-index c.args.cells.now Null c.loop-cell-test.true in
    (first_has (drop c.loop-cell.cell-index values) (drop (c.loop-cell.cell-index + 1) values) _ (all_after c.loop-cell.cell-index values c.requires.each) first).0

pub loop-cell-preserved : goal.loop-cell-preserved
loop-cell-preserved c =
    let values = cell_values c.args.cells.now in
    let first = next_values c.loop-cell.cell-index c.args.cells.now Null c.loop-cell-test.true in (
      next_written (c.args.out.now.items ++ image values) c.loop-cell.out.items c.write_cell.new.out.items (drop c.loop-cell.cell-index values) (drop (c.loop-cell.cell-index + 1) values) _ c.loop-cell.invariant.0 first c.in_ok-write_cell.ensures.ok,
      omega (arith, c.loop-cell.invariant.1, c.write_cell.ensures.capacity),
    )

pub returns-in_err-write_cell-clause-full : goal.returns-in_err-write_cell-clause-full
returns-in_err-write_cell-clause-full c =
    let values = cell_values c.args.cells.now in
    let old = c.args.out.now in
    let now = c.loop-cell.out in
    let left = drop c.loop-cell.cell-index values in
    let first = next_values c.loop-cell.cell-index c.args.cells.now Null c.loop-cell-test.true in
    let size = first_size left (drop (c.loop-cell.cell-index + 1) values) _ first in
    let whole = ap length c.loop-cell.invariant.0 in
    rw (err_from_is_err_and c.from_residual-in_err-write_cell.result c.from_residual-in_err-write_cell.ensures.1).1
    (omega (arith, size, whole, length-append now.items (flat_map cell_image left), length-append old.items (image values), c.in_err-write_cell.ensures.full, c.loop-cell.invariant.1, old.ok, now.ok))
