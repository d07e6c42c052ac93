use Rattle.std.proofs.Common.{◌+◌, drop, refl, arith}
use Rattle.binlog.specs.declared.cell.Cell.TheVariants.{Null}
use Rattle.gather.specs.ImageCells.{cell_values}
use Rattle.gather.proofs.ImageParts.{next_values, all_after, first_has, first_more, first_size}
use Rattle.gather.proofs.image_writing.image_size.Goals as goal

pub returns-then-not-has_image : goal.returns-then-not-has_image
returns-then-not-has_image c has =
    let values = cell_values c.args.cells.now in
    let first = next_values c.loop-cell.cell-index c.args.cells.now Null c.loop-cell-test.true in
    let p = first_has (drop c.loop-cell.cell-index values) (drop (c.loop-cell.cell-index + 1) values) _ (all_after c.loop-cell.cell-index values has.each) first in
    absurd (let yes = c.if-not-has_image.ensures.1 p.0 in let no = c.if-not-has_image.true in cc)

pub loop-cell-preserved : goal.loop-cell-preserved
loop-cell-preserved c =
    let values = cell_values c.args.cells.now in
    let first = next_values c.loop-cell.cell-index c.args.cells.now Null c.loop-cell-test.true in
    let has = c.if-not-has_image.ensures.0 refl in
    let before = c.loop-cell.invariant in
    let size = first_size (drop c.loop-cell.cell-index values) (drop (c.loop-cell.cell-index + 1) values) _ first in (
      λ all. before.0 (first_more (drop c.loop-cell.cell-index values) (drop (c.loop-cell.cell-index + 1) values) _ has all first),
      omega (arith, before.1, size, c.cell_size-size.ensures.size),
      omega (arith, before.2, c.cell_size-size.ensures.bound),
    )
