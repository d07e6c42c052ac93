use Rattle.gather.proofs.Names.{◌≡◌, ◌∷◌, length, ◌∙◌, ap, arith, flat_map, length-append, err_from_is_err_and, cell_value, cell_image}
use Rattle.gather.proofs.ImageParts.{counted, begun, first_size}
use Rattle.gather.proofs.image_writing.write_row.Goals as goal

pub set_count-requires : goal.set_count-requires
set_count-requires c =
    let long = begun c.args.out.now.items c.loop-cell.out.items c.args.row.now c.loop-cell.cell-iterator c.in-None.ensures.steps.0 c.loop-cell.invariant.2 in
    omega (arith, c.len-start.ensures, long)

pub returns-clause-ok : goal.returns-clause-ok
returns-clause-ok c =
    let begins : c.len-start.result ≡ length c.args.out.now.items = omega (arith, c.len-start.ensures) in
    c.set_count.ensures.counts
    ∙ counted c.args.out.now.items c.loop-cell.out.items c.args.row.now c.loop-cell.cell-iterator c.len-start.result c.loop-cell.count begins c.in-None.ensures.steps.0 c.loop-cell.invariant.2 c.loop-cell.invariant.1

pub returns-in_err-write_cell-clause-capacity : goal.returns-in_err-write_cell-clause-capacity
returns-in_err-write_cell-clause-capacity c = omega (arith, c.loop-cell.invariant.3, c.write_cell.ensures.capacity)

pub returns-in_err-write_cell-clause-full : goal.returns-in_err-write_cell-clause-full
returns-in_err-write_cell-clause-full c =
    let row = c.args.row.now in
    let old = c.args.out.now in
    let now = c.loop-cell.out in
    let left = c.loop-cell.cell-iterator in
    let size = first_size left c.next.new.self (cell_value c.in-Some.cell) c.in-Some.ensures.steps in
    let whole = ap length c.loop-cell.invariant.2 in
    rw (err_from_is_err_and c.from_residual-in_err-write_cell.result c.from_residual-in_err-write_cell.ensures.1).1
    (omega (arith, size, whole, length-append now.items (flat_map cell_image left), length-append old.items (0 ∷ 0 ∷ flat_map cell_image row), c.in_err-write_cell.ensures.full, c.loop-cell.invariant.3, old.ok, now.ok))

pub returns-clause-capacity : goal.returns-clause-capacity
returns-clause-capacity c = omega (arith, c.loop-cell.invariant.3, c.set_count.ensures.capacity)
