use Rattle.binlog.proofs.Names.{◌≡◌, Ok, Err, length, take, sym, ap, subst, ◌∙◌, refl, arith, length-take, take_at, kinds, row_cells}
use Rattle.binlog.specs.Row.{row_end, IsRow}
use Rattle.binlog.proofs.RowCells.{row_is_read, row_is_there, own_cells, holds_bitmap, split_cells}
use Rattle.binlog.proofs.row.Row.read.Goals as goal

pub returns-in_err-end-clause-only : goal.returns-in_err-end-clause-only
returns-in_err-end-clause-only c cells first rest cut is =
    let read = ap (row_end (kinds c.args.types.now)) cut ∙ (row_is_read (kinds c.args.types.now) cells first rest is).0 in
    let early : Err c.in_err-end.field-0.0 ≡ row_end (kinds c.args.types.now) c.args.bytes.now = c.in_err-end.ensures in
    absurd (cc (read, early))

pub slice_bounds-split_at-end : goal.slice_bounds-split_at-end
slice_bounds-split_at-end c =
    let there = row_is_there (kinds c.args.types.now) c.args.bytes.now c.in_ok-end.end (λ i. omega (arith, c.type_inv.bytes i)) (sym c.in_ok-end.ensures) in
    let within = there.0 in
    omega (arith, within, length-take c.in_ok-end.end c.args.bytes.now)

pub split_at-requires : goal.split_at-requires
split_at-requires c =
    let there = row_is_there (kinds c.args.types.now) c.args.bytes.now c.in_ok-end.end (λ i. omega (arith, c.type_inv.bytes i)) (sym c.in_ok-end.ensures) in
    let long = holds_bitmap c.args.types.now _ _ there.1 in
    omega (arith, long, c.div_ceil.ensures)

pub returns-clause-found : goal.returns-clause-found
returns-clause-found c =
    let row = take c.in_ok-end.end c.args.bytes.now in
    let there = row_is_there (kinds c.args.types.now) c.args.bytes.now c.in_ok-end.end (λ i. omega (arith, c.type_inv.bytes i)) (sym c.in_ok-end.ensures) in
    let own = own_cells (kinds c.args.types.now) (row_cells (kinds c.args.types.now) c.args.bytes.now) row there.1 in
    let cells = split_cells c.args.types.now c.div_ceil.result row c.split_at.result.0.now c.split_at.result.1.now c.div_ceil.ensures c.split_at.ensures.front c.split_at.ensures.back in
    subst (λ l. IsRow (kinds c.args.types.now) l row) (sym (cells ∙ own)) there.1

pub returns-clause-within : goal.returns-clause-within
returns-clause-within c = (row_is_there (kinds c.args.types.now) c.args.bytes.now c.in_ok-end.end (λ i. omega (arith, c.type_inv.bytes i)) (sym c.in_ok-end.ensures)).0

pub returns-clause-only : goal.returns-clause-only
returns-clause-only c cells first rest cut is =
    let read : row_end (kinds c.args.types.now) c.args.bytes.now ≡ Ok (length first) = ap (row_end (kinds c.args.types.now)) cut ∙ (row_is_read (kinds c.args.types.now) cells first rest is).0 in
    let found : Ok c.in_ok-end.end ≡ row_end (kinds c.args.types.now) c.args.bytes.now = c.in_ok-end.ensures in
    let end : c.in_ok-end.end ≡ length first = cc (read, found) in
    let row : take c.in_ok-end.end c.args.bytes.now ≡ first = (λ i. take (end i) (cut i)) ∙ take_at first rest (length first) refl in
    let held = split_cells c.args.types.now c.div_ceil.result (take c.in_ok-end.end c.args.bytes.now) c.split_at.result.0.now c.split_at.result.1.now c.div_ceil.ensures c.split_at.ensures.front c.split_at.ensures.back in
    (held ∙ ap (row_cells (kinds c.args.types.now)) row ∙ own_cells (kinds c.args.types.now) cells first is, end)
