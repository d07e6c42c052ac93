use Rattle.binlog.proofs.Names.{◌≡◌, ◌<◌, ◌≤◌, Ok, Err, length, take, sym, subst, ◌∙◌, arith, take_rest, shape, value_end, bitmap_size}
use Rattle.std.proofs.Common.{drop}
use Rattle.binlog.proofs.RowCells.{Reached, short_bitmap, first_column, null_column, value_column, early_column}
use Rattle.binlog.proofs.row.row_end.Goals as goal

pub returns-then-bytes-size : goal.returns-then-bytes-size
returns-then-bytes-size c = let short : length c.args.bytes.now < bitmap_size (length c.args.types.now) = omega (arith, c.if-bytes-size.true, c.div_ceil-size.ensures) in
    sym (short_bitmap c.args.types.now c.args.bytes.now short)

pub loop-i-init : goal.loop-i-init
loop-i-init c =
    let long : bitmap_size (length c.args.types.now) ≤ length c.args.bytes.now = omega (arith, c.if-bytes-size.false, c.div_ceil-size.ensures) in
    subst (λ n. Reached c.args.types.now c.args.bytes.now (take n c.args.bytes.now) 0 n) (sym c.div_ceil-size.ensures) (first_column c.args.types.now c.args.bytes.now long)

pub loop-i-preserved-then-is_null : goal.loop-i-preserved-then-is_null
loop-i-preserved-then-is_null c = null_column c.args.types.now c.args.bytes.now (take c.div_ceil-size.result c.args.bytes.now) c.loop-i.i c.loop-i.place c.loop-i.invariant c.loop-i-test.true (sym c.is_null.ensures ∙ c.if-is_null.true)

pub returns-in-Err : goal.returns-in-Err
returns-in-Err c =
    let t = c.index-types-i.result in
    let end : value_end (shape t.kind) (drop c.loop-i.place c.args.bytes.now) ≡ Err c.in-Err.at =
    (λ i. value_end (sym c.shape_of.ensures.shape i) (sym (take_rest c.args.bytes.now c.loop-i.place) i)) ∙ sym c.in-Err.ensures.end in
    sym (early_column c.args.types.now c.args.bytes.now (take c.div_ceil-size.result c.args.bytes.now) c.loop-i.i c.loop-i.place c.in-Err.at t c.loop-i.invariant c.loop-i-test.true c.index-types-i.is (sym c.is_null.ensures ∙ c.if-is_null.false) end)

pub loop-i-preserved : goal.loop-i-preserved
loop-i-preserved c =
    let t = c.index-types-i.result in
    let end : value_end (shape t.kind) (drop c.loop-i.place c.args.bytes.now) ≡ Ok c.in-Ok.size =
    (λ i. value_end (sym c.shape_of.ensures.shape i) (sym (take_rest c.args.bytes.now c.loop-i.place) i)) ∙ sym c.in-Ok.ensures.end in
    let within : c.in-Ok.size ≤ length (drop c.loop-i.place c.args.bytes.now) = rw take_rest at c.in-Ok.ensures.within in
    value_column c.args.types.now c.args.bytes.now (take c.div_ceil-size.result c.args.bytes.now) c.loop-i.i c.loop-i.place c.in-Ok.size t c.loop-i.invariant c.loop-i-test.true c.index-types-i.is (sym c.is_null.ensures ∙ c.if-is_null.false) end within
