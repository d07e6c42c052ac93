use Rattle.std.proofs.Common.{◌≡◌, ◌+◌, ◌-◌, ◌≤◌, true, false, length, take, drop, sym, subst, ap, Some, ◌∙◌, arith}
use Rattle.binlog.specs.Row.{bitmap_size, is_set}
use Rattle.binlog.proofs.RowsHead.{full, not_full, present_whole, present_partial, one_more}
use Rattle.binlog.proofs.body.rows.read_present.Goals as goal

pub loop-i-init : goal.loop-i-init
loop-i-init c k below = absurd (omega (arith, below))

pub returns-then-not-is_set-clause-fault : goal.returns-then-not-is_set-clause-fault
returns-then-not-is_set-clause-fault c =
    let size : c.args.at + c.div_ceil.result - c.args.at ≡ bitmap_size c.args.columns = (omega arith) ∙ c.div_ceil.ensures in
    let within : c.args.at + bitmap_size c.args.columns ≤ length c.args.bytes.now = omega (arith, c.if-bytes-end.false, c.div_ceil.ensures) in
    let clear = sym c.is_set.ensures ∙ c.if-not-is_set.true in
    present_partial c.args.bytes.now c.args.at c.args.columns within
    (not_full c.args.columns c.loop-i.i (take (bitmap_size c.args.columns) (drop c.args.at c.args.bytes.now)) c.loop-i-test.true
    (subst (λ n. is_set (take n (drop c.args.at c.args.bytes.now)) c.loop-i.i ≡ false) size clear))
    ∙ ap Some (sym c.new.ensures)

pub loop-i-preserved : goal.loop-i-preserved
loop-i-preserved c = one_more c.loop-i.i (is_set (take (c.args.at + c.div_ceil.result - c.args.at) (drop c.args.at c.args.bytes.now))) c.loop-i.invariant (sym c.is_set.ensures ∙ c.if-not-is_set.false)

pub returns-clause-whole : goal.returns-clause-whole
returns-clause-whole c =
    let size : c.args.at + c.div_ceil.result - c.args.at ≡ bitmap_size c.args.columns = (omega arith) ∙ c.div_ceil.ensures in
    let within : c.args.at + bitmap_size c.args.columns ≤ length c.args.bytes.now = omega (arith, c.if-bytes-end.false, c.div_ceil.ensures) in
    present_whole c.args.bytes.now c.args.at c.args.columns within
    (full c.args.columns (take (bitmap_size c.args.columns) (drop c.args.at c.args.bytes.now))
    (λ i below. subst (λ n. is_set (take n (drop c.args.at c.args.bytes.now)) i ≡ true) size (c.loop-i.invariant i (omega (arith, below, c.loop-i-test.false)))))
