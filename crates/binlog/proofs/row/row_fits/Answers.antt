use Rattle.binlog.proofs.Names.{◌≡◌, ◌+◌, true, false, ◌&&◌, refl, sym, ap, ◌∙◌, arith, owned_value, owned_values, kinds, value_fits, row_fits, shape}
use Rattle.std.proofs.Common.{drop}
use Rattle.binlog.proofs.RowBytes.{row_from, row_over, row_of_others}
use Rattle.binlog.proofs.row.row_fits.Goals as goal

pub returns-then-types-cells : goal.returns-then-types-cells
returns-then-types-cells c = sym (row_of_others c.args.types.now c.args.cells.now c.if-types-cells.true)

pub loop-i-init : goal.loop-i-init
loop-i-init c = refl

pub returns-then-not-value_fits : goal.returns-then-not-value_fits
returns-then-not-value_fits c =
    let long = c.if-types-cells.false in
    let not : value_fits (shape c.index-types-i.result.kind) (owned_value c.index-cells-i.result) ≡ false = ap (λ s. value_fits s (owned_value c.index-cells-i.result)) (sym c.shape_of.ensures.shape) ∙ sym c.if-not-value_fits.ensures in
    sym (c.loop-i.invariant
    ∙ row_from c.args.types.now c.args.cells.now c.loop-i.i c.index-types-i.result c.index-cells-i.result c.loop-i-test.true (omega (arith, long, c.loop-i-test.true)) c.index-types-i.is c.index-cells-i.is
    ∙ ap (λ b. b && row_fits (drop (c.loop-i.i + 1) (kinds c.args.types.now)) (drop (c.loop-i.i + 1) (owned_values c.args.cells.now))) not)

pub loop-i-preserved : goal.loop-i-preserved
loop-i-preserved c =
    let long = c.if-types-cells.false in
    let fits : value_fits (shape c.index-types-i.result.kind) (owned_value c.index-cells-i.result) ≡ true = ap (λ s. value_fits s (owned_value c.index-cells-i.result)) (sym c.shape_of.ensures.shape) ∙ sym c.if-not-value_fits.ensures in
    c.loop-i.invariant
    ∙ row_from c.args.types.now c.args.cells.now c.loop-i.i c.index-types-i.result c.index-cells-i.result c.loop-i-test.true (omega (arith, long, c.loop-i-test.true)) c.index-types-i.is c.index-cells-i.is
    ∙ ap (λ b. b && row_fits (drop (c.loop-i.i + 1) (kinds c.args.types.now)) (drop (c.loop-i.i + 1) (owned_values c.args.cells.now))) fits

pub returns : goal.returns
returns c =
    let long = c.if-types-cells.false in
    sym (c.loop-i.invariant ∙ row_over c.args.types.now c.args.cells.now c.loop-i.i c.loop-i-test.false (omega (arith, long, c.loop-i-test.false)))
