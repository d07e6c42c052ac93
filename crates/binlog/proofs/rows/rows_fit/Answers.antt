use Rattle.binlog.proofs.Names.{◌≡◌, ◌+◌, false, ◌&&◌, refl, sym, ap, ◌∙◌, false≢true, kinds, owned_pairs, pairs_fit}
use Rattle.std.proofs.Common.{drop}
use Rattle.binlog.proofs.RowBytes.{pairs_from, pairs_over, have_rows, have_no_rows}
use Rattle.binlog.proofs.rows.rows_fit.Goals as goal

pub loop-i-init : goal.loop-i-init
loop-i-init c = refl

pub returns-then-not-pair_fits : goal.returns-then-not-pair_fits
returns-then-not-pair_fits c =
    let not : pairs_fit c.args.kind (kinds c.args.types.now) (owned_pairs c.args.pairs.now) ≡ false = c.loop-i.invariant
    ∙ pairs_from c.args.kind (kinds c.args.types.now) c.args.pairs.now c.loop-i.i c.index-pairs-i.result c.loop-i-test.true c.index-pairs-i.is
    ∙ ap (λ b. b && pairs_fit c.args.kind (kinds c.args.types.now) (drop (c.loop-i.i + 1) (owned_pairs c.args.pairs.now))) (sym c.if-not-pair_fits.ensures) in
    (λ is. absurd (false≢true is), λ have. absurd (have_no_rows c.args.kind (kinds c.args.types.now) (owned_pairs c.args.pairs.now) not have))

pub loop-i-preserved : goal.loop-i-preserved
loop-i-preserved c = c.loop-i.invariant
    ∙ pairs_from c.args.kind (kinds c.args.types.now) c.args.pairs.now c.loop-i.i c.index-pairs-i.result c.loop-i-test.true c.index-pairs-i.is
    ∙ ap (λ b. b && pairs_fit c.args.kind (kinds c.args.types.now) (drop (c.loop-i.i + 1) (owned_pairs c.args.pairs.now))) (sym c.if-not-pair_fits.ensures)

pub returns : goal.returns
returns c =
    let fits = c.loop-i.invariant ∙ pairs_over c.args.kind (kinds c.args.types.now) c.args.pairs.now c.loop-i.i c.loop-i-test.false in
    (λ _. have_rows c.args.kind (kinds c.args.types.now) (owned_pairs c.args.pairs.now) fits, λ _. refl)
