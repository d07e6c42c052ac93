use Rattle.binlog.proofs.Names.{◌∙◌, ◌+◌, ap, length, length-append, kinds}
use Rattle.binlog.specs.RowsView.{owned_pair}
use Rattle.binlog.specs.RowsWritten.{pair_bytes}
use Rattle.binlog.proofs.RowWriting.{pair_there, rows_from, pair_next, pairs_end}
use Rattle.gtid.proofs.Appending.{sum_next, sum_all}
use Rattle.binlog.proofs.rows.rows_length.Goals as goal

pub pair_length-requires : goal.pair_length-requires
pair_length-requires c = pair_there c.args.kind (kinds c.args.types.now) c.args.pairs.now c.loop-pair.pair-index c.pair-item.result c.requires c.loop-pair-test.true c.pair-item.is

pub loop-pair-preserved : goal.loop-pair-preserved
loop-pair-preserved c =
    let is = pair_next (kinds c.args.types.now) c.args.pairs.now c.loop-pair.pair-index c.pair-item.result c.loop-pair-test.true c.pair-item.is in
    let pair = pair_bytes (kinds c.args.types.now) (owned_pair c.pair-item.result) in
    let rest = rows_from (kinds c.args.types.now) c.args.pairs.now (c.loop-pair.pair-index + 1) in
    sum_next (length pair) (length rest) c.pair_length.result _ c.loop-pair.invariant (ap length is ∙ length-append pair rest) c.pair_length.ensures c.saturating_add-sum.ensures

pub returns : goal.returns
returns c = sum_all c.loop-pair.invariant (ap length (pairs_end (kinds c.args.types.now) c.args.pairs.now c.loop-pair.pair-index c.loop-pair-test.false))
