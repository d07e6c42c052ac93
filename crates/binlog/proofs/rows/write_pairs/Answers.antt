use Rattle.binlog.proofs.Names.{◌+◌, refl, kinds}
use Rattle.binlog.specs.RowsView.{owned_pair}
use Rattle.binlog.specs.RowsWritten.{pair_bytes}
use Rattle.gtid.proofs.Appending.{first_write, next_fits, next_write, last_write}
use Rattle.binlog.proofs.RowWriting.{pair_there, rows_from, pair_next, pairs_end}
use Rattle.binlog.proofs.rows.write_pairs.Goals as goal

pub loop-pair-init : goal.loop-pair-init
loop-pair-init c = first_write c.args.out.now _ _ refl

pub write_pair-requires-clause-fit : goal.write_pair-requires-clause-fit
write_pair-requires-clause-fit c = pair_there c.args.kind (kinds c.args.types.now) c.args.pairs.now c.loop-pair.pair-index c.pair-item.result c.requires.fit c.loop-pair-test.true c.pair-item.is

pub write_pair-requires-clause-room : goal.write_pair-requires-clause-room
write_pair-requires-clause-room c = next_fits (pair_bytes (kinds c.args.types.now) (owned_pair c.pair-item.result)) (rows_from (kinds c.args.types.now) c.args.pairs.now (c.loop-pair.pair-index + 1)) c.loop-pair.invariant
    (pair_next (kinds c.args.types.now) c.args.pairs.now c.loop-pair.pair-index c.pair-item.result c.loop-pair-test.true c.pair-item.is) c.requires.room

pub loop-pair-preserved : goal.loop-pair-preserved
loop-pair-preserved c = next_write (pair_bytes (kinds c.args.types.now) (owned_pair c.pair-item.result)) (rows_from (kinds c.args.types.now) c.args.pairs.now (c.loop-pair.pair-index + 1)) c.loop-pair.invariant
    (pair_next (kinds c.args.types.now) c.args.pairs.now c.loop-pair.pair-index c.pair-item.result c.loop-pair-test.true c.pair-item.is) c.write_pair.ensures

pub returns : goal.returns
returns c = last_write c.loop-pair.invariant (pairs_end (kinds c.args.types.now) c.args.pairs.now c.loop-pair.pair-index c.loop-pair-test.false)
