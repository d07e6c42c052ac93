use Rattle.binlog.proofs.Names.{◌+◌, ◌*◌, ◌<◌, arith, refl, lt-leb, le-leb, nat_le}
use Rattle.std.proofs.lemmas.Bool.{and_right}
use Rattle.binlog.specs.Column.{metadata_fault}
use Rattle.binlog.proofs.Columns.{known, no_more_2}
use Rattle.binlog.proofs.column.metadata.by_bytes.Goals as goal

pub unreachable-requires : goal.unreachable-requires
unreachable-requires c = no_more_2 c.args.code (known c.args.code 2 c.requires) (omega arith) (omega arith) (omega arith) (omega arith)

pub returns-in-16-clause-fault : goal.returns-in-16-clause-fault
unfolding metadata_fault
returns-in-16-clause-fault c = rw (c.in-16.is, lt-leb _ _ c.if-first-gt7.true) refl

pub returns-in-16-2-clause-fault : goal.returns-in-16-2-clause-fault
unfolding metadata_fault
returns-in-16-2-clause-fault c =
    let above : 64 < 8 * c.args.second + c.args.first = omega (arith, c.if-second-gt8.true) in
    rw (c.in-16.is, le-leb _ _ c.if-first-gt7.false, and_right (nat_le 1 (8 * c.args.second + c.args.first)) _ (lt-leb _ _ above)) refl

pub returns-in-16-3-clause-fault : goal.returns-in-16-3-clause-fault
unfolding metadata_fault
returns-in-16-3-clause-fault c = rw (c.in-16.is, le-leb _ _ c.if-first-gt7.false) c.in_range.ensures.err

pub returns-in-246-clause-fault : goal.returns-in-246-clause-fault
unfolding metadata_fault
returns-in-246-clause-fault c = rw c.in-246.is c.in_range-in-246.ensures.err

pub returns-in-254-clause-fault : goal.returns-in-254-clause-fault
unfolding metadata_fault
returns-in-254-clause-fault c = rw c.in-254.is c.string.ensures.fault
