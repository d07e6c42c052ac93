use Rattle.binlog.proofs.Names.{arith, refl, ap, ne_eqb, nat_le}
use Rattle.binlog.specs.Column.{metadata_fault, is_between}
use Rattle.binlog.proofs.Columns.{known, no_more_1, each_second}
use Rattle.binlog.proofs.column.metadata.by_byte.Goals as goal

pub unreachable-requires : goal.unreachable-requires
unreachable-requires c = no_more_1 c.args.code (known c.args.code 1 c.requires) (omega arith) (omega arith) (omega arith) (omega arith) (omega arith) (omega arith)

pub returns-in-17-clause-fault : goal.returns-in-17-clause-fault
unfolding metadata_fault
returns-in-17-clause-fault c = each_second c.in_range.result (nat_le c.args.first 6) c.args.code c.args.first (λ second. ap (λ k. metadata_fault k c.args.first second) c.in-17.is) c.in_range.ensures.err

pub returns-in-18-clause-fault : goal.returns-in-18-clause-fault
unfolding metadata_fault
returns-in-18-clause-fault c = each_second c.in_range-in-18.result (nat_le c.args.first 6) c.args.code c.args.first (λ second. ap (λ k. metadata_fault k c.args.first second) c.in-18.is) c.in_range-in-18.ensures.err

pub returns-in-19-clause-fault : goal.returns-in-19-clause-fault
unfolding metadata_fault
returns-in-19-clause-fault c = each_second c.in_range-in-19.result (nat_le c.args.first 6) c.args.code c.args.first (λ second. ap (λ k. metadata_fault k c.args.first second) c.in-19.is) c.in_range-in-19.ensures.err

pub returns-in-252-clause-fault : goal.returns-in-252-clause-fault
unfolding metadata_fault
returns-in-252-clause-fault c = each_second c.in_range-in-252.result (is_between 1 4 c.args.first) c.args.code c.args.first (λ second. ap (λ k. metadata_fault k c.args.first second) c.in-252.is) c.in_range-in-252.ensures.err

pub returns-in-4-2-clause-fault : goal.returns-in-4-2-clause-fault
unfolding metadata_fault
returns-in-4-2-clause-fault c second = rw (c.in-4.is, ne_eqb _ _ c.if-first-eq4.false) refl

pub returns-in-4-2-2-clause-fault : goal.returns-in-4-2-2-clause-fault
unfolding metadata_fault
returns-in-4-2-2-clause-fault c second = rw (c.in-5.is, ne_eqb _ _ c.if-first-eq8.false) refl
