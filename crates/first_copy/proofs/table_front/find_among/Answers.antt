use Rattle.first_copy.proofs.Names.{length, refl, slice_get_read}
use Rattle.first_copy.proofs.TablePlaces.{none_further, none_at_all}
use Rattle.first_copy.proofs.table_front.find_among.Goals as goal

pub returns-in-Some-clause-found : goal.returns-in-Some-clause-found
returns-in-Some-clause-found c = record {
  table = c.index-tables-i.result;
  at = slice_get_read c.args.tables.now (length c.args.tables.now) c.loop-i.i c.index-tables-i.result refl c.loop-i-test.true c.index-tables-i.is;
  line_is = c.in-Some.ensures.some;
}

pub loop-i-preserved : goal.loop-i-preserved
loop-i-preserved c =
    none_further c.args.tables.now c.args.line.now c.loop-i.i c.index-tables-i.result c.loop-i.invariant
    (slice_get_read c.args.tables.now (length c.args.tables.now) c.loop-i.i c.index-tables-i.result refl c.loop-i-test.true c.index-tables-i.is) c.in_default.ensures.none

pub returns-clause-none : goal.returns-clause-none
returns-clause-none c = none_at_all c.args.tables.now c.args.line.now c.loop-i.i c.loop-i-test.false c.loop-i.invariant
