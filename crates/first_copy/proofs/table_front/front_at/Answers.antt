use Rattle.first_copy.proofs.Names.{length, refl, arith, slice_get_read}
use Rattle.first_copy.proofs.table_front.front_at.Goals as goal

pub returns : goal.returns
returns c = record {
  table = c.index-tables-place.result;
  at = slice_get_read c.args.tables.now (length c.args.tables.now) c.args.place c.index-tables-place.result refl (omega (arith, c.if-place-tables.false)) c.index-tables-place.is;
  line_is = c.in_ok-rest.ensures.some;
}
