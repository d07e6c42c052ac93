use Rattle.binlog.proofs.Names.{refl, arith, table_value}
use Rattle.binlog.proofs.TableMapBytes.{has_map}
use Rattle.binlog.proofs.body.table_map.map_fits.Goals as goal

pub returns-in-1-to-4096 : goal.returns-in-1-to-4096
returns-in-1-to-4096 c = (
  λ _. has_map (table_value c.args.map.now) (record {
    an_id = c.if-map.false;
    schema = omega (arith, c.if-map-gt255.false);
    table = omega (arith, c.if-map-gt255-2.false);
    number = (omega (arith, c.len.ensures.length), omega (arith, c.len.ensures.length));
    lawful = c.len.ensures.lawful;
  }),
  λ _. refl,
)
