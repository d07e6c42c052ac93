use Rattle.binlog.proofs.Names.{length, ap, arith, length_encoded, table_value}
use Rattle.binlog.proofs.TableMapBytes.{suits, map_long, all_metadata_short}
use Rattle.binlog.proofs.body.table_map.map_length.Goals as goal

pub count_width-requires-2 : goal.count_width-requires-2
count_width-requires-2 c =
    let t = table_value c.args.map.now in
    omega (arith, c.metadata_length-metadata.ensures, all_metadata_short t.columns, (suits t c.requires).number)

pub returns : goal.returns
returns c = omega (
  arith,
  map_long (table_value c.args.map.now),
  c.len-columns.ensures.length,
  c.count_width.ensures.width,
  ap (λ n. length (length_encoded n)) c.len-columns.ensures.length,
  c.metadata_length-metadata.ensures,
  c.count_width-2.ensures.width,
  ap (λ n. length (length_encoded n)) c.metadata_length-metadata.ensures,
  c.div_ceil.ensures,
)
