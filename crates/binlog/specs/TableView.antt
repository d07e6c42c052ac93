-- Table maps, as the code holds them.
use Rattle.binlog.specs.Table.{TableValue}
use Rattle.binlog.specs.declared.body.table_map.TableMap.{TableMap}

-- what a table map says
abbrev pub table_value : TableMap → TableValue
table_value t = record { id = t.id; schema = t.schema.now; table = t.table.now; columns = t.types }
