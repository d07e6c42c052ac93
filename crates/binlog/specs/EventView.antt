-- Events, apart from the memory that holds them, and the filter of tables of a reader.
use Rattle.std.specs.Prelude.{Option, Some, None}
use Rattle.std.specs.Borrow.{Bor}
use Rattle.std.specs.FinSet as set
use Rattle.binlog.specs.Filter.{Names}
use Rattle.binlog.specs.Event.{EventValue, format, begin, commit, neutral, stop, rotate, gtid, table_map, other_map, rows, xid}
use Rattle.binlog.specs.TableView.{table_value}
use Rattle.binlog.specs.RowsView.{rows_value}
use Rattle.binlog.specs.declared.event.Event.{Event}
use Rattle.binlog.specs.declared.event.Event.TheVariants as events

-- what an event says
abbrev pub event_value : Event → EventValue
event_value events.Format = format
event_value events.Begin = begin
event_value events.Commit = commit
event_value events.Neutral = neutral
event_value events.Stop = stop
event_value (events.Rotate position name) = rotate position name.now
event_value (events.Gtid id) = gtid id.source id.number
event_value (events.TableMap t) = table_map (table_value t)
event_value (events.OtherMap id) = other_map id
event_value (events.Rows r) = rows (rows_value r)
event_value (events.Xid number) = xid number

-- the filter: that of all tables if there is none
abbrev pub filter_of : Option (Bor Names) → Names
filter_of (Some filter) = filter.now
filter_of None = set.empty
