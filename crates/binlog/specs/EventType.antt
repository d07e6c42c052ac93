-- The types of events, as the byte at offset 4 of an event has them. MySQL Source Documentation, Binlog Event:
-- binary_log::Log_event_type.
use Rattle.std.specs.Prelude.{ℕ}

abbrev pub query : ℕ
query = 2

abbrev pub stop : ℕ
stop = 3

abbrev pub rotate : ℕ
rotate = 4

abbrev pub format_description : ℕ
format_description = 15

abbrev pub xid : ℕ
xid = 16

abbrev pub table_map : ℕ
table_map = 19

abbrev pub heartbeat : ℕ
heartbeat = 27

abbrev pub ignorable : ℕ
ignorable = 28

abbrev pub rows_query : ℕ
rows_query = 29

abbrev pub write_rows : ℕ
write_rows = 30

abbrev pub update_rows : ℕ
update_rows = 31

abbrev pub delete_rows : ℕ
delete_rows = 32

abbrev pub gtid : ℕ
gtid = 33

abbrev pub anonymous_gtid : ℕ
anonymous_gtid = 34

abbrev pub previous_gtids : ℕ
previous_gtids = 35

abbrev pub xa_prepare : ℕ
xa_prepare = 38

abbrev pub partial_update_rows : ℕ
partial_update_rows = 39

abbrev pub transaction_payload : ℕ
transaction_payload = 40
