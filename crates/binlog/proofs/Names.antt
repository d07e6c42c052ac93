-- The names of other modules that the proofs use, in one place.
pub use Rattle.binlog.specs.Body.{IsFormat, IsGtidBody, IsQuery, read_lengths, length_refusals, text_place}
pub use Rattle.binlog.specs.Cell.{CellValue, number_cell, bytes_cell, is_null, owned_value, owned_values, null_cell}
pub use Rattle.binlog.specs.Column.{type_code, metadata, IsColumn, column_fault, is_lawful}
pub use Rattle.binlog.specs.Columns.{columns_at}
pub use Rattle.binlog.specs.Count.{count_width, count_at}
pub use Rattle.binlog.specs.EventView.{event_value}
pub use Rattle.binlog.specs.Fault.{refuse, needs, number_at}
pub use Rattle.binlog.specs.Filter.{Name, name_cmp, is_named_in, admits, is_read, is_meant, AreAmong}
pub use Rattle.binlog.specs.FilterView.{name_list}
pub use Rattle.binlog.specs.Header.{IsFramed}
pub use Rattle.binlog.specs.Row.{bitmap_size, kinds, row_cells, is_set, AreValues, further, ◌>>=◌, values_end}
pub use Rattle.binlog.specs.Rows.{RowsValue, IsRows, presents_size, pair_end, items_of}
pub use Rattle.binlog.specs.RowsView.{owned_pairs, rows_value}
pub use Rattle.binlog.specs.RowsWritten.{bitmap_byte, value_bytes, values_bytes, rows_bytes, value_fits, row_fits, pairs_fit}
pub use Rattle.binlog.specs.Shape.{shape, IsValue, value_end, cell_of}
pub use Rattle.binlog.specs.Table.{is_column_count, metadata_length, TableValue, IsNamed, terminator_place, AreColumns}
pub use Rattle.binlog.specs.TableView.{table_value}
pub use Rattle.binlog.specs.Writing.{full_bitmap, IsWritable}
pub use Rattle.binlog.specs.declared.body.query.Query.{Query}
pub use Rattle.binlog.specs.declared.body.query.Query.TheVariants.{Begin, Commit}
pub use Rattle.binlog.specs.declared.body.rows_event.RowsKind.{RowsKind}
pub use Rattle.binlog.specs.declared.body.rows_event.RowsKind.TheVariants.{Write, Update, Delete}
pub use Rattle.binlog.specs.declared.column.kind.ColumnKind.{ColumnKind}
pub use Rattle.binlog.specs.declared.column.kind.ColumnKind.TheVariants.{Long, Varchar, Char, Blob, Enum, Set, Bit}
pub use Rattle.binlog.specs.declared.column.kind.ColumnType.{ColumnType}
pub use Rattle.binlog.specs.declared.column.value.Shape.{Shape}
pub use Rattle.binlog.specs.declared.column.value.Shape.TheVariants.{Number, Fixed, Prefixed}
pub use Rattle.binlog.specs.declared.fault.EventFault.{EventFault}
pub use Rattle.binlog.specs.declared.fault.EventFaultKind.{EventFaultKind}
pub use Rattle.binlog.specs.declared.fault.EventFaultKind.TheVariants.{Truncated, Columns, Metadata, Size}
pub use Rattle.byteorder.specs.Endian.{little_bytes, little_number}
pub use Rattle.byteorder.specs.Numbers.{length-bytes_low_first, little_number-reads_back, little_from-lt}
pub use Rattle.std.proofs.Common.{◌≡◌, ℕ, zero, suc, ◌+◌, ◌-◌, ◌*◌, ◌<◌, ◌≤◌, ◌==◌, false, not, List, [], ◌∷◌, ◌++◌, length, get_or, take, Option, Some, None, refl, sym, ap, ◌∙◌, arith, inl, inr, true, map, replicate, ◌^◌, Bool, codes, ◌&&◌, ◌||◌, Result, Ok, Err, append_assoc, subst, ◌/◌, ◌%◌, rules}
pub use Rattle.std.proofs.Math.ListN.{drop_of_length-le}
pub use Rattle.std.proofs.Math.Seq.{take-add}
pub use Rattle.std.proofs.lemmas.Bool.{le-ltb, lt-ltb, le-leb, lt-leb, ne_eqb, eq-eqb, cases_lt, false≢true, and_parts, and_from, eqb-true, leb-true, not-false, ltb-false, cases_eq, ltb-true, cases_Bool}
pub use Rattle.std.proofs.lemmas.List.{length-drop, get_or-drop, take_at, length-replicate, length-append, append-nil, take-append-drop, take_all, length-map, length-take, take_rest}
pub use Rattle.std.proofs.lemmas.List.FromFn.{length-map-range_with_len}
pub use Rattle.std.proofs.lemmas.Option.{none-some}
pub use Rattle.std.proofs.lemmas.Result.{err_from_is_err_and}
pub use Rattle.std.proofs.lemmas.Slice.Eq.{bytes_eq-Decides}
pub use Rattle.std.specs.List.{range_with_len, AllByRecursion}
pub use Rattle.std.specs.Prelude.{nat_lt, nat_le, IsTrue, flat_map, vec_capacity}
pub use Rattle.std.specs.Str.{bytes_eq}
pub use Rattle.wire.proofs.Cuts.{drop_front, IsBytes, IsBytes-drop, first_left, drop_drop, drop_at, IsBytes-all}
pub use Rattle.wire.specs.Integer.{IsLengthEncoded, length_encoded}
