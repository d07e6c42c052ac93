-- The names of other modules that the proofs use, in one place.
pub use Rattle.binlog.specs.Cell.{CellValue, number_cell, cell_value}
pub use Rattle.binlog.specs.Event.{EventValue, format, commit, neutral, stop, rotate, gtid, table_map, other_map, xid}
pub use Rattle.binlog.specs.Rows.{RowsValue}
pub use Rattle.binlog.specs.RowsView.{rows_value}
pub use Rattle.binlog.specs.Table.{TableValue}
pub use Rattle.binlog.specs.TableView.{table_value}
pub use Rattle.binlog.specs.declared.body.table_map.TableDef.{TableDef}
pub use Rattle.byteorder.specs.Endian.{little_bytes}
pub use Rattle.byteorder.specs.Numbers.{length-bytes_low_first}
pub use Rattle.gather.specs.Fault.{is_gtid, has_format, add_event, last_block, is_open, IsRowsFault}
pub use Rattle.gather.specs.Image.{image, HasImage, cell_image, HasCellImage}
pub use Rattle.gather.specs.ImageCells.{cell_front, cells_in, are_images, cell_values}
pub use Rattle.gather.specs.OpenTransaction.{table_of}
pub use Rattle.gather.specs.Transaction.{ChangeValue, DeliveryValue, is_neutral, is_mark, is_end, map_of, change_of, AreChangesOf, IsAnnounced, IsOpen, IsWhole, IsBlock, AreBlocks, is_format_first, AreDeliveries, AreChanges}
pub use Rattle.gather.specs.declared.fault.GatherFault.{GatherFault}
pub use Rattle.std.proofs.Common.{inl, ◌≡◌, ◌+◌, ◌<◌, inr, ℕ, zero, suc, List, [], ◌∷◌, ◌++◌, length, take, refl, ap, sym, subst, ◌∙◌, append_assoc, arith, Result, Ok, Err, false, ◌⊎◌, true, ◌||◌, map, fold, Option, Some, None, ⊎_elim, true≢false, not, append-nil, ◌≤◌, ◌^◌, ◌-◌}
pub use Rattle.std.proofs.Math.Bool.{or-false}
pub use Rattle.std.proofs.lemmas.Bool.{cases_Bool, cases_eq, and_parts, leb-true}
pub use Rattle.std.proofs.lemmas.List.{length-append, take_rest}
pub use Rattle.std.proofs.lemmas.List.Folds.{list_any-append}
pub use Rattle.std.proofs.lemmas.Result.{on_ok_weaker, err_from_is_err_and}
pub use Rattle.std.specs.List.{AllByRecursion, list_any}
pub use Rattle.std.specs.Prelude.{nat_le, flat_map}
