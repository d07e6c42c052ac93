-- The names of other modules that the proofs use, in one place.
pub use Rattle.binlog.specs.Cell.{CellValue}
pub use Rattle.columns.specs.Lines.{is_inner}
pub use Rattle.columns.specs.Word.{Are}
pub use Rattle.columns.specs.declared.column.Column.{Column}
pub use Rattle.columns.specs.declared.table.DescribedTable.{DescribedTable}
pub use Rattle.first_copy.specs.CellPlaces.{placed_cells}
pub use Rattle.first_copy.specs.CopyFaults.{IsKnownFault}
pub use Rattle.first_copy.specs.CopyLines.{IsEndLine}
pub use Rattle.first_copy.specs.CopySteps.{IsGiven, IsFinished, IsGathered}
pub use Rattle.first_copy.specs.RowFields.{AreFields}
pub use Rattle.first_copy.specs.RowLines.{IsRowFault}
pub use Rattle.first_copy.specs.declared.fault.RowFault.{RowFault}
pub use Rattle.gather.specs.Transaction.{DeliveryValue, ChangeValue}
pub use Rattle.gtid.specs.Identifier.{Ids}
pub use Rattle.sha1.specs.declared.Sha1.{Sha1}
pub use Rattle.std.proofs.Common.{◌≡◌, ℕ, Bool, true, false, not, List, ◌∷◌, ◌++◌, refl, sym, subst, ◌∙◌, suc, ◌+◌, ◌<◌, ◌≤◌, [], length, ap, arith, append_assoc, length-append, append-nil, inl, inr, ◌^◌, Option, Some, None, ◌≢◌, slice_get, get_or, ◌-◌}
pub use Rattle.std.proofs.lemmas.List.{nil_from_length}
pub use Rattle.std.proofs.lemmas.Option.{slice_get_read}
pub use Rattle.std.proofs.lemmas.Result.{err_from_is_err_and}
pub use Rattle.std.specs.Io.KnownBytes.{Consumes, prepend_known}
pub use Rattle.std.specs.Prelude.{IfSome, codes}
pub use Rattle.std.specs.Str.{bytes_eq}
pub use Rattle.std.specs.String.{string_bytes}
