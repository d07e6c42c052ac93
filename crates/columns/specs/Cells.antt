-- Cells that are none of a type.
use Rattle.std.specs.Prelude.{ℕ, ◌^◌, ◌==◌, nat_lt, if◌then◌else◌, length, Option, Some, None}
use Rattle.binlog.specs.Cell.{CellValue}
use Rattle.binlog.specs.Cell.CellValue.{number_cell, bytes_cell}
use Rattle.columns.specs.declared.value.fault.CellFault.{CellFault}
use Rattle.columns.specs.declared.value.fault.CellFault.TheVariants.{Kind, Size, Range}

-- what is wrong with a cell where a number of so many bytes is due
abbrev pub number_fault : ℕ → CellValue → Option CellFault
number_fault size (number_cell value width) =
    if width == size then (if nat_lt value (256 ^ size) then None else Some Range) else Some (Size width)
number_fault size _ = Some Kind

-- the fault of a cell where so many bytes are due, if it is none of the type
abbrev pub bytes_fault : ℕ → CellValue → CellFault
bytes_fault size (bytes_cell bytes) = if length bytes == size then Range else Size (length bytes)
bytes_fault size _ = Kind

-- the same where there are bytes of any number up to a greatest one
abbrev pub within_fault : CellValue → CellFault
within_fault (bytes_cell bytes) = Size (length bytes)
within_fault _ = Kind
