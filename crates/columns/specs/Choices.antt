-- The values of ENUM and SET. MySQL Reference Manual, "The ENUM Type", "The SET Type" and "Data Type Storage
-- Requirements".
use Rattle.std.specs.Prelude.{ℕ, ◌+◌, ◌/◌, ◌==◌, nat_lt, if◌then◌else◌}
use Rattle.binlog.specs.Cell.{CellValue}
use Rattle.binlog.specs.Cell.CellValue.{number_cell}
use Rattle.columns.specs.declared.value.fault.CellFault.{CellFault}
use Rattle.columns.specs.declared.value.fault.CellFault.TheVariants.{Kind, Size, Range}

-- how many bytes an ordinal among so many members takes
abbrev pub ordinal_size : ℕ → ℕ
ordinal_size members = if nat_lt members 256 then 1 else 2

-- how many bytes the bits of so many members take: there is no SET of five, six or seven
abbrev pub set_size : ℕ → ℕ
set_size members = if nat_lt 32 members then 8 else (members + 7) / 8

-- the fault of a cell that is none of a type whose cells are numbers of so many bytes
abbrev pub counted_fault : ℕ → CellValue → CellFault
counted_fault size (number_cell value width) = if width == size then Range else Size width
counted_fault size _ = Kind
