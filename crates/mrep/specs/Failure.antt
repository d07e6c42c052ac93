-- The exit statuses of the commands.
use Rattle.std.specs.Prelude.{◌≡◌, ◌≢◌, ℕ, ⊤}
use Rattle.std.specs.IoError.{error_kind}
use Rattle.std.specs.declared.io.Error.{Error}
use Rattle.std.specs.declared.io.ErrorKind.TheVariants as io_kind
use Rattle.clap.specs.Words.{kind_of}
use Rattle.clap.specs.declared.error.Error.{Error as WordsError}
use Rattle.clap.specs.declared.error.ErrorKind.TheVariants as clap_kind
use Rattle.mrep.specs.declared.report.failure.Failure.{Failure}
use Rattle.command_line.specs.declared.arguments.ArgumentFault.{ArgumentFault}
use Rattle.command_line.specs.declared.arguments.ArgumentFault.TheVariants as argument
use Rattle.columns.specs.declared.fields.LineFault.{LineFault}
use Rattle.columns.specs.declared.fields.LineFault.TheVariants.{Memory as OutOfMemory}
use Rattle.export.specs.declared.tables.TablesFault.{TablesFault}
use Rattle.export.specs.declared.tables.TablesFault.TheVariants as tables
use Rattle.gtid.specs.declared.fault.GtidFault.TheVariants as gtids
use Rattle.first_copy.specs.declared.copy_fault.CopyFault.{CopyFault}
use Rattle.first_copy.specs.declared.copy_fault.CopyFault.TheVariants as copy
use Rattle.replica.specs.declared.change.loading.Unloadable.{Unloadable as Refusal}
use Rattle.replica.specs.declared.change.loading.Unloadable.TheVariants.{Failed}
use Rattle.store.specs.declared.fault.StoreFault.{StoreFault}
use Rattle.store.specs.declared.fault.StoreFault.TheVariants as store
use Rattle.mrep.specs.declared.report.failure.Failure.TheVariants.{Memory, Output, Told}
use Rattle.mrep.specs.declared.report.failure.FailureKind.{FailureKind}
use Rattle.mrep.specs.declared.report.failure.FailureKind.TheVariants as kinds

-- 4 if memory ran out, otherwise 3
abbrev pub IsFileStatus : Error → ℕ → Type 0
IsFileStatus cause status = (error_kind cause ≡ io_kind.OutOfMemory → status ≡ 4) × (error_kind cause ≢ io_kind.OutOfMemory → status ≡ 3)

-- 4 if memory ran out, otherwise 3: also for a database that is damaged, has another layout or is for other tables
abbrev pub database_status : StoreFault → ℕ
database_status store.Memory = 4
database_status (store.NoSuchRow at) = 3
database_status (store.CountFull at) = 3
database_status (store.Database cause) = 3
database_status store.Damaged = 3
database_status (store.Layout n) = 3
database_status store.Broken = 3
database_status store.Follows = 3

-- 4 if memory ran out, otherwise 2: a text that is not a set, a GTID, a table, a schema or a number, and an option that lacks another
abbrev pub argument_status : ArgumentFault → ℕ
argument_status argument.Memory = 4
argument_status _ = 2

-- 4 if memory ran out, otherwise 2
abbrev pub description_status : LineFault → ℕ
description_status OutOfMemory = 4
description_status _ = 2

-- 4 if memory ran out, otherwise 2
abbrev pub tables_status : TablesFault → ℕ
tables_status tables.Memory = 4
tables_status _ = 2

-- as a file if it could not be read, 4 if memory ran out, otherwise 1
abbrev pub IsCopyStatus : CopyFault → ℕ → Type 0
IsCopyStatus (copy.Reader line error) status = IsFileStatus error status
IsCopyStatus copy.Memory status = status ≡ 4
IsCopyStatus (copy.Executed gtids.Memory) status = status ≡ 4
IsCopyStatus _ status = status ≡ 1

-- as a failure of the database, otherwise 1
abbrev pub unloadable_status : Refusal → ℕ
unloadable_status (Failed cause) = database_status cause
unloadable_status _ = 1

-- 4 if memory ran out, otherwise 2
abbrev pub IsWordsStatus : WordsError → ℕ → Type 0
IsWordsStatus error status = (kind_of error ≡ clap_kind.OutOfMemory → status ≡ 4) × (kind_of error ≢ clap_kind.OutOfMemory → status ≡ 2)

-- 2 for a mistake in the arguments, such as a text that is not a set or a user name, and for a file that is no description or of which no tables are made; 1 for a file that is no
-- copy, for a copy that may not be loaded, and for a row that does not fit the description; 3 for a file, a host or the database; 4 if memory ran out
abbrev pub kind_status : FailureKind → ℕ
kind_status kinds.Usage = 2
kind_status kinds.Refused = 1
kind_status kinds.Misfit = 1
kind_status kinds.Files = 3
kind_status kinds.Memory = 4

-- by its kind; 4 if memory ran out, and 3 for the output
abbrev pub IsStatus : Failure → ℕ → Type 0
IsStatus Memory status = status ≡ 4
IsStatus (Output cause) status = IsFileStatus cause status
IsStatus (Told kind message) status = status ≡ kind_status kind

-- it is of this kind, unless memory ran out for its message
abbrev pub IsTold : FailureKind → Failure → Type 0
IsTold kind Memory = ⊤
IsTold kind (Output cause) = ⊥
IsTold kind (Told its message) = its ≡ kind

-- its status is one of these, unless memory ran out for its message
abbrev pub Tells : (ℕ → Type 0) → Failure → Type 0
Tells are Memory = ⊤
Tells are (Output cause) = ⊥
Tells are (Told kind message) = are (kind_status kind)
