-- Which writes have failed, the cause of a failure, and what a stream reports of its own failures.
use Rattle.std.specs.Prelude.{◌≡◌, ℕ, ◌+◌, Bool, ◌&&◌, ◌==◌, not, Result, Ok, Err, Option, Some, None}
use Rattle.std.specs.IoError.{error_kind}
use Rattle.std.specs.declared.io.Error.{Error}
use Rattle.std.specs.declared.io.ErrorKind.{ErrorKind}
use Rattle.std.specs.declared.io.ErrorKind.TheVariants.{WriteZero}

-- an error, or nothing taken of a non-empty slice
abbrev pub failed_to_write : {E : Type 0} → Result ℕ E → ℕ → Bool
failed_to_write (Ok taken) given = (taken == 0) && not (given == 0)
failed_to_write (Err e) given = not (given == 0)

-- the cause of a call that has failed: that of its error, or that a write took nothing
abbrev pub cause_of : Result ℕ Error → ErrorKind
cause_of (Ok taken) = WriteZero
cause_of (Err e) = error_kind e

-- A stream may report how many of its reads and how many of its writes have failed. If it does so afterwards, it did so
-- before, and this many reads and this many writes have failed in between.
abbrev pub HaveFailed : Option (ℕ × ℕ) → Option (ℕ × ℕ) → ℕ → ℕ → Type 0
HaveFailed before None reads writes = Unit {0}
HaveFailed None (Some after) reads writes = ⊥
HaveFailed (Some before) (Some after) reads writes = (after.0 ≡ before.0 + reads) × (after.1 ≡ before.1 + writes)
