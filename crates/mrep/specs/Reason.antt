-- The exit statuses of connections.
use Rattle.std.specs.Prelude.{ℕ, ◌≡◌, ◌==◌, ◌⊎◌, if◌then◌else◌, List, [], ◌∷◌, ◌++◌, Result, Err}
use Rattle.replica.specs.declared.session.end.Reason.{Reason}
use Rattle.replica.specs.declared.session.end.Reason.TheVariants.{EndOfInput, SourceEof, SourceError, Wire, Greet, Event, Gather, Refused, Database, Memory, ReadFailed, WriteFailed, Halted, Until}
use Rattle.replica.specs.declared.session.end.Ended.{Ended}
use Rattle.mrep.specs.declared.report.failure.Failure.{Failure}
use Rattle.mrep.specs.declared.report.failure.Failure.TheVariants as failure
use Rattle.mrep.specs.declared.report.failure.FailureKind.TheVariants as kinds

-- 0 if the input or the source's log has ended, or all that is waited for is executed, 1 for a refusal by the source or because of what its data says, 3 for a
-- file, a socket, the database or the change feed, 4 if memory ran out
abbrev pub status_of : Reason → ℕ
status_of EndOfInput = 0
status_of SourceEof = 0
status_of (SourceError code state message) = 1
status_of (Wire fault) = 1
status_of (Greet fault) = 1
status_of (Event fault) = 1
status_of (Gather fault) = 1
status_of (Refused refusal) = 1
status_of (Database cause) = 3
status_of Memory = 4
status_of ReadFailed = 3
status_of WriteFailed = 3
status_of Halted = 3
status_of Until = 0

-- the first status that is not 0, or 0 if there is none
unfoldable pub first_status : List Ended → ℕ
first_status [] = 0
first_status (end ∷ ends) = if status_of end.reason == 0 then first_status ends else status_of end.reason

-- a connection that was stopped for what failed: a row that does not fit the description, or memory
abbrev pub StopsForFailure : {T : Type 0} → Ended → Result T Failure → Type 0
StopsForFailure last (Err (failure.Told kinds.Misfit message)) = last.reason ≡ Halted
StopsForFailure last (Err failure.Memory) = last.reason ≡ Halted
StopsForFailure last _ = ⊥

-- all connections but a last one that was stopped for what failed, if there is one
abbrev pub IsCounted : {T : Type 0} → List Ended → Result T Failure → List Ended → Type 0
IsCounted all done counted = ((last : Ended) × (all ≡ counted ++ (last ∷ [])) × StopsForFailure last done)
    ⊎ ((counted ≡ all) × ((before : List Ended) → (last : Ended) → all ≡ before ++ (last ∷ []) → StopsForFailure last done → ⊥))
