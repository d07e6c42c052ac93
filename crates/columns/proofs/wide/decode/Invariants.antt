use Rattle.std.proofs.Common.{◌≤◌, length, string_bytes}
use Rattle.columns.proofs.Characters.{IsUpTo}
use Rattle.columns.proofs.wide.decode.Given as goal

abbrev pub invariant-loop-rest : goal.invariant-loop-rest
invariant-loop-rest l = (length l.rest ≤ length l.fn.bytes) × IsUpTo l.fn.form l.fn.bytes l.rest (string_bytes l.text)

abbrev pub decreases-loop-rest : goal.decreases-loop-rest
decreases-loop-rest l = length l.rest
