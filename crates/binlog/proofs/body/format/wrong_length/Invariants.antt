use Rattle.std.proofs.Common.{◌≡◌, drop}
use Rattle.binlog.specs.Fault.{first_of}
use Rattle.binlog.specs.Body.{length_refusals, read_lengths}
use Rattle.binlog.proofs.body.format.wrong_length.Given as goal

abbrev pub invariant-loop-code : goal.invariant-loop-code
invariant-loop-code l = first_of (length_refusals l.bytes read_lengths) ≡ first_of (length_refusals l.bytes (drop l.code-index read_lengths))
