use Rattle.gtid.proofs.BytesSoFar.{ReadGroups}
use Rattle.gtid.proofs.decoding.read_groups.Given as goal

abbrev pub invariant-loop-done : goal.invariant-loop-done
invariant-loop-done l = ReadGroups l.groups.items l._done l.before l.rest l.initial.rest
