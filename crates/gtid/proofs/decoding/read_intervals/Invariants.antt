use Rattle.gtid.proofs.BytesSoFar.{ReadIntervals}
use Rattle.gtid.proofs.decoding.read_intervals.Given as goal

abbrev pub invariant-loop-done : goal.invariant-loop-done
invariant-loop-done l = ReadIntervals l.intervals.items l._done l.after l.rest l.fn.bytes
