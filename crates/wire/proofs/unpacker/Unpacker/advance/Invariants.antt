use Rattle.std.proofs.Common.{◌-◌, ◌<◌, length}
use Rattle.wire.specs.Held.{Consumes, IsComplete}
use Rattle.wire.proofs.unpacker.Unpacker.advance.Given as goal

abbrev pub invariant-loop-used : goal.invariant-loop-used
invariant-loop-used l = record {
  taken : Consumes l.fn.self l.self l.bytes l.used;
  moved : IsComplete l.self → 0 < l.used;
}

abbrev pub decreases-loop-used : goal.decreases-loop-used
decreases-loop-used l = length l.bytes - l.used
