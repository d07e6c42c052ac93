use Rattle.std.proofs.Common.{◌≡◌, ◌+◌, ◌++◌, take}
use Rattle.wire.proofs.unpacker.fill.Given as goal

abbrev pub invariant-loop-i : goal.invariant-loop-i
invariant-loop-i l = take (l.filled + l.i) l.header ≡ take l.filled l.fn.header ++ take l.i l.bytes
