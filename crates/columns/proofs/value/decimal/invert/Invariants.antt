use Rattle.std.proofs.Common.{◌≡◌, ◌-◌, ◌++◌, take, drop, map}
use Rattle.columns.proofs.value.decimal.invert.Given as goal

abbrev pub invariant-loop-byte : goal.invariant-loop-byte
invariant-loop-byte l = l.bytes ≡ map (λ b. 255 - b) (take l.byte-index l.initial.bytes) ++ drop l.byte-index l.initial.bytes
