use Rattle.std.proofs.Common.{◌≡◌, ◌+◌, ◌-◌, ◌^◌, min, length, drop, take, flat_map}
use Rattle.greet.proofs.parts.parts_length.Given as goal

abbrev pub invariant-loop-part : goal.invariant-loop-part
invariant-loop-part l = l.sum ≡ min (length (flat_map (λ part. part.now) (take l.part-index l.parts))) (2 ^ 64 - 1)
