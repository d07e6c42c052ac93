use Rattle.std.proofs.Common.{◌≡◌, ◌≤◌, ◌+◌, ◌++◌, length, take, flat_map}
use Rattle.std.specs.Prelude.{vec_len, vec_capacity}
use Rattle.greet.proofs.parts.append.Given as goal

abbrev pub invariant-loop-part : goal.invariant-loop-part
invariant-loop-part l =
    (l.out.items ≡ l.fn.out.items ++ flat_map (λ part. part.now) (take l.part-index l.parts)) × (vec_len l.fn.out + length (flat_map (λ part. part.now) l.parts) ≤ vec_capacity l.out)
