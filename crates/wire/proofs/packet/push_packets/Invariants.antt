use Rattle.std.proofs.Common.{◌+◌, ◌≤◌, length, vec_len, vec_capacity}
use Rattle.wire.specs.Packet.{packing_length}
use Rattle.wire.proofs.Packets.{Packed}
use Rattle.wire.proofs.packet.push_packets.Given as goal

-- what has been written is a packing so far, and there is room for the rest
abbrev pub invariant-loop-rest : goal.invariant-loop-rest
invariant-loop-rest l = record {
  packed : Packed l.sequence l.payload l.fn.out.items l.out.items l.rest l.id;
  room : vec_len l.out + packing_length (length l.rest) ≤ vec_capacity l.out;
}

abbrev pub decreases-loop-rest : goal.decreases-loop-rest
decreases-loop-rest l = length l.rest
