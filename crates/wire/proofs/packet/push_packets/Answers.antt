use Rattle.wire.proofs.Names.{◌++◌, refl, sym, ◌∙◌, arith, take-append-drop}
use Rattle.wire.specs.Packet.{full_chunk}
use Rattle.wire.proofs.Packets.{packed_more, packed_last}
use Rattle.wire.proofs.packet.push_packets.Goals as goal

pub loop-rest-preserved : goal.loop-rest-preserved
unfolding full_chunk
loop-rest-preserved c = record {
  packed = packed_more c.loop-rest.invariant.packed c.split_at.result.0.now c.split_at.result.1.now c.push_packet.new.out.items _
      c.split_at.ensures.front_len (sym ((λ i. c.split_at.ensures.front i ++ c.split_at.ensures.back i) ∙ take-append-drop 16777215 c.loop-rest.rest.now)) c.push_packet.ensures.packet refl;
  room = omega (arith, c.split_at.ensures.front_len, c.split_at.ensures.back_len, c.push_packet.ensures.len);
}

pub returns : goal.returns
unfolding full_chunk
returns c =
    packed_last c.loop-rest.invariant.packed c.push_packet-2.new.out.items _ (omega arith) c.push_packet-2.ensures.packet refl
