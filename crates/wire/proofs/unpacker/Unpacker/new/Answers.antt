use Rattle.std.proofs.Common.{◌*◌, drop, ap, ◌∙◌}
use Rattle.std.proofs.Math.Seq.{drop-nil}
use Rattle.wire.specs.Packet.{full_chunk}
use Rattle.wire.specs.Held.{held_of}
use Rattle.wire.proofs.unpacker.Unpacker.new.Goals as goal

pub returns-clause-held : goal.returns-clause-held
unfolding held_of
returns-clause-held c = ap (drop (0 * full_chunk)) c.new.ensures.items ∙ drop-nil (0 * full_chunk)
