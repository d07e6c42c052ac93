-- The names of other modules that the proofs use, in one place.
pub use Rattle.byteorder.specs.Endian.{little_bytes, little_number}
pub use Rattle.std.proofs.Common.{◌≡◌, ℕ, zero, suc, ◌+◌, ◌*◌, ◌/◌, ◌%◌, ◌<◌, ◌≤◌, ◌^◌, ◌⊎◌, List, [], ◌∷◌, ◌++◌, length, get_or, refl, ap, sym, subst, ◌∙◌, append_assoc, arith, length-append, inl, inr, take, length-drop, length-take, ◌-◌, vec_len}
pub use Rattle.std.proofs.Math.Seq.{take-append_seam}
pub use Rattle.std.proofs.lemmas.List.{take-append-drop, append-nil}
pub use Rattle.std.specs.List.{concat, AllByRecursion}
pub use Rattle.wire.specs.Header.{IsHeader}
pub use Rattle.wire.specs.Held.{full_chunks, IsComplete}
pub use Rattle.wire.specs.Packet.{packet, packets, IsFullChunk}
pub use Rattle.wire.specs.Payload.{HasHeader, IsUnfinished, IsOutOfSequence, IsTooLarge, IsWholePayload}
pub use Rattle.wire.specs.Stream.{Ending, Held, OutOfSequence, TooLarge}
pub use Rattle.wire.specs.declared.unpacker.Unpacker.{Unpacker}
