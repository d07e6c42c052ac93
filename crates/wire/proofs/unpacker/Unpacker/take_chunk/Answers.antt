use Rattle.std.proofs.Common.{◌≡◌, ℕ, ◌+◌, ◌-◌, ◌*◌, ◌≤◌, List, ◌++◌, length, take, refl, ap, ◌∙◌, arith, inl, inr, length-append, length-take, lit<, is_ok, vec_len}
use Rattle.wire.specs.Packet.{full_chunk}
use Rattle.wire.specs.declared.unpacker.Unpacker.{Unpacker}
use Rattle.wire.proofs.UnpackerState.{held_of-chunk, held_of-full}
use Rattle.wire.proofs.unpacker.Unpacker.take_chunk.Goals as goal

-- how much longer the payload is
longer : (items new bytes : List ℕ) (used : ℕ) → used ≤ length bytes → new ≡ items ++ take used bytes → length new ≡ length items + used
longer items new bytes used fits is = ap length is ∙ omega (arith, length-append items (take used bytes), length-take used bytes)

pub returns-then-len-from-clause-takes : goal.returns-then-len-from-clause-takes
unfolding full_chunk
returns-then-len-from-clause-takes c =
    let h = c.requires.chunk in
    let old = c.args.self.now in
    let used = c.min-used.result in
    let fits : used ≤ length c.args.bytes.now = omega (arith, c.min-used.ensures) in
    let items : c.extend_from_slice.new.self.items ≡ old.payload.items ++ take used c.args.bytes.now = rw (ap is_ok c.unwrap.ensures) at c.extend_from_slice.ensures.items in
    let len : vec_len c.extend_from_slice.new.self ≡ vec_len old.payload + length (take used c.args.bytes.now) = rw (ap is_ok c.unwrap.ensures) at c.extend_from_slice.ensures.len in
    let sized = longer old.payload.items c.extend_from_slice.new.self.items c.args.bytes.now used fits items in
    let mid : Unpacker = record old { left = old.left - used; payload = c.extend_from_slice.new.self } in
    let long : length c.extend_from_slice.new.self.items ≡ (old.full + 1) * full_chunk = omega (arith, c.extend_from_slice.new.self.ok, c.if-len-from.true, c.len.ensures, c.from.ensures) in
    let is_full : h.size ≡ full_chunk = omega (arith, h.sum, h.header.a_size, sized, long, c.min-used.ensures) in
    record {
      in_range = fits;
      limit = refl;
      due = refl;
      stands = inl (record { sized = ap length h.header.bytes_are; open_header = lit< tt; whole_chunks = long; within = omega (arith, h.within, sized, c.min-used.ensures) });
      held = held_of-full mid _ h.size h.whole_header h.header is_full long refl refl refl refl
          ∙ held_of-chunk old mid (take used c.args.bytes.now) (omega (arith, h.sum, h.left)) refl refl refl refl items;
    }

pub returns-else-len-from-clause-takes : goal.returns-else-len-from-clause-takes
unfolding full_chunk
returns-else-len-from-clause-takes c =
    let h = c.requires.chunk in
    let old = c.args.self.now in
    let used = c.min-used.result in
    let fits : used ≤ length c.args.bytes.now = omega (arith, c.min-used.ensures) in
    let items : c.extend_from_slice.new.self.items ≡ old.payload.items ++ take used c.args.bytes.now = rw (ap is_ok c.unwrap.ensures) at c.extend_from_slice.ensures.items in
    let len : vec_len c.extend_from_slice.new.self ≡ vec_len old.payload + length (take used c.args.bytes.now) = rw (ap is_ok c.unwrap.ensures) at c.extend_from_slice.ensures.len in
    let sized = longer old.payload.items c.extend_from_slice.new.self.items c.args.bytes.now used fits items in
    record {
      in_range = fits;
      limit = refl;
      due = refl;
      stands = inr (record {
        size = h.size;
        whole_header = h.whole_header;
        header = h.header;
        sum = omega (arith, h.sum, sized, c.min-used.ensures);
        left = omega (arith, h.left);
        short = λ e. omega (arith, e, h.sum, h.header.a_size, sized, c.min-used.ensures, c.extend_from_slice.new.self.ok, c.if-len-from.false, c.len.ensures, c.from.ensures);
        within = omega (arith, h.within, sized, c.min-used.ensures);
        room = omega (arith, h.room, c.extend_from_slice.ensures.capacity, len, length-take used c.args.bytes.now, fits);
      });
      held = held_of-chunk old _ (take used c.args.bytes.now) (omega (arith, h.sum, h.left)) refl refl refl refl items;
    }
