use Rattle.wire.proofs.Names.{◌≡◌, ◌+◌, ◌%◌, length, take, refl, ap, subst, ◌∙◌, arith, inl, inr, HasHeader, IsOutOfSequence, IsTooLarge, Unpacker}
use Rattle.std.proofs.Common.{drop}
use Rattle.std.proofs.lemmas.Result.{err_from_is_err_and}
use Rattle.wire.specs.Packet.{full_chunk}
use Rattle.wire.specs.Held.{held_of}
use Rattle.wire.proofs.UnpackerState.{held_of-header, rejoined, header_held, ends_later, out_of_sequence, too_large}
use Rattle.wire.proofs.unpacker.Unpacker.take_header.Goals as goal

pub returns-then-self-lt-HEADER_LENGTH-clause-ok : goal.returns-then-self-lt-HEADER_LENGTH-clause-ok
returns-then-self-lt-HEADER_LENGTH-clause-ok c =
    let h = c.requires.header in
    record {
      in_range = c.fill-used.ensures.used;
      limit = refl;
      due = refl;
      stands = inl (record { sized = omega (arith, c.fill-used.auto.header, h.sized); open_header = c.if-self-lt-HEADER_LENGTH.true; whole_chunks = h.whole_chunks; within = h.within });
      held = held_of-header c.args.self.now _ (take c.fill-used.result c.args.bytes.now) h.whole_chunks refl refl refl c.fill-used.ensures.filled;
    }

pub returns-in_err-self-clause-sequence : goal.returns-in_err-self-clause-sequence
returns-in_err-self-clause-sequence c want got equal =
    let h = c.requires.header in
    let old = c.args.self.now in
    let used = c.fill-used.result in
    let p = err_from_is_err_and c.from_residual.result c.from_residual.ensures.1 in
    let q = c.in_err-self.ensures.sequence want got (cc) in
    let mid : Unpacker = record old { header = c.fill-used.new.header; filled = old.filled + used } in
    let filled : mid.filled ≡ 4 = omega arith in
    subst (λ b. IsOutOfSequence old.due old.limit b want got)
    (rejoined (held_of old) (held_of mid) c.args.bytes.now used
    (held_of-header old mid (take used c.args.bytes.now) h.whole_chunks refl refl refl c.fill-used.ensures.filled))
    (out_of_sequence mid q.2 want got (drop used c.args.bytes.now) h.whole_chunks h.within filled q.3 q.0 (λ e. q.1 (e ∙ q.0)))

pub returns-in_err-self-clause-too_large : goal.returns-in_err-self-clause-too_large
returns-in_err-self-clause-too_large c equal =
    let h = c.requires.header in
    let old = c.args.self.now in
    let used = c.fill-used.result in
    let p = err_from_is_err_and c.from_residual.result c.from_residual.ensures.1 in
    let q = c.in_err-self.ensures.too_large (cc) in
    let mid : Unpacker = record old { header = c.fill-used.new.header; filled = old.filled + used } in
    let filled : mid.filled ≡ 4 = omega arith in
    subst (λ b. IsTooLarge old.due old.limit b)
    (rejoined (held_of old) (held_of mid) c.args.bytes.now used
    (held_of-header old mid (take used c.args.bytes.now) h.whole_chunks refl refl refl c.fill-used.ensures.filled))
    (too_large mid q.0 (drop used c.args.bytes.now) h.whole_chunks h.within filled q.2 (omega (arith, q.1)))

pub returns-clause-ok : goal.returns-clause-ok
unfolding full_chunk
returns-clause-ok c =
    let h = c.requires.header in
    let items = c.in_ok-reserve.ensures.items in
    let ok = c.in_ok-self.ensures.ok in
    record {
      in_range = c.fill-used.ensures.used;
      limit = refl;
      due = refl;
      stands = inr (record {
        size = c.in_ok-self.field-0;
        whole_header = omega arith;
        header = ok.0;
        sum = omega (arith, ap length items, h.whole_chunks);
        left = omega arith;
        short = λ e. omega (arith, e);
        within = omega (arith, ap length items, h.within, ok.1);
        room = omega (arith, c.in_ok-reserve.ensures.ok);
      });
      held = held_of-header c.args.self.now _ (take c.fill-used.result c.args.bytes.now) h.whole_chunks refl refl items c.fill-used.ensures.filled;
    }

pub returns-in_err-reserve-clause-memory : goal.returns-in_err-reserve-clause-memory
returns-in_err-reserve-clause-memory c equal =
    let h = c.requires.header in
    let old = c.args.self.now in
    let used = c.fill-used.result in
    let size = c.in_ok-self.field-0 in
    let ok = c.in_ok-self.ensures.ok in
    let mid : Unpacker = record old { header = c.fill-used.new.header; filled = old.filled + used } in
    let filled : mid.filled ≡ 4 = omega arith in
    record {
      before = old.full;
      size = size;
      header = subst (λ b. HasHeader old.due old.limit b old.full size ((old.due + old.full) % 256))
          (rejoined (held_of old) (held_of mid) c.args.bytes.now used
          (held_of-header old mid (take used c.args.bytes.now) h.whole_chunks refl refl refl c.fill-used.ensures.filled))
          (header_held mid size _ (drop used c.args.bytes.now) h.whole_chunks h.within filled ok.0);
      fits = omega (arith, h.whole_chunks, h.within, ok.1);
      some = omega (arith, c.in_err-reserve.ensures.full);
      ends_now = ends_later old h;
    }
