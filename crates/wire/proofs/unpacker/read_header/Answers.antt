use Rattle.wire.proofs.Names.{◌≡◌, get_or, refl, sym, ◌∙◌, arith, little_number}
use Rattle.wire.proofs.HeaderBytes.{is_header}
use Rattle.wire.proofs.unpacker.read_header.Goals as goal

pub returns-then-got-id-clause-sequence : goal.returns-then-got-id-clause-sequence
returns-then-got-id-clause-sequence c want got equal =
    let w : c.args.id ≡ want = cc in
    let g : get_or c.args.header.now 3 0 ≡ got = cc in
    (sym w, (λ e. c.if-got-id.true (g ∙ e)), little_number 3 c.args.header.now, is_header c.args.header.now _ got c.requires (λ i. omega (arith, c.type_inv.header i)) refl (sym g))

pub returns-then-size-room-clause-too_large : goal.returns-then-size-room-clause-too_large
returns-then-size-room-clause-too_large c equal =
    (c.read_u24-size.result, c.if-size-room.true, is_header c.args.header.now _ c.args.id c.requires (λ i. omega (arith, c.type_inv.header i)) c.read_u24-size.ensures (omega arith))

pub returns-clause-ok : goal.returns-clause-ok
returns-clause-ok c =
    (is_header c.args.header.now _ c.args.id c.requires (λ i. omega (arith, c.type_inv.header i)) c.read_u24-size.ensures (omega arith), c.if-size-room.false)
