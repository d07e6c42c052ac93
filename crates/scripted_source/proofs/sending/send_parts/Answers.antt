use Rattle.scripted_source.proofs.Names.{err_from_is_err_and, part_values}
use Rattle.scripted_source.proofs.Packings.{sending_begins, sending_more, sending_fault, sending_ends}
use Rattle.scripted_source.proofs.sending.send_parts.Goals as goal

pub loop-part-init : goal.loop-part-init
loop-part-init c = sending_begins c.args.sequence c.args.out.now.items c.args.at (part_values c.args.parts.now)

pub returns-in_err-next-clause-err : goal.returns-in_err-next-clause-err
returns-in_err-next-clause-err c =
    let p = err_from_is_err_and c.from_residual.result c.from_residual.ensures.1 in
    rw (p.1, p.2)
    (sending_fault c.args.sequence c.loop-part.next c.args.out.now.items c.loop-part.out.items c.args.at (part_values c.args.parts.now) c.args.parts.now c.loop-part.part-index c.part-item.result c.in_err-next.field-0.0
    c.loop-part-test.true c.part-item.is c.loop-part.invariant c.in_err-next.ensures.err)

pub loop-part-preserved : goal.loop-part-preserved
loop-part-preserved c =
    sending_more c.args.sequence c.loop-part.next c.in_ok-next.next c.args.out.now.items c.loop-part.out.items c.send_part.new.out.items c.args.at (part_values c.args.parts.now) c.args.parts.now c.loop-part.part-index
    c.part-item.result c.loop-part-test.true c.part-item.is c.loop-part.invariant c.in_ok-next.ensures.ok c.in_ok-next.ensures.can

pub returns-clause-ok : goal.returns-clause-ok
returns-clause-ok c = (sending_ends c.args.sequence c.loop-part.next c.args.out.now.items c.loop-part.out.items c.args.at (part_values c.args.parts.now) c.args.parts.now c.loop-part.part-index c.loop-part-test.false c.loop-part.invariant).sent

pub returns-clause-can : goal.returns-clause-can
returns-clause-can c = (sending_ends c.args.sequence c.loop-part.next c.args.out.now.items c.loop-part.out.items c.args.at (part_values c.args.parts.now) c.args.parts.now c.loop-part.part-index c.loop-part-test.false c.loop-part.invariant).can
