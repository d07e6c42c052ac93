use Rattle.gtid.proofs.Names.{◌∙◌, ap, refl, [], err_from_is_err_and, judge, collected, Source}
use Rattle.gtid.proofs.TextFaults.{judged_range}
use Rattle.gtid.proofs.TextItems.{zeros, err_exit, reads_list, some_items}
use Rattle.gtid.proofs.reading.read_spans.Goals as goal

pub returns-in_err-left-clause-err : goal.returns-in_err-left-clause-err
returns-in_err-left-clause-err c =
    let p = err_from_is_err_and c.from_residual.result c.from_residual.ensures.1 in
    rw (p.1, p.2) (err_exit c.args.text.now zeros _ c.in_err-left.field-0.0 refl c.in_err-left.ensures.err
    (λ is. c.loop-after.invariant ∙ ap (judge c.loop-after.spans.items) c.in-Some.ensures.some ∙ is))

pub returns-clause-ok : goal.returns-clause-ok
returns-clause-ok c =
    reads_list c.args.text.now _ c.loop-after.spans.items refl (c.loop-after.invariant ∙ ap (judge c.loop-after.spans.items) c.in_default.ensures.none)

pub returns-clause-range : goal.returns-clause-range
returns-clause-range c =
    judged_range [] c.loop-after.spans.items (collected (Source 0) zeros c.args.text.now)
    (c.loop-after.invariant ∙ ap (judge c.loop-after.spans.items) c.in_default.ensures.none) tt

pub returns-in_err-left-clause-some : goal.returns-in_err-left-clause-some
returns-in_err-left-clause-some c =
    rw (err_from_is_err_and c.from_residual.result c.from_residual.ensures.1).1
    (λ items is. some_items c.args.text.now c.loop-after.spans.items _ items is (c.loop-after.invariant ∙ ap (judge c.loop-after.spans.items) c.in-Some.ensures.some) c.in_err-left.ensures.some)
