use Rattle.scripted_source.proofs.Names.{[], subst, ℕ, List, ◌∷◌, err_from_is_err_and, script_values}
use Rattle.binlog.proofs.EventBytes.{writes_format}
use Rattle.binlog.specs.Event.{format}
use Rattle.scripted_source.specs.Source.{AppendsPackings, payloads_of}
use Rattle.scripted_source.proofs.Packings.{answered, request_refused, script_refused}
use Rattle.scripted_source.proofs.answering.answer.Goals as goal

pub returns-in_err-once-clause-err : goal.returns-in_err-once-clause-err
returns-in_err-once-clause-err c =
    let p = err_from_is_err_and c.from_residual.result c.from_residual.ensures.1 in
    rw (p.1, p.2) (request_refused (script_values c.args.history.now) c.args.request.now c.in_err-once.field-0.0 c.in_err-once.ensures.err c.in_err-once.ensures.only)

pub send_short-requires-clause-event : goal.send_short-requires-clause-event
send_short-requires-clause-event c = writes_format

pub returns-in_err-next-2-clause-err : goal.returns-in_err-next-2-clause-err
returns-in_err-next-2-clause-err c =
    let p = err_from_is_err_and c.from_residual-in_err-next-2.result c.from_residual-in_err-next-2.ensures.1 in
    rw (p.1, p.2) (script_refused (script_values c.args.history.now) c.args.request.now c.in_ok-once.once c.in_ok-once.executed c.in_err-next-2.field-0.0 c.in_ok-once.ensures.found c.in_err-next-2.ensures.err)

pub returns-clause-ok : goal.returns-clause-ok
returns-clause-ok c =
    answered (script_values c.args.history.now) c.args.request.now c.in_ok-once.once c.in_ok-once.executed c.send_short.new.out.items c.send_due.new.out.items c.send_last.new.out.items c.in_ok-next.next c.in_ok-next-2.next
    c.in_ok-send_last.field-0 c.in_ok-once.ensures.found c.in_ok-next-2.ensures.can
    (subst (λ (l : List ℕ). AppendsPackings 1 (payloads_of (format ∷ [])) l c.send_short.new.out.items c.in_ok-next.next) c.new-out.ensures.items c.in_ok-next.ensures.ok) c.in_ok-next-2.ensures.ok c.in_ok-send_last.ensures.ok
