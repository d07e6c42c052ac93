use Rattle.binlog.proofs.Names.{◌∙◌, sym, none-some, event_value}
use Rattle.binlog.specs.EventView.{filter_of}
use Rattle.binlog.proofs.Events.{answered, if_event, if_err_by, after_header, header_refused, event_not_refused}
use Rattle.binlog.proofs.event.read.Goals as goal

pub returns-in-Ok-clause-fault : goal.returns-in-Ok-clause-fault
returns-in-Ok-clause-fault c =
    let names = filter_of c.args.filter in
    let h = c.in-Ok.header in
    if_err_by c.read_body.result _ _ (after_header names h.code h.may_ignore _ c.args.bytes.now c.in-Ok.ensures.found) c.read_body.ensures.fault

pub returns-in-Ok-clause-only : goal.returns-in-Ok-clause-only
returns-in-Ok-clause-only c =
    let names = filter_of c.args.filter in
    let h = c.in-Ok.header in
    answered names c.args.bytes.now event_value c.read_body.result
    (if_event names event_value c.read_body.result h.code h.may_ignore c.args.bytes.now c.in-Ok.ensures.found c.read_body.ensures.found)
    (if_err_by c.read_body.result _ _ (after_header names h.code h.may_ignore _ c.args.bytes.now c.in-Ok.ensures.found) c.read_body.ensures.fault)

pub returns-in-Err-clause-fault : goal.returns-in-Err-clause-fault
returns-in-Err-clause-fault c = header_refused (filter_of c.args.filter) c.args.bytes.now c.in-Err.fault c.in-Err.ensures.fault

pub returns-in-Err-clause-only : goal.returns-in-Err-clause-only
returns-in-Err-clause-only c e is =
    let names = filter_of c.args.filter in
    none-some _ (sym (event_not_refused names e c.args.bytes.now is) ∙ header_refused names c.args.bytes.now c.in-Err.fault c.in-Err.ensures.fault)
