use Rattle.std.proofs.lemmas.Result.{err_from_is_err_and}
use Rattle.gtid.proofs.TextMeaning.{is_read, only_read, written_fault, text_fault, items_of_spans}
use Rattle.gtid.proofs.set.GtidSet.parse.Goals as goal

pub returns-in-Err-clause-fault : goal.returns-in-Err-clause-fault
returns-in-Err-clause-fault c = text_fault c.args.text.now c.in-Err.offset (rw c.as_bytes-bytes.ensures.value at c.in-Err.ensures.err)

pub returns-in_err-spans-clause-fault : goal.returns-in_err-spans-clause-fault
returns-in_err-spans-clause-fault c =
    let p = err_from_is_err_and c.from_residual.result c.from_residual.ensures.1 in
    rw (p.1, p.2) (written_fault c.args.text.now c.in_err-spans.field-0.0 (rw c.as_bytes-bytes.ensures.value at c.in_default.ensures.ok) (rw c.as_bytes-bytes.ensures.value at c.in_err-spans.ensures.err))

pub returns-clause-found : goal.returns-clause-found
returns-clause-found c =
    is_read c.args.text.now c.in_ok-spans.spans.items c.in_ok-groups.groups.items (rw c.as_bytes-bytes.ensures.value at c.in_default.ensures.ok)
    (rw c.as_bytes-bytes.ensures.value at c.in_ok-spans.ensures.ok) c.in_ok-groups.ensures.ok

pub returns-clause-only : goal.returns-clause-only
returns-clause-only c =
    only_read c.args.text.now c.in_ok-spans.spans.items c.in_ok-groups.groups.items (rw c.as_bytes-bytes.ensures.value at c.in_ok-spans.ensures.ok) c.in_ok-groups.ensures.ok

pub returns-in_err-spans-clause-memory : goal.returns-in_err-spans-clause-memory
returns-in_err-spans-clause-memory c =
    let g = rw c.as_bytes-bytes.ensures.value at c.in_default.ensures.ok in
    let some = rw c.as_bytes-bytes.ensures.value at c.in_err-spans.ensures.some in
    rw (err_from_is_err_and c.from_residual.result c.from_residual.ensures.1).1
    (λ memory. record { items = g.items; is_list = g.is_list; some = some g.items g.is_list })

pub returns-in_err-groups-clause-memory : goal.returns-in_err-groups-clause-memory
returns-in_err-groups-clause-memory c =
    let g = rw c.as_bytes-bytes.ensures.value at c.in_default.ensures.ok in
    let read = rw c.as_bytes-bytes.ensures.value at c.in_ok-spans.ensures.ok in
    rw (err_from_is_err_and c.from_residual-in_err-groups.result c.from_residual-in_err-groups.ensures.1).1
    (λ memory. record { items = g.items; is_list = g.is_list; some = items_of_spans g.items c.in_ok-spans.spans.items (read g.items g.is_list).1 c.in_err-groups.ensures.some })
