use Rattle.scripted_source.proofs.Names.{◌∙◌, ◌≡◌, refl, sym, inl, subst, length, IfOk-from_err, IsWritable, part_value}
use Rattle.std.proofs.lemmas.List.{length-map}
use Rattle.binlog.specs.Row.{kinds}
use Rattle.binlog.specs.RowsView.{rows_value}
use Rattle.binlog.specs.Event.{rows}
use Rattle.scripted_source.specs.Script.{rows_of}
use Rattle.scripted_source.proofs.Packings.{on_ok, too_long, no_rows, memory_failed, rows_are, RowsSent, rows_sent}
use Rattle.scripted_source.proofs.sending.send_rows.Goals as goal

pub returns-in_err-bytes-clause-ok : goal.returns-in_err-bytes-clause-ok
returns-in_err-bytes-clause-ok c = IfOk-from_err c.from_residual.result _ c.from_residual.ensures.0

pub returns-in_err-bytes-clause-event : goal.returns-in_err-bytes-clause-event
returns-in_err-bytes-clause-event c = IfOk-from_err c.from_residual.result _ c.from_residual.ensures.0

pub returns-in_err-bytes-clause-short : goal.returns-in_err-bytes-clause-short
returns-in_err-bytes-clause-short c = IfOk-from_err c.from_residual.result _ c.from_residual.ensures.0

pub returns-in_err-bytes-clause-err : goal.returns-in_err-bytes-clause-err
returns-in_err-bytes-clause-err c = memory_failed _ c.from_residual.result c.in_err-bytes.field-0.0 c.from_residual.ensures.1 c.in_err-bytes.ensures.err

pub send_event-requires : goal.send_event-requires
send_event-requires c = subst (λ r. IsWritable (rows r)) (sym c.in-Some.ensures.values) (c.in-Some.ensures.in_range.0 refl)

value_is : (c : goal.After-drop-bytes) → rows_value c.in-Some.event ≡ rows_of (part_value c.args.part.now)
value_is c =
    let columns : c.len.result ≡ length (kinds c.args.part.now.table.types.items) = c.len.ensures ∙ (c.args.part.now.table.types.ok.0 ∙ sym (length-map c.args.part.now.table.types.items (λ t. t.kind))) in
    rows_are (part_value c.args.part.now) c.len.result c.deref.result.now (rows_value c.in-Some.event) columns (c.deref.ensures.value ∙ c.in_ok-bytes.ensures.ok) c.in-Some.ensures.values

is_sent : (c : goal.After-drop-bytes) → RowsSent c.send_event.result c.args.sequence c.args.out.now.items c.send_event.new.out.items (rows_of (part_value c.args.part.now))
is_sent c =
    rows_sent c.send_event.result c.args.sequence c.args.out.now.items c.send_event.new.out.items (rows_value c.in-Some.event) (rows_of (part_value c.args.part.now)) (value_is c)
    (record { ok = c.send_event.ensures.ok; short = c.send_event.ensures.short; err = c.send_event.ensures.err })

pub returns-in-Some-clause-ok : goal.returns-in-Some-clause-ok
returns-in-Some-clause-ok c = (is_sent c).ok

pub returns-in-Some-clause-event : goal.returns-in-Some-clause-event
returns-in-Some-clause-event c =
    on_ok c.send_event.result (subst (λ r. IsWritable (rows r)) (sym c.in-Some.ensures.values ∙ value_is c) (c.in-Some.ensures.in_range.0 refl))

pub returns-in-Some-clause-short : goal.returns-in-Some-clause-short
returns-in-Some-clause-short c = (is_sent c).short

pub returns-in-Some-clause-err : goal.returns-in-Some-clause-err
returns-in-Some-clause-err c = (is_sent c).err

pub returns-clause-err : goal.returns-clause-err
returns-clause-err c =
    let columns : c.len.result ≡ length (kinds c.args.part.now.table.types.items) = c.len.ensures ∙ (c.args.part.now.table.types.ok.0 ∙ sym (length-map c.args.part.now.table.types.items (λ t. t.kind))) in
    inl (refl, too_long (part_value c.args.part.now) c.requires (no_rows (part_value c.args.part.now) c.len.result c.deref.result.now columns (c.deref.ensures.value ∙ c.in_ok-bytes.ensures.ok) c.in-None.ensures.in_range.1))
