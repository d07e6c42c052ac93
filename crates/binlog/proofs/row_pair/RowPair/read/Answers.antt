use Rattle.binlog.proofs.Names.{◌≡◌, ◌≤◌, Err, length, take, sym, ap, subst, ◌∙◌, arith, length-drop, take_rest, err_from_is_err_and, kinds, pair_end, IsBytes-drop}
use Rattle.std.proofs.Common.{drop}
use Rattle.std.specs.Result.{IfErr}
use Rattle.binlog.specs.Row.{IsRow, row_end}
use Rattle.binlog.specs.Rows.{inserted, deleted, pair_of}
use Rattle.binlog.proofs.RowsItems.{row_early, row_front, both_rows, early_second}
use Rattle.binlog.proofs.row_pair.RowPair.read.Goals as goal

pub returns-in_err-row-clause-fault_within : goal.returns-in_err-row-clause-fault_within
returns-in_err-row-clause-fault_within c =
    let p = err_from_is_err_and c.from_residual.result c.from_residual.ensures.1 in
    let early = row_early (kinds c.args.types.now) c.args.bytes.now c.in_err-row.field-0.0 (λ i. omega (arith, c.type_inv.bytes i)) c.in_err-row.ensures.fault in
    let same : p.0 ≡ c.in_err-row.field-0.0 = p.2 in
    subst (λ r. IfErr r (λ place. place ≤ length c.args.bytes.now)) (sym p.1) (omega (arith, early, same))

pub overflow_add-result-in-Err : goal.overflow_add-result-in-Err
overflow_add-result-in-Err c =
    let rest = drop c.in_ok-row.size c.args.bytes.now in
    let end : row_end (kinds c.args.types.now) rest ≡ Err c.in-Err.place = ap (row_end (kinds c.args.types.now)) (sym (take_rest c.args.bytes.now c.in_ok-row.size)) ∙ c.in-Err.ensures.fault in
    let early = row_early (kinds c.args.types.now) rest c.in-Err.place (IsBytes-drop c.in_ok-row.size c.args.bytes.now (λ i. omega (arith, c.type_inv.bytes i))) end in
    omega (arith, early, c.requires, c.in_ok-row.ensures.within, length-drop c.in_ok-row.size c.args.bytes.now)

pub returns-in-Write-clause-pair : goal.returns-in-Write-clause-pair
returns-in-Write-clause-pair c = ap inserted (sym (row_front (kinds c.args.types.now) c.in_ok-row.row c.args.bytes.now c.in_ok-row.size c.in_ok-row.ensures.within c.in_ok-row.ensures.found).1) ∙ ap (λ k. pair_of k (kinds c.args.types.now) c.args.bytes.now) (sym c.in-Write.is)

pub returns-in-Write-clause-end : goal.returns-in-Write-clause-end
returns-in-Write-clause-end c = ap (λ k. pair_end k (kinds c.args.types.now) c.args.bytes.now) c.in-Write.is ∙ (row_front (kinds c.args.types.now) c.in_ok-row.row c.args.bytes.now c.in_ok-row.size c.in_ok-row.ensures.within c.in_ok-row.ensures.found).0

pub returns-in-Delete-clause-pair : goal.returns-in-Delete-clause-pair
returns-in-Delete-clause-pair c = ap deleted (sym (row_front (kinds c.args.types.now) c.in_ok-row.row c.args.bytes.now c.in_ok-row.size c.in_ok-row.ensures.within c.in_ok-row.ensures.found).1) ∙ ap (λ k. pair_of k (kinds c.args.types.now) c.args.bytes.now) (sym c.in-Delete.is)

pub returns-in-Delete-clause-end : goal.returns-in-Delete-clause-end
returns-in-Delete-clause-end c = ap (λ k. pair_end k (kinds c.args.types.now) c.args.bytes.now) c.in-Delete.is ∙ (row_front (kinds c.args.types.now) c.in_ok-row.row c.args.bytes.now c.in_ok-row.size c.in_ok-row.ensures.within c.in_ok-row.ensures.found).0

pub returns-in-Ok-clause-pair : goal.returns-in-Ok-clause-pair
returns-in-Ok-clause-pair c =
    let rest = take_rest c.args.bytes.now c.in_ok-row.size in
    let after = c.in-Ok.ensures.found in
    let within : c.in-Ok.rest ≤ length (drop c.in_ok-row.size c.args.bytes.now) = rw take_rest at c.in-Ok.ensures.within in
    sym (both_rows (kinds c.args.types.now) c.in_ok-row.row c.in-Ok.after c.args.bytes.now c.in_ok-row.size c.in-Ok.rest c.in_ok-row.ensures.within c.in_ok-row.ensures.found within
    (subst (λ l. IsRow (kinds c.args.types.now) c.in-Ok.after (take c.in-Ok.rest l)) rest after)).1 ∙ ap (λ k. pair_of k (kinds c.args.types.now) c.args.bytes.now) (sym c.in-Update.is)

pub returns-in-Ok-clause-end : goal.returns-in-Ok-clause-end
returns-in-Ok-clause-end c =
    let rest = take_rest c.args.bytes.now c.in_ok-row.size in
    let after = c.in-Ok.ensures.found in
    let within : c.in-Ok.rest ≤ length (drop c.in_ok-row.size c.args.bytes.now) = rw take_rest at c.in-Ok.ensures.within in
    ap (λ k. pair_end k (kinds c.args.types.now) c.args.bytes.now) c.in-Update.is ∙
    (both_rows (kinds c.args.types.now) c.in_ok-row.row c.in-Ok.after c.args.bytes.now c.in_ok-row.size c.in-Ok.rest c.in_ok-row.ensures.within c.in_ok-row.ensures.found within
    (subst (λ l. IsRow (kinds c.args.types.now) c.in-Ok.after (take c.in-Ok.rest l)) rest after)).0

pub returns-in-Err-clause-fault : goal.returns-in-Err-clause-fault
returns-in-Err-clause-fault c =
    let end : row_end (kinds c.args.types.now) (drop c.in_ok-row.size c.args.bytes.now) ≡ Err c.in-Err.place = ap (row_end (kinds c.args.types.now)) (sym (take_rest c.args.bytes.now c.in_ok-row.size)) ∙ c.in-Err.ensures.fault in
    ap (λ k. pair_end k (kinds c.args.types.now) c.args.bytes.now) c.in-Update.is ∙
    early_second (kinds c.args.types.now) c.in_ok-row.row c.args.bytes.now c.in_ok-row.size c.in-Err.place c.in_ok-row.ensures.within c.in_ok-row.ensures.found end

pub returns-in-Err-clause-fault_within : goal.returns-in-Err-clause-fault_within
returns-in-Err-clause-fault_within c =
    let rest = drop c.in_ok-row.size c.args.bytes.now in
    let end : row_end (kinds c.args.types.now) rest ≡ Err c.in-Err.place = ap (row_end (kinds c.args.types.now)) (sym (take_rest c.args.bytes.now c.in_ok-row.size)) ∙ c.in-Err.ensures.fault in
    let early = row_early (kinds c.args.types.now) rest c.in-Err.place (IsBytes-drop c.in_ok-row.size c.args.bytes.now (λ i. omega (arith, c.type_inv.bytes i))) end in
    omega (arith, early, c.in_ok-row.ensures.within, length-drop c.in_ok-row.size c.args.bytes.now)
