use Rattle.binlog.proofs.Names.{◌+◌, ◌<◌, ◌≤◌, Some, length, refl, sym, ap, ◌∙◌, arith, err_from_is_err_and, bitmap_size}
use Rattle.binlog.proofs.TableColumns.{counts_of, measured_of, short_types, wrong_type, no_measure, wrong_measure, short_metadata, wrong_metadata, short_bitmap, no_line, read_anywhere}
use Rattle.binlog.proofs.column.list.find_columns.Goals as goal

pub returns-then-bytes-types-clause-fault : goal.returns-then-bytes-types-clause-fault
returns-then-bytes-types-clause-fault c =
    let counts = counts_of c.args.bytes.now c.args.at c.in_ok-columns.columns c.in_ok-columns.width _ c.in_ok-columns.ensures.value c.in_ok-columns.ensures.whole c.in_ok-columns.ensures.range refl in
    let short : length c.args.bytes.now < c.args.at + c.in_ok-columns.width + c.in_ok-columns.columns = omega (arith, c.in_ok-columns.ensures.range.0) in
    short_types c.args.bytes.now c.args.at c.in_ok-columns.columns c.in_ok-columns.width _ _ counts short ∙ ap (λ f. Some f) (sym c.truncated.ensures)

pub returns-in_err-size-clause-fault : goal.returns-in_err-size-clause-fault
returns-in_err-size-clause-fault c =
    let p = err_from_is_err_and c.from_residual-in_err-size.result c.from_residual-in_err-size.ensures.1 in
    let counts = counts_of c.args.bytes.now c.args.at c.in_ok-columns.columns c.in_ok-columns.width _ c.in_ok-columns.ensures.value c.in_ok-columns.ensures.whole c.in_ok-columns.ensures.range refl in
    let long : c.args.at + c.in_ok-columns.width + c.in_ok-columns.columns ≤ length c.args.bytes.now = omega arith in
    rw (p.1, p.2) (wrong_type c.args.bytes.now c.args.at c.in_ok-columns.columns c.in_ok-columns.width _ _ _ counts long c.in_err-size.ensures.fault)

pub returns-in_err-stated-clause-fault : goal.returns-in_err-stated-clause-fault
returns-in_err-stated-clause-fault c =
    let p = err_from_is_err_and c.from_residual-in_err-stated.result c.from_residual-in_err-stated.ensures.1 in
    let counts = counts_of c.args.bytes.now c.args.at c.in_ok-columns.columns c.in_ok-columns.width c.in_ok-size.size c.in_ok-columns.ensures.value c.in_ok-columns.ensures.whole c.in_ok-columns.ensures.range c.in_ok-size.ensures.sum in
    let long : c.args.at + c.in_ok-columns.width + c.in_ok-columns.columns ≤ length c.args.bytes.now = omega arith in
    rw (p.1, p.2) (no_measure c.args.bytes.now c.args.at c.in_ok-columns.columns c.in_ok-columns.width _ _ _ counts long c.in_ok-size.ensures.none c.in_err-stated.ensures.fault)

pub returns-then-stated-size-clause-fault : goal.returns-then-stated-size-clause-fault
returns-then-stated-size-clause-fault c =
    let counts = counts_of c.args.bytes.now c.args.at c.in_ok-columns.columns c.in_ok-columns.width c.in_ok-size.size c.in_ok-columns.ensures.value c.in_ok-columns.ensures.whole c.in_ok-columns.ensures.range c.in_ok-size.ensures.sum in
    let long : c.args.at + c.in_ok-columns.width + c.in_ok-columns.columns ≤ length c.args.bytes.now = omega arith in
    let measured = measured_of c.args.bytes.now c.args.at c.in_ok-columns.columns c.in_ok-columns.width c.in_ok-stated.stated c.in_ok-stated.width c.in_ok-size.size counts long c.in_ok-size.ensures.none c.in_ok-stated.ensures.whole c.in_ok-stated.ensures.value in
    wrong_measure c.args.bytes.now c.args.at c.in_ok-columns.columns c.in_ok-columns.width c.in_ok-stated.stated c.in_ok-stated.width _ _ measured c.if-stated-size.true ∙ ap Some (sym c.new.ensures)

pub returns-then-bytes-start-clause-fault : goal.returns-then-bytes-start-clause-fault
returns-then-bytes-start-clause-fault c =
    let counts = counts_of c.args.bytes.now c.args.at c.in_ok-columns.columns c.in_ok-columns.width c.in_ok-size.size c.in_ok-columns.ensures.value c.in_ok-columns.ensures.whole c.in_ok-columns.ensures.range c.in_ok-size.ensures.sum in
    let long : c.args.at + c.in_ok-columns.width + c.in_ok-columns.columns ≤ length c.args.bytes.now = omega arith in
    let measured = measured_of c.args.bytes.now c.args.at c.in_ok-columns.columns c.in_ok-columns.width c.in_ok-stated.stated c.in_ok-stated.width c.in_ok-size.size counts long c.in_ok-size.ensures.none c.in_ok-stated.ensures.whole c.in_ok-stated.ensures.value in
    let short : length c.args.bytes.now < c.args.at + c.in_ok-columns.width + c.in_ok-columns.columns + c.in_ok-stated.width + c.in_ok-size.size = omega (arith, c.in_ok-stated.ensures.within) in
    short_metadata c.args.bytes.now c.args.at c.in_ok-columns.columns c.in_ok-columns.width c.in_ok-stated.stated c.in_ok-stated.width _ _ measured c.if-stated-size.false short ∙ ap (λ f. Some f) (sym c.truncated-then-bytes-start.ensures)

pub check_metadata-requires-clause-read : goal.check_metadata-requires-clause-read
check_metadata-requires-clause-read c = read_anywhere _ _ 0 c.in_ok-size.ensures.none

pub returns-in_err-check_metadata-clause-fault : goal.returns-in_err-check_metadata-clause-fault
returns-in_err-check_metadata-clause-fault c =
    let p = err_from_is_err_and c.from_residual-in_err-check_metadata.result c.from_residual-in_err-check_metadata.ensures.1 in
    let counts = counts_of c.args.bytes.now c.args.at c.in_ok-columns.columns c.in_ok-columns.width c.in_ok-size.size c.in_ok-columns.ensures.value c.in_ok-columns.ensures.whole c.in_ok-columns.ensures.range c.in_ok-size.ensures.sum in
    let long : c.args.at + c.in_ok-columns.width + c.in_ok-columns.columns ≤ length c.args.bytes.now = omega arith in
    let measured = measured_of c.args.bytes.now c.args.at c.in_ok-columns.columns c.in_ok-columns.width c.in_ok-stated.stated c.in_ok-stated.width c.in_ok-size.size counts long c.in_ok-size.ensures.none c.in_ok-stated.ensures.whole c.in_ok-stated.ensures.value in
    let fits : c.args.at + c.in_ok-columns.width + c.in_ok-columns.columns + c.in_ok-stated.width + c.in_ok-size.size ≤ length c.args.bytes.now = omega (arith, c.in_ok-stated.ensures.within) in
    rw (p.1, p.2) (wrong_metadata c.args.bytes.now c.args.at c.in_ok-columns.columns c.in_ok-columns.width c.in_ok-stated.stated c.in_ok-stated.width _ _ _ measured c.if-stated-size.false fits c.in_err-check_metadata.ensures.fault)

pub returns-then-bytes-bitmap-clause-fault : goal.returns-then-bytes-bitmap-clause-fault
returns-then-bytes-bitmap-clause-fault c =
    let counts = counts_of c.args.bytes.now c.args.at c.in_ok-columns.columns c.in_ok-columns.width c.in_ok-size.size c.in_ok-columns.ensures.value c.in_ok-columns.ensures.whole c.in_ok-columns.ensures.range c.in_ok-size.ensures.sum in
    let long : c.args.at + c.in_ok-columns.width + c.in_ok-columns.columns ≤ length c.args.bytes.now = omega arith in
    let measured = measured_of c.args.bytes.now c.args.at c.in_ok-columns.columns c.in_ok-columns.width c.in_ok-stated.stated c.in_ok-stated.width c.in_ok-size.size counts long c.in_ok-size.ensures.none c.in_ok-stated.ensures.whole c.in_ok-stated.ensures.value in
    let fits : c.args.at + c.in_ok-columns.width + c.in_ok-columns.columns + c.in_ok-stated.width + c.in_ok-size.size ≤ length c.args.bytes.now = omega (arith, c.in_ok-stated.ensures.within) in
    let short : length c.args.bytes.now < c.args.at + c.in_ok-columns.width + c.in_ok-columns.columns + c.in_ok-stated.width + c.in_ok-size.size + bitmap_size c.in_ok-columns.columns = omega (arith, fits, c.div_ceil.ensures) in
    short_bitmap c.args.bytes.now c.args.at c.in_ok-columns.columns c.in_ok-columns.width c.in_ok-stated.stated c.in_ok-stated.width _ _ measured c.if-stated-size.false fits c.in_ok-check_metadata.ensures.none short ∙ ap (λ f. Some f) (sym c.truncated-then-bytes-bitmap.ensures)

pub returns-clause-none : goal.returns-clause-none
returns-clause-none c =
    let counts = counts_of c.args.bytes.now c.args.at c.in_ok-columns.columns c.in_ok-columns.width c.in_ok-size.size c.in_ok-columns.ensures.value c.in_ok-columns.ensures.whole c.in_ok-columns.ensures.range c.in_ok-size.ensures.sum in
    let long : c.args.at + c.in_ok-columns.width + c.in_ok-columns.columns ≤ length c.args.bytes.now = omega arith in
    let measured = measured_of c.args.bytes.now c.args.at c.in_ok-columns.columns c.in_ok-columns.width c.in_ok-stated.stated c.in_ok-stated.width c.in_ok-size.size counts long c.in_ok-size.ensures.none c.in_ok-stated.ensures.whole c.in_ok-stated.ensures.value in
    let fits : c.args.at + c.in_ok-columns.width + c.in_ok-columns.columns + c.in_ok-stated.width + c.in_ok-size.size ≤ length c.args.bytes.now = omega (arith, c.in_ok-stated.ensures.within) in
    let enough : c.args.at + c.in_ok-columns.width + c.in_ok-columns.columns + c.in_ok-stated.width + c.in_ok-size.size + bitmap_size c.in_ok-columns.columns ≤ length c.args.bytes.now = omega (arith, fits, c.div_ceil.ensures) in
    no_line c.args.bytes.now c.args.at c.in_ok-columns.columns c.in_ok-columns.width c.in_ok-stated.stated c.in_ok-stated.width _ _ measured c.if-stated-size.false fits c.in_ok-check_metadata.ensures.none enough
