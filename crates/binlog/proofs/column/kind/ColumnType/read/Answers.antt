use Rattle.std.proofs.Common.{◌≡◌, ◌++◌, ◌-◌, Some, None, length, get_or, take, drop, sym, ap, ◌∙◌}
use Rattle.std.proofs.lemmas.Result.{err_from_is_err_and}
use Rattle.binlog.specs.Column.{metadata_size}
use Rattle.binlog.specs.declared.fault.EventFaultKind.TheVariants.{Truncated, ColumnType as UnknownColumn}
use Rattle.wire.proofs.Cuts.{first_and_rest, two_and_rest}
use Rattle.binlog.proofs.Columns.{exactly_two, fault_of, too_short, not_read, not_both, one_column}
use Rattle.binlog.proofs.column.kind.ColumnType.read.Goals as goal

pub returns-in_default-clause-only : goal.returns-in_default-clause-only
returns-in_default-clause-only c kind rest is =
    let has : metadata_size c.args.code ≡ Some 1 = sym c.metadata_size.ensures ∙ c.in-Some-eq1.is ∙ ap Some c.in-Some-eq1.field-0-test in
    not_both kind c.args.code rest c.args.bytes.now Truncated is (too_short c.args.code 1 c.args.bytes.now has c.in_default.len_below)

pub returns-in_err-by_byte-in-Some-eq1-clause-only : goal.returns-in_err-by_byte-in-Some-eq1-clause-only
returns-in_err-by_byte-in-Some-eq1-clause-only c kind rest is =
    let has : metadata_size c.args.code ≡ Some 1 = sym c.metadata_size.ensures ∙ c.in-Some-eq1.is ∙ ap Some c.in-Some-eq1.field-0-test in
    absurd (not_both kind c.args.code rest c.args.bytes.now c.in_err-by_byte-in-Some-eq1.field-0.0 is
    (fault_of c.args.code 1 c.args.bytes.now _ has c.in-len1-up.len_at_least (c.in_err-by_byte-in-Some-eq1.ensures.fault (get_or c.args.bytes.now 1 0))))

pub returns-in_default-bytes-clause-only : goal.returns-in_default-bytes-clause-only
returns-in_default-bytes-clause-only c kind rest is =
    let has = exactly_two c.args.code c.in-Some.field-0 (sym c.metadata_size.ensures ∙ c.in-Some.is) c.in-Some.field-0-test.0.1 c.in-Some.field-0-test.1 in
    not_both kind c.args.code rest c.args.bytes.now Truncated is (too_short c.args.code 2 c.args.bytes.now has c.in_default-bytes.len_below)

pub by_bytes-requires : goal.by_bytes-requires
by_bytes-requires c = exactly_two c.args.code c.in-Some.field-0 (sym c.metadata_size.ensures ∙ c.in-Some.is) c.in-Some.field-0-test.0.1 c.in-Some.field-0-test.1

pub returns-in_err-by_bytes-in-Some-clause-only : goal.returns-in_err-by_bytes-in-Some-clause-only
returns-in_err-by_bytes-in-Some-clause-only c kind rest is =
    let has = exactly_two c.args.code c.in-Some.field-0 (sym c.metadata_size.ensures ∙ c.in-Some.is) c.in-Some.field-0-test.0.1 c.in-Some.field-0-test.1 in
    absurd (not_both kind c.args.code rest c.args.bytes.now c.in_err-by_bytes-in-Some.field-0.0 is
    (fault_of c.args.code 2 c.args.bytes.now _ has c.in-len2-up.len_at_least c.in_err-by_bytes-in-Some.ensures.fault))

pub returns-in_err-by_bytes-in-Some-clause-fault : goal.returns-in_err-by_bytes-in-Some-clause-fault
returns-in_err-by_bytes-in-Some-clause-fault c =
    let p = err_from_is_err_and c.from_residual-in_err-by_bytes-in-Some.result c.from_residual-in_err-by_bytes-in-Some.ensures.1 in
    let has = exactly_two c.args.code c.in-Some.field-0 (sym c.metadata_size.ensures ∙ c.in-Some.is) c.in-Some.field-0-test.0.1 c.in-Some.field-0-test.1 in
    rw (p.1, p.2) (fault_of c.args.code 2 c.args.bytes.now _ has c.in-len2-up.len_at_least c.in_err-by_bytes-in-Some.ensures.fault)

pub returns-in-None-clause-only : goal.returns-in-None-clause-only
returns-in-None-clause-only c kind rest is =
    let none : metadata_size c.args.code ≡ None = sym c.metadata_size.ensures ∙ c.in-None.is in
    not_both kind c.args.code rest c.args.bytes.now (UnknownColumn c.args.code) is (not_read c.args.code c.args.bytes.now none)

pub returns-in_ok-by_byte-in-Some-eq1-clause-only : goal.returns-in_ok-by_byte-in-Some-eq1-clause-only
returns-in_ok-by_byte-in-Some-eq1-clause-only c kind rest is = one_column c.args.code c.in_ok-by_byte-in-Some-eq1.field-0.kind kind (take (length c.args.bytes.now - 1) (drop 1 c.args.bytes.now)) rest c.args.bytes.now
    (record {
      lawful = c.in_ok-by_byte-in-Some-eq1.field-0.lawful;
      code_is = sym c.in_ok-by_byte-in-Some-eq1.ensures.code;
      bytes_are = first_and_rest c.args.bytes.now c.in-len1-up.len_at_least ∙ ap (λ m. m ++ take (length c.args.bytes.now - 1) (drop 1 c.args.bytes.now)) (sym c.in_ok-by_byte-in-Some-eq1.ensures.metadata);
    }) is

pub returns-in_ok-by_bytes-in-Some-clause-only : goal.returns-in_ok-by_bytes-in-Some-clause-only
returns-in_ok-by_bytes-in-Some-clause-only c kind rest is = one_column c.args.code c.in_ok-by_bytes-in-Some.field-0.kind kind (take (length c.args.bytes.now - 2) (drop 2 c.args.bytes.now)) rest c.args.bytes.now
    (record {
      lawful = c.in_ok-by_bytes-in-Some.field-0.lawful;
      code_is = sym c.in_ok-by_bytes-in-Some.ensures.code;
      bytes_are = two_and_rest c.args.bytes.now c.in-len2-up.len_at_least ∙ ap (λ m. m ++ take (length c.args.bytes.now - 2) (drop 2 c.args.bytes.now)) (sym c.in_ok-by_bytes-in-Some.ensures.metadata);
    }) is
